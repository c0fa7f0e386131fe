-- The bits of a stored word, however they are kept.
use Rattle.std.specs.Prelude.{Bool, List}
use Rattle.cif_cycle.specs.declared.stored.Kept.{Kept}
use Rattle.cif_cycle.specs.declared.stored.Kept.TheVariants.{Plain, Shared}

abbrev pub bits_kept : Kept → List Bool
bits_kept (Plain word) = word.items
bits_kept (Shared pages) = pages
