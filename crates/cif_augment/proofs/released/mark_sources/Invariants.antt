use Rattle.std.proofs.Common.{ℕ, ◌≡◌, ◌||◌, drop}
use Rattle.std.specs.List.{list_any}
use Rattle.cif_defs.specs.Words.{bit}
use Rattle.cif_defs.specs.Stimulus.{is_bit}
use Rattle.cif_augment.proofs.released.mark_sources.Given as goal

abbrev pub invariant-loop-source : goal.invariant-loop-source
invariant-loop-source l = (b : ℕ) → (list_any (is_bit b) (drop l.source-index l.sources) || bit l.marks.items b) ≡ (list_any (is_bit b) l.sources || bit l.initial.marks.items b)
