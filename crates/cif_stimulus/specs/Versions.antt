-- The versions of a text by their numbers.
use Rattle.std.specs.Prelude.{ℕ}
use Rattle.cif_stimulus.specs.declared.version.Version.{Version}
use Rattle.cif_stimulus.specs.declared.version.Version.TheVariants.{First, Second}

abbrev pub version_number : Version → ℕ
version_number First = 1
version_number Second = 2
