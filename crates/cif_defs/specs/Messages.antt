-- The lines on err.
use Rattle.std.specs.Prelude.{ℕ, List, [], ◌∷◌, ◌++◌, codes}
use Rattle.std.specs.Fmt.{decimal}
use Rattle.cif_defs.specs.Text.{coded, line_end}

-- `refused N: WORDS`
abbrev pub refusal_line : ℕ → List ℕ → List ℕ
refusal_line number words = codes "refused " ++ decimal number ++ codes ": " ++ words ++ line_end ∷ []

abbrev pub usage_line : List ℕ
usage_line = codes "usage: cellift check, eval, instrument, augstim, explain, run or gen" ++ line_end ∷ []

abbrev pub read_fault_line : List ℕ → List ℕ
read_fault_line name = codes "read fault: " ++ coded name ++ line_end ∷ []

abbrev pub write_fault_line : List ℕ
write_fault_line = codes "write fault" ++ line_end ∷ []

abbrev pub memory_line : List ℕ
memory_line = codes "out of memory" ++ line_end ∷ []
