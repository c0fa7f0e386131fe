-- The lines of a stimulus as the definitions have them.
use Rattle.std.specs.Prelude.{◌≡◌, ◌++◌, ◌∷◌, [], Bool, true, false}
use Rattle.cif_defs.specs.Words.{Word}
use Rattle.cif_defs.specs.Stimulus.{Stimulus as StimulusData, TaintedWord, StimLine as LineData, reg_line, mem_line, release_line, cycle_line, set_line}
use Rattle.cif_stimulus.specs.declared.line.StimLine.{StimLine}
use Rattle.cif_stimulus.specs.declared.line.StimLine.TheVariants.{Reg, Mem, Release, Cycle, Set}

-- a word and its taint
abbrev pub tainted : Word → Word → TaintedWord
tainted value taint = record { value = value; taint = taint }

abbrev pub line_seen : StimLine → LineData
line_seen (Reg cell value taint) = reg_line cell (tainted value taint)
line_seen (Mem cell address value taint) = mem_line cell address (tainted value taint)
line_seen (Release name wire) = release_line name wire.bits
line_seen (Cycle k) = cycle_line k
line_seen (Set port value taint) = set_line port (tainted value taint)

-- whether a line says what a register or a memory starts with
abbrev pub is_start : StimLine → Bool
is_start (Reg cell value taint) = true
is_start (Mem cell address value taint) = true
is_start (Release name wire) = false
is_start (Cycle k) = false
is_start (Set port value taint) = false

-- a stimulus with one more line
abbrev pub Adds : StimulusData → StimulusData → LineData → Type 0
Adds old new line = new ≡ record { cycles = old.cycles; lines = old.lines ++ line ∷ [] }
