-- The augmented stimulus: what a stimulus says of values and of taints, both as values of an augmented module.
use Rattle.std.specs.Prelude.{ℕ, Bool, false, not, ◌&&◌, ◌≡◌, ◌==◌, List, [], ◌∷◌, ◌++◌, length, get_or, bytes_eq, unwrap_or, if◌then◌else◌}
use Rattle.std.specs.List.{find, list_any, flat_map}
use Rattle.cif_defs.specs.Words.{Word, bit, word, zeros}
use Rattle.cif_defs.specs.Kinds.{role_of}
use Rattle.cif_defs.specs.Cells.{Cell}
use Rattle.cif_defs.specs.Netlist.{Netlist, no_wire}
use Rattle.cif_defs.specs.Stimulus.{Stimulus, StimLine, TaintedWord, reg_line, mem_line, release_line, cycle_line, set_line, is_released}
use Rattle.cif_defs.specs.declared.nets.Src.{Src}
use Rattle.cif_defs.specs.declared.nets.Src.TheVariants.{Bit, Zero, One}
use Rattle.cif_defs.specs.declared.nets.Wire.{Wire}
use Rattle.cif_augment.specs.Names.{taint_name, stored_name, is_reset_register}

-- a word without taint
abbrev pub untainted : Word → TaintedWord
untainted w = record { value = w; taint = zeros (length w) }

-- ---- what lines name

-- the bits of the input port of a name
abbrev pub input_bits : Netlist → List ℕ → List Src
input_bits n name = (unwrap_or (find (λ (w : Wire). bytes_eq w.name name) n.inputs) no_wire).bits

-- whether a cell of a name is a register with asynchronous reset
abbrev pub is_reset_named : Netlist → List ℕ → Bool
is_reset_named n name = list_any (λ (c : Cell). bytes_eq c.name name && is_reset_register (role_of c.kind)) n.cells

abbrev pub is_released_bit : List StimLine → Src → Bool
is_released_bit lines (Bit b) = is_released lines b
is_released_bit lines Zero = false
is_released_bit lines One = false

-- whether a bit is marked in a table of net bits
abbrev pub is_marked : List Bool → Src → Bool
is_marked marks (Bit b) = bit marks b
is_marked marks Zero = false
is_marked marks One = false

-- the taint t of some bits, cleared where some line releases a bit
abbrev pub unreleased : List StimLine → List Src → Word → Word
unreleased lines bits t = word (length t) (λ i. bit t i && not (is_released_bit lines (get_or bits i Zero)))

-- ---- lines

-- what stands in place of a line; all are the lines of the stimulus
abbrev pub augmented_line : Netlist → List StimLine → StimLine → List StimLine
augmented_line n all (set_line port w) =
    set_line port (untainted w.value) ∷ set_line (taint_name port) (untainted (unreleased all (input_bits n port) w.taint)) ∷ []
augmented_line n all (reg_line cell w) =
    reg_line cell (untainted w.value) ∷ reg_line (taint_name cell) (untainted w.taint)
    ∷ (if is_reset_named n cell then reg_line (stored_name cell) (untainted w.value) ∷ [] else [])
augmented_line n all (mem_line cell address w) =
    mem_line cell address (untainted w.value) ∷ mem_line (taint_name cell) address (untainted w.taint) ∷ []
augmented_line n all (release_line name bits) = []
augmented_line n all (cycle_line k) = cycle_line k ∷ []

-- a stimulus with more lines
abbrev pub WithLines : Stimulus → Stimulus → List StimLine → Type 0
WithLines old new lines = new ≡ record { cycles = old.cycles; lines = old.lines ++ lines }

unfoldable pub augmented : Netlist → Stimulus → Stimulus
augmented n s = record { cycles = s.cycles; lines = flat_map (augmented_line n s.lines) s.lines }

-- ---- releases

-- a stimulus releases these net bits and no others
pub record ReleasesExactly (bits : List ℕ) (s : Stimulus) : Type 0 where
  pub same : (b : ℕ) → is_released s.lines b ≡ list_any (λ d. d == b) bits
