-- The text of an evaluation: the output ports in each cycle.
use Rattle.std.specs.Prelude.{ℕ, List, [], ◌∷◌, ◌++◌, codes}
use Rattle.std.specs.List.{range_with_len, flat_map}
use Rattle.std.specs.Fmt.{decimal}
use Rattle.cif_defs.specs.Words.{Word}
use Rattle.cif_defs.specs.WordText.{text_of}
use Rattle.cif_defs.specs.Text.{coded, line_end}
use Rattle.cif_defs.specs.Netlist.{Netlist}
use Rattle.cif_defs.specs.Stimulus.{Stimulus}
use Rattle.cif_defs.specs.Run.{value, src_word}
use Rattle.cif_defs.specs.TaintRun.{taint, taint_word}
use Rattle.cif_defs.specs.declared.nets.Wire.{Wire}

-- `VALUE/TAINT`
abbrev pub pair_text : Word → Word → List ℕ
pair_text v t = text_of v ++ codes "/" ++ text_of t

-- `NAME VALUE/TAINT`, with the value and taint of the port's bits at cycle k
abbrev pub port_line : Netlist → Stimulus → ℕ → Wire → List ℕ
port_line n s k w = coded w.name ++ codes " " ++ pair_text (src_word (value n s k) w.bits) (taint_word (taint n s k) w.bits) ++ line_end ∷ []

-- `cycle K`
abbrev pub cycle_head : ℕ → List ℕ
cycle_head k = codes "cycle " ++ decimal k ++ line_end ∷ []

-- the lines of cycle k; output ports stand in byte order of name
unfoldable pub cycle_text : Netlist → Stimulus → ℕ → List ℕ
cycle_text n s k = cycle_head k ++ flat_map (port_line n s k) n.outputs

-- `done N`
abbrev pub done_line : ℕ → List ℕ
done_line cycles = codes "done " ++ decimal cycles ++ line_end ∷ []

unfoldable pub eval_text : Netlist → Stimulus → List ℕ
eval_text n s = flat_map (cycle_text n s) (range_with_len 0 s.cycles) ++ done_line s.cycles
