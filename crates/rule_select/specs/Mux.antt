-- The taint of $mux: its operands are A, B and S.
use Rattle.cif_term.specs.Formulas.{Formula, Value, Taint}
use Rattle.rule_select.specs.Choices.{taint_choice}

abbrev pub mux_formula : Formula
mux_formula = taint_choice (Value 2) (Taint 2) (Value 0) (Taint 0) (Value 1) (Taint 1)
