-- Marked terms as contracts see them.
use Rattle.cif_term.specs.TermView.{formula_of}
use Rattle.rule_state.specs.Marks.{Marked}
use Rattle.rule_state.specs.declared.marks.MarkedTerm.{MarkedTerm}

abbrev pub mark_of : MarkedTerm → Marked
mark_of m = record { value = formula_of m.value; taint = formula_of m.taint }
