use Rattle.std.proofs.Common.{◌≡◌, length}
use Rattle.cif_defs.specs.Accepted.{netlist_of}
use Rattle.cif_seq.specs.CaseView.{AreForms}
use Rattle.cif_seq.proofs.case.forms_of.Given as goal

abbrev pub invariant-loop-i : goal.invariant-loop-i
invariant-loop-i l = record {
  forms : AreForms (netlist_of l.netlist) l.forms.items;
  as_many : length l.forms.items ≡ l.i;
}
