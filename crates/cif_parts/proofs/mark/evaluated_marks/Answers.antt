use Rattle.std.proofs.Common.{List, Bool, rules, sym, subst, length}
use Rattle.cif_defs.specs.Accepted.{netlist_of}
use Rattle.cif_pieces.specs.Parts.{Evaluates}
use Rattle.cif_seq.proofs.Slices.{whole_slice}
use Rattle.cif_parts.specs.Marking.{AreMarks}
use Rattle.cif_parts.proofs.mark.evaluated_marks.Goals as goal

pub returns-clause-marks : goal.returns-clause-marks
returns-clause-marks c = λ parts part h. subst (λ (m : List Bool). AreMarks m (length (netlist_of c.args.netlist.now).cells) (Evaluates (netlist_of c.args.netlist.now) parts part)) (sym (whole_slice c.in_ok-marks.marks.len c.mark_evaluated.new.marks c.in_ok-marks.marks.items (search rules) (search rules)))
    (c.mark_evaluated.ensures.marks parts part h)
