use Rattle.std.proofs.Common.{◌≡◌, ◌∙◌, List, Bool, rules, sym, subst, length}
use Rattle.cif_defs.specs.Accepted.{netlist_of}
use Rattle.cif_pieces.specs.Parts.{Uses}
use Rattle.cif_seq.proofs.Slices.{whole_slice}
use Rattle.cif_parts.specs.Marking.{AreMarks}
use Rattle.cif_parts.proofs.Leading.{needed_marked}
use Rattle.cif_parts.proofs.mark.needed_marks.Goals as goal

pub returns : goal.returns
returns c = λ parts part h.
    let seen : c.deref.result.now ≡ c.mark_used.new.marks = c.deref.ensures.value ∙ whole_slice c.in_ok-marks.marks.len c.mark_used.new.marks c.in_ok-marks.marks.items (search rules) (search rules) in
    needed_marked (netlist_of c.args.netlist.now) parts part c.deref.result.now c.in_ok-storing.storing.items
    (subst (λ (m : List Bool). AreMarks m (length (netlist_of c.args.netlist.now).cells) (Uses (netlist_of c.args.netlist.now) parts part)) (sym seen) (c.mark_used.ensures parts part h)) c.in_ok-storing.ensures
