-- Both words have gone through the stages so far.
use Rattle.rule_select.proofs.OffsetLaws.{far_tree, near_tree}
use Rattle.rule_select.proofs.TreeLaws.{tree_bit}
use Rattle.word_choices.specs.Shadows.{two_taints, two_values}
use Rattle.word_choices.proofs.ShadowLaws.{IsShadow}
use Rattle.word_choices.proofs.shift_taints.two_way_taint.Given as goal

abbrev pub invariant-loop-place : goal.invariant-loop-place
invariant-loop-place l =
    IsShadow l.width (tree_bit (near_tree l.width l.shift.a_signed l.last) l.place) (two_values l.shift.a l.shift.b l.fn.a l.b) (two_taints l.shift.a l.shift.b l.fn.a l.b) l.near
    × IsShadow l.shift.y (tree_bit (far_tree l.shift.y l.shift.a_signed l.last) l.place) (two_values l.shift.a l.shift.b l.fn.a l.b) (two_taints l.shift.a l.shift.b l.fn.a l.b) l.far
