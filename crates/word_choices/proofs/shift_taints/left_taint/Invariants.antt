-- The word has gone through the stages so far.
use Rattle.rule_select.proofs.TreeLaws.{tree_bit}
use Rattle.word_choices.specs.Shadows.{two_taints, two_values}
use Rattle.word_choices.proofs.ShadowLaws.{IsShadow}
use Rattle.word_choices.proofs.ShiftShadows.{left_tree}
use Rattle.word_choices.proofs.shift_taints.left_taint.Given as goal

abbrev pub invariant-loop-place : goal.invariant-loop-place
invariant-loop-place l =
    IsShadow l.shift.y (tree_bit (left_tree l.shift.y l.shift.b l.shift.a_signed) l.place) (two_values l.shift.a l.shift.b l.fn.a l.b) (two_taints l.shift.a l.shift.b l.fn.a l.b) l.word
