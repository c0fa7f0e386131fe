-- The word has gone through the stages so far.
use Rattle.std.specs.Prelude.{◌*◌, ◌^◌}
use Rattle.rule_select.proofs.BlockTrees.{halved}
use Rattle.rule_select.proofs.TreeLaws.{tree_bit}
use Rattle.word_choices.specs.Shadows.{two_taints, two_values}
use Rattle.word_choices.proofs.ShadowLaws.{IsShadow}
use Rattle.word_choices.proofs.ChoiceShadows.{bmux_tree}
use Rattle.word_choices.proofs.choice_taints.bmux_taint.Given as goal

abbrev pub invariant-loop-done : goal.invariant-loop-done
invariant-loop-done l =
    IsShadow (halved l.blocks.width l.blocks.selects l.done) (tree_bit (bmux_tree l.blocks.width l.blocks.selects) l.done)
    (two_values (l.blocks.width * 2 ^ l.blocks.selects) l.blocks.selects l.fn.a l.s) (two_taints (l.blocks.width * 2 ^ l.blocks.selects) l.blocks.selects l.fn.a l.s) l.word
