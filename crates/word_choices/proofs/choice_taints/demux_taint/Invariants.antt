-- The word has gone through the stages so far.
use Rattle.std.specs.Prelude.{◌*◌, ◌^◌}
use Rattle.rule_select.proofs.BlockLaws.{block_tree}
use Rattle.rule_select.proofs.TreeLaws.{tree_bit}
use Rattle.word_choices.specs.Shadows.{two_taints, two_values}
use Rattle.word_choices.proofs.ShadowLaws.{IsShadow}
use Rattle.word_choices.proofs.choice_taints.demux_taint.Given as goal

abbrev pub invariant-loop-place : goal.invariant-loop-place
invariant-loop-place l =
    IsShadow (l.blocks.width * 2 ^ l.place) (tree_bit (block_tree l.blocks.width l.blocks.selects) l.place)
    (two_values l.blocks.width l.blocks.selects l.fn.a l.s) (two_taints l.blocks.width l.blocks.selects l.fn.a l.s) l.word
