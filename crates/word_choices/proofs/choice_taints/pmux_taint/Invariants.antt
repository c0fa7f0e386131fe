-- The word has gone through the stages so far.
use Rattle.std.specs.Prelude.{◌*◌}
use Rattle.rule_select.proofs.ChainBits.{chain_tree}
use Rattle.rule_select.proofs.TreeLaws.{tree_bit}
use Rattle.word_choices.specs.Shadows.{three_taints, three_values}
use Rattle.word_choices.proofs.ShadowLaws.{IsShadow}
use Rattle.word_choices.proofs.choice_taints.pmux_taint.Given as goal

abbrev pub invariant-loop-done : goal.invariant-loop-done
invariant-loop-done l =
    IsShadow l.chain.width (tree_bit (chain_tree l.chain.width l.chain.selects) l.done)
    (three_values l.chain.width (l.chain.width * l.chain.selects) l.chain.selects l.fn.a l.b l.s) (three_taints l.chain.width (l.chain.width * l.chain.selects) l.chain.selects l.fn.a l.b l.s) l.word
