use Rattle.cif_shapes.proofs.ShapeTaints.{rule_keeps}
use Rattle.cif_shapes.proofs.rule.TaintRule.of.Goals as goal

pub invariant_of-result : goal.invariant_of-result
invariant_of-result c = rule_keeps c.args.cell.now c.in_ok-shape.shape _ c.requires.role c.requires.fitted c.in_ok-shape.ensures c.in_ok-terms.ensures
