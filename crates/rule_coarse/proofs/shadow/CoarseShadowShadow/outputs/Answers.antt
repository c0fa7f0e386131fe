use Rattle.std.proofs.Common.{arith, ap, length}
use Rattle.cif_term.proofs.OutputTerms.{few_outputs}
use Rattle.rule_coarse.proofs.shadow.CoarseShadowShadow.outputs.Goals as goal

pub overflow_cast-result : goal.overflow_cast-result
overflow_cast-result c = omega (arith, ap length c.outputs.ensures, few_outputs c.kind.result)
