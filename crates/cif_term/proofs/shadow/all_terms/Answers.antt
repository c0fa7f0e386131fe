-- One more term at each turn.
use Rattle.cif_term.proofs.ShadowTerms.{formulas_more, values_more}
use Rattle.cif_term.proofs.shadow.all_terms.Goals as goal

pub loop-output-preserved : goal.loop-output-preserved
loop-output-preserved g c = record {
  stand = formulas_more (g.S.Shadow.formula c.args.shadow.now) c.loop-output.output c.loop-output.terms.items _ c.in_ok-term.field-0 c.loop-output.invariant.stand c.in_ok-push.ensures.items c.in_ok-term.ensures.stands;
  mean = λ vs ts e q. values_more (g.S.Shadow.meant c.args.shadow.now vs ts) c.loop-output.output c.loop-output.terms.items _ c.in_ok-term.field-0 vs ts
      (c.loop-output.invariant.mean vs ts e q) c.in_ok-push.ensures.items (c.in_ok-term.ensures.means vs ts e q);
}
