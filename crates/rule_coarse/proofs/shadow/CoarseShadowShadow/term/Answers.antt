-- The term stands for the formula of the one output.
use Rattle.cif_term.specs.CellTaints.{IsTaintOf, output_width}
use Rattle.cif_term.specs.TermView.{formula_of}
use Rattle.rule_coarse.proofs.CoarseTerms.{coarse_term_is}
use Rattle.rule_coarse.proofs.shadow.CoarseShadowShadow.term.Goals as goal

the_taint : (c : goal.In_ok-coarse_term) → IsTaintOf c.args.self.now c.args.output (formula_of c.in_ok-coarse_term.field-0)
the_taint c = coarse_term_is _ _ c.args.output _ c.self.view_is c.self.invariant.0 c.self.invariant.1 c.requires c.in_ok-coarse_term.ensures

pub returns-clause-formed : goal.returns-clause-formed
returns-clause-formed c = (output_width c.args.self.now c.args.output, (the_taint c).formed)

pub returns-clause-means : goal.returns-clause-means
returns-clause-means c = λ vs ts e q. (the_taint c).means vs ts e q
