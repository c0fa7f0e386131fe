-- The term stands for the formula of its output.
use Rattle.cif_term.specs.CellTaints.{IsTaintOf, output_width}
use Rattle.cif_term.specs.TermView.{formula_of}
use Rattle.rule_logic.proofs.LogicOutputs.{logic_term_is}
use Rattle.rule_logic.proofs.shadow.LogicShadowShadow.term.Goals as goal

the_taint : (c : goal.In_ok-logic_term) → IsTaintOf c.args.self.now c.args.output (formula_of c.in_ok-logic_term.field-0)
the_taint c = logic_term_is _ _ c.args.output _ c.self.view_is c.self.invariant.0 c.self.invariant.1 c.requires c.in_ok-logic_term.ensures

pub returns-clause-formed : goal.returns-clause-formed
returns-clause-formed c = (output_width c.args.self.now c.args.output, (the_taint c).formed)

pub returns-clause-means : goal.returns-clause-means
returns-clause-means c = λ vs ts e q. (the_taint c).means vs ts e q
