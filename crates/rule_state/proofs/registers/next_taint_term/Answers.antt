-- The formula of each kind is right.
use Rattle.std.proofs.Common.{sym, subst}
use Rattle.cif_kinds.proofs.RegisterCells.{IsRegisterWidth, register_width_fits}
use Rattle.cif_term.specs.Formulas.{Formula}
use Rattle.rule_state.specs.RegisterTaints.{IsNextTaint}
use Rattle.rule_state.proofs.RegisterLaws.{next_taint_of}
use Rattle.rule_state.proofs.registers.next_taint_term.Goals as goal

pub next_term-requires-clause-limit : goal.next_term-requires-clause-limit
next_term-requires-clause-limit c = let w : IsRegisterWidth c.args.cell.now = register_width_fits c.args.cell.now c.requires.role c.requires.fitted in w.limit

pub returns : goal.returns
returns c = subst (λ (f : Formula). IsNextTaint c.args.cell.now f) (sym c.in_ok-next_term.ensures) (next_taint_of c.args.cell.now c.requires.role c.requires.fitted)
