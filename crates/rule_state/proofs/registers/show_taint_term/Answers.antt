-- The formula of what is shown is right.
use Rattle.std.proofs.Common.{ap, sym, subst}
use Rattle.cif_defs.specs.Kinds.{is_register}
use Rattle.cif_kinds.proofs.RegisterCells.{IsRegisterWidth, register_width_fits}
use Rattle.cif_term.specs.Formulas.{Formula}
use Rattle.rule_state.specs.RegisterTaints.{IsShownTaint}
use Rattle.rule_state.proofs.RegisterLaws.{shown_taint_of}
use Rattle.rule_state.proofs.registers.show_taint_term.Goals as goal

pub shown_term-requires : goal.shown_term-requires
shown_term-requires c = let w : IsRegisterWidth c.args.cell.now = register_width_fits c.args.cell.now (ap is_register c.requires.role) c.requires.fitted in w.limit

pub returns : goal.returns
returns c = subst (λ (f : Formula). IsShownTaint c.args.cell.now f) (sym c.in_ok-shown_term.ensures) (shown_taint_of c.args.cell.now c.requires.role c.requires.fitted)
