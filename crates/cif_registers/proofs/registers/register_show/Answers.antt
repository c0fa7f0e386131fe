use Rattle.std.proofs.Common.{arith, ap}
use Rattle.cif_defs.specs.Cells.{digits_of, shown_word, width}
use Rattle.cif_defs.specs.Registers.{adff_shown}
use Rattle.cif_defs.specs.declared.kinds.Param.TheVariants.{ArstValue}
use Rattle.cif_defs.specs.Kinds.{is_register}
use Rattle.cif_meanings.proofs.NumberMeanings.{gives}
use Rattle.cif_kinds.proofs.RegisterCells.{IsRegisterWidth, register_width_fits}
use Rattle.cif_registers.proofs.registers.register_show.Goals as goal

pub sdff_next-requires-clause-limit : goal.sdff_next-requires-clause-limit
sdff_next-requires-clause-limit c = (register_width_fits c.args.cell.now (ap is_register c.requires.role) c.requires.fitted).limit

pub sdff_next-requires-clause-d : goal.sdff_next-requires-clause-d
sdff_next-requires-clause-d c =
    let fits : IsRegisterWidth c.args.cell.now = register_width_fits c.args.cell.now (ap is_register c.requires.role) c.requires.fitted in
    omega (arith, fits.some, c.requires.stored)

pub returns : goal.returns
unfolding shown_word
returns c =
    gives c.sdff_next.result _ _ c.sdff_next.ensures
    (ap (λ b. adff_shown (width c.args.cell.now) b (digits_of c.args.cell.now ArstValue) c.args.stored.now) c.is_active-active.ensures)
