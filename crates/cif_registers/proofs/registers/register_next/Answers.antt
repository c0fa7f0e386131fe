use Rattle.std.proofs.Common.{arith, ap, ◌≡◌, length}
use Rattle.cif_defs.specs.Words.{operand}
use Rattle.cif_kinds.proofs.RegisterCells.{IsRegisterFit, IsRegisterWidth, register_fits, register_width_fits}
use Rattle.cif_registers.proofs.registers.register_next.Goals as goal

pub operand-d-requires : goal.operand-d-requires
operand-d-requires c = (register_fits c.args.cell.now c.args.operands.now c.requires.role c.requires.fitted c.requires.operands).inside

pub next_by_kind-requires-clause-limit : goal.next_by_kind-requires-clause-limit
next_by_kind-requires-clause-limit c = (register_width_fits c.args.cell.now c.requires.role c.requires.fitted).limit

pub next_by_kind-requires-clause-d : goal.next_by_kind-requires-clause-d
next_by_kind-requires-clause-d c =
    let fits : IsRegisterFit c.args.cell.now c.args.operands.now = register_fits c.args.cell.now c.args.operands.now c.requires.role c.requires.fitted c.requires.operands in
    let same : length c.operand-d.result.now ≡ length (operand c.args.operands.now 0) = ap length c.operand-d.ensures in
    omega (arith, fits.d)

pub next_by_kind-requires-clause-stored : goal.next_by_kind-requires-clause-stored
next_by_kind-requires-clause-stored c =
    let fits : IsRegisterWidth c.args.cell.now = register_width_fits c.args.cell.now c.requires.role c.requires.fitted in
    omega (arith, fits.some, c.requires.stored)
