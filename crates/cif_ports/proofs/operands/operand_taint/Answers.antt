use Rattle.cif_ports.proofs.HeldOperands.{within_at}
use Rattle.cif_ports.proofs.operands.operand_taint.Goals as goal

pub port_taint-requires : goal.port_taint-requires
port_taint-requires c = within_at c.args.cell.now.operands c.args.port _ c.requires c.sources_of.ensures
