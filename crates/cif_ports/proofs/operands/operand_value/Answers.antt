use Rattle.cif_ports.proofs.HeldOperands.{within_at}
use Rattle.cif_ports.proofs.operands.operand_value.Goals as goal

pub port_value-requires : goal.port_value-requires
port_value-requires c = within_at c.args.cell.now.operands c.args.port _ c.requires c.sources_of.ensures
