use Rattle.cif_cycle.proofs.WrittenPorts.{sized_block}
use Rattle.cif_cycle.proofs.memory.port_of.Goals as goal

pub returns : goal.returns
returns c = record {
  addr = sized_block _ _ _ _ _ c.in_ok-block_of.ensures c.number-address_width.ensures;
  addr_taint = sized_block _ _ _ _ _ c.in_ok-block_of-2.ensures c.number-address_width.ensures;
  enable = sized_block _ _ _ _ _ c.in_ok-block_of-3.ensures c.number-width.ensures;
  enable_taint = sized_block _ _ _ _ _ c.in_ok-block_of-4.ensures c.number-width.ensures;
  word = sized_block _ _ _ _ _ c.in_ok-block_of-5.ensures c.number-width.ensures;
  word_taint = sized_block _ _ _ _ _ c.in_ok-block_of-6.ensures c.number-width.ensures;
}
