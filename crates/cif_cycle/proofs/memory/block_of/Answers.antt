use Rattle.cif_cycle.proofs.WrittenPorts.{block_is, joined_long}
use Rattle.cif_cycle.proofs.memory.block_of.Goals as goal

pub slice-requires : goal.slice-requires
slice-requires c = joined_long _ _ _ _ c.requires.place c.index-words-place.is c.requires.inside

pub returns : goal.returns
returns c = block_is _ _ _ _ _ _ c.requires.place c.index-words-place.is c.in_ok-slice.ensures
