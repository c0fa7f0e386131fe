use Rattle.cif_supports.proofs.Trails.{chain_of_tainted}
use Rattle.cif_supports.proofs.OneChain.{one_chain, tainted_by_chain}
use Rattle.cif_supports.proofs.tainted_bits_have_chains.Goals as goal

pub returns-clause-exists : goal.returns-clause-exists
returns-clause-exists c = chain_of_tainted

pub returns-clause-one : goal.returns-clause-one
returns-clause-one c = one_chain

pub returns-clause-only : goal.returns-clause-only
returns-clause-only c = tainted_by_chain
