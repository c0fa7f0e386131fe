use Rattle.std.proofs.Common.{rules}
use Rattle.cif_defs.specs.Accepted.{netlist_of}
use Rattle.cif_parts.proofs.Placing.{clear_places}
use Rattle.cif_parts.proofs.run.empty_places.Goals as goal

pub returns-clause-clear : goal.returns-clause-clear
returns-clause-clear c = clear_places (netlist_of c.args.netlist.now) _ _ c.in_ok-empty_words.ensures c.in_ok-empty_words-2.ensures (search rules)
