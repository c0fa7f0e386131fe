use Rattle.cif_defs.specs.Accepted.{netlist_of}
use Rattle.cif_shown.specs.Shown.{AreSourcesBelow}
use Rattle.cif_seq.proofs.sources.sources_of.Given as goal

abbrev pub invariant-loop-net : goal.invariant-loop-net
invariant-loop-net l = AreSourcesBelow (netlist_of l.netlist) l.sources.items l.net
