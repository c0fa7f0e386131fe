use Rattle.std.proofs.Common.{◌≡◌}
use Rattle.cif_defs.specs.Accepted.{netlist_of}
use Rattle.cif_seq.specs.States.{start_values, start_taints, start_flags}
use Rattle.cif_seq.proofs.state.start_words.Given as goal

abbrev pub invariant-loop-number : goal.invariant-loop-number
invariant-loop-number l = record {
  values : l.values.items ≡ start_values (netlist_of l.netlist) l.stimulus l.number;
  taints : l.taints.items ≡ start_taints (netlist_of l.netlist) l.stimulus l.number;
  flags : l.flags.items ≡ start_flags l.number;
}
