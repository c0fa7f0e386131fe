-- A port that drives a net bit is an input port.
use Rattle.std.proofs.Common.{◌∙◌, ap, sym}
use Rattle.cif_defs.specs.Accepted.{netlist_of}
use Rattle.cif_defs.specs.Netlist.{driver_of}
use Rattle.cif_defs.specs.declared.raw_module.Raw.{Raw}
use Rattle.cif_seq.specs.Cases.{net_of}
use Rattle.cif_seq.proofs.FrameLaws.{port_found}
use Rattle.cif_seq.proofs.settle.start_pair.Goals as goal

pub input_pair-requires-clause-port : goal.input_pair-requires-clause-port
input_pair-requires-clause-port c = port_found (net_of c.args.case.now) c.args.net c.in-Input.port c.in-Input.index c.levels-levels.ensures.wired
    (sym (c.driver.ensures ∙ ap (λ (x : Raw). driver_of (netlist_of x) c.args.net) c.netlist-netlist.ensures) ∙ c.in-Input.is)
