use Rattle.std.proofs.Common.{◌≡◌, ◌++◌, drop}
use Rattle.std.specs.List.{flat_map}
use Rattle.cif_defs.specs.RawModule.{nets_in}
use Rattle.cif_defs.specs.declared.raw_module.RawPort.{RawPort}
use Rattle.cif_nets.proofs.numbers.push_ports.Given as goal

abbrev pub invariant-loop-port : goal.invariant-loop-port
invariant-loop-port l = l.numbers.items ++ flat_map (λ (p : RawPort). nets_in p.bits) (drop l.port-index l.ports) ≡ l.initial.numbers.items ++ flat_map (λ (p : RawPort). nets_in p.bits) l.ports
