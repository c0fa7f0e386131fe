use Rattle.std.proofs.Common.{◌≡◌, drop}
use Rattle.std.specs.List.{flat_map}
use Rattle.cif_nets.specs.Told.{told_all}
use Rattle.cif_nets.specs.Inits.{init_more, told_by_name}
use Rattle.cif_nets.proofs.inits.record_names.Given as goal

abbrev pub invariant-loop-name : goal.invariant-loop-name
invariant-loop-name l =
    told_all init_more l.numbers l.inits (flat_map told_by_name (drop l.name-index l.names)) ≡ told_all init_more l.numbers l.initial.inits (flat_map told_by_name l.names)
