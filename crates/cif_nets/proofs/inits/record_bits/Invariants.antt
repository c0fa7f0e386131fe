use Rattle.std.proofs.Common.{◌≡◌, drop}
use Rattle.cif_nets.specs.Told.{told_all}
use Rattle.cif_nets.specs.Inits.{init_more, told_bits}
use Rattle.cif_nets.proofs.inits.record_bits.Given as goal

abbrev pub invariant-loop-index : goal.invariant-loop-index
invariant-loop-index l =
    told_all init_more l.numbers l.inits (told_bits l.value l.index (drop l.index l.bits)) ≡ told_all init_more l.numbers l.initial.inits (told_bits l.value 0 l.bits)
