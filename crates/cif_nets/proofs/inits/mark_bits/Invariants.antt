use Rattle.std.proofs.Common.{◌≡◌, drop}
use Rattle.cif_defs.specs.RawModule.{nets_in}
use Rattle.cif_nets.specs.Told.{told_all}
use Rattle.cif_nets.specs.Inits.{marked, named}
use Rattle.cif_nets.proofs.inits.mark_bits.Given as goal

abbrev pub invariant-loop-bit : goal.invariant-loop-bit
invariant-loop-bit l =
    told_all marked l.numbers l.marks (named (nets_in (drop l.bit-index l.bits))) ≡ told_all marked l.numbers l.initial.marks (named (nets_in l.bits))
