use Rattle.std.proofs.Common.{◌≡◌, ◌++◌, drop}
use Rattle.cif_defs.specs.RawModule.{nets_in}
use Rattle.cif_checks.specs.Checks.{input_clash}
use Rattle.cif_checks.specs.InputNumbers.{HoldSame}
use Rattle.cif_checks.proofs.ports.check_clashes.Given as goal

abbrev pub invariant-loop-bit : goal.invariant-loop-bit
invariant-loop-bit l = record {
  clash : input_clash l.seen.keys (nets_in (drop l.bit-index l.bits)) ≡ input_clash l.initial.seen.keys (nets_in l.bits);
  held : HoldSame (nets_in (drop l.bit-index l.bits) ++ l.seen.keys) (nets_in l.bits ++ l.initial.seen.keys);
}
