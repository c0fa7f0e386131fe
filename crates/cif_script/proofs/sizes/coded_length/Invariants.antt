use Rattle.std.proofs.Common.{◌≡◌, ◌-◌, ◌^◌, length, take, min}
use Rattle.std.specs.List.{flat_map}
use Rattle.cif_defs.specs.Text.{coded_byte}
use Rattle.cif_script.proofs.sizes.coded_length.Given as goal

abbrev pub invariant-loop-byte : goal.invariant-loop-byte
invariant-loop-byte l = l.length ≡ min (length (flat_map coded_byte (take l.byte-index l.name))) (2 ^ 64 - 1)
