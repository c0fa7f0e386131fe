use Rattle.std.proofs.Common.{◌≡◌, map, take, List}
use Rattle.cif_defs.specs.Accepted.{target}
use Rattle.cif_defs.specs.declared.raw_module.RawBit.{RawBit}
use Rattle.cif_cells.proofs.assemble.outputs.Given as goal

abbrev pub invariant-loop-bits : goal.invariant-loop-bits
invariant-loop-bits l = l.outputs.items ≡ map (λ (bits : List RawBit). map (target l.numbers) bits) (take l.bits-index l.ports)
