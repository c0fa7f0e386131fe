use Rattle.std.proofs.Common.{◌≡◌, map, take, List}
use Rattle.cif_defs.specs.Accepted.{source}
use Rattle.cif_defs.specs.declared.raw_module.RawBit.{RawBit}
use Rattle.cif_cells.proofs.assemble.operands.Given as goal

abbrev pub invariant-loop-bits : goal.invariant-loop-bits
invariant-loop-bits l = l.operands.items ≡ map (λ (bits : List RawBit). map (source l.numbers) bits) (take l.bits-index l.ports)
