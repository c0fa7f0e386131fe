use Rattle.std.proofs.Common.{◌≡◌, drop}
use Rattle.std.specs.List.{list_all}
use Rattle.cif_cells.specs.Finding.{is_two_valued}
use Rattle.cif_cells.proofs.finding.each_two_valued.Given as goal

abbrev pub invariant-loop-bit : goal.invariant-loop-bit
invariant-loop-bit l = list_all (is_two_valued l.nets) (drop l.bit-index l.bits) ≡ list_all (is_two_valued l.nets) l.bits
