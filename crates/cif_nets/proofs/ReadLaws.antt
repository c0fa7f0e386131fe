-- Bits that are read although they have no value, and their faults.
use Rattle.std.specs.Prelude.{ℕ, ◌+◌, ◌≡◌, Bool, true, false, not, List, [], ◌∷◌, Option, Some, None, option_map, filter, refl, if◌then◌else◌}
use Rattle.std.proofs.Common.{sym, ap, ◌∙◌}
use Rattle.cif_defs.specs.Accepted.{driven, is_output}
use Rattle.cif_defs.specs.declared.raw_module.RawBit.{RawBit}
use Rattle.cif_defs.specs.declared.raw_module.RawBit.TheVariants.{Net, Zero, One, X, Z}
use Rattle.cif_defs.specs.declared.raw_module.Raw.{Raw}
use Rattle.cif_checks.specs.Checks.{◌else_by◌, fault_if, first_fault, first_fault_from, read_fault, reads_fault, shown_fault}
use Rattle.cif_nets.specs.CellReads.{cell_reads}
use Rattle.cif_defs.specs.declared.raw_module.RawCell.{RawCell}
use Rattle.cif_defs.specs.declared.raw_module.RawPort.{RawPort}
use Rattle.cif_nets.specs.Drives.{driven_by}
use Rattle.cif_nets.specs.Nets.{is_driven}
use Rattle.cif_nets.specs.Reads.{bad_bit, bad_fault, first_bad, or_next}
use Rattle.cif_nets.specs.declared.reads.BadBit.{BadBit}
use Rattle.cif_nets.specs.declared.reads.BadBit.TheVariants.{NoDriver}
use Rattle.cif_checks.specs.declared.fault.Spot.{Spot}
use Rattle.cif_checks.specs.declared.fault.BuildFault.TheVariants.{Undriven}
use Rattle.cif_nets.proofs.NetLaws.{driven_has_driver}

undriven_is : (spot : Spot) (x : ℕ) (b : Bool) → fault_if (not b) (Undriven x) ≡ option_map (bad_fault spot) (if b then None else Some (NoDriver x))
undriven_is spot x true = refl
undriven_is spot x false = refl

read_is : (raw : Raw) (spot : Spot) (i : ℕ) (b : RawBit) → read_fault raw spot i b ≡ option_map (bad_fault spot) (bad_bit raw i b)
read_is raw spot i (Net x) = ap (λ t. fault_if (not t) (Undriven x)) (sym (driven_has_driver (driven raw) x)) ∙ undriven_is spot x (is_driven (driven_by raw x))
read_is raw spot i Zero = refl
read_is raw spot i One = refl
read_is raw spot i X = refl
read_is raw spot i Z = refl

or_next_is : (spot : Spot) (a b : Option BadBit) → option_map (bad_fault spot) a else_by option_map (bad_fault spot) b ≡ option_map (bad_fault spot) (or_next a b)
or_next_is spot None b = refl
or_next_is spot (Some bad) b = refl

pub reads_are : (raw : Raw) (spot : Spot) (i : ℕ) (bits : List RawBit) → first_fault_from (read_fault raw spot) i bits ≡ option_map (bad_fault spot) (first_bad raw i bits)
reads_are raw spot i [] = refl
reads_are raw spot i (b ∷ bs) =
    ap (λ o. o else_by first_fault_from (read_fault raw spot) (i + 1) bs) (read_is raw spot i b)
    ∙ ap (λ o. option_map (bad_fault spot) (bad_bit raw i b) else_by o) (reads_are raw spot (i + 1) bs)
    ∙ or_next_is spot (bad_bit raw i b) (first_bad raw (i + 1) bs)

-- ---- the whole check

pub reads_in_parts : (raw read : Raw) (cells : List RawCell) (ports : List RawPort) → read ≡ raw → cells ≡ read.cells → ports ≡ read.ports → reads_fault raw ≡ first_fault (cell_reads raw) cells else_by first_fault (shown_fault raw) (filter is_output ports)
unfolding reads_fault
reads_in_parts raw read cells ports r c p =
    sym (ap (λ (cs : List RawCell). first_fault (cell_reads raw) cs else_by first_fault (shown_fault raw) (filter is_output ports)) (c ∙ ap (λ (x : Raw). x.cells) r)
    ∙ ap (λ (ps : List RawPort). first_fault (cell_reads raw) raw.cells else_by first_fault (shown_fault raw) (filter is_output ps)) (p ∙ ap (λ (x : Raw). x.ports) r))
