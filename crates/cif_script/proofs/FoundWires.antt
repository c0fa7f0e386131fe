-- What is found under a name is narrow, and lies inside the netlist.
use Rattle.std.specs.Prelude.{ℕ, zero, suc, ◌<◌, ◌≤◌, ◌≡◌, ◌⊎◌, nat_lt, Bool, true, false, not, ◌&&◌, ◌==◌, List, [], ◌∷◌, ◌++◌, map, length, get_or, Option, Some, None, is_some, option_map, refl, if◌then◌else◌}
use Rattle.std.specs.List.{All, list_all}
use Rattle.std.proofs.Common.{arith, sym, ap, ◌∙◌, inl, inr}
use Rattle.std.proofs.lemmas.Bool.Decides.{nat_tests}
use Rattle.std.proofs.lemmas.List.{length-map}
use Rattle.std.proofs.lemmas.List.Elements.{All-append, All-cons, All-nil}
use Rattle.cif_defs.specs.Accepted.{netlist_of, source, place_of as place_of_number, is_clock, driven, driver_in, driver_of_number}
use Rattle.cif_defs.specs.RawModule.{net_numbers}
use Rattle.cif_defs.specs.declared.nets.Driver.{Driver}
use Rattle.cif_defs.specs.declared.nets.Src.{Src}
use Rattle.cif_defs.specs.declared.nets.Src.TheVariants.{Bit, Zero}
use Rattle.cif_defs.specs.declared.nets.Wire.{Wire}
use Rattle.cif_defs.specs.declared.raw_module.Raw.{Raw}
use Rattle.cif_defs.specs.declared.raw_module.RawBit.{RawBit}
use Rattle.cif_defs.specs.declared.raw_module.RawBit.TheVariants.{Net, Zero as ZeroText, One as OneText, X, Z}
use Rattle.cif_nets.proofs.NetLaws.{driven_is_number}
use Rattle.cif_nets.proofs.Places.{At, Has, At-below, At-from_map}
use Rattle.cif_nets.proofs.Rising.{At-place}
use Rattle.cif_nets.proofs.Wired.{numbers_rise}
use Rattle.cif_cells.specs.Finding.{a_wire, found_of, found_as, wire_if, wire_limit, is_two_valued, are_two_valued, bits_under, all_named}
use Rattle.cif_text.proofs.BoolTests.{both, untrue}
use Rattle.cif_script.specs.ScriptText.{place_of, wires_with}
use Rattle.cif_script.specs.ShownWires.{IsWireOf}

-- ---- net numbers that are driven

driver_first : (t : Bool) (d : ℕ × Driver) (ds : List (ℕ × Driver)) (x : ℕ) → (d.0 == x) ≡ t → is_some (if t then Some d.1 else driver_in ds x) ≡ true → (d.0 ≡ x) ⊎ (is_some (driver_in ds x) ≡ true)
driver_first true d ds x t h = inl (grind (arith, nat_tests))
driver_first false d ds x t h = inr h

driver_there : (ds : List (ℕ × Driver)) (x : ℕ) → is_some (driver_in ds x) ≡ true → (d : Driver) × Has ds (x, d)
driver_there [] x h = absurd (cc)
driver_there (d ∷ ds) x h = elim (driver_first (d.0 == x) d ds x refl h) [
  | inl e ↦ (d.1, inl (ap (λ m. (m, d.1)) e))
  | inr k ↦ (let found = driver_there ds x k in (found.0, inr found.1))
]

-- ---- the bits that a name stands for

pub record IsMadeOf (raw : Raw) (name : List ℕ) (w : Wire) : Type 0 where
  pub bits : List RawBit
  pub two : are_two_valued raw bits ≡ true
  pub wire : w ≡ record { name = name; bits = map (source (net_numbers raw)) bits }

made_by : (raw : Raw) (name : List ℕ) (bits : List RawBit) (two : Bool) (w : Wire) → are_two_valued raw bits ≡ two
    → found_as (Some (if two then Some (record { name = name; bits = map (source (net_numbers raw)) bits }) else None)) ≡ a_wire w → IsMadeOf raw name w
made_by raw name bits true w t h = record { bits = bits; two = t; wire = cc }
made_by raw name bits false w t h = absurd (cc)

made_in : (raw : Raw) (name : List ℕ) (bits : Option (List RawBit)) (w : Wire) → found_as (option_map (wire_if raw name) bits) ≡ a_wire w → IsMadeOf raw name w
made_in raw name None w h = absurd (cc)
made_in raw name (Some bits) w h = made_by raw name bits (are_two_valued raw bits) w refl h

made : (raw : Raw) (name : List ℕ) (w : Wire) → found_of raw name ≡ a_wire w → IsMadeOf raw name w
unfolding found_of
made raw name w h = made_in raw name (bits_under name (all_named raw)) w h

-- ---- what each bit reads

each_at : (p : RawBit → Bool) (bits : List RawBit) (i : ℕ) (bit : RawBit) → list_all p bits ≡ true → At bits i bit → p bit ≡ true
each_at p [] i bit h at = absurd at
each_at p (b ∷ bits) zero bit h at = sym (ap p at) ∙ (both (p b) (list_all p bits) h).0
each_at p (b ∷ bits) (suc i) bit h at = each_at p bits i bit (both (p b) (list_all p bits) h).1 at

bit_inside : (raw : Raw) (bit : RawBit) (b : ℕ) → is_two_valued raw bit ≡ true → source (net_numbers raw) bit ≡ Bit b → b < length (net_numbers raw)
bit_inside raw (Net x) b two e =
    let ns : List ℕ = net_numbers raw in
    let there = driver_there (driven raw) x (both (not (is_clock raw x)) (is_some (driver_in (driven raw) x)) two).1 in
    let below : place_of_number ns x < length ns = At-below ns (place_of_number ns x) x (At-place ns x (numbers_rise raw) (driven_is_number raw x there.0 there.1)) in
    let same : place_of_number ns x ≡ b = cc in
    omega arith
bit_inside raw ZeroText b two e = absurd (cc)
bit_inside raw OneText b two e = absurd (cc)
bit_inside raw X b two e = absurd (cc)
bit_inside raw Z b two e = absurd (cc)

drivers_count : (raw : Raw) → length (netlist_of raw).drivers ≡ length (net_numbers raw)
unfolding netlist_of
drivers_count raw = length-map (net_numbers raw) (driver_of_number raw)

narrow_bits : (raw : Raw) (bits : List RawBit) → are_two_valued raw bits ≡ true → length bits ≤ wire_limit
narrow_bits raw bits h =
    let first = (both (nat_lt 0 (length bits) && not (nat_lt wire_limit (length bits))) (list_all (is_two_valued raw) bits) h).0 in
    let e = untrue (nat_lt wire_limit (length bits)) (both (nat_lt 0 (length bits)) (not (nat_lt wire_limit (length bits))) first).1 in
    grind (arith, nat_tests)

each_two : (raw : Raw) (bits : List RawBit) → are_two_valued raw bits ≡ true → list_all (is_two_valued raw) bits ≡ true
each_two raw bits h = (both (nat_lt 0 (length bits) && not (nat_lt wire_limit (length bits))) (list_all (is_two_valued raw) bits) h).1

made_inside : (raw : Raw) (bits : List RawBit) → are_two_valued raw bits ≡ true → (i b : ℕ) → get_or (map (source (net_numbers raw)) bits) i Zero ≡ Bit b → b < length (netlist_of raw).drivers
made_inside raw bits two i b h =
    let at = At-from_map (source (net_numbers raw)) bits i (Bit b) Zero (λ e. absurd (cc)) h in
    let below : b < length (net_numbers raw) = bit_inside raw at.0 b (each_at (is_two_valued raw) bits i at.0 (each_two raw bits two) at.1) at.2 in
    let count = drivers_count raw in
    omega arith

pub wire_is : (raw : Raw) (name : List ℕ) (w : Wire) → found_of raw name ≡ a_wire w → IsWireOf raw w
wire_is raw name w h =
    let m = made raw name w h in
    let same : w.name ≡ name = ap (λ (x : Wire). x.name) m.wire in
    let bits : w.bits ≡ map (source (net_numbers raw)) m.bits = ap (λ (x : Wire). x.bits) m.wire in
    record {
      found = ap (found_of raw) same ∙ h;
      narrow = (let l = narrow_bits raw m.bits m.two in let e = ap length bits in let k = length-map m.bits (source (net_numbers raw)) in omega arith);
      inside = λ i b e. made_inside raw m.bits m.two i b (ap (λ (ss : List Src). get_or ss i Zero) (sym bits) ∙ e);
    }

-- ---- wires with one more

pub all_wires : (raw : Raw) (wires : List Wire) (w : Wire) → All (IsWireOf raw) wires → IsWireOf raw w → All (IsWireOf raw) (wires_with wires w)
all_wires raw wires w h is = by_place (is_some (place_of wires w.name)) where
  by_place : (found : Bool) → All (IsWireOf raw) (if found then wires else wires ++ w ∷ [])
  by_place true = h
  by_place false = All-append (IsWireOf raw) wires (w ∷ []) h (All-cons (IsWireOf raw) w [] is (All-nil (IsWireOf raw)))
