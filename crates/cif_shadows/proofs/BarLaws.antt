-- Which net bits are barred at first: the released ones and the clock.
use Rattle.std.specs.Prelude.{ℕ, ◌<◌, ◌≡◌, ◌==◌, Bool, true, false, ◌||◌, List, length, map, get_or, replicate, Contains, refl, unwrap_or}
use Rattle.std.specs.List.{list_any}
use Rattle.std.proofs.Common.{arith, ap, sym, ◌∙◌, cond, inl, inr}
use Rattle.std.proofs.lemmas.List.{get_or-map, get_or-replicate, get_or_past, length-map, length-replicate}
use Rattle.cif_defs.proofs.WordLaws.{le_or_lt}
use Rattle.cif_defs.specs.Accepted.{driven, driver_in, driver_of_number, is_clock, netlist_of, place_of}
use Rattle.cif_defs.specs.RawModule.{net_numbers}
use Rattle.cif_defs.specs.declared.nets.Driver.{Driver}
use Rattle.cif_defs.specs.declared.nets.Driver.TheVariants.{Clock}
use Rattle.cif_defs.specs.declared.raw_module.Raw.{Raw}
use Rattle.cif_defs.specs.declared.raw_module.RawBit.{RawBit}
use Rattle.cif_defs.specs.declared.raw_module.RawBit.TheVariants.{Zero}
use Rattle.cif_checks.specs.Checks.{IsAccepted, IsWellFormed}
use Rattle.cif_nets.proofs.Places.{At-below, Has}
use Rattle.cif_nets.proofs.Rising.{At-place}
use Rattle.cif_nets.proofs.Wired.{numbers_rise}
use Rattle.cif_cells.proofs.CountLaws.{accepted_apart}
use Rattle.cif_raw_runs.proofs.ClockAlone.{only_clock}
use Rattle.cif_raw_runs.proofs.Drivers.{own_driver}
use Rattle.cif_raw_runs.proofs.Numbers.{has_contained}
use Rattle.cif_stimulus.specs.Fitting.{is_clock_driver}
use Rattle.cif_shadows.specs.Tables.{IsBegun, ShadowTable, barred_in, is_barred}

-- ---- a table of zeros

zeros_at : (n b : ℕ) → get_or (replicate n Zero) b Zero ≡ Zero
zeros_at n b = elim (le_or_lt b n) [
  | inl l ↦ get_or-replicate n b Zero Zero l
  | inr l ↦ get_or_past (replicate n Zero) b Zero (omega (arith, length-replicate n Zero))
]

no_taint : (bits : List RawBit) (n b : ℕ) → bits ≡ replicate n Zero → get_or bits b Zero ≡ Zero
no_taint bits n b e = ap (λ (zs : List RawBit). get_or zs b Zero) e ∙ zeros_at n b

-- ---- the clock

same_test : (p q : Bool) → (p ≡ true → q ≡ true) → (q ≡ true → p ≡ true) → p ≡ q
same_test true q there back = sym (there refl)
same_test false true there back = back refl
same_test false false there back = refl

clock_alone : (d : Driver) → is_clock_driver d ≡ true → d ≡ Clock
clock_alone Clock h = refl
clock_alone _ h = absurd (cc)

-- a net number is the clock where the clock drives it
number_is_clock : (n : Raw) (x : ℕ) → IsWellFormed n → Contains (net_numbers n) x → is_clock_driver (driver_of_number n x) ≡ is_clock n x
number_is_clock n x h contains =
    same_test (is_clock_driver (driver_of_number n x)) (is_clock n x)
    (λ e. only_clock n x h contains (clock_alone (driver_of_number n x) e))
    (λ e. ap (λ b. is_clock_driver (cond b Clock (unwrap_or (driver_in (driven n) x) Clock))) e)

-- ---- the table at first

driver_count : (n : Raw) → length (netlist_of n).drivers ≡ length (net_numbers n)
unfolding netlist_of
driver_count n = length-map (net_numbers n) (driver_of_number n)

-- a table of zeros in which a bit is barred where it was among some clocks or is released
pub record AreBarred (released : List ℕ) (clocks barred : List Bool) : Type 0 where
  pub each : (b : ℕ) → b < length clocks → get_or barred b false ≡ (list_any (λ d. d == b) released || get_or clocks b false)

pub begun : (n : Raw) (released : List ℕ) (clocks : List Bool) (t : ShadowTable) → IsAccepted n → t.bits ≡ replicate (length (netlist_of n).drivers) Zero → clocks ≡ map is_clock_driver (netlist_of n).drivers → AreBarred released clocks t.barred
    → IsBegun n released t
begun n released clocks t accepted zeros clocked bars = record {
  table = record { as_many = ap length zeros ∙ length-replicate (length (netlist_of n).drivers) Zero ∙ driver_count n; barred = at_number };
  none = λ b. no_taint t.bits (length (netlist_of n).drivers) b zeros;
} where
  at_number : (x : ℕ) → Contains (net_numbers n) x → barred_in (net_numbers n) t x ≡ is_barred n released x
  at_number x contains =
      let has : Has (net_numbers n) x = has_contained (net_numbers n) x contains in
      let place : ℕ = place_of (net_numbers n) x in
      let below : place < length (net_numbers n) = At-below (net_numbers n) place x (At-place (net_numbers n) x (numbers_rise n) has) in
      let inside : place < length (netlist_of n).drivers = omega (arith, driver_count n) in
      let clock : get_or clocks place false ≡ is_clock n x =
      ap (λ (cs : List Bool). get_or cs place false) clocked ∙ get_or-map is_clock_driver (netlist_of n).drivers place Clock false inside ∙ ap is_clock_driver (own_driver n x has) ∙ number_is_clock n x ((accepted_apart n).0 accepted).1 contains in
      bars.each place (omega (arith, ap length clocked, length-map (netlist_of n).drivers is_clock_driver)) ∙ ap (λ (c : Bool). list_any (λ d. d == place) released || c) clock
