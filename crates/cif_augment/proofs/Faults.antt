-- Refusals of what is augmented, in order.
use Rattle.std.specs.Prelude.{ℕ, ◌+◌, ◌<◌, ◌≤◌, nat_lt, ◌≡◌, List, length, Option, Some, None}
use Rattle.std.specs.List.{sum_by}
use Rattle.std.proofs.Common.{sym, ap, subst, ◌∙◌, cond}
use Rattle.std.proofs.lemmas.Bool.{lt-ltb, le-ltb}
use Rattle.std.proofs.lemmas.List.{length-map}
use Rattle.cif_defs.specs.Accepted.{cell_of, netlist_of}
use Rattle.cif_defs.specs.Cells.{Cell}
use Rattle.cif_defs.specs.RawModule.{net_numbers}
use Rattle.cif_defs.specs.Weights.{weight}
use Rattle.cif_defs.specs.declared.raw_module.Raw.{Raw}
use Rattle.cif_checks.specs.Checks.{cell_limit}
use Rattle.cif_augment.specs.Refusals.{◌else_by◌, IsFirst, augmented_size, instrument_fault, names_fault, size_fault}
use Rattle.std.specs.Result.{OnOk, IfErr}
use Rattle.std.specs.declared.result.Result.{Result}
use Rattle.std.specs.declared.result.Result.TheVariants.{Ok, Err}
use Rattle.cif_augment.specs.declared.fault.InstrumentFault.{InstrumentFault}
use Rattle.cif_augment.specs.declared.fault.InstrumentFault.TheVariants.{NameTaken, AugTooLarge, Memory}

-- ---- size

cells_long : (raw : Raw) → length (netlist_of raw).cells ≡ length raw.cells
unfolding netlist_of
cells_long raw = length-map raw.cells (cell_of (net_numbers raw))

pub size_is : (raw : Raw) (cells : List Cell) (total : ℕ) → cells ≡ (netlist_of raw).cells → total ≡ sum_by weight cells → length cells + total ≡ augmented_size raw
unfolding augmented_size
size_is raw cells total same is =
    ap (λ n. length cells + n) (is ∙ ap (sum_by weight) same)
    ∙ ap (λ n. n + sum_by weight (netlist_of raw).cells) (ap (λ (cs : List Cell). length cs) same ∙ cells_long raw)

pub too_large : (raw : Raw) (n : ℕ) → n ≡ augmented_size raw → 400000 < n → size_fault raw ≡ Some (AugTooLarge n)
unfolding size_fault
too_large raw n is more =
    ap (λ m. cond (nat_lt cell_limit m) (Some (AugTooLarge m)) None) (sym is) ∙ ap (λ b. cond b (Some (AugTooLarge n)) None) (lt-ltb cell_limit n more)

pub small_enough : (raw : Raw) (n : ℕ) → n ≡ augmented_size raw → n ≤ 400000 → size_fault raw ≡ None
unfolding size_fault
small_enough raw n is few =
    ap (λ m. cond (nat_lt cell_limit m) (Some (AugTooLarge m)) None) (sym is) ∙ ap (λ b. cond b (Some (AugTooLarge n)) None) (le-ltb cell_limit n few)

-- ---- both

pub first_stays : (a b : Option InstrumentFault) (e : InstrumentFault) → IsFirst a e → IsFirst (a else_by b) e
first_stays a b Memory h = h
first_stays a b (NameTaken name) h = ap (λ (o : Option InstrumentFault). o else_by b) h
first_stays a b (AugTooLarge n) h = ap (λ (o : Option InstrumentFault). o else_by b) h

pub names_first : (raw : Raw) (e : InstrumentFault) → IsFirst (names_fault raw) e → IsFirst (instrument_fault raw) e
unfolding instrument_fault
names_first raw e h = first_stays (names_fault raw) (size_fault raw) e h

pub size_next : (raw : Raw) → names_fault raw ≡ None → size_fault raw ≡ instrument_fault raw
unfolding instrument_fault
size_next raw h = ap (λ (o : Option InstrumentFault). o else_by size_fault raw) (sym h)

pub then_size : (raw : Raw) (e : InstrumentFault) → names_fault raw ≡ None → IsFirst (size_fault raw) e → IsFirst (instrument_fault raw) e
then_size raw e h k = subst (λ (o : Option InstrumentFault). IsFirst o e) (size_next raw h) k

-- ---- answers

pub size_ok : (raw : Raw) (r : Result (Unit {0}) InstrumentFault) → names_fault raw ≡ None → OnOk r (size_fault raw ≡ None) → OnOk r (instrument_fault raw ≡ None)
size_ok raw (Ok x) h k = sym (size_next raw h) ∙ k
size_ok raw (Err e) h k = tt

pub size_err : (raw : Raw) (r : Result (Unit {0}) InstrumentFault) → names_fault raw ≡ None → IfErr r (λ e. IsFirst (size_fault raw) e) → IfErr r (λ e. IsFirst (instrument_fault raw) e)
size_err raw (Ok x) h k = tt
size_err raw (Err e) h k = then_size raw e h k
