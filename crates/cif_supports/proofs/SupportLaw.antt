-- A tainted place at which no taint begins has a tainted place in its support.
use Rattle.std.specs.Prelude.{ℕ, zero, suc, ◌≡◌, true, false, List, length, get_or, map, find, Option, Some, None, Contains, refl}
use Rattle.std.specs.List.{list_any, range_with_len}
use Rattle.std.proofs.Common.{arith, inl, inr}
use Rattle.std.proofs.lemmas.List.{get_or_past}
use Rattle.std.proofs.lemmas.List.FromFn.{get_or-map-range_with_len, length-map-range_with_len}
use Rattle.cif_defs.specs.Kinds.{is_memory}
use Rattle.cif_defs.specs.Netlist.{Netlist, cell_at, output_at, role_at}
use Rattle.cif_defs.specs.Run.{value}
use Rattle.cif_defs.specs.Stimulus.{Stimulus}
use Rattle.cif_defs.specs.TaintRun.{taint, taint_state}
use Rattle.cif_defs.proofs.WordLaws.{le_or_lt}
use Rattle.cif_defs.proofs.Exact.{and_true}
use Rattle.cif_supports.specs.declared.places.Place.{Place}
use Rattle.cif_supports.specs.declared.places.Place.TheVariants.{Input, State, Word, Flag, Out}
use Rattle.cif_supports.specs.declared.places.Member.{Member}
use Rattle.cif_supports.specs.Places.{is_tainted, net_taint}
use Rattle.cif_supports.specs.Supports.{shown_support, stored_support}
use Rattle.cif_supports.specs.Chains.{IsRunnable, at_cycle, is_beginning, is_tainted_member, support, support_of}
use Rattle.cif_supports.proofs.Lists.{any_map, first_is_contained, first_of_any}
use Rattle.cif_supports.proofs.ShownLaw.{shown_law}
use Rattle.cif_supports.proofs.StoredLaw.{is_kept, stored_law}

-- ---- output bits

out_law : (n : Netlist) (order : List ℕ) (s : Stimulus) (k c p i : ℕ) (o : Option ℕ) → output_at (cell_at n c) p i ≡ o → IsRunnable n order → net_taint (taint n s k) o ≡ true
    → list_any (is_tainted n s k) (shown_support (role_at n c) n (value n s k) c i) ≡ true
out_law n order s k c p i None e r h = absurd (cc)
out_law n order s k c p i (Some b) e r h = shown_law n order s k c p i b r e h

shown_place : (n : Netlist) (order : List ℕ) (s : Stimulus) (k c p i : ℕ) → IsRunnable n order → is_tainted n s k (Out c p i) ≡ true → list_any (is_tainted n s k) (shown_support (role_at n c) n (value n s k) c i) ≡ true
unfolding is_tainted
shown_place n order s k c p i r h = out_law n order s k c p i (output_at (cell_at n c) p i) refl r h

-- ---- flags are clear at first

clear_flags : (n c : ℕ) → get_or (map (λ x. false) (range_with_len 0 n)) c false ≡ false
clear_flags n c = elim (le_or_lt c n) [
  | inl l ↦ get_or-map-range_with_len (λ x. false) 0 n c c false l (omega arith)
  | inr l ↦ get_or_past (map (λ x. false) (range_with_len 0 n)) c false (omega (arith, length-map-range_with_len (λ x. false) 0 n))
]

no_first_flag : (n : Netlist) (s : Stimulus) (c : ℕ) → is_tainted n s 0 (Flag c) ≡ true → ⊥
unfolding is_tainted taint_state
no_first_flag n s c h =
    let set = (and_true (is_memory (role_at n c)) (get_or (map (λ x. false) (range_with_len 0 (length n.cells))) c false) h).1 in
    let clear = clear_flags (length n.cells) c in
    absurd (cc)

-- ---- all places

kept_law : (n : Netlist) (order : List ℕ) (s : Stimulus) (k : ℕ) (place : Place) → IsRunnable n order → is_kept place ≡ true → is_tainted n s (suc k) place ≡ true
    → list_any (is_tainted_member n s) (map (at_cycle k) (stored_support n (value n s k) (taint n s k) place)) ≡ true
kept_law n order s k place r e h = any_map (is_tainted_member n s) (at_cycle k) (stored_support n (value n s k) (taint n s k) place) (stored_law n order s k place r e h)

pub support_law : (n : Netlist) (order : List ℕ) (s : Stimulus) (k : ℕ) (place : Place) → IsRunnable n order → is_tainted n s k place ≡ true → is_beginning k place ≡ false
    → list_any (is_tainted_member n s) (support n s k place) ≡ true
unfolding support
support_law n order s k (Out c p i) r h e =
    any_map (is_tainted_member n s) (at_cycle k) (shown_support (role_at n c) n (value n s k) c i) (shown_place n order s k c p i r h)
support_law n order s k (Input p i) r h e = absurd (cc)
support_law n order s zero (State c i) r h e = absurd (cc)
support_law n order s zero (Word c address i) r h e = absurd (cc)
support_law n order s zero (Flag c) r h e = absurd (no_first_flag n s c h)
support_law n order s (suc k) (State c i) r h e = kept_law n order s k (State c i) r refl h
support_law n order s (suc k) (Word c address i) r h e = kept_law n order s k (Word c address i) r refl h
support_law n order s (suc k) (Flag c) r h e = kept_law n order s k (Flag c) r refl h

-- the first tainted member of the support
pub first_tainted : (n : Netlist) (order : List ℕ) (s : Stimulus) (m : Member) → IsRunnable n order → is_tainted_member n s m ≡ true → is_beginning m.cycle m.place ≡ false
    → (q : Member) × (find (is_tainted_member n s) (support_of n s m) ≡ Some q) × Contains (support_of n s m) q × (is_tainted_member n s q ≡ true)
first_tainted n order s m r h e =
    let found = first_of_any (is_tainted_member n s) (support_of n s m) (support_law n order s m.cycle m.place r h e) in
    let is = first_is_contained (is_tainted_member n s) (support_of n s m) found.0 found.1 in
    (found.0, found.1, is.0, is.1)
