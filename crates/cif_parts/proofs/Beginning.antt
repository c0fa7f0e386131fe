-- A part begins a cycle with nothing, or with what the frame before held.
use Rattle.std.specs.Prelude.{ℕ, ◌+◌, ◌<◌, ◌≡◌, Bool, true, false, List, [], length, map, get_or, replicate, refl}
use Rattle.std.specs.List.{range_with_len}
use Rattle.std.proofs.Common.{arith, ap, sym, subst, ◌∙◌}
use Rattle.std.proofs.lemmas.List.{get_or-replicate, length-replicate}
use Rattle.std.proofs.lemmas.List.FromFn.{get_or-map-range_with_len}
use Rattle.cif_defs.specs.Accepted.{netlist_of}
use Rattle.cif_defs.specs.Words.{Word, bit}
use Rattle.cif_defs.specs.Netlist.{IsWired, cell_at, role_at}
use Rattle.cif_defs.specs.Run.{input_value, next_stored, state, stored_by}
use Rattle.cif_defs.specs.TaintRun.{flag_by, input_taint, next_taints, taint_state, taint_stored_by}
use Rattle.cif_defs.specs.declared.raw_module.Raw.{Raw}
use Rattle.cif_cycle.specs.declared.stored.StoredWords.{StoredWords}
use Rattle.cif_inputs.specs.declared.inputs.Inputs.{Inputs}
use Rattle.cif_readers.specs.Reads.{Notes}
use Rattle.cif_seq.specs.Cases.{CaseOf, net_of}
use Rattle.cif_seq.specs.FrameView.{HoldsFrame}
use Rattle.cif_seq.specs.GivenAt.{given_at, given_by}
use Rattle.cif_seq.specs.Inputs.{StandsAt}
use Rattle.cif_seq.specs.Stored.{given_of}
use Rattle.cif_seq.specs.declared.settle.NetBits.{NetBits}
use Rattle.cif_seq.proofs.FrameLaws.{next_flags_of, next_state_of, next_taints_of}
use Rattle.cif_shown.specs.Shown.{AreKeptWhere, Follows, KeepsAt, MayBegin}
use Rattle.cif_shown.proofs.Begun.{begins_again, begins_clear}
use Rattle.cif_shown.proofs.Resting.{rests_after}
use Rattle.cif_parts.specs.Running.{AreIn, AreMoved, BeginsPart, HavePlaces, covers, given_in}
use Rattle.cif_parts.proofs.Covered.{among_found, driver_among}
use Rattle.cif_parts.proofs.Placing.{clear_bit}

-- ---- with nothing

marked_all : (n b : ℕ) (xs : List Bool) → xs ≡ replicate n true → b < n → bit xs b ≡ true
marked_all n b xs e l = ap (λ (ys : List Bool). bit ys b) e ∙ get_or-replicate n b true false l

-- raw is the case's module, as the calls of the code say it
pub begins_first : (c : CaseOf) (raw : Raw) (used : List ℕ) (stored : StoredWords) (inputs : Inputs) (bits : NetBits) → IsWired (net_of c) → raw ≡ c.raw → bits.values.items ≡ replicate (length (netlist_of raw).drivers) false → bits.taints.items ≡ replicate (length (netlist_of raw).drivers) false
    → bits.marks.items ≡ replicate (length (netlist_of raw).cells) true → ((i : ℕ) → i < length used → get_or used i 0 < length (net_of c).cells) → HavePlaces (net_of c) stored → AreIn (net_of c) c.stimulus 0 used (length used) stored → StandsAt (net_of c) c.stimulus 0 inputs → BeginsPart c 0 used stored inputs bits
begins_first c raw used stored inputs bits w e ev et em inside places words at =
    let nets : length (netlist_of raw).drivers ≡ length (net_of c).drivers = ap (λ (x : Raw). length (netlist_of x).drivers) e in
    let cells : length (netlist_of raw).cells ≡ length (net_of c).cells = ap (λ (x : Raw). length (netlist_of x).cells) e in
    let marked : (x : ℕ) → x < length (net_of c).cells → bit bits.marks.items x ≡ true = λ x l. marked_all (length (netlist_of raw).cells) x bits.marks.items em (omega arith) in
    record {
      places = places;
      words = words;
      at = at;
      as_many_values = ap length ev ∙ length-replicate (length (netlist_of raw).drivers) false ∙ nets;
      as_many_taints = ap length et ∙ length-replicate (length (netlist_of raw).drivers) false ∙ nets;
      as_many_marks = ap length em ∙ length-replicate (length (netlist_of raw).cells) true ∙ cells;
      begins = λ passing cover. begins_clear (net_of c) (given_at c stored inputs) c.order passing (covers (net_of c) used) bits.values.items bits.taints.items bits.marks.items w cover
          (λ b. clear_bit _ b bits.values.items ev) (λ b. clear_bit _ b bits.taints.items et) marked;
      resting = λ values taints marks i notes l clear. absurd (let m : bit marks (get_or used i 0) ≡ true = notes.kept (get_or used i 0) (marked (get_or used i 0) (inside i l)) in cc);
    }

-- ---- with what the frame before held

listed : {A : Type 0} (f : ℕ → A) (n c : ℕ) (d : A) → c < n → get_or (map f (range_with_len 0 n)) c d ≡ f c
listed f n c d l = get_or-map-range_with_len f 0 n c c d l (omega arith)

-- what a moved cell stores is what it stores in the next cycle
moved_in : (c : CaseOf) (k x : ℕ) (values taints : List Bool) (prior : StoredWords) (due : List Bool) (inputs : Inputs) (next : StoredWords) → HoldsFrame c k values taints prior.values.items prior.taints.items prior.flags.items due inputs → x < length (net_of c).cells
    → Follows (net_of c) (given_of prior) (given_of next) values taints x → KeepsAt (given_in (net_of c) c.stimulus (k + 1)) (given_of next) x
moved_in c k x values taints prior due inputs next h l f =
    let words : next_stored (net_of c) prior.values.items (bit values) ≡ state (net_of c) c.stimulus (k + 1) = next_state_of c k c.raw values taints values prior.values.items prior.taints.items _ prior.flags.items h.shown refl refl refl in
    let word_taints : (next_taints (net_of c) prior.values.items (bit values) (record { stored = prior.taints.items; flags = prior.flags.items }) (bit taints)).stored ≡ (taint_state (net_of c) c.stimulus (k + 1)).stored =
    next_taints_of c k c.raw values taints values taints prior.values.items prior.taints.items _ prior.flags.items h.shown refl refl refl refl in
    let flags : (next_taints (net_of c) prior.values.items (bit values) (record { stored = prior.taints.items; flags = prior.flags.items }) (bit taints)).flags ≡ (taint_state (net_of c) c.stimulus (k + 1)).flags =
    next_flags_of c k c.raw values taints values taints prior.values.items prior.taints.items prior.flags.items _ h.shown refl refl refl refl in
    record {
      value = f.value ∙ sym (listed (λ y. stored_by (role_at (net_of c) y) (cell_at (net_of c) y) (bit values) (get_or prior.values.items y [])) (length (net_of c).cells) x [] l) ∙ ap (λ (ws : List Word). get_or ws x []) words;
      taint = f.taint ∙ sym (listed (λ y. taint_stored_by (role_at (net_of c) y) (cell_at (net_of c) y) (bit values) (bit taints) (get_or prior.values.items y []) (get_or prior.taints.items y [])) (length (net_of c).cells) x [] l)
          ∙ ap (λ (ws : List Word). get_or ws x []) word_taints;
      flag = f.flag ∙ sym (listed (λ y. flag_by (role_at (net_of c) y) (cell_at (net_of c) y) (bit values) (bit taints) (get_or prior.flags.items y false)) (length (net_of c).cells) x false l) ∙ ap (λ (bs : List Bool). get_or bs x false) flags;
    }

kept_where : (c : CaseOf) (used : List ℕ) (i j : ℕ → ℕ → Bool) (prior next : StoredWords) (inputs : Inputs) (values taints marks : List Bool) → AreMoved (net_of c) (given_of prior) (given_of next) values taints marks used (length used)
    → AreKeptWhere (covers (net_of c) used) (net_of c) (given_by c prior.values.items prior.taints.items prior.flags.items i j) (given_at c next inputs) marks
unfolding AreKeptWhere
kept_where c used i j prior next inputs values taints marks h = λ b x k is clear.
    let at = among_found used x (driver_among (net_of c) used b x k is) in
    let kept : KeepsAt (given_of prior) (given_of next) x = subst (λ (y : ℕ). KeepsAt (given_of prior) (given_of next) y) at.2 ((h at.0 at.1).kept (ap (bit marks) at.2 ∙ clear)) in
    record { value = kept.value; taint = kept.taint; flag = kept.flag }

pub begins_next : (c : CaseOf) (k : ℕ) (used : List ℕ) (values taints : List Bool) (prior : StoredWords) (due : List Bool) (before : Inputs) (next : StoredWords) (inputs : Inputs) (bits : NetBits) → IsWired (net_of c) → HoldsFrame c k values taints prior.values.items prior.taints.items prior.flags.items due before
    → bits.values.items ≡ values → bits.taints.items ≡ taints → length bits.marks.items ≡ length (net_of c).cells → ((i : ℕ) → i < length used → get_or used i 0 < length (net_of c).cells) → HavePlaces (net_of c) next
    → AreMoved (net_of c) (given_of prior) (given_of next) values taints bits.marks.items used (length used) → StandsAt (net_of c) c.stimulus (k + 1) inputs → BeginsPart c (k + 1) used next inputs bits
begins_next c k used values taints prior due before next inputs bits w h ev et em inside places moved at = record {
  places = places;
  words = λ i l. moved_in c k (get_or used i 0) values taints prior due before next h (inside i l) (moved i l).follows;
  at = at;
  as_many_values = ap length ev ∙ h.as_many_values;
  as_many_taints = ap length et ∙ h.as_many_taints;
  as_many_marks = em;
  begins = λ passing cover. subst (λ (v : List Bool). MayBegin (covers (net_of c) used) (net_of c) (given_at c next inputs) passing bits.marks.items v bits.taints.items) (sym ev)
      (subst (λ (t : List Bool). MayBegin (covers (net_of c) used) (net_of c) (given_at c next inputs) passing bits.marks.items values t) (sym et)
      (begins_again (net_of c) (given_by c prior.values.items prior.taints.items prior.flags.items (input_value (net_of c) c.stimulus k) (input_taint (net_of c) c.stimulus k)) (given_at c next inputs) c.order passing (covers (net_of c) used) values taints bits.marks.items w cover (λ b. refl)
      (kept_where c used _ _ prior next inputs values taints bits.marks.items moved) (λ b covered. h.shows b)));
  resting = λ new_values new_taints new_marks i notes l clear.
      rests_after (net_of c) (given_of prior) (given_of next) values taints new_values new_taints bits.marks.items new_marks (get_or used i 0) (moved i l).kept (moved i l).follows
      (subst (λ (v : List Bool). Notes (net_of c) v taints new_values new_taints bits.marks.items new_marks) ev (subst (λ (t : List Bool). Notes (net_of c) bits.values.items t new_values new_taints bits.marks.items new_marks) et notes)) clear;
}
