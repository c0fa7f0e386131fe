-- Tables that hold the pieces of all parts are a frame.
use Rattle.std.specs.Prelude.{ℕ, ◌<◌, ◌≡◌, Bool, false, List, [], length, get_or, Some, refl}
use Rattle.std.proofs.Common.{arith, ap, sym, ◌∙◌, cond, inl, inr}
use Rattle.std.proofs.lemmas.List.{ext_get_or}
use Rattle.cif_defs.specs.Words.{Word, bit}
use Rattle.cif_defs.specs.Loop.{IsLevelled}
use Rattle.cif_defs.specs.Netlist.{IsWired, Netlist, cell_at, driver_of, role_at}
use Rattle.cif_defs.specs.Run.{driver_value, input_value, state, stored_by, value}
use Rattle.cif_defs.specs.Stimulus.{Stimulus, is_released}
use Rattle.cif_defs.specs.TaintRun.{driver_taint, flag_by, input_taint, taint, taint_state, taint_stored_by}
use Rattle.cif_defs.specs.declared.kinds.Role.TheVariants.{Combinational, MemoryBlock}
use Rattle.cif_defs.specs.declared.nets.Driver.{Driver}
use Rattle.cif_defs.specs.declared.nets.Driver.TheVariants.{Input, Output, Register, Read, Clock}
use Rattle.cif_defs.proofs.Levels.{value_is_given}
use Rattle.cif_defs.proofs.Orders.{place_in, rank_bound, ranked_from_levels}
use Rattle.cif_defs.proofs.TaintSettles.{taint_is_given}
use Rattle.cif_defs.proofs.WordLaws.{le_or_lt}
use Rattle.cif_seq.specs.Cases.{CaseOf, net_of}
use Rattle.cif_seq.specs.FrameView.{HoldsFrame}
use Rattle.cif_seq.specs.Inputs.{StandsAt}
use Rattle.cif_seq.specs.Stored.{IsStored, given_words}
use Rattle.cif_seq.proofs.Moved.{rests_past}
use Rattle.cif_seq.proofs.Slices.{same_function}
use Rattle.cif_seq.proofs.StateWidths.{is_stored}
use Rattle.cif_shown.specs.Shown.{AreResting, Rests, taint_given, value_given}
use Rattle.cif_pieces.specs.Parts.{driver_owner, owner}
use Rattle.cif_pieces.specs.Pieces.{HaveEachPlace, IsRight, RestsIn, StoresRight}
use Rattle.cif_pieces.specs.declared.piece.OwnedBits.{OwnedBits}
use Rattle.cif_parts.specs.Joining.{HoldPieces}
use Rattle.cif_parts.specs.Running.{given_in}
use Rattle.cif_parts.proofs.Marks.{owner_below}
use Rattle.cif_parts.proofs.Meeting.{role_inside}

-- the values and the taints of a cycle are what is given under themselves
value_given_in : (n : Netlist) (order : List ℕ) (s : Stimulus) (k b : ℕ) → IsWired n → IsLevelled n order → value n s k b ≡ value_given n (given_in n s k) (value n s k) b
value_given_in n order s k b w o = value_is_given n (state n s k) (input_value n s k) (place_in order) (ranked_from_levels n order w o) (rank_bound n order w o) b

taint_given_in : (n : Netlist) (order : List ℕ) (s : Stimulus) (k b : ℕ) → IsWired n → IsLevelled n order → taint n s k b ≡ taint_given n (given_in n s k) (value n s k) (taint n s k) b
taint_given_in n order s k b w o = taint_is_given n (state n s k) (value n s k) (taint_state n s k) (input_taint n s k) (is_released s.lines) (place_in order) (ranked_from_levels n order w o) (rank_bound n order w o) b

-- where all bits are right, each shows what its driver gives
right_shows : (n : Netlist) (order : List ℕ) (s : Stimulus) (k b : ℕ) (bits : OwnedBits) → IsWired n → IsLevelled n order → ((x : ℕ) → IsRight n s k bits x)
    → (bit bits.values.items b ≡ driver_value n (state n s k) (input_value n s k) (bit bits.values.items) (driver_of n b))
    × (bit bits.taints.items b ≡ cond (is_released s.lines b) false (driver_taint n (state n s k) (bit bits.values.items) (taint_state n s k) (input_taint n s k) (bit bits.taints.items) (driver_of n b)))
right_shows n order s k b bits w o r =
    let ev : bit bits.values.items ≡ value n s k = same_function (bit bits.values.items) (value n s k) (λ x. (r x).value) in
    let et : bit bits.taints.items ≡ taint n s k = same_function (bit bits.taints.items) (taint n s k) (λ x. (r x).taint) in (
      (r b).value ∙ value_given_in n order s k b w o ∙ ap (λ (v : ℕ → Bool). driver_value n (state n s k) (input_value n s k) v (driver_of n b)) (sym ev),
      (r b).taint ∙ taint_given_in n order s k b w o ∙ ap (λ (v : ℕ → Bool). cond (is_released s.lines b) false (driver_taint n (state n s k) v (taint_state n s k) (input_taint n s k) (taint n s k) (driver_of n b))) (sym ev)
          ∙ ap (λ (t : ℕ → Bool). cond (is_released s.lines b) false (driver_taint n (state n s k) (bit bits.values.items) (taint_state n s k) (input_taint n s k) t (driver_of n b))) (sym et),
    )

-- a cell that rests by the definitions rests by tables that are right
right_rests : (n : Netlist) (s : Stimulus) (k c : ℕ) (bits : OwnedBits) → ((x : ℕ) → IsRight n s k bits x) → StoresRight n s k bits c → bit bits.due.items c ≡ false → Rests n (given_words bits.stored.values.items bits.stored.taints.items bits.stored.flags.items) bits.values.items bits.taints.items c
right_rests n s k c bits r st due =
    let ev : bit bits.values.items ≡ value n s k = same_function (bit bits.values.items) (value n s k) (λ x. (r x).value) in
    let et : bit bits.taints.items ≡ taint n s k = same_function (bit bits.taints.items) (taint n s k) (λ x. (r x).taint) in
    let rest : RestsIn n s k c = st.resting due in
    record {
      value = ap (λ (v : ℕ → Bool). stored_by (role_at n c) (cell_at n c) v (get_or bits.stored.values.items c [])) ev ∙ ap (λ (x : Word). stored_by (role_at n c) (cell_at n c) (value n s k) x) st.value ∙ rest.word ∙ sym st.value;
      taint = ap (λ (v : ℕ → Bool). taint_stored_by (role_at n c) (cell_at n c) v (bit bits.taints.items) (get_or bits.stored.values.items c []) (get_or bits.stored.taints.items c [])) ev
          ∙ ap (λ (t : ℕ → Bool). taint_stored_by (role_at n c) (cell_at n c) (value n s k) t (get_or bits.stored.values.items c []) (get_or bits.stored.taints.items c [])) et
          ∙ ap (λ (x : Word). taint_stored_by (role_at n c) (cell_at n c) (value n s k) (taint n s k) x (get_or bits.stored.taints.items c [])) st.value
          ∙ ap (λ (x : Word). taint_stored_by (role_at n c) (cell_at n c) (value n s k) (taint n s k) (get_or (state n s k) c []) x) st.taint ∙ rest.word_taint ∙ sym st.taint;
      flag = ap (λ (v : ℕ → Bool). flag_by (role_at n c) (cell_at n c) v (bit bits.taints.items) (get_or bits.stored.flags.items c false)) ev
          ∙ ap (λ (t : ℕ → Bool). flag_by (role_at n c) (cell_at n c) (value n s k) t (get_or bits.stored.flags.items c false)) et
          ∙ ap (λ (x : Bool). flag_by (role_at n c) (cell_at n c) (value n s k) (taint n s k) x) st.flag ∙ rest.flag ∙ sym st.flag;
    }

-- what the tables of all parts hold
pub record AreRight (c : CaseOf) (k : ℕ) (bits : OwnedBits) : Type 0 where
  pub places : HaveEachPlace (net_of c) bits
  pub nets : (b : ℕ) → IsRight (net_of c) c.stimulus k bits b
  pub cells : (x : ℕ) → x < length (net_of c).cells → StoresRight (net_of c) c.stimulus k bits x
  pub at : StandsAt (net_of c) c.stimulus k bits.inputs

all_right : (c : CaseOf) (k parts : ℕ) (bits : OwnedBits) → IsWired (net_of c) → 0 < parts → HoldPieces c k parts parts bits → AreRight c k bits
all_right c k parts bits w some h = record {
  places = h.places;
  nets = λ b. net_by b (driver_of (net_of c) b) refl;
  cells = λ x l. (h.each (owner (length (net_of c).cells) parts x) (owner_below (length (net_of c).cells) parts x l some)).cells x (l, refl);
  at = (h.each 0 some).at;
} where
  of_cell : (b x : ℕ) → x < length (net_of c).cells → driver_owner (length (net_of c).cells) parts (driver_of (net_of c) b) ≡ Some (owner (length (net_of c).cells) parts x) → IsRight (net_of c) c.stimulus k bits b
  of_cell b x l owns = (h.each (owner (length (net_of c).cells) parts x) (owner_below (length (net_of c).cells) parts x l some)).nets b owns

  net_by : (b : ℕ) (g : Driver) → driver_of (net_of c) b ≡ g → IsRight (net_of c) c.stimulus k bits b
  net_by b (Input p i) e = (h.each 0 some).nets b (ap (driver_owner (length (net_of c).cells) parts) e)
  net_by b Clock e = (h.each 0 some).clock b e
  net_by b (Output x p i) e = of_cell b x (role_inside (net_of c) x (λ r. absurd (let z : role_at (net_of c) x ≡ Combinational = w.output_role b x p i e in cc))) (ap (driver_owner (length (net_of c).cells) parts) e)
  net_by b (Read x p i) e = of_cell b x (role_inside (net_of c) x (λ r. absurd (let z : role_at (net_of c) x ≡ MemoryBlock = w.read_role b x p i e in cc))) (ap (driver_owner (length (net_of c).cells) parts) e)
  net_by b (Register x i) e = of_cell b x (role_inside (net_of c) x (λ r. elim (w.register_role b x i e) [ inl p ↦ absurd (cc) | inr p ↦ absurd (cc) ])) (ap (driver_owner (length (net_of c).cells) parts) e)

-- the words of a cycle are as many as the cells
stored_in : (n : Netlist) (s : Stimulus) (k : ℕ) → IsStored n (state n s k) (taint_state n s k).stored (taint_state n s k).flags
stored_in n s k = is_stored n s k _ _ _ refl refl refl

resting_right : (c : CaseOf) (k : ℕ) (bits : OwnedBits) → bits.stored.values.items ≡ state (net_of c) c.stimulus k → bits.stored.taints.items ≡ (taint_state (net_of c) c.stimulus k).stored → bits.stored.flags.items ≡ (taint_state (net_of c) c.stimulus k).flags → AreRight c k bits
    → AreResting (net_of c) (given_words bits.stored.values.items bits.stored.taints.items bits.stored.flags.items) bits.values.items bits.taints.items bits.due.items
unfolding AreResting
resting_right c k bits es et ef h = λ x due. elim (le_or_lt x (length (net_of c).cells)) [
  | inl l ↦ right_rests (net_of c) c.stimulus k x bits h.nets (h.cells x l) due
  | inr l ↦ rests_past (net_of c) bits.stored.values.items bits.stored.taints.items bits.stored.flags.items bits.values.items bits.taints.items x (is_stored (net_of c) c.stimulus k _ _ _ es et ef) l
]

frame_right : (c : CaseOf) (k : ℕ) (bits : OwnedBits) → IsWired (net_of c) → IsLevelled (net_of c) c.order → bits.stored.values.items ≡ state (net_of c) c.stimulus k → bits.stored.taints.items ≡ (taint_state (net_of c) c.stimulus k).stored → bits.stored.flags.items ≡ (taint_state (net_of c) c.stimulus k).flags → AreRight c k bits
    → HoldsFrame c k bits.values.items bits.taints.items bits.stored.values.items bits.stored.taints.items bits.stored.flags.items bits.due.items bits.inputs
frame_right c k bits w o es et ef h = record {
  shown = record { net_values = λ b. (h.nets b).value; net_taints = λ b. (h.nets b).taint; state_values = es; state_taints = et; memory_flags = ef };
  at = h.at;
  as_many_values = h.places.values;
  as_many_taints = h.places.taints;
  as_many_due = h.places.due;
  shows = λ b. (let g = right_shows (net_of c) c.order c.stimulus k b bits w o h.nets in record {
    value = g.0 ∙ ap (λ (ws : List Word). driver_value (net_of c) ws (input_value (net_of c) c.stimulus k) (bit bits.values.items) (driver_of (net_of c) b)) (sym es);
    taint = g.1
        ∙ ap (λ (ws : List Word). cond (is_released c.stimulus.lines b) false (driver_taint (net_of c) ws (bit bits.values.items) (taint_state (net_of c) c.stimulus k) (input_taint (net_of c) c.stimulus k) (bit bits.taints.items) (driver_of (net_of c) b))) (sym es)
        ∙ ap (λ (ws : List Word). cond (is_released c.stimulus.lines b) false (driver_taint (net_of c) bits.stored.values.items (bit bits.values.items) (record { stored = ws; flags = (taint_state (net_of c) c.stimulus k).flags }) (input_taint (net_of c) c.stimulus k) (bit bits.taints.items) (driver_of (net_of c) b))) (sym et)
        ∙ ap (λ (fs : List Bool). cond (is_released c.stimulus.lines b) false (driver_taint (net_of c) bits.stored.values.items (bit bits.values.items) (record { stored = bits.stored.taints.items; flags = fs }) (input_taint (net_of c) c.stimulus k) (bit bits.taints.items) (driver_of (net_of c) b))) (sym ef);
  });
  resting = resting_right c k bits es et ef h;
}

-- tables that hold the pieces of all parts are a frame
pub holds_joined : (c : CaseOf) (k parts : ℕ) (bits : OwnedBits) → IsWired (net_of c) → IsLevelled (net_of c) c.order → 0 < parts → HoldPieces c k parts parts bits
    → HoldsFrame c k bits.values.items bits.taints.items bits.stored.values.items bits.stored.taints.items bits.stored.flags.items bits.due.items bits.inputs
holds_joined c k parts bits w o some h =
    let r : AreRight c k bits = all_right c k parts bits w some h in
    let m : IsStored (net_of c) (state (net_of c) c.stimulus k) (taint_state (net_of c) c.stimulus k).stored (taint_state (net_of c) c.stimulus k).flags = stored_in (net_of c) c.stimulus k in
    frame_right c k bits w o
    (ext_get_or [] bits.stored.values.items (state (net_of c) c.stimulus k) (r.places.words ∙ sym m.as_many_values) (λ x l. (r.cells x (let z : length bits.stored.values.items ≡ length (net_of c).cells = r.places.words in omega arith)).value))
    (ext_get_or [] bits.stored.taints.items (taint_state (net_of c) c.stimulus k).stored (r.places.word_taints ∙ sym m.as_many_taints) (λ x l. (r.cells x (let z : length bits.stored.taints.items ≡ length (net_of c).cells = r.places.word_taints in omega arith)).taint))
    (ext_get_or false bits.stored.flags.items (taint_state (net_of c) c.stimulus k).flags (r.places.flags ∙ sym m.as_many_flags) (λ x l. (r.cells x (let z : length bits.stored.flags.items ≡ length (net_of c).cells = r.places.flags in omega arith)).flag)) r
