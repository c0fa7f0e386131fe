-- The marked cells of a cycle are evaluated, as they stand in a levelled order: at each place, each covered net bit shows what its
-- driver gives or waits for a marked cell that is still to come.
use Rattle.std.specs.Prelude.{ℕ, suc, ◌+◌, ◌<◌, ◌≤◌, ◌≡◌, ◌==◌, ◌⊎◌, Bool, true, false, List, length, get_or, refl}
use Rattle.std.proofs.Common.{arith, ap, sym, ◌∙◌, cond, inl, inr, subst}
use Rattle.std.proofs.lemmas.Bool.{eqb-true}
use Rattle.std.proofs.lemmas.Bool.Decides.{nat_tests}
use Rattle.cif_defs.specs.Words.{bit}
use Rattle.cif_defs.specs.Evaluation.{evaluate_one, is_of_cell}
use Rattle.cif_defs.specs.Loop.{IsLevelled, counts, is_passing}
use Rattle.cif_defs.specs.Netlist.{IsWired, Netlist, cell_at, driver_of, operand_at, role_at}
use Rattle.cif_defs.specs.declared.nets.Driver.{Driver}
use Rattle.cif_defs.specs.declared.nets.Driver.TheVariants.{Input, Output, Register, Read, Clock}
use Rattle.cif_defs.specs.declared.nets.Src.TheVariants.{Bit}
use Rattle.cif_defs.specs.declared.kinds.Role.TheVariants.{PlainRegister}
use Rattle.cif_defs.proofs.Levels.{driver_rank, rank_of, register_rank}
use Rattle.cif_defs.proofs.Orders.{has_place, operand_rank, place_at, place_in}
use Rattle.cif_defs.proofs.WordLaws.{le_or_lt}
use Rattle.cif_readers.specs.Reads.{Notes}
use Rattle.cif_shown.specs.Evaluates.{EvaluatesTaints, EvaluatesValues}
use Rattle.cif_shown.specs.Shown.{AreShown, CoverBits, Given, SameAtOperands, Shows, Waits, taint_given, value_given}
use Rattle.cif_shown.proofs.ByReads.{counts_passing, same_taint, same_value, still_shows}
use Rattle.cif_shown.proofs.Covering.{waits_among, waits_in_order}

-- ---- a bit that stays

-- the bits that the cells before a place read stay
abbrev pub PassedStay : Netlist → List ℕ → ℕ → List Bool → List Bool → List Bool → List Bool → Type 0
PassedStay n order from values taints new_values new_taints =
    (c q j x : ℕ) → is_passing (role_at n c) ≡ true → place_in order c < from → counts (role_at n c) (cell_at n c) q ≡ true → operand_at (cell_at n c) q j ≡ Bit x → (bit values x ≡ bit new_values x) × (bit taints x ≡ bit new_taints x)

-- all bits that cell c reads and that count stay
record Stay (n : Netlist) (c : ℕ) (values taints new_values new_taints : List Bool) : Type 0 where
  value : SameAtOperands n c (bit values) (bit new_values)
  taint : SameAtOperands n c (bit taints) (bit new_taints)

-- cell c reads no bit that changed, or it is marked and still to come
stays_or_waits : (n : Netlist) (order : List ℕ) (from c : ℕ) (values taints new_values new_taints marks new_marks : List Bool) (passing marked : Bool) → IsLevelled n order → Notes n values taints new_values new_taints marks new_marks
    → PassedStay n order from values taints new_values new_taints → is_passing (role_at n c) ≡ passing → bit new_marks c ≡ marked
    → Stay n c values taints new_values new_taints ⊎ ((from ≤ place_in order c) × (place_in order c < length order) × (get_or order (place_in order c) 0 ≡ c) × (bit new_marks c ≡ true))
unfolding SameAtOperands
stays_or_waits n order from c values taints new_values new_taints marks new_marks passing false o m p e f = inl (record {
  value = λ q j x k h. sym (m.noted c x (record { operand = q; place = j; is_operand = h }) f).0;
  taint = λ q j x k h. sym (m.noted c x (record { operand = q; place = j; is_operand = h }) f).1;
})
stays_or_waits n order from c values taints new_values new_taints marks new_marks false true o m p e f = inl (record {
  value = λ q j x k h. absurd (let z : is_passing (role_at n c) ≡ true = counts_passing (role_at n c) n c q k in cc);
  taint = λ q j x k h. absurd (let z : is_passing (role_at n c) ≡ true = counts_passing (role_at n c) n c q k in cc);
})
stays_or_waits n order from c values taints new_values new_taints marks new_marks true true o m p e f = elim (le_or_lt (place_in order c) from) [
  | inl l ↦ inl (record {
    value = λ q j x k h. (p c q j x e l k h).0;
    taint = λ q j x k h. (p c q j x e l k h).1;
  })
  | inr l ↦ (let at = has_place n order c o e in inr (l, at.0, at.1, f))
]

own_cell : (c : ℕ) → (c == c) ≡ true
own_cell c = grind (arith, nat_tests)

-- of the cell that drives a bit
still_or_waits_of : (n : Netlist) (g : Given) (order : List ℕ) (from b c : ℕ) (values taints new_values new_taints marks new_marks : List Bool) → IsWired n → IsLevelled n order → Notes n values taints new_values new_taints marks new_marks
    → PassedStay n order from values taints new_values new_taints → bit new_values b ≡ bit values b → bit new_taints b ≡ bit taints b → is_of_cell c (driver_of n b) ≡ true → ((d : ℕ) → is_of_cell d (driver_of n b) ≡ true → d ≡ c)
    → Shows n g values taints b → Shows n g new_values new_taints b ⊎ Waits n order from new_marks b
still_or_waits_of n g order from b c values taints new_values new_taints marks new_marks w o m p ev et is one s =
    elim (stays_or_waits n order from c values taints new_values new_taints marks new_marks (is_passing (role_at n c)) (bit new_marks c) o m p refl refl) [
      | inl k ↦ inl (still_shows n g values taints new_values new_taints b w ev et
          (λ d h. subst (λ z. SameAtOperands n z (bit values) (bit new_values)) (sym (one d h)) k.value) (λ d h. subst (λ z. SameAtOperands n z (bit taints) (bit new_taints)) (sym (one d h)) k.taint) s)
      | inr k ↦ inr (record {
        place = place_in order c;
        not_passed = k.0;
        inside = k.1;
        drives = ap (λ z. is_of_cell z (driver_of n b)) k.2 ∙ is;
        marked = ap (bit new_marks) k.2 ∙ k.3;
      })
    ]

still_or_waits_by : (n : Netlist) (g : Given) (order : List ℕ) (from b : ℕ) (values taints new_values new_taints marks new_marks : List Bool) (d : Driver) → driver_of n b ≡ d → IsWired n → IsLevelled n order → Notes n values taints new_values new_taints marks new_marks
    → PassedStay n order from values taints new_values new_taints → bit new_values b ≡ bit values b → bit new_taints b ≡ bit taints b → Shows n g values taints b → Shows n g new_values new_taints b ⊎ Waits n order from new_marks b
still_or_waits_by n g order from b values taints new_values new_taints marks new_marks (Input p i) e w o m s ev et h =
    inl (still_shows n g values taints new_values new_taints b w ev et (λ c k. absurd (let z : false ≡ true = sym (ap (is_of_cell c) e) ∙ k in cc)) (λ c k. absurd (let z : false ≡ true = sym (ap (is_of_cell c) e) ∙ k in cc)) h)
still_or_waits_by n g order from b values taints new_values new_taints marks new_marks Clock e w o m s ev et h =
    inl (still_shows n g values taints new_values new_taints b w ev et (λ c k. absurd (let z : false ≡ true = sym (ap (is_of_cell c) e) ∙ k in cc)) (λ c k. absurd (let z : false ≡ true = sym (ap (is_of_cell c) e) ∙ k in cc)) h)
still_or_waits_by n g order from b values taints new_values new_taints marks new_marks (Output c p i) e w o m s ev et h =
    still_or_waits_of n g order from b c values taints new_values new_taints marks new_marks w o m s ev et (ap (is_of_cell c) e ∙ own_cell c) (λ d k. eqb-true d c (sym (ap (is_of_cell d) e) ∙ k)) h
still_or_waits_by n g order from b values taints new_values new_taints marks new_marks (Register c i) e w o m s ev et h =
    still_or_waits_of n g order from b c values taints new_values new_taints marks new_marks w o m s ev et (ap (is_of_cell c) e ∙ own_cell c) (λ d k. eqb-true d c (sym (ap (is_of_cell d) e) ∙ k)) h
still_or_waits_by n g order from b values taints new_values new_taints marks new_marks (Read c r i) e w o m s ev et h =
    still_or_waits_of n g order from b c values taints new_values new_taints marks new_marks w o m s ev et (ap (is_of_cell c) e ∙ own_cell c) (λ d k. eqb-true d c (sym (ap (is_of_cell d) e) ∙ k)) h

-- a bit that stays shows what its driver gives, as before, or waits
pub still_or_waits : (n : Netlist) (g : Given) (order : List ℕ) (from b : ℕ) (values taints new_values new_taints marks new_marks : List Bool) → IsWired n → IsLevelled n order → Notes n values taints new_values new_taints marks new_marks
    → PassedStay n order from values taints new_values new_taints → bit new_values b ≡ bit values b → bit new_taints b ≡ bit taints b → Shows n g values taints b → Shows n g new_values new_taints b ⊎ Waits n order from new_marks b
still_or_waits n g order from b values taints new_values new_taints marks new_marks w o m s ev et h = still_or_waits_by n g order from b values taints new_values new_taints marks new_marks (driver_of n b) refl w o m s ev et h

-- ---- one cell is evaluated

-- what it drives and what stays
record Evaluated (n : Netlist) (g : Given) (c : ℕ) (values taints new_values new_taints : List Bool) (b : ℕ) : Type 0 where
  value : bit new_values b ≡ cond (is_of_cell c (driver_of n b)) (value_given n g (bit values) b) (bit values b)
  taint : bit new_taints b ≡ cond (is_of_cell c (driver_of n b)) (taint_given n g (bit values) (bit taints) b) (bit taints b)

evaluated_at : (n : Netlist) (g : Given) (c b : ℕ) (values taints new_values new_taints : List Bool) → EvaluatesValues n g.stored c values new_values → EvaluatesTaints n g.stored values g.state g.released c taints new_taints
    → Evaluated n g c values taints new_values new_taints b
unfolding EvaluatesValues EvaluatesTaints evaluate_one
evaluated_at n g c b values taints new_values new_taints h k = record { value = h g.input b; taint = k g.taint_input b }

stays : (t x y : Bool) → t ≡ false → cond t x y ≡ y
stays false x y e = refl
stays true x y e = absurd (cc)

gets : (t x y : Bool) → t ≡ true → cond t x y ≡ x
gets true x y e = refl
gets false x y e = absurd (cc)

-- a bit that a passing cell drives ranks above the cell
rank_above : (n : Netlist) (order : List ℕ) (c x : ℕ) (d : Driver) → driver_of n x ≡ d → IsWired n → is_passing (role_at n c) ≡ true → is_of_cell c d ≡ true → suc (place_in order c) ≤ driver_rank n (place_in order) d
rank_above n order c x (Output e p i) h w k is = let same : place_in order c ≡ place_in order e = ap (place_in order) (eqb-true c e is) in omega arith
rank_above n order c x (Read e p i) h w k is = let same : place_in order c ≡ place_in order e = ap (place_in order) (eqb-true c e is) in omega arith
rank_above n order c x (Register e i) h w k is = elim (w.register_role x e i h) [
  | inl plain ↦ absurd (let z : is_passing PlainRegister ≡ true = sym (ap is_passing (ap (role_at n) (eqb-true c e is) ∙ plain)) ∙ k in cc)
  | inr reset ↦ (let same : place_in order c ≡ place_in order e = ap (place_in order) (eqb-true c e is) in
      let rank : register_rank (role_at n e) (place_in order e) ≡ suc (place_in order e) = ap (λ r. register_rank r (place_in order e)) reset in
      omega arith)
]
rank_above n order c x (Input p i) h w k is = absurd (cc)
rank_above n order c x Clock h w k is = absurd (cc)

-- a cell that stands at a place or before reads no bit that the cell at the place drives
not_driven : (n : Netlist) (order : List ℕ) (i c q j x : ℕ) (t : Bool) → IsWired n → IsLevelled n order → i < length order → is_passing (role_at n c) ≡ true → place_in order c < i + 1 → counts (role_at n c) (cell_at n c) q ≡ true
    → operand_at (cell_at n c) q j ≡ Bit x → is_of_cell (get_or order i 0) (driver_of n x) ≡ t → t ≡ false
not_driven n order i c q j x false w o l e p k h is = refl
not_driven n order i c q j x true w o l e p k h is =
    let at : place_in order (get_or order i 0) ≡ i = place_at order i o.distinct l in
    let low : rank_of n (place_in order) x ≤ place_in order c = operand_rank n order x c q j (driver_of n x) refl w o e h k in
    let high : suc (place_in order (get_or order i 0)) ≤ rank_of n (place_in order) x = rank_above n order (get_or order i 0) x (driver_of n x) refl w (o.only_passing i l) is in
    absurd (omega arith)

-- so the bits that the cells up to the place read stay
passed_stay : (n : Netlist) (g : Given) (order : List ℕ) (i : ℕ) (values taints new_values new_taints : List Bool) → IsWired n → IsLevelled n order → i < length order
    → EvaluatesValues n g.stored (get_or order i 0) values new_values → EvaluatesTaints n g.stored values g.state g.released (get_or order i 0) taints new_taints → PassedStay n order (i + 1) values taints new_values new_taints
passed_stay n g order i values taints new_values new_taints w o l hv ht = λ c q j x e p k h.
    let at : Evaluated n g (get_or order i 0) values taints new_values new_taints x = evaluated_at n g (get_or order i 0) x values taints new_values new_taints hv ht in
    let none : is_of_cell (get_or order i 0) (driver_of n x) ≡ false = not_driven n order i c q j x (is_of_cell (get_or order i 0) (driver_of n x)) w o l e p k h refl in
    (sym (at.value ∙ stays _ _ _ none), sym (at.taint ∙ stays _ _ _ none))

-- the cell at a place reads no bit that it drives
own_stay : (n : Netlist) (g : Given) (order : List ℕ) (i : ℕ) (values taints new_values new_taints : List Bool) → IsLevelled n order → i < length order → PassedStay n order (i + 1) values taints new_values new_taints
    → Stay n (get_or order i 0) values taints new_values new_taints
unfolding SameAtOperands
own_stay n g order i values taints new_values new_taints o l p =
    let at : place_in order (get_or order i 0) < i + 1 = (let z : place_in order (get_or order i 0) ≡ i = place_at order i o.distinct l in omega arith) in
    record {
      value = λ q j x k h. (p (get_or order i 0) q j x (o.only_passing i l) at k h).0;
      taint = λ q j x k h. (p (get_or order i 0) q j x (o.only_passing i l) at k h).1;
    }

only_cell : (c d : ℕ) (g : Driver) → is_of_cell c g ≡ true → is_of_cell d g ≡ true → d ≡ c
only_cell c d (Output e p i) h k = eqb-true d e k ∙ sym (eqb-true c e h)
only_cell c d (Read e p i) h k = eqb-true d e k ∙ sym (eqb-true c e h)
only_cell c d (Register e i) h k = eqb-true d e k ∙ sym (eqb-true c e h)
only_cell c d (Input p i) h k = absurd (cc)
only_cell c d Clock h k = absurd (cc)

-- what the cell at a place drives shows what is given
now_shows : (n : Netlist) (g : Given) (c b : ℕ) (values taints new_values new_taints : List Bool) → IsWired n → is_of_cell c (driver_of n b) ≡ true → Evaluated n g c values taints new_values new_taints b → Stay n c values taints new_values new_taints
    → Shows n g new_values new_taints b
now_shows n g c b values taints new_values new_taints w is at s = record {
  value = at.value ∙ gets _ _ _ is ∙ same_value n g.stored g.input (bit values) (bit new_values) b (driver_of n b) w refl (λ d h. subst (λ z. SameAtOperands n z (bit values) (bit new_values)) (sym (only_cell c d (driver_of n b) is h)) s.value);
  taint = at.taint ∙ gets _ _ _ is ∙ ap (λ x. cond (g.released b) false x) (same_taint n g.stored g.state g.taint_input (bit values) (bit new_values) (bit taints) (bit new_taints) b (driver_of n b) w refl
      (λ d h. subst (λ z. SameAtOperands n z (bit values) (bit new_values)) (sym (only_cell c d (driver_of n b) is h)) s.value) (λ d h. subst (λ z. SameAtOperands n z (bit taints) (bit new_taints)) (sym (only_cell c d (driver_of n b) is h)) s.taint));
}

-- a bit that waited for another cell still waits
waits_on : (n : Netlist) (order : List ℕ) (i b : ℕ) (values taints new_values new_taints marks new_marks : List Bool) → Notes n values taints new_values new_taints marks new_marks → is_of_cell (get_or order i 0) (driver_of n b) ≡ false
    → Waits n order i marks b → Waits n order (i + 1) new_marks b
waits_on n order i b values taints new_values new_taints marks new_marks m other h = record {
  place = h.place;
  not_passed = later h.place (h.place == i) refl h.not_passed h.drives;
  inside = h.inside;
  drives = h.drives;
  marked = m.kept (get_or order h.place 0) h.marked;
} where
  later : (p : ℕ) (t : Bool) → (p == i) ≡ t → i ≤ p → is_of_cell (get_or order p 0) (driver_of n b) ≡ true → i + 1 ≤ p
  later p true e l is = absurd (let z : false ≡ true = sym other ∙ ap (λ k. is_of_cell (get_or order k 0) (driver_of n b)) (sym (eqb-true p i e)) ∙ is in cc)
  later p false e l is = grind (arith, nat_tests)

step_bit : (n : Netlist) (g : Given) (order : List ℕ) (i b : ℕ) (values taints new_values new_taints marks new_marks : List Bool) (t : Bool) → IsWired n → IsLevelled n order → i < length order
    → Notes n values taints new_values new_taints marks new_marks → PassedStay n order (i + 1) values taints new_values new_taints → Evaluated n g (get_or order i 0) values taints new_values new_taints b
    → is_of_cell (get_or order i 0) (driver_of n b) ≡ t → Shows n g values taints b ⊎ Waits n order i marks b → Shows n g new_values new_taints b ⊎ Waits n order (i + 1) new_marks b
step_bit n g order i b values taints new_values new_taints marks new_marks true w o l m p at is h =
    inl (now_shows n g (get_or order i 0) b values taints new_values new_taints w is at (own_stay n g order i values taints new_values new_taints o l p))
step_bit n g order i b values taints new_values new_taints marks new_marks false w o l m p at is (inl h) =
    still_or_waits n g order (i + 1) b values taints new_values new_taints marks new_marks w o m p (at.value ∙ stays _ _ _ is) (at.taint ∙ stays _ _ _ is) h
step_bit n g order i b values taints new_values new_taints marks new_marks false w o l m p at is (inr h) = inr (waits_on n order i b values taints new_values new_taints marks new_marks m is h)

widened : (n : Netlist) (g : Given) (order cells : List ℕ) (covered : ℕ → Bool) (i b : ℕ) (values taints marks : List Bool) → IsLevelled n order → CoverBits n order cells covered → Shows n g values taints b ⊎ Waits n cells i marks b
    → Shows n g values taints b ⊎ Waits n order (place_in order (get_or cells i 0)) marks b
widened n g order cells covered i b values taints marks o k (inl h) = inl h
widened n g order cells covered i b values taints marks o k (inr h) = inr (waits_in_order n order cells covered i b marks o k h)

narrowed : (n : Netlist) (g : Given) (order cells : List ℕ) (covered : ℕ → Bool) (i b : ℕ) (values taints marks : List Bool) → IsLevelled n order → CoverBits n order cells covered → i < length cells → covered b ≡ true
    → Shows n g values taints b ⊎ Waits n order (place_in order (get_or cells i 0) + 1) marks b → Shows n g values taints b ⊎ Waits n cells (i + 1) marks b
narrowed n g order cells covered i b values taints marks o k l c (inl h) = inl h
narrowed n g order cells covered i b values taints marks o k l c (inr h) = inr (waits_among n order cells covered i b marks o k l c h)

-- one more of the cells is evaluated
pub cell_evaluated : (n : Netlist) (g : Given) (order cells : List ℕ) (covered : ℕ → Bool) (i : ℕ) (values taints new_values new_taints marks new_marks : List Bool) → IsWired n → IsLevelled n order → CoverBits n order cells covered → i < length cells
    → EvaluatesValues n g.stored (get_or cells i 0) values new_values → EvaluatesTaints n g.stored values g.state g.released (get_or cells i 0) taints new_taints → Notes n values taints new_values new_taints marks new_marks
    → AreShown covered n g cells i marks values taints → AreShown covered n g cells (i + 1) new_marks new_values new_taints
unfolding AreShown
cell_evaluated n g order cells covered i values taints new_values new_taints marks new_marks w o k l hv ht m h = λ b c.
    let at = has_place n order (get_or cells i 0) o (k.passing i l) in
    let p : ℕ = place_in order (get_or cells i 0) in
    let hv_at : EvaluatesValues n g.stored (get_or order p 0) values new_values = subst (λ x. EvaluatesValues n g.stored x values new_values) (sym at.1) hv in
    let ht_at : EvaluatesTaints n g.stored values g.state g.released (get_or order p 0) taints new_taints = subst (λ x. EvaluatesTaints n g.stored values g.state g.released x taints new_taints) (sym at.1) ht in
    narrowed n g order cells covered i b new_values new_taints new_marks o k l c
    (step_bit n g order p b values taints new_values new_taints marks new_marks (is_of_cell (get_or order p 0) (driver_of n b)) w o at.0 m (passed_stay n g order p values taints new_values new_taints w o at.0 hv_at ht_at)
    (evaluated_at n g (get_or order p 0) b values taints new_values new_taints hv_at ht_at) refl (widened n g order cells covered i b values taints marks o k (h b c)))

-- a cell that isn't marked is passed over
pass_bit : (n : Netlist) (g : Given) (cells : List ℕ) (i b : ℕ) (values taints marks : List Bool) → bit marks (get_or cells i 0) ≡ false → Shows n g values taints b ⊎ Waits n cells i marks b → Shows n g values taints b ⊎ Waits n cells (i + 1) marks b
pass_bit n g cells i b values taints marks clear (inl h) = inl h
pass_bit n g cells i b values taints marks clear (inr h) = inr (record {
  place = h.place;
  not_passed = later h.place (h.place == i) refl h.not_passed h.marked;
  inside = h.inside;
  drives = h.drives;
  marked = h.marked;
}) where
  later : (p : ℕ) (t : Bool) → (p == i) ≡ t → i ≤ p → bit marks (get_or cells p 0) ≡ true → i + 1 ≤ p
  later p true e l is = absurd (let z : false ≡ true = sym clear ∙ ap (λ k. bit marks (get_or cells k 0)) (sym (eqb-true p i e)) ∙ is in cc)
  later p false e l is = grind (arith, nat_tests)

pub cell_passed_over : (n : Netlist) (g : Given) (cells : List ℕ) (covered : ℕ → Bool) (i : ℕ) (values taints marks : List Bool) → bit marks (get_or cells i 0) ≡ false → AreShown covered n g cells i marks values taints → AreShown covered n g cells (i + 1) marks values taints
unfolding AreShown
cell_passed_over n g cells covered i values taints marks clear h = λ b c. pass_bit n g cells i b values taints marks clear (h b c)

-- after the last of the cells each covered bit shows what its driver gives
end_bit : (n : Netlist) (g : Given) (cells : List ℕ) (i b : ℕ) (values taints marks : List Bool) → length cells ≤ i → Shows n g values taints b ⊎ Waits n cells i marks b → Shows n g values taints b
end_bit n g cells i b values taints marks l (inl h) = h
end_bit n g cells i b values taints marks l (inr h) = absurd (let p : i ≤ h.place = h.not_passed in let q : h.place < length cells = h.inside in omega arith)

pub all_shown : (n : Netlist) (g : Given) (cells : List ℕ) (covered : ℕ → Bool) (i : ℕ) (values taints marks : List Bool) → length cells ≤ i → AreShown covered n g cells i marks values taints → (b : ℕ) → covered b ≡ true → Shows n g values taints b
unfolding AreShown
all_shown n g cells covered i values taints marks l h = λ b c. end_bit n g cells i b values taints marks l (h b c)
