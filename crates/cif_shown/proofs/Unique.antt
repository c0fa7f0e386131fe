-- The settled bits are the one assignment in which each net bit shows what its driver gives, so any order of work that ends
-- there is right.
use Rattle.std.specs.Prelude.{ℕ, ◌≤◌, ◌≡◌, Bool, true, false, List, length, refl}
use Rattle.std.proofs.Common.{ap, sym, ◌∙◌, cond}
use Rattle.cif_defs.specs.Words.{bit}
use Rattle.cif_defs.specs.Evaluation.{is_of_cell}
use Rattle.cif_defs.specs.Loop.{IsLevelled}
use Rattle.cif_defs.specs.Netlist.{IsWired, Netlist, driver_of}
use Rattle.cif_defs.specs.Run.{value_in}
use Rattle.cif_defs.specs.TaintRun.{settled_taint}
use Rattle.cif_defs.proofs.Levels.{IsSettled, given_at_0, rank_of, unique, values_settled}
use Rattle.cif_defs.proofs.Orders.{place_in, rank_bound, ranked_from_levels}
use Rattle.cif_defs.proofs.TaintSettles.{taint_at_0, taints_settled}
use Rattle.cif_shown.specs.Shown.{AreClosed, Given, SameAtOperands, Shows, taint_given, value_given}
use Rattle.cif_shown.proofs.ByReads.{taint_by_operands, value_by_operands}

value_base : (n : Netlist) (g : Given) (r : ℕ → ℕ) (b : ℕ) (x y : ℕ → Bool) → rank_of n r b ≤ 0 → value_given n g x b ≡ value_given n g y b
value_base n g r b x y l = sym (given_at_0 n g.stored g.input r x (driver_of n b) l) ∙ given_at_0 n g.stored g.input r y (driver_of n b) l

taint_base : (n : Netlist) (g : Given) (r : ℕ → ℕ) (v : ℕ → Bool) (b : ℕ) (x y : ℕ → Bool) → rank_of n r b ≤ 0 → taint_given n g v x b ≡ taint_given n g v y b
taint_base n g r v b x y l = ap (λ z. cond (g.released b) false z) (sym (taint_at_0 n g.stored v g.state g.taint_input r x (driver_of n b) l) ∙ taint_at_0 n g.stored v g.state g.taint_input r y (driver_of n b) l)

pub values_unique : (n : Netlist) (order : List ℕ) (g : Given) (values taints : List Bool) → IsWired n → IsLevelled n order → ((b : ℕ) → Shows n g values taints b) → (b : ℕ) → bit values b ≡ value_in n g.stored g.input b
values_unique n order g values taints w o h b =
    let ranked = ranked_from_levels n order w o in
    unique n (place_in order) (value_given n g) (value_in n g.stored g.input) (bit values) (values_settled n g.stored g.input (place_in order) ranked (rank_bound n order w o)) (value_base n g (place_in order)) (λ x. (h x).value) (length n.cells) b (rank_bound n order w o b)

pub taints_unique : (n : Netlist) (order : List ℕ) (g : Given) (values taints : List Bool) → IsWired n → IsLevelled n order → ((b : ℕ) → Shows n g values taints b)
    → (b : ℕ) → bit taints b ≡ settled_taint n g.stored (bit values) g.state g.taint_input g.released (length n.cells) b
taints_unique n order g values taints w o h b =
    let ranked = ranked_from_levels n order w o in
    unique n (place_in order) (taint_given n g (bit values)) (settled_taint n g.stored (bit values) g.state g.taint_input g.released (length n.cells)) (bit taints)
    (taints_settled n g.stored (bit values) g.state g.taint_input g.released (place_in order) ranked (rank_bound n order w o)) (taint_base n g (place_in order) (bit values)) (λ x. (h x).taint) (length n.cells) b (rank_bound n order w o b)

-- beside the settled values
pub taints_settled_too : (n : Netlist) (order : List ℕ) (g : Given) (values taints : List Bool) → IsWired n → IsLevelled n order → ((b : ℕ) → Shows n g values taints b)
    → (b : ℕ) → bit taints b ≡ settled_taint n g.stored (value_in n g.stored g.input) g.state g.taint_input g.released (length n.cells) b
taints_settled_too n order g values taints w o h b =
    taints_unique n order g values taints w o h b
    ∙ ap (λ (v : ℕ → Bool). settled_taint n g.stored v g.state g.taint_input g.released (length n.cells) b) (λ i x. values_unique n order g values taints w o h x i)

-- ---- of covered bits alone

cond_same : (t x : Bool) → cond t x x ≡ x
cond_same true x = refl
cond_same false x = refl

taken : (t x y : Bool) → t ≡ true → cond t x y ≡ x
taken true x y e = refl
taken false x y e = absurd (cc)

-- what a table has at covered bits, and an assignment elsewhere
abbrev pub over : (ℕ → Bool) → List Bool → (ℕ → Bool) → ℕ → Bool
over covered bits rest b = cond (covered b) (bit bits b) (rest b)

-- a table and what it is completed to are the same where a cell of a covered bit reads
same_completed : (n : Netlist) (covered : ℕ → Bool) (bits : List Bool) (rest : ℕ → Bool) (b c : ℕ) → AreClosed n covered → covered b ≡ true → is_of_cell c (driver_of n b) ≡ true → SameAtOperands n c (bit bits) (over covered bits rest)
unfolding SameAtOperands AreClosed
same_completed n covered bits rest b c closed k is = λ q j x m e. sym (taken (covered x) (bit bits x) (rest x) (closed b c q j x k is m e))

pub settled_within : (n : Netlist) (r : ℕ → ℕ) (covered : ℕ → Bool) (give : (ℕ → Bool) → ℕ → Bool) (final : ℕ → Bool) → IsSettled n r give final → IsSettled n r (λ u b. cond (covered b) (give u b) (final b)) final
settled_within n r covered give final h = record {
  same = λ d b u v l e. ap (λ z. cond (covered b) z (final b)) (h.same d b u v l e);
  kept = λ b. sym (cond_same (covered b) (final b)) ∙ ap (λ z. cond (covered b) z (final b)) (h.kept b);
}

-- a table whose covered bits are what is given under it, completed, is final
completed_is_final : (n : Netlist) (r : ℕ → ℕ) (covered : ℕ → Bool) (give : (ℕ → Bool) → ℕ → Bool) (final : ℕ → Bool) (bits : List Bool) (top : ℕ) → IsSettled n r give final → ((b : ℕ) (x y : ℕ → Bool) → rank_of n r b ≤ 0 → give x b ≡ give y b)
    → ((b : ℕ) → covered b ≡ true → bit bits b ≡ give (over covered bits final) b) → ((b : ℕ) → rank_of n r b ≤ top) → (b : ℕ) → covered b ≡ true → bit bits b ≡ final b
completed_is_final n r covered give final bits top h base own bound b k =
    sym (taken (covered b) (bit bits b) (final b) k)
    ∙ unique n r (λ u x. cond (covered x) (give u x) (final x)) final (over covered bits final) (settled_within n r covered give final h) (λ x u v l. ap (λ z. cond (covered x) z (final x)) (base x u v l)) (λ x. own_by x (covered x) refl) top b (bound b)
  where
    own_by : (x : ℕ) (t : Bool) → covered x ≡ t → cond t (bit bits x) (final x) ≡ cond t (give (over covered bits final) x) (final x)
    own_by x true e = own x e
    own_by x false e = refl

pub values_covered : (n : Netlist) (order : List ℕ) (covered : ℕ → Bool) (g : Given) (values taints : List Bool) → IsWired n → IsLevelled n order → AreClosed n covered → ((b : ℕ) → covered b ≡ true → Shows n g values taints b)
    → (b : ℕ) → covered b ≡ true → bit values b ≡ value_in n g.stored g.input b
values_covered n order covered g values taints w o closed h =
    let ranked = ranked_from_levels n order w o in
    completed_is_final n (place_in order) covered (value_given n g) (value_in n g.stored g.input) values (length n.cells) (values_settled n g.stored g.input (place_in order) ranked (rank_bound n order w o)) (value_base n g (place_in order))
    (λ b k. (h b k).value ∙ value_by_operands n g (bit values) (over covered values (value_in n g.stored g.input)) b w (λ c is. same_completed n covered values (value_in n g.stored g.input) b c closed k is))
    (λ b. rank_bound n order w o b)

-- the values that a table has are the settled ones where a cell of a covered bit reads
same_settled : (n : Netlist) (covered : ℕ → Bool) (values : List Bool) (final : ℕ → Bool) (b c : ℕ) → AreClosed n covered → covered b ≡ true → is_of_cell c (driver_of n b) ≡ true → ((x : ℕ) → covered x ≡ true → bit values x ≡ final x) → SameAtOperands n c (bit values) final
unfolding SameAtOperands AreClosed
same_settled n covered values final b c closed k is h = λ q j x m e. h x (closed b c q j x k is m e)

pub taints_covered : (n : Netlist) (order : List ℕ) (covered : ℕ → Bool) (g : Given) (values taints : List Bool) → IsWired n → IsLevelled n order → AreClosed n covered → ((b : ℕ) → covered b ≡ true → Shows n g values taints b)
    → (b : ℕ) → covered b ≡ true → bit taints b ≡ settled_taint n g.stored (value_in n g.stored g.input) g.state g.taint_input g.released (length n.cells) b
taints_covered n order covered g values taints w o closed h =
    let ranked = ranked_from_levels n order w o in
    let v : ℕ → Bool = value_in n g.stored g.input in
    let final : ℕ → Bool = settled_taint n g.stored v g.state g.taint_input g.released (length n.cells) in
    completed_is_final n (place_in order) covered (taint_given n g v) final taints (length n.cells) (taints_settled n g.stored v g.state g.taint_input g.released (place_in order) ranked (rank_bound n order w o)) (taint_base n g (place_in order) v)
    (λ b k. (h b k).taint ∙ taint_by_operands n g (bit values) v (bit taints) (over covered taints final) b w (λ c is. same_settled n covered values v b c closed k is (values_covered n order covered g values taints w o closed h))
    (λ c is. same_completed n covered taints final b c closed k is))
    (λ b. rank_bound n order w o b)
