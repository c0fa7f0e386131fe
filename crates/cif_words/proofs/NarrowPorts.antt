-- Ports of at most 128 bits, as the code finds them.
use Rattle.std.specs.Prelude.{ℕ, ◌≤◌, ◌≡◌, ◌↔◌, nat_le, Bool, true, false, ◌&&◌, List, [], ◌∷◌, length, map, refl, IsTrue}
use Rattle.std.specs.List.{list_all}
use Rattle.std.proofs.Common.{arith, subst, sym, ◌∙◌}
use Rattle.std.proofs.lemmas.Bool.Decides.{nat_tests}
use Rattle.cif_defs.specs.Cells.{Cell}
use Rattle.cif_defs.specs.Fitted.{IsFitted}
use Rattle.word_numbers.specs.NarrowCells.{AreWithin128, IsNarrow}

both : (a b : Bool) → (a && b) ≡ true → (a ≡ true) × (b ≡ true)
both true b h = (refl, h)
both false b h = absurd (cc)

within_from : {A : Type 0} (xs : List (List A)) → list_all (λ bits. nat_le (length bits) 128) xs ≡ true → AreWithin128 (map length xs)
within_from [] h = tt
within_from (x ∷ xs) h =
    let parts = both (nat_le (length x) 128) (list_all (λ bits. nat_le (length bits) 128) xs) h in
    let l : length x ≤ 128 = (let e : nat_le (length x) 128 ≡ true = parts.0 in grind (arith, nat_tests)) in
    (l, within_from xs parts.1)

within_to : {A : Type 0} (xs : List (List A)) → AreWithin128 (map length xs) → list_all (λ bits. nat_le (length bits) 128) xs ≡ true
within_to [] h = refl
within_to (x ∷ xs) h =
    let l : length x ≤ 128 = h.0 in
    let e : nat_le (length x) 128 ≡ true = grind (arith, nat_tests) in
    rw (e, within_to xs h.1) refl

-- where the operands are narrow, the outputs decide
pub by_outputs : (c : Cell) (a b : Bool) → IsFitted c → a ≡ list_all (λ bits. nat_le (length bits) 128) c.operands → b ≡ list_all (λ bits. nat_le (length bits) 128) c.outputs → a ≡ true → IsTrue b ↔ IsNarrow c
by_outputs c a b fit ea eb h = (
  λ t. record {
    operands = within_from c.operands (sym ea ∙ h);
    outputs = subst (λ (ns : List ℕ). AreWithin128 ns) fit.outputs (within_from c.outputs (sym eb ∙ t));
  },
  λ n. eb ∙ within_to c.outputs (subst (λ (ns : List ℕ). AreWithin128 ns) (sym fit.outputs) n.outputs),
)

-- where they aren't, the cell isn't narrow
pub by_operands : (c : Cell) (a : Bool) → a ≡ list_all (λ bits. nat_le (length bits) 128) c.operands → a ≡ false → IsTrue a ↔ IsNarrow c
by_operands c a ea h = (
  λ t. absurd (let e : true ≡ false = sym t ∙ h in cc),
  λ n. ea ∙ within_to c.operands n.operands,
)
