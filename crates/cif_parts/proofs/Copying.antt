-- Bits that are copied, one after another.
use Rattle.std.specs.Prelude.{ℕ, ◌+◌, ◌<◌, ◌≤◌, ◌≡◌, ◌≢◌, ◌⊎◌, Bool, false, List, [], length, get_or, slice_set, Option, Some, None, refl}
use Rattle.std.proofs.Common.{arith, ap, sym, ◌∙◌, inl, inr, subst, get_or-set_same, get_or-set_other, length-set}
use Rattle.std.proofs.lemmas.List.{get_or_past}
use Rattle.cif_defs.specs.Words.{bit}
use Rattle.cif_defs.proofs.WordLaws.{le_or_lt}
use Rattle.cif_parts.specs.Joining.{Copies, IsOutputBefore, IsTargetBefore}

same_or_not : (i j : ℕ) → (i ≡ j) ⊎ (i ≢ j)
same_or_not i j = search arith

some_same : (a b : ℕ) → Some a ≡ Some b → a ≡ b
some_same a b h = cc

copies_nothing : (from old : List Bool) (P : ℕ → Type 0) → ((b : ℕ) → P b → ⊥) → Copies from old old P
copies_nothing from old P none = record { as_many = refl; copied = λ b p. absurd (none b p); each = λ b. inr refl }

copies_same : (from old new : List Bool) (P Q : ℕ → Type 0) → ((b : ℕ) → Q b → P b) → ((b : ℕ) → P b → Q b) → Copies from old new P → Copies from old new Q
copies_same from old new P Q back forth h = record {
  as_many = h.as_many;
  copied = λ b q. h.copied b (back b q);
  each = λ b. elim (h.each b) [ inl x ↦ inl (forth b x.0, x.1) | inr x ↦ inr x ];
}

copies_join : (from a b d : List Bool) (P Q R : ℕ → Type 0) → ((x : ℕ) → R x → P x ⊎ Q x) → ((x : ℕ) → P x → R x) → ((x : ℕ) → Q x → R x) → Copies from a b P → Copies from b d Q → Copies from a d R
copies_join from a b d P Q R split left right h k = record {
  as_many = k.as_many ∙ h.as_many;
  copied = λ x r. elim (split x r) [
    | inl p ↦ elim (k.each x) [ inl y ↦ y.1 | inr y ↦ y ∙ h.copied x p ]
    | inr q ↦ k.copied x q
  ];
  each = λ x. elim (k.each x) [
    | inl y ↦ inl (right x y.0, y.1)
    | inr y ↦ elim (h.each x) [ inl z ↦ inl (left x z.0, y ∙ z.1) | inr z ↦ inr (y ∙ z) ]
  ];
}

-- ---- one bit

pub copies_one : (from old : List Bool) (x : ℕ) (v : Bool) (o : Option ℕ) → o ≡ Some x → x < length old → v ≡ bit from x → Copies from old (slice_set old x v) (λ b. o ≡ Some b)
copies_one from old x v o e l is = record {
  as_many = length-set old x v;
  copied = λ b h. here b (some_same x b (sym e ∙ h));
  each = λ b. elim (same_or_not b x) [
    | inl s ↦ inl (e ∙ ap (λ (k : ℕ). Some k) (sym s), here b (sym s))
    | inr d ↦ inr (get_or-set_other old x b v false d)
  ];
} where
  here : (b : ℕ) → x ≡ b → bit (slice_set old x v) b ≡ bit from b
  here b s = subst (λ (k : ℕ). bit (slice_set old x v) k ≡ bit from k) s (get_or-set_same old x v false l ∙ is)

pub copies_past : (from old : List Bool) (x : ℕ) (o : Option ℕ) → o ≡ Some x → length old ≤ x → length from ≡ length old → Copies from old old (λ b. o ≡ Some b)
copies_past from old x o e l same = record {
  as_many = refl;
  copied = λ b h. (let s : x ≡ b = some_same x b (sym e ∙ h) in get_or_past old b false (omega arith) ∙ sym (get_or_past from b false (omega arith)));
  each = λ b. inr refl;
}

pub copies_none : (from old : List Bool) (o : Option ℕ) → o ≡ None → Copies from old old (λ b. o ≡ Some b)
copies_none from old o e = copies_nothing from old (λ b. o ≡ Some b) (λ b h. absurd (let z : None ≡ Some b = sym e ∙ h in cc))

-- ---- bit by bit, output by output

split_last : (i end : ℕ) → i < end + 1 → (i < end) ⊎ (i ≡ end)
split_last i end h = search arith

pub no_targets : (from old : List Bool) (targets : List (Option ℕ)) → Copies from old old (IsTargetBefore targets 0)
no_targets from old targets = copies_nothing from old (IsTargetBefore targets 0) (λ b h. absurd (let l : h.place < 0 = h.before in omega arith))

pub more_targets : (from a b d : List Bool) (targets : List (Option ℕ)) (i : ℕ) (o : Option ℕ) → o ≡ get_or targets i None → Copies from a b (IsTargetBefore targets i) → Copies from b d (λ x. o ≡ Some x) → Copies from a d (IsTargetBefore targets (i + 1))
more_targets from a b d targets i o e h k = copies_join from a b d (IsTargetBefore targets i) (λ x. o ≡ Some x) (IsTargetBefore targets (i + 1))
    (λ x m. elim (split_last m.place i m.before) [
      | inl l ↦ inl (record { place = m.place; before = l; is = m.is })
      | inr q ↦ inr (e ∙ ap (λ (j : ℕ). get_or targets j None) (sym q) ∙ m.is)
    ])
    (λ x m. record { place = m.place; before = (let l : m.place < i = m.before in omega arith); is = m.is })
    (λ x m. record { place = i; before = omega arith; is = sym e ∙ m }) h k

pub no_outputs : (from old : List Bool) (outputs : List (List (Option ℕ))) → Copies from old old (IsOutputBefore outputs 0)
no_outputs from old outputs = copies_nothing from old (IsOutputBefore outputs 0) (λ b h. absurd (let l : h.port < 0 = h.before in omega arith))

target_inside : (targets : List (Option ℕ)) (i b : ℕ) → get_or targets i None ≡ Some b → i < length targets
target_inside targets i b h = elim (le_or_lt i (length targets)) [
  | inl l ↦ l
  | inr l ↦ absurd (let z : None ≡ Some b = sym (get_or_past targets i None l) ∙ h in cc)
]

pub more_outputs : (from a b d : List Bool) (outputs : List (List (Option ℕ))) (i : ℕ) (targets : List (Option ℕ)) → targets ≡ get_or outputs i [] → Copies from a b (IsOutputBefore outputs i) → Copies from b d (IsTargetBefore targets (length targets)) → Copies from a d (IsOutputBefore outputs (i + 1))
more_outputs from a b d outputs i targets e h k = copies_join from a b d (IsOutputBefore outputs i) (IsTargetBefore targets (length targets)) (IsOutputBefore outputs (i + 1))
    (λ x m. elim (split_last m.port i m.before) [
      | inl l ↦ inl (record { port = m.port; before = l; place = m.place; is = m.is })
      | inr q ↦ (let here : get_or targets m.place None ≡ Some x = ap (λ (xs : List (Option ℕ)). get_or xs m.place None) (e ∙ ap (λ (j : ℕ). get_or outputs j []) (sym q)) ∙ m.is in
          inr (record { place = m.place; before = target_inside targets m.place x here; is = here }))
    ])
    (λ x m. record { port = m.port; before = (let l : m.port < i = m.before in omega arith); place = m.place; is = m.is })
    (λ x m. record { port = i; before = omega arith; place = m.place; is = ap (λ (xs : List (Option ℕ)). get_or xs m.place None) (sym e) ∙ m.is }) h k
