-- Marks that are added, one after another.
use Rattle.std.specs.Prelude.{ℕ, zero, suc, ◌+◌, ◌-◌, ◌*◌, ◌<◌, ◌≤◌, ◌≡◌, ◌==◌, ◌≢◌, ◌⊎◌, Bool, true, false, List, [], ◌∷◌, ◌++◌, length, slice_set, Option, Some, None, refl}
use Rattle.std.proofs.Common.{arith, ap, sym, ◌∙◌, inl, inr, subst, get_or-set_same, get_or-set_other, length-set, length-append}
use Rattle.cif_defs.specs.Words.{bit}
use Rattle.std.proofs.lemmas.Bool.Decides.{nat_tests}
use Rattle.std.proofs.lemmas.List.{get_or_append_left, get_or-append_right}
use Rattle.std.proofs.lemmas.Nat.{div_below, row_fits_turned}
use Rattle.cif_defs.proofs.WordLaws.{le_or_lt}
use Rattle.cif_pieces.specs.Parts.{owner}
use Rattle.cif_parts.specs.Marking.{Adds, AreMarks}

same_or_not : (i j : ℕ) → (i ≡ j) ⊎ (i ≢ j)
same_or_not i j = search arith

set_only : (old : List Bool) (x c : ℕ) (o : Option ℕ) → o ≡ Some x → bit (slice_set old x true) c ≡ true → (bit old c ≡ true) ⊎ (o ≡ Some c)
set_only old x c o e h = elim (same_or_not c x) [
  | inl s ↦ inr (e ∙ ap (λ (k : ℕ). Some k) (sym s))
  | inr d ↦ inl (sym (get_or-set_other old x c true false d) ∙ h)
]

set_keeps : (old : List Bool) (x c : ℕ) → x < length old → bit old c ≡ true → bit (slice_set old x true) c ≡ true
set_keeps old x c l h = elim (same_or_not c x) [
  | inl s ↦ subst (λ (k : ℕ). bit (slice_set old x true) k ≡ true) (sym s) (get_or-set_same old x true false l)
  | inr d ↦ get_or-set_other old x c true false d ∙ h
]

pub mark_one : (old : List Bool) (x : ℕ) (o : Option ℕ) → o ≡ Some x → x < length old → Adds old (slice_set old x true) (λ c. o ≡ Some c)
mark_one old x o e l = record {
  as_many = length-set old x true;
  kept = λ c h. set_keeps old x c l h;
  added = λ c h. (let same : x ≡ c = (let z : Some x ≡ Some c = sym e ∙ h in cc) in subst (λ (k : ℕ). bit (slice_set old x true) k ≡ true) same (get_or-set_same old x true false l));
  only = λ c h. set_only old x c o e h;
}

pub mark_none : (old : List Bool) (o : Option ℕ) → o ≡ None → Adds old old (λ c. o ≡ Some c)
mark_none old o e = record {
  as_many = refl;
  kept = λ c h. h;
  added = λ c h. absurd (let z : None ≡ Some c = sym e ∙ h in cc);
  only = λ c h. inl h;
}

-- nothing is added where nothing fits
pub adds_nothing : (old : List Bool) (P : ℕ → Type 0) → ((c : ℕ) → P c → ⊥) → Adds old old P
adds_nothing old P none = record {
  as_many = refl;
  kept = λ c h. h;
  added = λ c h. absurd (none c h);
  only = λ c h. inl h;
}

-- one after another
pub adds_join : (a b d : List Bool) (P Q R : ℕ → Type 0) → ((c : ℕ) → R c → P c ⊎ Q c) → ((c : ℕ) → P c → R c) → ((c : ℕ) → Q c → R c) → Adds a b P → Adds b d Q → Adds a d R
adds_join a b d P Q R split left right h k = record {
  as_many = k.as_many ∙ h.as_many;
  kept = λ c x. k.kept c (h.kept c x);
  added = λ c x. elim (split c x) [ inl p ↦ k.kept c (h.added c p) | inr q ↦ k.added c q ];
  only = λ c x. elim (k.only c x) [ inl y ↦ elim (h.only c y) [ inl z ↦ inl z | inr p ↦ inr (left c p) ] | inr q ↦ inr (right c q) ];
}

-- the same marks, by another word
pub adds_same : (a b : List Bool) (P Q : ℕ → Type 0) → ((c : ℕ) → Q c → P c) → ((c : ℕ) → P c → Q c) → Adds a b P → Adds a b Q
adds_same a b P Q back forth h = record {
  as_many = h.as_many;
  kept = h.kept;
  added = λ c x. h.added c (back c x);
  only = λ c x. elim (h.only c x) [ inl y ↦ inl y | inr p ↦ inr (forth c p) ];
}

-- ---- marks of owned cells, one after another

abbrev pub Owned : ℕ → ℕ → ℕ → ℕ → ℕ → Type 0
Owned cells parts part end c = (c < end) × (owner cells parts c ≡ part)

snoc_bit : (xs : List Bool) (t : Bool) (i c : ℕ) → length xs ≡ i → bit (xs ++ t ∷ []) c ≡ true → ((c < i) × (bit xs c ≡ true)) ⊎ ((c ≡ i) × (t ≡ true))
snoc_bit xs t i c e h = elim (le_or_lt c i) [
  | inl l ↦ inl (l, sym (get_or_append_left xs (t ∷ []) false c (omega arith)) ∙ h)
  | inr l ↦ elim (same_or_not c i) [
    | inl s ↦ (let none : c - i ≡ 0 = omega arith in inr (s, sym (get_or-append_right xs (t ∷ []) i c false e l ∙ ap (λ (k : ℕ). bit (t ∷ []) k) none) ∙ h))
    | inr d ↦ absurd (let z : bit (xs ++ t ∷ []) c ≡ false = get_or-append_right xs (t ∷ []) i c false e l ∙ beyond t (c - i) (search arith) in cc)
  ]
] where
  beyond : (t : Bool) (k : ℕ) → 0 < k → bit (t ∷ []) k ≡ false
  beyond t zero l = absurd (omega arith)
  beyond t (suc k) l = refl

test_true : (a b : ℕ) (t : Bool) → t ≡ (a == b) → a ≡ b → t ≡ true
test_true a b t e h = grind (arith, nat_tests)

true_test : (a b : ℕ) (t : Bool) → t ≡ (a == b) → t ≡ true → a ≡ b
true_test a b t e h = grind (arith, nat_tests)

split_end : (i end : ℕ) → i < end + 1 → (i < end) ⊎ (i ≡ end)
split_end i end h = search arith

-- marks of the first cells, so many, and one more
pub more_marks : (P : ℕ → Type 0) (i : ℕ) (t : Bool) (old new : List Bool) → new ≡ old ++ t ∷ [] → (t ≡ true → P i) → (P i → t ≡ true) → AreMarks old i (λ c. (c < i) × P c) → AreMarks new (i + 1) (λ c. (c < i + 1) × P c)
more_marks P i t old new e forth back h = subst (λ (xs : List Bool). AreMarks xs (i + 1) (λ c. (c < i + 1) × P c)) (sym e) (record {
  as_many = (let z : length (old ++ t ∷ []) ≡ length old + 1 = length-append old (t ∷ []) in let y : length old ≡ i = h.as_many in omega arith);
  each = λ c p. elim (split_end c i p.0) [
    | inl l ↦ get_or_append_left old (t ∷ []) false c (let y : length old ≡ i = h.as_many in omega arith) ∙ h.each c (l, p.1)
    | inr s ↦ (let none : c - i ≡ 0 = omega arith in
        get_or-append_right old (t ∷ []) i c false h.as_many (omega arith) ∙ ap (λ (k : ℕ). bit (t ∷ []) k) none ∙ back (subst P s p.1))
  ];
  only = λ c b. elim (snoc_bit old t i c h.as_many b) [
    | inl k ↦ (let l : c < i = k.0 in (omega arith, (h.only c k.1).1))
    | inr k ↦ (let s : c ≡ i = k.0 in (omega arith, subst P (sym s) (forth k.1)))
  ];
})

pub no_marks : (P : ℕ → Type 0) → AreMarks [] 0 (λ c. (c < 0) × P c)
no_marks P = record {
  as_many = refl;
  each = λ c p. absurd (let l : c < 0 = p.0 in omega arith);
  only = λ c b. absurd (cc);
}

pub owned_more : (cells parts part i o : ℕ) (t : Bool) (old new : List Bool) → new ≡ old ++ t ∷ [] → o ≡ owner cells parts i → t ≡ (o == part) → AreMarks old i (Owned cells parts part i) → AreMarks new (i + 1) (Owned cells parts part (i + 1))
owned_more cells parts part i o t old new e at is h = more_marks (λ c. owner cells parts c ≡ part) i t old new e (λ x. sym at ∙ true_test o part t is x) (λ y. test_true o part t is (at ∙ y)) h

pub owned_none : (cells parts part : ℕ) → AreMarks [] 0 (Owned cells parts part 0)
owned_none cells parts part = no_marks (λ c. owner cells parts c ≡ part)

-- each cell is owned by one of the parts
pub owner_below : (cells parts c : ℕ) → c < cells → 0 < parts → owner cells parts c < parts
owner_below cells parts c l some =
    let fits : c * parts + parts ≤ parts * cells = row_fits_turned c parts parts cells l (omega arith) in
    div_below (c * parts) cells parts (omega arith) (omega arith)
