-- Functions of operand words that depend on two words, and flags: one bit, and zeros above it.
use Rattle.std.specs.Prelude.{ℕ, zero, suc, ◌<◌, ◌≡◌, Bool, true, false, ◌&&◌, ◌==◌, List, [], ◌∷◌, length, refl}
use Rattle.std.proofs.Common.{arith, sym, ap, ◌∙◌}
use Rattle.std.proofs.lemmas.Bool.Decides.{nat_tests}
use Rattle.cif_defs.specs.Completions.{AllComplete, CanDiffer, Completes, IsExact}
use Rattle.cif_defs.specs.Words.{Word, bit, flag_word, operand, xor}
use Rattle.cif_defs.proofs.WordLaws.{bit-word, length-word}
use Rattle.cif_defs.proofs.Exact.{cons_complete, nil_complete}
use Rattle.rule_arith.proofs.Turns.{xor_cancel}

-- f gives h of two words, each of which completes its own
pub record IsOfTwo (f : List Word → Bool) (vs ts : List Word) (a ta b tb : Word) (h : Word → Word → Bool) : Type 0 where
  pub make : Word → Word → List Word
  pub complete : (u w : Word) → Completes a ta u → Completes b tb w → AllComplete vs ts (make u w)
  pub value : (u w : Word) → f (make u w) ≡ h u w
  pub first : List Word → Word
  pub second : List Word → Word
  pub first_completes : (us : List Word) → AllComplete vs ts us → Completes a ta (first us)
  pub second_completes : (us : List Word) → AllComplete vs ts us → Completes b tb (second us)
  pub split : (us : List Word) → f us ≡ h (first us) (second us)

pair_complete : (a ta u b tb w : Word) → Completes a ta u → Completes b tb w → AllComplete (a ∷ b ∷ []) (ta ∷ tb ∷ []) (u ∷ w ∷ [])
pair_complete a ta u b tb w c d = cons_complete a (b ∷ []) ta (tb ∷ []) u (w ∷ []) c (cons_complete b [] tb [] w [] d nil_complete)

pub of_both : (a ta b tb : Word) (h : Word → Word → Bool) → IsOfTwo (λ us. h (operand us 0) (operand us 1)) (a ∷ b ∷ []) (ta ∷ tb ∷ []) a ta b tb h
of_both a ta b tb h = record {
  make = λ u w. u ∷ w ∷ [];
  complete = λ u w p q. pair_complete a ta u b tb w p q;
  value = λ u w. refl;
  first = λ us. operand us 0;
  second = λ us. operand us 1;
  first_completes = λ us d. d.each 0;
  second_completes = λ us d. d.each 1;
  split = λ us. refl;
}

pub of_exchanged : (a ta b tb : Word) (h : Word → Word → Bool) → IsOfTwo (λ us. h (operand us 1) (operand us 0)) (a ∷ b ∷ []) (ta ∷ tb ∷ []) b tb a ta h
of_exchanged a ta b tb h = record {
  make = λ u w. w ∷ u ∷ [];
  complete = λ u w p q. pair_complete a ta w b tb u q p;
  value = λ u w. refl;
  first = λ us. operand us 1;
  second = λ us. operand us 0;
  first_completes = λ us d. d.each 1;
  second_completes = λ us d. d.each 0;
  split = λ us. refl;
}

-- ---- flags

-- the taint of a flag is that of its bit, complemented or not
pub record Decides (f : List Word → Bool) (vs ts : List Word) (t : Bool) : Type 0 where
  pub only : t ≡ true → CanDiffer f vs ts
  pub all : CanDiffer f vs ts → t ≡ true

flag_bit : (n : ℕ) (b : Bool) (i : ℕ) → i < n → bit (flag_word n b) i ≡ (i == 0 && b)
flag_bit n b i h = bit-word n (λ k. k == 0 && b) i false h

turned_differ : (f : List Word → Bool) (vs ts : List Word) (turned : Bool) (g : List Word → Bool) → ((us : List Word) → g us ≡ xor (f us) turned) → CanDiffer f vs ts → CanDiffer g vs ts
turned_differ f vs ts turned g e d = record {
  first = d.first;
  second = d.second;
  first_completes = d.first_completes;
  second_completes = d.second_completes;
  differ = λ q. d.differ (xor_cancel _ _ turned (sym (e d.first) ∙ q ∙ e d.second));
}

back_differ : (f : List Word → Bool) (vs ts : List Word) (turned : Bool) (g : List Word → Bool) → ((us : List Word) → g us ≡ xor (f us) turned) → CanDiffer g vs ts → CanDiffer f vs ts
back_differ f vs ts turned g e d = record {
  first = d.first;
  second = d.second;
  first_completes = d.first_completes;
  second_completes = d.second_completes;
  differ = λ q. d.differ (e d.first ∙ ap (λ b. xor b turned) q ∙ sym (e d.second));
}

first_only : (n : ℕ) (f : List Word → Bool) (turned : Bool) (row : List Word → Word) (vs ts : List Word) (t : Bool) → ((us : List Word) → row us ≡ flag_word n (xor (f us) turned)) → Decides f vs ts t
    → (i : ℕ) → i < n → bit (flag_word n t) i ≡ true → CanDiffer (λ us. bit (row us) i) vs ts
first_only n f turned row vs ts t e d zero h q =
    turned_differ f vs ts turned (λ us. bit (row us) 0) (λ us. ap (λ (w : Word). bit w 0) (e us) ∙ flag_bit n (xor (f us) turned) 0 h) (d.only (sym (flag_bit n t 0 h) ∙ q))
first_only n f turned row vs ts t e d (suc i) h q =
    let later : (suc i == 0) ≡ false = grind (arith, nat_tests) in
    absurd (let r : false ≡ true = sym (flag_bit n t (suc i) h ∙ ap (λ b. b && t) later) ∙ q in cc)

first_all : (n : ℕ) (f : List Word → Bool) (turned : Bool) (row : List Word → Word) (vs ts : List Word) (t : Bool) → ((us : List Word) → row us ≡ flag_word n (xor (f us) turned)) → Decides f vs ts t
    → (i : ℕ) → i < n → CanDiffer (λ us. bit (row us) i) vs ts → bit (flag_word n t) i ≡ true
first_all n f turned row vs ts t e d zero h q =
    flag_bit n t 0 h ∙ d.all (back_differ f vs ts turned (λ us. bit (row us) 0) (λ us. ap (λ (w : Word). bit w 0) (e us) ∙ flag_bit n (xor (f us) turned) 0 h) q)
first_all n f turned row vs ts t e d (suc i) h q =
    let later : (suc i == 0) ≡ false = grind (arith, nat_tests) in
    let same : (us : List Word) → bit (row us) (suc i) ≡ false = λ us. ap (λ (w : Word). bit w (suc i)) (e us) ∙ flag_bit n (xor (f us) turned) (suc i) h ∙ ap (λ b. b && xor (f us) turned) later in
    absurd (q.differ (same q.first ∙ sym (same q.second)))

pub flag_exact : (n : ℕ) (f : List Word → Bool) (turned : Bool) (row : List Word → Word) (vs ts : List Word) (t : Bool) (w : Word) → ((us : List Word) → row us ≡ flag_word n (xor (f us) turned)) → Decides f vs ts t
    → w ≡ flag_word n t → IsExact n (λ i us. bit (row us) i) vs ts w
flag_exact n f turned row vs ts t w e d q = record {
  as_long = ap length q ∙ length-word n _;
  only = λ i h r. first_only n f turned row vs ts t e d i h (sym (ap (λ (x : Word). bit x i) q) ∙ r);
  all = λ i h r. ap (λ (x : Word). bit x i) q ∙ first_all n f turned row vs ts t e d i h r;
}
