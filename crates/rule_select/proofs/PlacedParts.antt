-- Parts of words that are known by their places.
use Rattle.std.specs.Prelude.{ℕ, ◌+◌, ◌≤◌, ◌≡◌, nat_lt, Bool, true, false, ◌&&◌, List, length, refl}
use Rattle.std.proofs.Common.{arith, sym, ap, ◌∙◌, inl, inr}
use Rattle.std.proofs.lemmas.Bool.Decides.{nat_tests}
use Rattle.cif_defs.specs.Words.{Word, bit, word}
use Rattle.cif_defs.specs.Completions.{can_differ}
use Rattle.cif_defs.proofs.Numbers.{word-same}
use Rattle.cif_defs.proofs.WordLaws.{bit-word, le_or_lt, length-word, past_word}
use Rattle.cif_term.specs.Formulas.{Formula, Pick, IsFormed, value_of}
use Rattle.rule_select.specs.Windows.{places_from, window}
use Rattle.rule_select.proofs.ChoiceTaints.{Ignores}
use Rattle.rule_select.proofs.SelectOperands.{word_of_bits}
use Rattle.rule_select.proofs.DifferTests.{never_differs}
use Rattle.rule_select.proofs.TreeLaws.{differs}
use Rattle.rule_select.proofs.WindowLaws.{IsWindow, formed_places, formed_window, picked-from, value-window}

-- the bits at some places of a word of w bits f, 0 past its end
abbrev pub moved_bit : ℕ → (ℕ → ℕ) → (ℕ → List Word → Bool) → ℕ → List Word → Bool
moved_bit w place f i us = nat_lt (place i) w && f (place i) us

-- part reads n bits at some places of a word of w bits
pub record Reads (part : Formula → Formula) (w n : ℕ) (place : ℕ → ℕ) : Type 0 where
  pub value : (f : Formula) (vs ts named : List Word) → length (value_of f vs ts named) ≡ w → value_of (part f) vs ts named ≡ word n (λ i. bit (value_of f vs ts named) (place i))
  pub formed : (f : Formula) (ws named : List ℕ) → IsFormed f ws named w 0 → IsFormed (part f) ws named n 0

-- a bit of a word, past its end too
pub bit_within : (w : ℕ) (p : ℕ → Bool) (i : ℕ) → bit (word w p) i ≡ (nat_lt i w && p i)
bit_within w p i = elim (le_or_lt i w) [
  | inl h ↦ (let t : nat_lt i w ≡ true = grind (arith, nat_tests) in bit-word w p i false h ∙ ap (λ b. b && p i) (sym t))
  | inr h ↦ (let t : nat_lt i w ≡ false = grind (arith, nat_tests) in past_word w p i false h ∙ ap (λ b. b && p i) (sym t))
]

pub reads_value : (part : Formula → Formula) (w n : ℕ) (place : ℕ → ℕ) (p : ℕ → Bool) (f : Formula) (vs ts named : List Word) → Reads part w n place → value_of f vs ts named ≡ word w p
    → value_of (part f) vs ts named ≡ word n (λ i. nat_lt (place i) w && p (place i))
reads_value part w n place p f vs ts named r e =
    r.value f vs ts named (ap length e ∙ length-word w p) ∙ word-same n _ _ (λ i h. ap (λ (v : Word). bit v (place i)) e ∙ bit_within w p (place i))

differs_by : (b : Bool) (f : List Word → Bool) (vs ts : List Word) → can_differ (λ us. b && f us) vs ts ≡ (b && can_differ f vs ts)
differs_by true f vs ts = refl
differs_by false f vs ts = never_differs (λ us. false) vs ts false (λ us c. refl)

pub reads_taint : (part : Formula → Formula) (w n : ℕ) (place : ℕ → ℕ) (f : ℕ → List Word → Bool) (x : Formula) (vs ts named : List Word) → Reads part w n place → value_of x vs ts named ≡ word w (differs f vs ts)
    → value_of (part x) vs ts named ≡ word n (differs (moved_bit w place f) vs ts)
reads_taint part w n place f x vs ts named r e =
    reads_value part w n place (differs f vs ts) x vs ts named r e ∙ word-same n _ _ (λ i h. sym (differs_by (nat_lt (place i) w) (f (place i)) vs ts))

pub moved_ignores : (w q k : ℕ) (place : ℕ → ℕ) (f : ℕ → List Word → Bool) → ((i : ℕ) → Ignores (f i) q k) → (i : ℕ) → Ignores (moved_bit w place f i) q k
moved_ignores w q k place f g i = record { same = λ d us. ap (λ b. nat_lt (place i) w && b) ((g (place i)).same d us) }

-- ---- what reads

pub reads_all : (w : ℕ) → Reads (λ f. f) w w (λ i. i)
reads_all w = record { value = λ f vs ts named e. word_of_bits (value_of f vs ts named) w e; formed = λ f ws named h. h }

pub reads_window : (w low start len high n : ℕ) (place : ℕ → ℕ) → IsWindow w low start len high place → low + len + high ≡ n → start + len ≤ w → 1 ≤ n → n ≤ 65536 → Reads (window low start len high) w n place
reads_window w low start len high n place g e l a b = record {
  value = λ f vs ts named h. value-window w low start len high place f vs ts named h g ∙ ap (λ k. word k (λ i. bit (value_of f vs ts named) (place i))) e;
  formed = λ f ws named h. formed_window low start len high n h e l a b;
}

pub reads_run : (w start n : ℕ) → start + n ≤ w → 1 ≤ n → n ≤ 65536 → Reads (λ f. Pick f (places_from start n)) w n (λ i. start + i)
reads_run w start n h a b = record {
  value = λ f vs ts named e. picked-from start n (value_of f vs ts named);
  formed = λ f ws named g. formed_places start n g h a b;
}

-- the lowest n bits
pub value-first : (w n : ℕ) (p : ℕ → Bool) (f : Formula) (vs ts named : List Word) → n ≤ w → value_of f vs ts named ≡ word w p → value_of (Pick f (places_from 0 n)) vs ts named ≡ word n p
value-first w n p f vs ts named h e = picked-from 0 n (value_of f vs ts named) ∙ word-same n _ _ (λ i l. let q : 0 + i ≡ i = omega arith in ap (λ (v : Word). bit v (0 + i)) e ∙ ap (λ k. bit (word w p) k) q ∙ bit-word w p i false (omega arith))
