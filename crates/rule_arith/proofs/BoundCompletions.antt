-- A word between the bounds of an operand is that of a completion.
use Rattle.std.specs.Prelude.{ℕ, ◌-◌, ◌<◌, ◌≤◌, ◌≡◌, nat_lt, Bool, true, false, not, ◌&&◌, ◌||◌, if◌then◌else◌, length, refl}
use Rattle.std.proofs.Common.{arith, sym, ap, ◌∙◌, inl, inr}
use Rattle.std.proofs.lemmas.Bool.Decides.{nat_tests}
use Rattle.std.proofs.lemmas.List.{get_or_past}
use Rattle.cif_defs.specs.Completions.{Completes}
use Rattle.cif_defs.specs.Words.{Word, bit, extended_bit, has_one, word, xor}
use Rattle.cif_defs.proofs.WordLaws.{bit-word, length-word, le_or_lt, past_word}
use Rattle.cif_defs.proofs.Exact.{ext_in, ext_past}
use Rattle.cif_defs.proofs.Numbers.{Le}
use Rattle.rule_arith.specs.Bounds.{is_upper, sign_start}
use Rattle.rule_arith.proofs.AddendSums.{le_both}
use Rattle.rule_arith.proofs.Limits.{above_side, at_bound, at_bound_clear}
use Rattle.rule_arith.proofs.SumRules.{xor_none}

-- ---- the bounds of an operand in a case of its sign

abbrev pub side_bit : ℕ → Bool → Word → Word → Bool → Bool → ℕ → Bool
side_bit m signed v t upper side i = at_bound (is_upper (sign_start m signed (length v)) upper side i) (xor (extended_bit signed i v) false) (extended_bit signed i t)

-- places where one must have a bit that both can't have
abbrev pub clash : ℕ → Bool → Word → Word → Word → Word → Bool → Bool → Word
clash m signed a ta b tb p q =
    word m (λ i. (side_bit m signed a ta false p i || side_bit m signed b tb false q i) && not (side_bit m signed a ta true p i && side_bit m signed b tb true q i))

abbrev pub meet : ℕ → Bool → Word → Word → Word → Word → Bool → Bool → Bool
meet m signed a ta b tb p q = not (has_one (clash m signed a ta b tb p q))

abbrev pub in_case : Bool → (Bool → Bool) → Bool
in_case split f = if split then f false || f true else f false

abbrev pub equal_rule : ℕ → Bool → Word → Word → Word → Word → Bool
equal_rule m signed a ta b tb =
    in_case (nat_lt (sign_start m signed (length a)) m) (λ p. in_case (nat_lt (sign_start m signed (length b)) m) (meet m signed a ta b tb p))
    && (has_one ta || has_one tb)

-- ---- a word between the bounds is that of a completion

pub record LiesWithin (m : ℕ) (signed : Bool) (v t : Word) (side : Bool) (z : ℕ → Bool) : Type 0 where
  pub above : (i : ℕ) → i < m → Le (side_bit m signed v t false side i) (z i)
  pub below : (i : ℕ) → i < m → Le (z i) (side_bit m signed v t true side i)

squeezed_at : (m : ℕ) (signed : Bool) (v t : Word) (side : Bool) (z : ℕ → Bool) (i : ℕ) → LiesWithin m signed v t side z → i < m → side_bit m signed v t false side i ≡ side_bit m signed v t true side i → z i ≡ side_bit m signed v t false side i
squeezed_at m signed v t side z i h l e = le_both (z i) _ _ (h.above i l) (h.below i l) e

-- the word of z's lowest bits, as long as v
abbrev pub cut_word : Word → (ℕ → Bool) → Word
cut_word v z = word (length v) z

own_bit : (m : ℕ) (signed : Bool) (v t : Word) (upper side : Bool) (i : ℕ) → length t ≡ length v → i < length v → bit t i ≡ false → side_bit m signed v t upper side i ≡ bit v i
own_bit m signed v t upper side i e l h =
    at_bound_clear (is_upper (sign_start m signed (length v)) upper side i) (xor (extended_bit signed i v) false) (extended_bit signed i t) (ext_in signed i (length v) t l e ∙ h)
    ∙ sym (xor_none (extended_bit signed i v)) ∙ ext_in signed i (length v) v l refl

pub cut_completes : (m : ℕ) (signed : Bool) (v t : Word) (side : Bool) (z : ℕ → Bool) → length t ≡ length v → length v ≤ m → LiesWithin m signed v t side z → Completes v t (cut_word v z)
cut_completes m signed v t side z e few h = record {
  as_long = length-word (length v) z;
  same = λ i q. elim (le_or_lt i (length v)) [
    | inl l ↦ bit-word (length v) z i false l
        ∙ squeezed_at m signed v t side z i h (omega arith) (own_bit m signed v t false side i e l q ∙ sym (own_bit m signed v t true side i e l q))
        ∙ own_bit m signed v t false side i e l q
    | inr l ↦ past_word (length v) z i false l ∙ sym (get_or_past v i false l)
  ];
}

-- from its sign on, an operand whose sign is extended has the same bounds
sign_start_is : (m : ℕ) (n : ℕ) → n < m → sign_start m true n ≡ n - 1
sign_start_is m n h = let t : nat_lt n m ≡ true = grind (arith, nat_tests) in ap (λ b. if b then n - 1 else m) t

sign_bit : (m : ℕ) (v t : Word) (upper side : Bool) (i : ℕ) → length t ≡ length v → 1 ≤ length v → length v < m → length v - 1 ≤ i
    → side_bit m true v t upper side i ≡ at_bound side (xor (bit v (length v - 1)) false) (bit t (length v - 1))
sign_bit m v t upper side i e some few h =
    let start : sign_start m true (length v) ≡ length v - 1 = sign_start_is m (length v) few in
    ap (λ s. at_bound s (xor (extended_bit true i v) false) (extended_bit true i t)) (above_side (sign_start m true (length v)) i upper side (omega arith))
    ∙ ap (λ x. at_bound side (xor x false) (extended_bit true i t)) (shown v refl) ∙ ap (at_bound side (xor (bit v (length v - 1)) false)) (shown t e)
  where
    shown : (w : Word) → length w ≡ length v → extended_bit true i w ≡ bit w (length v - 1)
    shown w q = elim (le_or_lt i (length v)) [
      | inl l ↦ ext_in true i (length v) w l q ∙ ap (bit w) (omega arith)
      | inr l ↦ ext_past true i (length v) w l q ∙ ap (λ k. bit w (k - 1)) q
    ]

cut_past : (m : ℕ) (signed : Bool) (v t : Word) (side : Bool) (z : ℕ → Bool) (i : ℕ) → length t ≡ length v → 1 ≤ length v → LiesWithin m signed v t side z → i < m → length v ≤ i → extended_bit signed i (cut_word v z) ≡ z i
cut_past m true v t side z i e some h l past =
    let k : ℕ = length v - 1 in
    let long : length (cut_word v z) ≡ length v = length-word (length v) z in
    let few : length v < m = omega arith in
    let at_i : z i ≡ at_bound side (xor (bit v k) false) (bit t k) =
    squeezed_at m true v t side z i h l (sign_bit m v t false side i e some few (omega arith) ∙ sym (sign_bit m v t true side i e some few (omega arith))) ∙ sign_bit m v t false side i e some few (omega arith) in
    let at_k : z k ≡ at_bound side (xor (bit v k) false) (bit t k) =
    squeezed_at m true v t side z k h (omega arith) (sign_bit m v t false side k e some few (omega arith) ∙ sym (sign_bit m v t true side k e some few (omega arith))) ∙ sign_bit m v t false side k e some few (omega arith) in
    ext_past true i (length v) (cut_word v z) past long ∙ ap (λ j. bit (cut_word v z) (j - 1)) long ∙ bit-word (length v) z k false (omega arith) ∙ at_k ∙ sym at_i
cut_past m false v t side z i e some h l past =
    let none_v : extended_bit false i v ≡ false = ext_past false i (length v) v past refl in
    let none_t : extended_bit false i t ≡ false = ext_past false i (length v) t past e in
    let none : (upper : Bool) → side_bit m false v t upper side i ≡ false =
    λ upper. at_bound_clear (is_upper (sign_start m false (length v)) upper side i) (xor (extended_bit false i v) false) (extended_bit false i t) none_t ∙ sym (xor_none (extended_bit false i v)) ∙ none_v in
    ext_past false i (length v) (cut_word v z) past (length-word (length v) z)
    ∙ sym (squeezed_at m false v t side z i h l (none false ∙ sym (none true)) ∙ none false)

-- extended it is that word
pub cut_extended : (m : ℕ) (signed : Bool) (v t : Word) (side : Bool) (z : ℕ → Bool) (i : ℕ) → length t ≡ length v → 1 ≤ length v → LiesWithin m signed v t side z → i < m → extended_bit signed i (cut_word v z) ≡ z i
cut_extended m signed v t side z i e some h l = elim (le_or_lt i (length v)) [
  | inl x ↦ ext_in signed i (length v) (cut_word v z) x (length-word (length v) z) ∙ bit-word (length v) z i false x
  | inr x ↦ cut_past m signed v t side z i e some h l x
]
