-- The values of shifts, from those of the operations that make them.
use Rattle.std.specs.Prelude.{ℕ, ◌+◌, ◌-◌, ◌^◌, ◌<◌, ◌≤◌, ◌≡◌, nat_le, max, Bool, true, false, ◌&&◌, get_or, length, pos, negsuc, ◌+ℤ◌, ◌-ℤ◌, if◌then◌else◌}
use Rattle.std.proofs.Common.{arith, sym, ap, ◌∙◌, inl, inr}
use Rattle.std.proofs.lemmas.Bool.Decides.{nat_tests}
use Rattle.std.proofs.lemmas.Int.{ints}
use Rattle.std.proofs.lemmas.List.{get_or_past}
use Rattle.cif_defs.specs.Words.{Word, bit, bit_at, extend, extended_bit, number, top, word, word_of}
use Rattle.cif_defs.specs.Meanings.{extended_to, shift_word, shl_word, shr_word, sshr_word}
use Rattle.cif_defs.proofs.Numbers.{word-same}
use Rattle.cif_defs.proofs.WordLaws.{bit-word, le_or_lt, past_word}
use Rattle.word_numbers.specs.HeldWords.{lowered_word, raised_word}
use Rattle.word_choices.proofs.MovedWords.{lowered_by, narrower, raised_by}

pub left_word : (n k x r : ℕ) (signed : Bool) (a b : Word) → number b ≡ k → word_of n x ≡ extend n signed a → word_of n r ≡ raised_word k (word_of n x) → word_of n r ≡ shl_word n signed a b
left_word n k x r signed a b q e g =
    g ∙ ap (raised_word k) e ∙ raised_by n k (λ i. extended_bit signed i a) ∙ sym (ap (λ j. word n (λ i. nat_le j i && extended_bit signed (i - j) a)) q)

pub right_word : (n k w x y r : ℕ) (signed : Bool) (a b : Word) → w ≡ max (length a) n → number b ≡ k → word_of w x ≡ extend w signed a → word_of w y ≡ lowered_word k false (word_of w x) → word_of n r ≡ word_of n y → word_of n r ≡ shr_word n signed a b
right_word n k w x y r signed a b h q e g s =
    s ∙ narrower w n y (λ i. bit (extend w signed a) (i + k)) (omega arith) (g ∙ ap (lowered_word k false) e ∙ lowered_by w k false (λ i. extended_bit signed i a))
    ∙ ap (λ m. word n (λ i. bit (extend m signed a) (i + k))) h ∙ sym (ap (λ j. word n (λ i. bit (extended_to n signed a) (i + j))) q)

filled_end : (w k : ℕ) (v : Word) (fill : Bool) → length v ≤ w → get_or (word w (λ i. get_or v i fill)) k fill ≡ get_or v k fill
filled_end w k v fill h = elim (le_or_lt k w) [
  | inl l ↦ bit-word w (λ i. get_or v i fill) k fill l
  | inr l ↦ past_word w (λ i. get_or v i fill) k fill l ∙ sym (get_or_past v k fill (omega arith))
]

pub signed_word : (n k w x y r : ℕ) (signed fill : Bool) (a b : Word) → w ≡ max (length a) n → number b ≡ k → fill ≡ (signed && top a) → word_of w x ≡ extend w signed a → word_of w y ≡ lowered_word k fill (word_of w x) → word_of n r ≡ word_of n y
    → word_of n r ≡ sshr_word n signed a b
signed_word n k w x y r signed fill a b h q f e g s =
    s ∙ narrower w n y (λ i. get_or (extend w signed a) (i + k) (signed && top a)) (omega arith)
    (g ∙ ap (λ d. lowered_word k d (word_of w x)) f ∙ ap (lowered_word k (signed && top a)) e ∙ lowered_by w k (signed && top a) (λ i. extended_bit signed i a))
    ∙ word-same n _ _ (λ i l. filled_end w (i + k) a (signed && top a) (omega arith)) ∙ sym (ap (λ j. word n (λ i. extended_bit signed (i + j) a)) q)

-- ---- in both directions

place_plain : (i x : ℕ) → pos i +ℤ (pos x -ℤ pos 0) ≡ pos (i + x)
place_plain i x = omega (arith, ints)

place_down : (i x d p : ℕ) → d + x ≡ p → d ≤ i → pos i +ℤ (pos x -ℤ pos p) ≡ pos (i - d)
place_down i x d p e h = omega (arith, ints)

place_under : (i x d p : ℕ) → d + x ≡ p → i < d → pos i +ℤ (pos x -ℤ pos p) ≡ negsuc (d - i - 1)
place_under i x d p e h = omega (arith, ints)

-- where B isn't negative
pub right_offset : (n : ℕ) (a_signed b_signed : Bool) (a b : Word) → (b_signed && top b) ≡ false → shift_word n a_signed b_signed a b ≡ shr_word n a_signed a b
right_offset n a_signed b_signed a b e = word-same n _ _ (λ i h.
    ap (λ s. bit_at (extended_to n a_signed a) (pos i +ℤ (pos (number b) -ℤ pos (if s then 2 ^ length b else 0)))) e ∙ ap (bit_at (extended_to n a_signed a)) (place_plain i (number b)))

left_place_by : (n d x p i : ℕ) (signed : Bool) (a : Word) → d + x ≡ p → i < n → bit_at (extended_to n signed a) (pos i +ℤ (pos x -ℤ pos p)) ≡ (nat_le d i && extended_bit signed (i - d) a)
left_place_by n d x p i signed a e h = elim (le_or_lt i d) [
  | inl l ↦ (let t : nat_le d i ≡ false = grind (arith, nat_tests) in
      ap (bit_at (extended_to n signed a)) (place_under i x d p e l) ∙ sym (ap (λ b. b && extended_bit signed (i - d) a) t))
  | inr l ↦ (let t : nat_le d i ≡ true = grind (arith, nat_tests) in
      ap (bit_at (extended_to n signed a)) (place_down i x d p e l) ∙ bit-word (max (length a) n) (λ k. extended_bit signed k a) (i - d) false (omega arith)
      ∙ sym (ap (λ b. b && extended_bit signed (i - d) a) t))
]

-- where B is negative, by d
pub left_offset : (n d x r : ℕ) (a_signed b_signed : Bool) (a b : Word) → (b_signed && top b) ≡ true → d + number b ≡ 2 ^ length b → word_of n x ≡ extend n a_signed a → word_of n r ≡ raised_word d (word_of n x)
    → word_of n r ≡ shift_word n a_signed b_signed a b
left_offset n d x r a_signed b_signed a b t q e g =
    g ∙ ap (raised_word d) e ∙ raised_by n d (λ i. extended_bit a_signed i a) ∙ word-same n _ _ (λ i h.
    sym (ap (λ s. bit_at (extended_to n a_signed a) (pos i +ℤ (pos (number b) -ℤ pos (if s then 2 ^ length b else 0)))) t ∙ left_place_by n d (number b) (2 ^ length b) i a_signed a q h))
