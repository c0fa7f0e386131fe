-- The words that the code computes from calls on words, as the words that cells give.
use Rattle.std.specs.Prelude.{ℕ, ◌<◌, ◌≡◌, ◌≢◌, zero, suc, ◌==◌, Bool, true, false, ◌&&◌, ◌||◌, length, get_or, slice_set}
use Rattle.std.proofs.Common.{arith, sym, ap, subst, ◌∙◌, Result, IfOk, if◌then◌else◌}
use Rattle.std.proofs.lemmas.Bool.Decides.{nat_tests}
use Rattle.std.proofs.lemmas.List.{length-set, get_or-set_same, get_or-set_other}
use Rattle.cif_defs.specs.Words.{Word, bit, word, zeros, flag_word, xor}
use Rattle.cif_defs.specs.Meanings.{mux_word, fa_majority_word, fa_sum_word}
use Rattle.cif_defs.proofs.WordLaws.{bit-word, length-word, same_words}
use Rattle.cif_defs.proofs.Numbers.{word-same}

-- an answer that is one word is another that equals it
pub answered : {E : Type 0} (r : Result Word E) (u v : Word) → u ≡ v → IfOk r (λ w. w ≡ u) → IfOk r (λ w. w ≡ v)
answered r u v e h = subst (λ (x : Word). IfOk r (λ w. w ≡ x)) e h

-- ---- words by place

-- a function of the bits of one word, and of two, where the words are given bit by bit
pub each_bit : (g : Bool → Bool) (n : ℕ) (f : ℕ → Bool) (x : Word) → x ≡ word n f → word (length x) (λ i. g (bit x i)) ≡ word n (λ i. g (f i))
each_bit g n f x e =
    ap (λ (v : Word). word (length v) (λ i. g (bit v i))) e ∙ ap (λ k. word k (λ i. g (bit (word n f) i))) (length-word n f)
    ∙ word-same n _ _ (λ i h. ap g (bit-word n f i false h))

pub each_two : (g : Bool → Bool → Bool) (n : ℕ) (f h : ℕ → Bool) (x y : Word) → x ≡ word n f → y ≡ word n h
    → word (length x) (λ i. g (bit x i) (bit y i)) ≡ word n (λ i. g (f i) (h i))
each_two g n f h x y e q =
    ap (λ (v : Word). word (length v) (λ i. g (bit v i) (bit y i))) e ∙ ap (λ (v : Word). word (length (word n f)) (λ i. g (bit (word n f) i) (bit v i))) q
    ∙ ap (λ k. word k (λ i. g (bit (word n f) i) (bit (word n h) i))) (length-word n f)
    ∙ word-same n _ _ (λ i l. ap (λ b. g b (bit (word n h) i)) (bit-word n f i false l) ∙ ap (g (f i)) (bit-word n h i false l))

-- a word is given by its own bits
pub own_bits : (n : ℕ) (w : Word) → length w ≡ n → w ≡ word n (λ i. bit w i)
own_bits n w e = same_words w (word n (λ i. bit w i)) (e ∙ sym (length-word n _))
    (λ i h. sym (bit-word n (λ k. bit w k) i false (omega arith)))

-- ---- $mux

mux_by : (n : ℕ) (a b : Word) (s : Bool) (chosen : Word) → length chosen ≡ n → (if s then b else a) ≡ chosen → chosen ≡ word n (λ i. if s then bit b i else bit a i)
mux_by n a b true chosen e q = own_bits n chosen e ∙ ap (λ (w : Word). word n (λ i. bit w i)) (sym q)
mux_by n a b false chosen e q = own_bits n chosen e ∙ ap (λ (w : Word). word n (λ i. bit w i)) (sym q)

pub mux_one : (n : ℕ) (a b s : Word) → length b ≡ n → bit s 0 ≡ true → b ≡ mux_word n a b s
mux_one n a b s e q = mux_by n a b (bit s 0) b e (ap (λ t. if t then b else a) q)

pub mux_zero : (n : ℕ) (a b s : Word) → length a ≡ n → bit s 0 ≡ false → a ≡ mux_word n a b s
mux_zero n a b s e q = mux_by n a b (bit s 0) a e (ap (λ t. if t then b else a) q)

-- ---- $fa

pub fa_sum_is : (n : ℕ) (a b c x : Word) → length a ≡ n → length b ≡ n → length c ≡ n → x ≡ word (length a) (λ i. xor (bit a i) (bit b i))
    → word (length x) (λ i. xor (bit x i) (bit c i)) ≡ fa_sum_word n a b c
fa_sum_is n a b c x p q r e =
    let both : x ≡ word n (λ i. xor (bit a i) (bit b i)) = e ∙ each_two xor n (bit a) (bit b) a b (own_bits n a p) (own_bits n b q) in
    each_two xor n (λ i. xor (bit a i) (bit b i)) (bit c) x c both (own_bits n c r)

pub fa_majority_is : (n : ℕ) (a b c x y z v : Word) → length a ≡ n → length b ≡ n → length c ≡ n → x ≡ word (length a) (λ i. bit a i && bit b i) → y ≡ word (length a) (λ i. bit a i && bit c i)
    → z ≡ word (length b) (λ i. bit b i && bit c i) → v ≡ word (length x) (λ i. bit x i || bit y i) → word (length v) (λ i. bit v i || bit z i) ≡ fa_majority_word n a b c
fa_majority_is n a b c x y z v p q r e f g h =
    let both : Bool → Bool → Bool = λ s t. s && t in
    let either : Bool → Bool → Bool = λ s t. s || t in
    let first : x ≡ word n (λ i. bit a i && bit b i) = e ∙ each_two both n (bit a) (bit b) a b (own_bits n a p) (own_bits n b q) in
    let second : y ≡ word n (λ i. bit a i && bit c i) = f ∙ each_two both n (bit a) (bit c) a c (own_bits n a p) (own_bits n c r) in
    let third : z ≡ word n (λ i. bit b i && bit c i) = g ∙ each_two both n (bit b) (bit c) b c (own_bits n b q) (own_bits n c r) in
    let two : v ≡ word n (λ i. (bit a i && bit b i) || (bit a i && bit c i)) = h ∙ each_two either n _ _ x y first second in
    each_two either n (λ i. (bit a i && bit b i) || (bit a i && bit c i)) (λ i. bit b i && bit c i) v z two third

-- ---- an answer in the lowest bit

flag_bit : (n : ℕ) (b : Bool) (i : ℕ) → i < n → get_or (slice_set (zeros n) 0 b) i false ≡ (i == 0 && b)
flag_bit n b zero h = get_or-set_same (zeros n) 0 b false (omega (arith, length-word n (λ i. false)))
flag_bit n b (suc i) h =
    let other : suc i ≢ 0 = omega arith in
    let no : (suc i == 0) ≡ false = grind (arith, nat_tests) in
    get_or-set_other (zeros n) 0 (suc i) b false other ∙ bit-word n (λ k. false) (suc i) false h ∙ sym (ap (λ t. t && b) no)

pub flag_set : (n : ℕ) (b : Bool) (z w : Word) → z ≡ zeros n → w ≡ slice_set z 0 b → w ≡ flag_word n b
flag_set n b z w e h =
    let long : length (slice_set (zeros n) 0 b) ≡ n = length-set (zeros n) 0 b ∙ length-word n (λ i. false) in
    h ∙ ap (λ (v : Word). slice_set v 0 b) e
    ∙ same_words (slice_set (zeros n) 0 b) (flag_word n b) (long ∙ sym (length-word n _))
    (λ i l. let inside : i < n = omega arith in flag_bit n b i inside ∙ sym (bit-word n (λ k. k == 0 && b) i false inside))
