-- What formulas stand for, bit by bit.
use Rattle.std.specs.Prelude.{ℕ, ◌-◌, ◌<◌, ◌≤◌, ◌≡◌, ◌⊎◌, nat_le, min, Bool, true, false, not, ◌&&◌, ◌||◌, List, ◌++◌, length, get_or, refl, if◌then◌else◌}
use Rattle.std.specs.List.{range_with_len}
use Rattle.std.proofs.Common.{arith, sym, ap, ◌∙◌, inl, inr}
use Rattle.std.proofs.lemmas.Bool.Decides.{nat_tests}
use Rattle.std.proofs.lemmas.List.{length-map, length-append, get_or-map, get_or_append_left, get_or-append_right, get_or_past, get_or_default}
use Rattle.std.proofs.lemmas.List.FromFn.{fill_by_all, length-range_with_len, get_or-range_with_len}
use Rattle.cif_defs.specs.Words.{Word, bit, word, extend, extended_bit, top, xor, zeros}
use Rattle.cif_defs.proofs.WordLaws.{bit-word, length-word, le_or_lt}
use Rattle.cif_defs.proofs.Numbers.{word-same}
use Rattle.cif_term.specs.declared.ops.Op1.TheVariants.{Not}
use Rattle.cif_term.specs.declared.ops.Op2.TheVariants.{And, Or, Xor}
use Rattle.cif_term.specs.Formulas.{Formula, Const, Pick, Join, One, Two, Choose, picked, value_of}
use Rattle.cif_term.specs.Extended.{extended, shown_places}

-- ---- extensions

place_shown : (n m i : ℕ) → i < n → get_or (shown_places n m) i 0 ≡ min i (m - 1)
place_shown n m i h = get_or-map (λ k. min k (m - 1)) (range_with_len 0 n) i 0 0 (omega (arith, length-range_with_len 0 n)) ∙ ap (λ k. min k (m - 1)) (let e : get_or (range_with_len 0 n) i 0 ≡ i = omega (arith, get_or-range_with_len 0 n i 0 h) in e)

length-shown : (n m : ℕ) → length (shown_places n m) ≡ n
length-shown n m = length-map (range_with_len 0 n) (λ i. min i (m - 1)) ∙ length-range_with_len 0 n

picked-shown : (n m : ℕ) (w : Word) → picked (shown_places n m) w ≡ word n (λ i. bit w (min i (m - 1)))
picked-shown n m w = fill_by_all (λ i. bit w (min i (m - 1))) (picked (shown_places n m) w) n false
    (length-map (shown_places n m) (λ i. bit w i) ∙ length-shown n m)
    (λ i h. get_or-map (λ k. bit w k) (shown_places n m) i 0 false (omega (arith, length-shown n m)) ∙ ap (bit w) (place_shown n m i h))

-- the highest bit stands for those past the end
signed_bit : (w : Word) (m i : ℕ) → length w ≡ m → 1 ≤ m → (i < m) ⊎ (m ≤ i) → bit w (min i (m - 1)) ≡ extended_bit true i w
signed_bit w m i e h (inl inside) =
    let same : min i (m - 1) ≡ i = omega arith in
    ap (bit w) same ∙ get_or_default w i false (top w) (omega arith)
signed_bit w m i e h (inr above) =
    let same : min i (m - 1) ≡ length w - 1 = omega arith in
    ap (bit w) same ∙ sym (get_or_past w i (top w) (omega arith))

unsigned_bit : (w : Word) (n m i : ℕ) → n ≤ m → i < n → bit w (min i (m - 1)) ≡ extended_bit false i w
unsigned_bit w n m i e h = let same : min i (m - 1) ≡ i = omega arith in ap (bit w) same

filled_bit : (w : Word) (n m i : ℕ) → length w ≡ m → i < n → (i < m) ⊎ (m ≤ i) → bit (w ++ zeros (n - m)) i ≡ extended_bit false i w
filled_bit w n m i e h (inl inside) = get_or_append_left w (zeros (n - m)) false i (omega arith)
filled_bit w n m i e h (inr above) =
    get_or-append_right w (zeros (n - m)) m i false e above
    ∙ bit-word (n - m) (λ k. false) (i - m) false (omega arith) ∙ sym (get_or_past w i false (omega arith))

value-extended_by : (n m : ℕ) (signed b : Bool) (f : Formula) (vs ts named : List Word) → (signed || nat_le n m) ≡ b → length (value_of f vs ts named) ≡ m → 1 ≤ m
    → value_of (if b then Pick f (shown_places n m) else Join f (Const (zeros (n - m)))) vs ts named ≡ extend n signed (value_of f vs ts named)
value-extended_by n m true true f vs ts named e l h =
    picked-shown n m (value_of f vs ts named) ∙ word-same n _ _ (λ i k. signed_bit (value_of f vs ts named) m i l h (le_or_lt i m))
value-extended_by n m false true f vs ts named e l h =
    let few : n ≤ m = grind (arith, nat_tests) in
    picked-shown n m (value_of f vs ts named) ∙ word-same n _ _ (λ i k. unsigned_bit (value_of f vs ts named) n m i few k)
value-extended_by n m true false f vs ts named e l h = absurd (cc)
value-extended_by n m false false f vs ts named e l h =
    let more : m < n = grind (arith, nat_tests) in
    let w : Word = value_of f vs ts named in
    fill_by_all (λ i. extended_bit false i w) (w ++ zeros (n - m)) n false
    (omega (arith, length-append w (zeros (n - m)), length-word (n - m) (λ k. false), l))
    (λ i k. filled_bit w n m i l k (le_or_lt i m))

-- an extension stands for the extended word
pub value-extended : (n m : ℕ) (signed : Bool) (f : Formula) (vs ts named : List Word) → length (value_of f vs ts named) ≡ m → 1 ≤ m
    → value_of (extended n signed m f) vs ts named ≡ extend n signed (value_of f vs ts named)
value-extended n m signed f vs ts named l h = value-extended_by n m signed (signed || nat_le n m) f vs ts named refl l h

-- ---- operations on words that are known place by place

pub value-not : (n : ℕ) (p : ℕ → Bool) (f : Formula) (vs ts named : List Word) → value_of f vs ts named ≡ word n p → value_of (One Not f) vs ts named ≡ word n (λ i. not (p i))
value-not n p f vs ts named e = ap (λ (w : Word). word (length w) (λ i. not (bit w i))) e ∙ ap (λ k. word k (λ i. not (bit (word n p) i))) (length-word n p)
    ∙ word-same n _ _ (λ i h. ap not (bit-word n p i false h))

joined_words : (op : Bool → Bool → Bool) (n : ℕ) (p q : ℕ → Bool) (u v : Word) → u ≡ word n p → v ≡ word n q → word (length u) (λ i. op (bit u i) (bit v i)) ≡ word n (λ i. op (p i) (q i))
joined_words op n p q u v a b =
    ap (λ (w : Word). word (length w) (λ i. op (bit w i) (bit v i))) a ∙ ap (λ (w : Word). word (length (word n p)) (λ i. op (bit (word n p) i) (bit w i))) b
    ∙ ap (λ k. word k (λ i. op (bit (word n p) i) (bit (word n q) i))) (length-word n p)
    ∙ word-same n _ _ (λ i h. ap (λ x. op x (bit (word n q) i)) (bit-word n p i false h) ∙ ap (op (p i)) (bit-word n q i false h))

pub value-and : (n : ℕ) (p q : ℕ → Bool) (f g : Formula) (vs ts named : List Word) → value_of f vs ts named ≡ word n p → value_of g vs ts named ≡ word n q → value_of (Two And f g) vs ts named ≡ word n (λ i. p i && q i)
value-and n p q f g vs ts named a b = joined_words (λ x y. x && y) n p q _ _ a b

pub value-or : (n : ℕ) (p q : ℕ → Bool) (f g : Formula) (vs ts named : List Word) → value_of f vs ts named ≡ word n p → value_of g vs ts named ≡ word n q → value_of (Two Or f g) vs ts named ≡ word n (λ i. p i || q i)
value-or n p q f g vs ts named a b = joined_words (λ x y. x || y) n p q _ _ a b

pub value-xor : (n : ℕ) (p q : ℕ → Bool) (f g : Formula) (vs ts named : List Word) → value_of f vs ts named ≡ word n p → value_of g vs ts named ≡ word n q → value_of (Two Xor f g) vs ts named ≡ word n (λ i. xor (p i) (q i))
value-xor n p q f g vs ts named a b = joined_words xor n p q _ _ a b

chosen : (n : ℕ) (p q : ℕ → Bool) (b : Bool) → (if b then word n q else word n p) ≡ word n (λ i. if b then q i else p i)
chosen n p q true = refl
chosen n p q false = refl

pub value-choose : (n : ℕ) (b : Bool) (p q : ℕ → Bool) (s f g : Formula) (vs ts named : List Word) → bit (value_of s vs ts named) 0 ≡ b → value_of f vs ts named ≡ word n p → value_of g vs ts named ≡ word n q
    → value_of (Choose s f g) vs ts named ≡ word n (λ i. if b then q i else p i)
value-choose n b p q s f g vs ts named e x y =
    ap (λ c. if c then value_of g vs ts named else value_of f vs ts named) e ∙ ap (λ (w : Word). if b then w else value_of f vs ts named) y
    ∙ ap (λ (w : Word). if b then word n q else w) x ∙ chosen n p q b
