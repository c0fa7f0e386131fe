-- The bounds of an operand as completions of it, and what lies between them.
use Rattle.std.specs.Prelude.{ℕ, ◌-◌, ◌<◌, ◌≤◌, ◌≡◌, ◌≢◌, ◌⊎◌, nat_lt, Bool, true, false, not, ◌&&◌, ◌||◌, length, set, if◌then◌else◌, refl}
use Rattle.std.proofs.Common.{arith, sym, ap, ◌∙◌, inl, inr}
use Rattle.std.proofs.lemmas.Bool.Decides.{nat_tests}
use Rattle.std.proofs.lemmas.List.{get_or_past, get_or-set_same, get_or-set_other, length-set}
use Rattle.cif_defs.specs.Completions.{Completes}
use Rattle.cif_defs.specs.Meanings.{alu_operand}
use Rattle.cif_defs.specs.Words.{Word, bit, extended_bit, top, word, xor}
use Rattle.cif_defs.proofs.WordLaws.{bit-word, length-word, le_or_lt, past_word}
use Rattle.cif_defs.proofs.Numbers.{Le, word-same}
use Rattle.cif_defs.proofs.Exact.{ext_in, ext_past, extended_same}
use Rattle.rule_arith.specs.Bounds.{is_upper, sign_start}
use Rattle.rule_arith.proofs.Turns.{xor_cancel}

-- ---- one bit

-- a bit x at its bounds, which differ where it is tainted
abbrev pub at_bound : Bool → Bool → Bool → Bool
at_bound upper x t = if upper then x || t else x && not t

pub at_bound_clear : (s x t : Bool) → t ≡ false → at_bound s x t ≡ x
at_bound_clear true true t h = refl
at_bound_clear true false t h = h
at_bound_clear false true t h = ap not h
at_bound_clear false false t h = refl

pub at_bound_tainted : (s x t : Bool) → t ≡ true → at_bound s x t ≡ s
at_bound_tainted true true t h = refl
at_bound_tainted true false t h = h
at_bound_tainted false true t h = ap not h
at_bound_tainted false false t h = refl

flip_bound : (s inv x t : Bool) → xor (at_bound (xor s inv) x t) inv ≡ at_bound s (xor x inv) t
flip_bound true true true true = refl
flip_bound true true true false = refl
flip_bound true true false true = refl
flip_bound true true false false = refl
flip_bound true false true true = refl
flip_bound true false true false = refl
flip_bound true false false true = refl
flip_bound true false false false = refl
flip_bound false true true true = refl
flip_bound false true true false = refl
flip_bound false true false true = refl
flip_bound false true false false = refl
flip_bound false false true true = refl
flip_bound false false true false = refl
flip_bound false false false true = refl
flip_bound false false false false = refl

flip_side : (b low high inv : Bool) → (if b then xor low inv else xor high inv) ≡ xor (if b then low else high) inv
flip_side true low high inv = refl
flip_side false low high inv = refl

pub below_side : (k i : ℕ) (low high : Bool) → i < k → is_upper k low high i ≡ low
below_side k i low high h = let t : nat_lt i k ≡ true = grind (arith, nat_tests) in ap (λ b. if b then low else high) t

pub above_side : (k i : ℕ) (low high : Bool) → k ≤ i → is_upper k low high i ≡ high
above_side k i low high h = let t : nat_lt i k ≡ false = grind (arith, nat_tests) in ap (λ b. if b then low else high) t

-- ---- the completion of v whose tainted bits are low below place k, and high from there on

abbrev pub limit : Bool → Bool → ℕ → Word → Word → Word
limit low high k v t = word (length v) (λ j. at_bound (is_upper k low high j) (bit v j) (bit t j))

pub bit-limit : (low high : Bool) (k : ℕ) (v t : Word) (j : ℕ) → length t ≡ length v → bit (limit low high k v t) j ≡ at_bound (is_upper k low high j) (bit v j) (bit t j)
bit-limit low high k v t j e = elim (le_or_lt j (length v)) [
  | inl h ↦ bit-word (length v) (λ j. at_bound (is_upper k low high j) (bit v j) (bit t j)) j false h
  | inr h ↦ past_word (length v) (λ j. at_bound (is_upper k low high j) (bit v j) (bit t j)) j false h
      ∙ sym (at_bound_clear (is_upper k low high j) (bit v j) (bit t j) (get_or_past t j false (omega arith)) ∙ get_or_past v j false h)
]

pub limit_completes : (low high : Bool) (k : ℕ) (v t : Word) → length t ≡ length v → Completes v t (limit low high k v t)
limit_completes low high k v t e = record {
  as_long = length-word (length v) _;
  same = λ j h. bit-limit low high k v t j e ∙ at_bound_clear (is_upper k low high j) (bit v j) (bit t j) h;
}

-- ---- where an extended word shows its sign bit

record IsSigned (n : ℕ) (signed : Bool) (m : ℕ) : Type 0 where
  sign : signed ≡ true
  shorter : m < n
  start : sign_start n signed m ≡ m - 1

start_cases : (n : ℕ) (signed : Bool) (m : ℕ) → (sign_start n signed m ≡ n × (n ≤ m ⊎ signed ≡ false)) ⊎ IsSigned n signed m
start_cases n false m = inl (refl, inr refl)
start_cases n true m = elim (le_or_lt m n) [
  | inl h ↦ (let t : nat_lt m n ≡ true = grind (arith, nat_tests) in inr (record { sign = refl; shorter = h; start = ap (λ b. if b then m - 1 else n) t }))
  | inr h ↦ (let t : nat_lt m n ≡ false = grind (arith, nat_tests) in inl (ap (λ b. if b then m - 1 else n) t, inl h))
]

-- from its start on each bit is the sign bit
pub sign_shown : (n : ℕ) (signed : Bool) (m i : ℕ) (w : Word) → sign_start n signed m ≤ i → i < n → 1 ≤ m → length w ≡ m → extended_bit signed i w ≡ bit w (m - 1)
sign_shown n signed m i w h l some e = elim (start_cases n signed m) [
  | inl c ↦ absurd (let s : sign_start n signed m ≡ n = c.0 in omega arith)
  | inr c ↦ (let s : sign_start n signed m ≡ m - 1 = c.start in
      elim (le_or_lt i m) [
        | inl x ↦ (let same : i ≡ m - 1 = omega arith in ext_in signed i m w x e ∙ ap (bit w) same)
        | inr x ↦ ext_past signed i m w x e ∙ ap (λ b. b && top w) c.sign ∙ ap (λ k. bit w (k - 1)) e
      ])
]

-- below it a place shows its own bit, or 0
below_start : (n : ℕ) (signed : Bool) (m i : ℕ) → i < sign_start n signed m → i < n → 1 ≤ m → (i < m) ⊎ ((m ≤ i) × (signed ≡ false))
below_start n signed m i h l some = elim (start_cases n signed m) [
  | inl c ↦ elim (le_or_lt i m) [
    | inl x ↦ inl x
    | inr x ↦ elim c.1 [ inl y ↦ absurd (omega arith) | inr y ↦ inr (x, y) ]
  ]
  | inr c ↦ (let s : sign_start n signed m ≡ m - 1 = c.start in inl (omega arith))
]

no_sign : (signed : Bool) (i m : ℕ) (w : Word) → m ≤ i → signed ≡ false → length w ≡ m → extended_bit signed i w ≡ false
no_sign signed i m w h s e = ext_past signed i m w h e ∙ ap (λ b. b && top w) s

-- ---- a bit of an extended bound

side_bit : (k j : ℕ) (low high inv : Bool) (v t : Word) (s : Bool) → length t ≡ length v → is_upper k low high j ≡ s
    → xor (bit (limit (xor low inv) (xor high inv) k v t) j) inv ≡ at_bound s (xor (bit v j) inv) (bit t j)
side_bit k j low high inv v t s e h =
    ap (λ b. xor b inv) (bit-limit (xor low inv) (xor high inv) k v t j e)
    ∙ ap (λ b. xor (at_bound b (bit v j) (bit t j)) inv) (flip_side (nat_lt j k) low high inv ∙ ap (λ b. xor b inv) h)
    ∙ flip_bound s inv (bit v j) (bit t j)

-- what is shown at place i, of the bounds and of v and t alike
shown_alike : (k i j : ℕ) (signed low high inv : Bool) (v t : Word) (s : Bool) → length t ≡ length v → is_upper k low high j ≡ s
    → ((w : Word) → length w ≡ length v → extended_bit signed i w ≡ bit w j)
    → xor (extended_bit signed i (limit (xor low inv) (xor high inv) k v t)) inv ≡ at_bound s (xor (extended_bit signed i v) inv) (extended_bit signed i t)
shown_alike k i j signed low high inv v t s e h shows =
    ap (λ b. xor b inv) (shows (limit (xor low inv) (xor high inv) k v t) (length-word (length v) _))
    ∙ side_bit k j low high inv v t s e h
    ∙ sym (ap (λ b. at_bound s (xor b inv) (extended_bit signed i t)) (shows v refl) ∙ ap (λ b. at_bound s (xor (bit v j) inv) b) (shows t e))

pub extended_limit : (n : ℕ) (signed low high inv : Bool) (v t : Word) (i : ℕ) → length t ≡ length v → 1 ≤ length v → i < n
    → xor (extended_bit signed i (limit (xor low inv) (xor high inv) (sign_start n signed (length v)) v t)) inv
    ≡ at_bound (is_upper (sign_start n signed (length v)) low high i) (xor (extended_bit signed i v) inv) (extended_bit signed i t)
extended_limit n signed low high inv v t i e some l =
    let k : ℕ = sign_start n signed (length v) in
    let u : Word = limit (xor low inv) (xor high inv) k v t in
    elim (le_or_lt i k) [
      | inl h ↦ elim (below_start n signed (length v) i h l some) [
        | inl x ↦ shown_alike k i i signed low high inv v t (is_upper k low high i) e refl (λ w q. ext_in signed i (length v) w x q)
        | inr x ↦ ap (λ b. xor b inv) (no_sign signed i (length v) u x.0 x.1 (length-word (length v) _))
            ∙ sym (at_bound_clear (is_upper k low high i) (xor (extended_bit signed i v) inv) (extended_bit signed i t) (no_sign signed i (length v) t x.0 x.1 e)
            ∙ ap (λ b. xor b inv) (no_sign signed i (length v) v x.0 x.1 refl))
      ]
      | inr h ↦ shown_alike k i (length v - 1) signed low high inv v t (is_upper k low high i) e
          (elim (start_cases n signed (length v)) [
            | inl c ↦ absurd (let s : sign_start n signed (length v) ≡ n = c.0 in omega arith)
            | inr c ↦ (let s : sign_start n signed (length v) ≡ length v - 1 = c.start in
                above_side k (length v - 1) low high (omega arith) ∙ sym (above_side k i low high h))
          ])
          (λ w q. sign_shown n signed (length v) i w h l some q)
    ]

-- ---- what lies between the bounds

-- the bounds of an operand as it is extended, and complemented where inv is 1
abbrev pub bound_word : ℕ → Bool → Bool → Word → Word → Bool → Bool → Word
bound_word n signed inv v t low high = word n (λ i. at_bound (is_upper (sign_start n signed (length v)) low high i) (xor (extended_bit signed i v) inv) (extended_bit signed i t))

pub limit_bounds : (n : ℕ) (signed inv : Bool) (v t : Word) (low high : Bool) → length t ≡ length v → 1 ≤ length v
    → alu_operand n signed inv (limit (xor low inv) (xor high inv) (sign_start n signed (length v)) v t) ≡ bound_word n signed inv v t low high
limit_bounds n signed inv v t low high e some = word-same n _ _ (λ i l. extended_limit n signed low high inv v t i e some l)

pub least : (x t y : Bool) → (t ≡ false → y ≡ x) → Le (at_bound false x t) y
least true false y h = λ e. h refl
least true true y h = λ e. absurd (cc)
least false t y h = λ e. absurd (cc)

pub greatest : (x t y : Bool) → (t ≡ false → y ≡ x) → Le y (at_bound true x t)
greatest true t y h = λ e. refl
greatest false true y h = λ e. refl
greatest false false y h = λ e. sym (h refl) ∙ e

-- a bit that is s where it is tainted
at_side : (s x t y : Bool) → (t ≡ false → y ≡ x) → y ≡ s → at_bound s x t ≡ y
at_side s x true y h e = at_bound_tainted s x true refl ∙ sym e
at_side s x false y h e = at_bound_clear s x false refl ∙ sym (h refl)

pub record LiesBetween (n : ℕ) (signed inv : Bool) (v t u : Word) (high : Bool) (i : ℕ) : Type 0 where
  pub above : Le (at_bound (is_upper (sign_start n signed (length v)) false high i) (xor (extended_bit signed i v) inv) (extended_bit signed i t)) (xor (extended_bit signed i u) inv)
  pub below : Le (xor (extended_bit signed i u) inv) (at_bound (is_upper (sign_start n signed (length v)) true high i) (xor (extended_bit signed i v) inv) (extended_bit signed i t))
  pub same : (nat_lt i (sign_start n signed (length v)) && extended_bit signed i t) ≡ false → (low : Bool)
      → at_bound (is_upper (sign_start n signed (length v)) low high i) (xor (extended_bit signed i v) inv) (extended_bit signed i t) ≡ xor (extended_bit signed i u) inv

same_le : (x y : Bool) → x ≡ y → Le x y
same_le x y e = λ h. sym e ∙ h

-- the sign of a completion, as the bounds take it
abbrev pub sign_of : Bool → Word → Word → Bool
sign_of inv v u = xor (bit u (length v - 1)) inv

lies_below : (n : ℕ) (signed inv : Bool) (v t u : Word) (i : ℕ) → length t ≡ length v → Completes v t u → i < sign_start n signed (length v) → LiesBetween n signed inv v t u (sign_of inv v u) i
lies_below n signed inv v t u i e c h =
    let k : ℕ = sign_start n signed (length v) in
    let x : Bool = xor (extended_bit signed i v) inv in
    let ti : Bool = extended_bit signed i t in
    let y : Bool = xor (extended_bit signed i u) inv in
    let agree : ti ≡ false → y ≡ x = λ q. ap (λ b. xor b inv) (extended_same signed i v t u e c q) in
    let test : nat_lt i k ≡ true = grind (arith, nat_tests) in
    record {
      above = λ q. least x ti y agree (sym (ap (λ b. at_bound b x ti) (below_side k i false (sign_of inv v u) h)) ∙ q);
      below = λ q. ap (λ b. at_bound b x ti) (below_side k i true (sign_of inv v u) h) ∙ greatest x ti y agree q;
      same = λ q low. let clear : ti ≡ false = sym (ap (λ b. b && ti) test) ∙ q in at_bound_clear (is_upper k low (sign_of inv v u) i) x ti clear ∙ sym (agree clear);
    }

lies_above : (n : ℕ) (signed inv : Bool) (v t u : Word) (i : ℕ) → length t ≡ length v → 1 ≤ length v → Completes v t u → i < n → sign_start n signed (length v) ≤ i → LiesBetween n signed inv v t u (sign_of inv v u) i
lies_above n signed inv v t u i e some c l h =
    let k : ℕ = sign_start n signed (length v) in
    let x : Bool = xor (extended_bit signed i v) inv in
    let ti : Bool = extended_bit signed i t in
    let y : Bool = xor (extended_bit signed i u) inv in
    let agree : ti ≡ false → y ≡ x = λ q. ap (λ b. xor b inv) (extended_same signed i v t u e c q) in
    let sign : y ≡ sign_of inv v u = ap (λ b. xor b inv) (sign_shown n signed (length v) i u h l some c.as_long) in
    let one : (low : Bool) → at_bound (is_upper k low (sign_of inv v u) i) x ti ≡ y =
    λ low. ap (λ b. at_bound b x ti) (above_side k i low (sign_of inv v u) h) ∙ at_side (sign_of inv v u) x ti y agree sign in
    record { above = same_le _ _ (one false); below = same_le _ _ (sym (one true)); same = λ q low. one low }

pub lies_between : (n : ℕ) (signed inv : Bool) (v t u : Word) (i : ℕ) → length t ≡ length v → 1 ≤ length v → Completes v t u → i < n → LiesBetween n signed inv v t u (sign_of inv v u) i
lies_between n signed inv v t u i e some c l = elim (le_or_lt i (sign_start n signed (length v))) [
  | inl h ↦ lies_below n signed inv v t u i e c h
  | inr h ↦ lies_above n signed inv v t u i e some c l h
]

-- ---- a tainted bit that stands at one place

pub set_completes : (v t : Word) (i : ℕ) (d : Bool) → bit t i ≡ true → Completes v t (set v i d)
set_completes v t i d h = record {
  as_long = length-set v i d;
  same = λ k q. get_or-set_other v i k d false (λ (r : k ≡ i). let x : bit t k ≡ bit t i = ap (λ j. bit t j) r in absurd (cc));
}

pub record StandsAlone (signed inv : Bool) (v t : Word) (i : ℕ) : Type 0 where
  pub one : Completes v t (set v i true)
  pub zero : Completes v t (set v i false)
  pub differ : xor (extended_bit signed i (set v i true)) inv ≢ xor (extended_bit signed i (set v i false)) inv
  pub alike : (k : ℕ) → k < i → extended_bit signed k (set v i true) ≡ extended_bit signed k (set v i false)

and_parts : (a b : Bool) → (a && b) ≡ true → (a ≡ true) × (b ≡ true)
and_parts true b h = (refl, h)
and_parts false b h = absurd (cc)

alone_at : (signed inv : Bool) (v t : Word) (i : ℕ) → i < length v → bit t i ≡ true → StandsAlone signed inv v t i
alone_at signed inv v t i l h = record {
  one = set_completes v t i true h;
  zero = set_completes v t i false h;
  differ = λ q. (let e : true ≡ false =
      sym (get_or-set_same v i true false l) ∙ sym (ext_in signed i (length v) (set v i true) l (length-set v i true)) ∙ xor_cancel _ _ inv q
      ∙ ext_in signed i (length v) (set v i false) l (length-set v i false) ∙ get_or-set_same v i false false l in absurd (cc));
  alike = λ k m. ext_in signed k (length v) (set v i true) (omega arith) (length-set v i true)
      ∙ get_or-set_other v i k true false (λ (r : k ≡ i). absurd (omega arith)) ∙ sym (get_or-set_other v i k false false (λ (r : k ≡ i). absurd (omega arith)))
      ∙ sym (ext_in signed k (length v) (set v i false) (omega arith) (length-set v i false));
}

pub stands_alone : (n : ℕ) (signed inv : Bool) (v t : Word) (i : ℕ) → length t ≡ length v → 1 ≤ length v → i < n → (nat_lt i (sign_start n signed (length v)) && extended_bit signed i t) ≡ true → StandsAlone signed inv v t i
stands_alone n signed inv v t i e some l h =
    let k : ℕ = sign_start n signed (length v) in
    let p = and_parts (nat_lt i k) (extended_bit signed i t) h in
    let before : i < k = (let q : nat_lt i k ≡ true = p.0 in grind (arith, nat_tests)) in
    elim (below_start n signed (length v) i before l some) [
      | inl x ↦ alone_at signed inv v t i x (sym (ext_in signed i (length v) t x e) ∙ p.1)
      | inr x ↦ absurd (let q : extended_bit signed i t ≡ false = no_sign signed i (length v) t x.0 x.1 e in let r : extended_bit signed i t ≡ true = p.1 in cc)
    ]
