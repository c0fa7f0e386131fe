-- Names that end in digits: what stands before the digits, and the digits, are told by the name.
use Rattle.std.specs.Prelude.{ℕ, ◌+◌, ◌%◌, ◌^◌, ◌<◌, ◌≡◌, nat_eq, nat_lt, Bool, true, false, List, [], ◌∷◌, ◌++◌, drop, length, refl, codes}
use Rattle.std.specs.List.{list_all, list_any, starts_with}
use Rattle.std.specs.Char.{is_ascii_digit}
use Rattle.std.specs.Fmt.{decimal}
use Rattle.std.specs.Str.Parse.{digits_value}
use Rattle.std.proofs.Common.{arith, sym, ap, ◌∙◌, subst, inl, inr}
use Rattle.std.proofs.lemmas.Bool.{and_from, le-leb, lt-ltb, or_left, or_right}
use Rattle.std.proofs.lemmas.Bool.Decides.{Decides-eqb}
use Rattle.std.proofs.lemmas.Fmt.{decimal_by_steps_wide, decimal_is_IsNumeral_wide}
use Rattle.std.proofs.lemmas.List.{append_assoc, append_cancel_right}
use Rattle.std.proofs.lemmas.List.Prefix.{front_rest}
use Rattle.std.proofs.lemmas.Slice.Eq.{starts_is}
use Rattle.cif_defs.specs.declared.raw_module.Raw.{Raw}
use Rattle.cif_defs.specs.declared.raw_module.RawCell.{RawCell}
use Rattle.cif_nets.proofs.Places.{Has}
use Rattle.cif_augment.specs.Names.{taint_name, flag_name, stored_name, numbered_name}
use Rattle.cif_augment.specs.Refusals.{are_digits, is_numbered, is_numbered_for}

-- ---- digits

abbrev pub AreDigits : List ℕ → Type 0
AreDigits [] = Unit {0}
AreDigits (x ∷ xs) = (is_ascii_digit x ≡ true) × AreDigits xs

digits_append : (xs ys : List ℕ) → AreDigits xs → AreDigits ys → AreDigits (xs ++ ys)
digits_append [] ys h k = k
digits_append (x ∷ xs) ys h k = (h.0, digits_append xs ys h.1 k)

digit : (n : ℕ) → n < 10 → is_ascii_digit (48 + n) ≡ true
digit n h = and_from _ _ (le-leb 48 (48 + n) (omega arith)) (le-leb (48 + n) 57 (omega arith))

decimal_digits : (n : ℕ) → n < 10 ^ 64 → AreDigits (decimal n)
decimal_digits n h = decimal_by_steps_wide (λ m ds. AreDigits ds) (λ m l. (digit m l, tt)) (λ m ds l k. digits_append ds _ k (digit (m % 10) (omega arith), tt)) n h

decimal_some : (n : ℕ) → n < 10 ^ 64 → 0 < length (decimal n)
decimal_some n h = (decimal_is_IsNumeral_wide n h).0.0

decimal_same : (m n : ℕ) → m < 10 ^ 64 → n < 10 ^ 64 → decimal m ≡ decimal n → m ≡ n
decimal_same m n h k e = sym (decimal_is_IsNumeral_wide m h).1 ∙ ap (digits_value 10) e ∙ (decimal_is_IsNumeral_wide n k).1

-- ---- what stands before the digits at the end

-- a byte between digits is one
inner_digit : (xs ys : List ℕ) (x : ℕ) → AreDigits (xs ++ x ∷ ys) → is_ascii_digit x ≡ true
inner_digit [] ys x h = h.0
inner_digit (z ∷ zs) ys x h = inner_digit zs ys x h.1

no_inner : (ds xs ys : List ℕ) (x : ℕ) → is_ascii_digit x ≡ false → AreDigits ds → ds ≡ xs ++ x ∷ ys → ⊥
no_inner ds xs ys x other h e = (let yes : is_ascii_digit x ≡ true = inner_digit xs ys x (subst AreDigits e h) in absurd (cc))

tails_same : (x y : ℕ) (xs ys : List ℕ) → x ∷ xs ≡ y ∷ ys → xs ≡ ys
tails_same x y xs ys e = cc

heads_same : (x y : ℕ) (xs ys : List ℕ) → x ∷ xs ≡ y ∷ ys → x ≡ y
heads_same x y xs ys e = cc

-- what stands before the last byte that is no digit, and after it
ends_same : (xs ys ds es : List ℕ) (x : ℕ) → is_ascii_digit x ≡ false → AreDigits ds → AreDigits es → xs ++ x ∷ ds ≡ ys ++ x ∷ es → (xs ≡ ys) × (ds ≡ es)
ends_same [] [] ds es x other h k e = (refl, tails_same x x ds es e)
ends_same [] (y ∷ ys) ds es x other h k e = absurd (no_inner ds ys es x other h (tails_same x y ds (ys ++ x ∷ es) e))
ends_same (z ∷ xs) [] ds es x other h k e = absurd (no_inner es xs ds x other k (sym (tails_same z x (xs ++ x ∷ ds) es e)))
ends_same (z ∷ xs) (y ∷ ys) ds es x other h k e =
    let rest = ends_same xs ys ds es x other h k (tails_same z y (xs ++ x ∷ ds) (ys ++ x ∷ es) e) in
    let first : z ≡ y = heads_same z y (xs ++ x ∷ ds) (ys ++ x ∷ es) e in
    let front : xs ≡ ys = rest.0 in
    (cc, rest.1)

-- a name that ends in a byte that is no digit ends in no digits
ends_apart : (xs ys ds : List ℕ) (x : ℕ) → is_ascii_digit x ≡ false → AreDigits ds → 0 < length ds → ys ++ x ∷ [] ≡ xs ++ ds → ⊥
ends_apart [] ys ds x other h some e = no_inner ds ys [] x other h (sym e)
ends_apart (z ∷ xs) [] [] x other h some e = absurd (omega arith)
ends_apart (z ∷ []) [] (d ∷ ds) x other h some e = (let nothing : [] ≡ d ∷ ds = tails_same x z [] (d ∷ ds) e in absurd (cc))
ends_apart (z ∷ y ∷ xs) [] (d ∷ ds) x other h some e = (let nothing : [] ≡ y ∷ (xs ++ d ∷ ds) = tails_same x z [] (y ∷ (xs ++ d ∷ ds)) e in absurd (cc))
ends_apart (z ∷ xs) (y ∷ ys) ds x other h some e = ends_apart xs ys ds x other h some (tails_same y z (ys ++ x ∷ []) (xs ++ ds) e)

-- ---- names of further cells

number_of_name : (name : List ℕ) (i : ℕ) → numbered_name name i ≡ (name ++ 95 ∷ 95 ∷ []) ++ 116 ∷ decimal i
number_of_name name i = append_assoc name (codes "__t") (decimal i) ∙ sym (append_assoc name (95 ∷ 95 ∷ []) (116 ∷ decimal i))

pub numbered_same : (c d : List ℕ) (i j : ℕ) → i < 10 ^ 64 → j < 10 ^ 64 → numbered_name c i ≡ numbered_name d j → (c ≡ d) × (i ≡ j)
numbered_same c d i j h k e =
    let both = ends_same (c ++ 95 ∷ 95 ∷ []) (d ++ 95 ∷ 95 ∷ []) (decimal i) (decimal j) 116 refl (decimal_digits i h) (decimal_digits j k) (sym (number_of_name c i) ∙ e ∙ number_of_name d j) in
    (append_cancel_right c d (95 ∷ 95 ∷ []) both.0, decimal_same i j h k both.1)

-- no name that ends in another byte is such a name
numbered_apart : (front d : List ℕ) (i x : ℕ) → i < 10 ^ 64 → is_ascii_digit x ≡ false → front ++ x ∷ [] ≡ numbered_name d i → ⊥
numbered_apart front d i x h other e = ends_apart (d ++ codes "__t") front (decimal i) x other (decimal_digits i h) (decimal_some i h) e

pub numbered_no_taint : (c d : List ℕ) (i : ℕ) → i < 10 ^ 64 → taint_name c ≡ numbered_name d i → ⊥
numbered_no_taint c d i h e = numbered_apart (c ++ 95 ∷ 95 ∷ []) d i 116 h refl (append_assoc c (95 ∷ 95 ∷ []) (116 ∷ []) ∙ e)

pub numbered_no_flag : (c d : List ℕ) (i : ℕ) → i < 10 ^ 64 → flag_name c ≡ numbered_name d i → ⊥
numbered_no_flag c d i h e = numbered_apart (c ++ codes "__fla") d i 103 h refl (append_assoc c (codes "__fla") (103 ∷ []) ∙ e)

pub numbered_no_stored : (c d : List ℕ) (i : ℕ) → i < 10 ^ 64 → stored_name c ≡ numbered_name d i → ⊥
numbered_no_stored c d i h e = numbered_apart (c ++ 95 ∷ 95 ∷ []) d i 118 h refl (append_assoc c (95 ∷ 95 ∷ []) (118 ∷ []) ∙ e)

all_digits : (ds : List ℕ) → AreDigits ds → list_all is_ascii_digit ds ≡ true
all_digits [] h = refl
all_digits (d ∷ ds) h = and_from (is_ascii_digit d) (list_all is_ascii_digit ds) h.0 (all_digits ds h.1)

numbered_for : (c : RawCell) (i : ℕ) → i < 10 ^ 64 → is_numbered_for (numbered_name c.name i) c ≡ true
numbered_for c i h =
    let rest : drop (length (taint_name c.name)) (numbered_name c.name i) ≡ decimal i = front_rest (numbered_name c.name i) (taint_name c.name) (decimal i) refl in
    let digits : are_digits (decimal i) ≡ true = and_from (nat_lt 0 (length (decimal i))) (list_all is_ascii_digit (decimal i)) (lt-ltb 0 (length (decimal i)) (decimal_some i h)) (all_digits (decimal i) (decimal_digits i h)) in
    and_from (starts_with nat_eq (numbered_name c.name i) (taint_name c.name)) (are_digits (drop (length (taint_name c.name)) (numbered_name c.name i)))
    ((starts_is Decides-eqb (numbered_name c.name i) (taint_name c.name) _ refl).1 (decimal i) refl)
    (ap are_digits rest ∙ digits)

pub any_passes : {A : Type 0} (test : A → Bool) (xs : List A) (x : A) → Has xs x → test x ≡ true → list_any test xs ≡ true
any_passes test [] x h e = absurd h
any_passes test (y ∷ ys) x (inl f) e = or_left (test y) (list_any test ys) (ap test f ∙ e)
any_passes test (y ∷ ys) x (inr h) e = or_right (test y) (list_any test ys) (any_passes test ys x h e)

pub numbered : (raw : Raw) (c : RawCell) (i : ℕ) → Has raw.cells c → i < 10 ^ 64 → is_numbered raw (numbered_name c.name i) ≡ true
numbered raw c i has h = any_passes (is_numbered_for (numbered_name c.name i)) raw.cells c has (numbered_for c i h)
