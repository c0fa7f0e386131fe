-- Names that are wanted for further cells: the name of a cell, then `__t`, then all digits that the name ends in.
use Rattle.std.specs.Prelude.{ℕ, ◌+◌, ◌-◌, ◌<◌, ◌≤◌, nat_eq, nat_lt, ◌≡◌, ◌≢◌, Bool, true, false, ◌&&◌, ◌||◌, List, [], ◌∷◌, ◌++◌, map, take, drop, length, get_or, codes, bytes_eq, Option, Some, None, refl, ◌⊎◌}
use Rattle.std.specs.Option.{MatchOption, IfSome, IfNone}
use denote.Ref.{Bor}
use Rattle.std.specs.Char.{is_ascii_digit}
use Rattle.std.specs.List.{list_any, list_all, starts_with}
use Rattle.std.proofs.Common.{arith, sym, ap, ◌∙◌, append_assoc, inl, inr}
use Rattle.std.proofs.lemmas.Bool.{false≢true, lt-ltb}
use Rattle.std.proofs.lemmas.Bool.Decides.{Decides-eqb}
use Rattle.std.proofs.lemmas.List.{append_cancel_right, get_or-append_right, get_or-drop, get_or_default, length-append, length-drop, length-take-le, take-append-drop, take_at}
use Rattle.std.proofs.lemmas.List.Sums.{AllPass-from_list_all, list_all-from_AllPass}
use Rattle.std.proofs.lemmas.Slice.Eq.{bytes_eq-Decides, starts_is}
use borrow.Author.Tests.{ltb-true}
use Rattle.cif_defs.specs.declared.raw_module.RawCell.{RawCell}
use Rattle.cif_augment.specs.Names.{taint_name}
use Rattle.cif_augment.specs.Refusals.{are_digits, is_numbered_for}
use Rattle.cif_augment.specs.Taken.{IsDigitsPlace, IsNumberedFor, IsNotNumbered}

and_both : (p q : Bool) → (p && q) ≡ true → (p ≡ true) × (q ≡ true)
and_both true q h = (refl, h)
and_both false q h = absurd (cc)

and_true : (p q : Bool) → p ≡ true → q ≡ true → (p && q) ≡ true
and_true p q e f = cc

-- a name is some text and then digits
record Splits (name front : List ℕ) : Type 0 where
  starts : name ≡ front ++ drop (length front) name
  some : length front < length name
  digits : (k : ℕ) → length front ≤ k → k < length name → is_ascii_digit (get_or name k 0) ≡ true

shift_digit : (name : List ℕ) (n k : ℕ) (b : Bool) → n ≤ k → is_ascii_digit (get_or (drop n name) (k - n) 0) ≡ b → is_ascii_digit (get_or name k 0) ≡ b
shift_digit name n k b l e =
    ap (λ j. is_ascii_digit (get_or name j 0)) (let q : k ≡ n + (k - n) = omega arith in q) ∙ ap is_ascii_digit (sym (get_or-drop n name (k - n) 0)) ∙ e

splits : (name front : List ℕ) → starts_with nat_eq name front ≡ true → are_digits (drop (length front) name) ≡ true → Splits name front
splits name front s d =
    let both = and_both (nat_lt 0 (length (drop (length front) name))) (list_all is_ascii_digit (drop (length front) name)) d in
    let long : length (drop (length front) name) ≡ length name - length front = length-drop (length front) name in
    let more : 0 < length (drop (length front) name) = ltb-true 0 (length (drop (length front) name)) both.0 in
    record {
      starts = (starts_is Decides-eqb name front (starts_with nat_eq name front) refl).0 s;
      some = omega arith;
      digits = λ k low inside. shift_digit name (length front) k true low (AllPass-from_list_all is_ascii_digit (drop (length front) name) both.1 (k - length front) 0 (omega arith));
    }

-- the text before the digits of a name that is wanted for further cells ends in a letter
letter : (name owner : List ℕ) → Splits name (taint_name owner) → is_ascii_digit (get_or name (length (taint_name owner) - 1) 0) ≡ false
letter name owner h =
    let front : List ℕ = taint_name owner in
    let long : length front ≡ length owner + 3 = length-append owner (codes "__t") in
    let rest : List ℕ = drop (length front) name in
    let here : get_or name (length front - 1) 0 ≡ 116 =
    ap (λ (l : List ℕ). get_or l (length front - 1) 0) (h.starts ∙ append_assoc owner (codes "__t") rest)
    ∙ get_or-append_right owner (codes "__t" ++ rest) (length owner) (length front - 1) 0 refl (omega arith)
    ∙ ap (λ j. get_or (codes "__t" ++ rest) j 0) (let q : length front - 1 - length owner ≡ 2 = omega arith in q) in
    ap is_ascii_digit here

side : (i k : ℕ) → (i < k) ⊎ ((k < i) ⊎ (i ≡ k))
side i k = search arith

-- so it ends where all the digits begin
ends_there : (name owner : List ℕ) (place : ℕ) → IsDigitsPlace name place → Splits name (taint_name owner) → length (taint_name owner) ≡ place
ends_there name owner place at h =
    let long : length (taint_name owner) ≡ length owner + 3 = length-append owner (codes "__t") in
    let more : length (taint_name owner) < length name = h.some in
    elim (side (length (taint_name owner)) place) [
      | inl low ↦ absurd (let within : place ≤ length name = at.within in
          false≢true (sym (at.first (omega arith)) ∙ h.digits (place - 1) (omega arith) (omega arith)))
      | inr (inl high) ↦ absurd (false≢true (sym (letter name owner h) ∙ at.digits (length (taint_name owner) - 1) (omega arith) (omega arith)))
      | inr (inr same) ↦ same
    ]

-- what is before all the digits
front_is : (name owner : List ℕ) (place : ℕ) → IsDigitsPlace name place → Splits name (taint_name owner) → take place name ≡ taint_name owner
front_is name owner place at h =
    ap (take place) h.starts ∙ take_at (taint_name owner) (drop (length (taint_name owner)) name) place (ends_there name owner place at h)

numbered_splits : (name : List ℕ) (c : RawCell) → is_numbered_for name c ≡ true → Splits name (taint_name c.name)
numbered_splits name c h =
    (let both = and_both (starts_with nat_eq name (taint_name c.name)) (are_digits (drop (length (taint_name c.name)) name)) h in splits name (taint_name c.name) both.0 both.1)

-- ---- names without such an owner

not_true : (b : Bool) → (b ≡ true → ⊥) → b ≡ false
not_true true f = absurd (f refl)
not_true false f = refl

-- a name without digits at its end
pub no_digits : (name : List ℕ) (place : ℕ) → IsDigitsPlace name place → length name ≤ place → IsNotNumbered name
no_digits name place at all = λ c. not_true (is_numbered_for name c) (λ h.
    let s = numbered_splits name c h in
    let more : length (taint_name c.name) < length name = s.some in
    let there : length (taint_name c.name) ≡ place = ends_there name c.name place at s in omega arith)

-- what is before the digits ends in something else
pub no_owner : (name front : List ℕ) (place : ℕ) → IsDigitsPlace name place → front ≡ take place name → ((owner : List ℕ) → front ≢ owner ++ codes "__t") → IsNotNumbered name
no_owner name front place at is other = λ c. not_true (is_numbered_for name c) (λ h. other c.name (is ∙ front_is name c.name place at (numbered_splits name c h)))

-- ---- names with one

same_test : (p q : Bool) → (p ≡ true → q ≡ true) → (q ≡ true → p ≡ true) → p ≡ q
same_test true q f g = sym (f refl)
same_test false true f g = g refl
same_test false false f g = refl

is_owner : (name owner : List ℕ) (place : ℕ) (c : RawCell) → IsDigitsPlace name place → place < length name → take place name ≡ taint_name owner → c.name ≡ owner → is_numbered_for name c ≡ true
is_owner name owner place c at some is same =
    let front : List ℕ = taint_name c.name in
    let whole : name ≡ front ++ drop place name = sym (take-append-drop place name) ∙ ap (λ (l : List ℕ). l ++ drop place name) (is ∙ ap taint_name (sym same)) in
    let long : length front ≡ place = ap (λ (l : List ℕ). length l) (ap taint_name same ∙ sym is) ∙ length-take-le place name (omega arith) in
    let rest : List ℕ = drop (length front) name in
    let short : length rest ≡ length name - length front = length-drop (length front) name in
    and_true (starts_with nat_eq name front) (are_digits rest)
    ((starts_is Decides-eqb name front (starts_with nat_eq name front) refl).1 (drop place name) whole)
    (and_true (nat_lt 0 (length rest)) (list_all is_ascii_digit rest) (lt-ltb 0 (length rest) (omega arith))
    (list_all-from_AllPass is_ascii_digit rest (λ k d inside.
    ap is_ascii_digit (get_or_default rest k d 0 inside ∙ get_or-drop (length front) name k 0) ∙ at.digits (length front + k) (omega arith) (omega arith))))

pub owner_is : (name front owner : List ℕ) (place : ℕ) → IsDigitsPlace name place → place < length name → front ≡ take place name → front ≡ owner ++ codes "__t" → IsNumberedFor name owner
owner_is name front owner place at some is ends = λ c.
    same_test (is_numbered_for name c) (bytes_eq c.name owner)
    (λ h. (bytes_eq-Decides c.name owner).1 (append_cancel_right c.name owner (codes "__t") (sym (front_is name c.name place at (numbered_splits name c h)) ∙ sym is ∙ ends)))
    (λ h. is_owner name owner place c at some (sym is ∙ ends) ((bytes_eq-Decides c.name owner).0 h))

-- ---- what is found

pub owner_found : (name front : List ℕ) (place : ℕ) (r : Option (Bor (List ℕ))) → IsDigitsPlace name place → (place ≡ length name → ⊥) → front ≡ take place name
    → MatchOption r ((other : List ℕ) → front ≢ other ++ codes "__t") (λ x. front ≡ x.now ++ codes "__t") → IfSome r (λ owner. IsNumberedFor name owner.now)
owner_found name front place None at some is h = tt
owner_found name front place (Some owner) at some is h = owner_is name front owner.now place at (below place (length name) at.within some) is h where
  below : (m n : ℕ) → m ≤ n → (m ≡ n → ⊥) → m < n
  below m n l other = elim (side m n) [ inl a ↦ a | inr (inl b) ↦ absurd (omega arith) | inr (inr e) ↦ absurd (other e) ]

pub no_owner_found : (name front : List ℕ) (place : ℕ) (r : Option (Bor (List ℕ))) → IsDigitsPlace name place → front ≡ take place name
    → MatchOption r ((other : List ℕ) → front ≢ other ++ codes "__t") (λ x. front ≡ x.now ++ codes "__t") → IfNone r (IsNotNumbered name)
no_owner_found name front place None at is h = no_owner name front place at is h
no_owner_found name front place (Some owner) at is h = tt

-- ---- among cells

pub turned : (a b : List ℕ) → bytes_eq a b ≡ bytes_eq b a
turned a b = same_test (bytes_eq a b) (bytes_eq b a) (λ e. (bytes_eq-Decides b a).1 (sym ((bytes_eq-Decides a b).0 e))) (λ e. (bytes_eq-Decides a b).1 (sym ((bytes_eq-Decides b a).0 e)))

-- a name is numbered for the cell of its owner's name, if there is one
pub numbered_among : (name owner : List ℕ) (cells : List RawCell) → IsNumberedFor name owner → list_any (is_numbered_for name) cells ≡ list_any (bytes_eq owner) (map (λ (c : RawCell). c.name) cells)
numbered_among name owner [] h = refl
numbered_among name owner (c ∷ cells) h =
    ap (λ b. b || list_any (is_numbered_for name) cells) (h c ∙ turned c.name owner)
    ∙ ap (λ b. bytes_eq owner c.name || b) (numbered_among name owner cells h)

pub numbered_nowhere : (name : List ℕ) (cells : List RawCell) → IsNotNumbered name → list_any (is_numbered_for name) cells ≡ false
numbered_nowhere name [] h = refl
numbered_nowhere name (c ∷ cells) h = ap (λ b. b || list_any (is_numbered_for name) cells) (h c) ∙ numbered_nowhere name cells h
