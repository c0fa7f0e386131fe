-- Lists side by side, lists joined end to end, and words read at bits.
use Rattle.std.specs.Prelude.{ℕ, zero, suc, ◌<◌, ◌≡◌, Bool, true, false, List, [], ◌∷◌, ◌++◌, map, length, get_or, take, Option, Some, None, IsSomeAnd, option_to_list, refl}
use Rattle.std.specs.List.{AllByRecursion, AllZip, flat_map, list_all}
use Rattle.std.proofs.Common.{arith, sym, ap, subst, ◌∙◌, inl, inr}
use Rattle.std.proofs.lemmas.Bool.{and_parts}
use Rattle.std.proofs.lemmas.List.{length-map}
use Rattle.cif_defs.specs.Words.{Word, bit}
use Rattle.cif_defs.specs.RawModule.{is_net}
use Rattle.cif_defs.specs.Accepted.{no_bit}
use Rattle.cif_defs.proofs.WordLaws.{same_words}
use Rattle.cif_defs.specs.declared.raw_module.RawBit.{RawBit}
use Rattle.cif_defs.specs.declared.raw_module.RawBit.TheVariants.{Net, Zero, One, X, Z}
use Rattle.cif_nets.proofs.Places.{Has, Has-append}
use Rattle.cif_raw_runs.specs.Assigned.{raw_bit, raw_word}

-- ---- lists side by side

pub partner : {A B : Type 0} (R : A → B → Type 0) (xs : List A) (ys : List B) (x : A) → AllZip R xs ys → Has xs x → (y : B) × Has ys y × R x y
partner R [] ys x h k = absurd k
partner R (x ∷ xs) [] z h k = absurd h
partner R (x ∷ xs) (y ∷ ys) z h (inl e) = (y, inl refl, (let P : _ → Type 0 = λ w. R w y in subst P e h.0))
partner R (x ∷ xs) (y ∷ ys) z h (inr k) = (let rest = partner R xs ys z h.1 k in (rest.0, inr rest.1, rest.2))

pub owner : {A B : Type 0} (R : A → B → Type 0) (xs : List A) (ys : List B) (y : B) → AllZip R xs ys → Has ys y → (x : A) × Has xs x × R x y
owner R [] [] y h k = absurd k
owner R [] (z ∷ ys) y h k = absurd h
owner R (x ∷ xs) [] y h k = absurd k
owner R (x ∷ xs) (y ∷ ys) z h (inl e) = (x, inl refl, (let P : _ → Type 0 = λ w. R x w in subst P e h.0))
owner R (x ∷ xs) (y ∷ ys) z h (inr k) = (let rest = owner R xs ys z h.1 k in (rest.0, inr rest.1, rest.2))

pub each_has : {A : Type 0} (P : A → Type 0) (xs : List A) (x : A) → AllByRecursion P xs → Has xs x → P x
each_has P [] x h k = absurd k
each_has P (y ∷ ys) x h (inl e) = subst P e h.0
each_has P (y ∷ ys) x h (inr k) = each_has P ys x h.1 k

-- ---- lists of lists

pub from_flat_map : {A B : Type 0} (f : A → List B) (xs : List A) (y : B) → Has (flat_map f xs) y → (x : A) × Has xs x × Has (f x) y
from_flat_map f [] y h = absurd h
from_flat_map f (x ∷ xs) y h = elim (Has-append (f x) (flat_map f xs) y h) [
  | inl a ↦ (x, inl refl, a)
  | inr b ↦ (let rest = from_flat_map f xs y b in (rest.0, inr rest.1, rest.2))
]

pub Has-map : {A B : Type 0} (f : A → B) (xs : List A) (x : A) → Has xs x → Has (map f xs) (f x)
Has-map f [] x h = absurd h
Has-map f (y ∷ ys) x (inl e) = inl (ap f e)
Has-map f (y ∷ ys) x (inr h) = inr (Has-map f ys x h)

-- one list and the next, where their joins and the first lengths are the same
apart : {A : Type 0} (xs ys us vs : List A) → length xs ≡ length ys → xs ++ us ≡ ys ++ vs → (xs ≡ ys) × (us ≡ vs)
apart [] [] us vs l e = (refl, e)
apart [] (y ∷ ys) us vs l e = absurd (let q : 0 ≡ suc (length ys) = l in omega arith)
apart (x ∷ xs) [] us vs l e = absurd (let q : suc (length xs) ≡ 0 = l in omega arith)
apart (x ∷ xs) (y ∷ ys) us vs l e =
    let rest = apart xs ys us vs (let q : suc (length xs) ≡ suc (length ys) = l in omega arith) (cc) in
    let first : x ≡ y = cc in
    let same : xs ≡ ys = rest.0 in
    ((cc), rest.1)

pub same_parts : {A : Type 0} (xss yss : List (List A)) → map length xss ≡ map length yss → flat_map (λ xs. xs) xss ≡ flat_map (λ xs. xs) yss → xss ≡ yss
same_parts [] [] l e = refl
same_parts [] (ys ∷ yss) l e = absurd (cc)
same_parts (xs ∷ xss) [] l e = absurd (cc)
same_parts (xs ∷ xss) (ys ∷ yss) l e =
    let first : length xs ≡ length ys = cc in
    let parts = apart xs ys (flat_map (λ zs. zs) xss) (flat_map (λ zs. zs) yss) first e in
    let here : xs ≡ ys = parts.0 in
    let rest : xss ≡ yss = same_parts xss yss (cc) parts.1 in
    (cc)

-- ---- options

pub some_and : {A : Type 0} (P : A → Type 0) (o : Option A) → IsSomeAnd o P → (x : A) × (o ≡ Some x) × P x
some_and P None h = absurd h
some_and P (Some x) h = (x, refl, h)

pub Has-option : {A : Type 0} (o : Option A) (x : A) → o ≡ Some x → Has (option_to_list o) x
Has-option None x e = absurd (cc)
Has-option (Some y) x e = inl (cc)

pub has_option : {A : Type 0} (o : Option A) (x : A) → Has (option_to_list o) x → o ≡ Some x
has_option None x h = absurd h
has_option (Some y) x (inl e) = ap Some e
has_option (Some y) x (inr h) = absurd h

-- ---- bits

pub bit_read : (v : ℕ → Bool) (bits : List RawBit) (i : ℕ) → bit (raw_word v bits) i ≡ raw_bit v (get_or bits i no_bit)
bit_read v [] i = refl
bit_read v (b ∷ bits) zero = refl
bit_read v (b ∷ bits) (suc i) = bit_read v bits i

pub net_of : (b : RawBit) → is_net b ≡ true → (x : ℕ) × (b ≡ Net x)
net_of (Net x) h = (x, refl)
net_of Zero h = absurd (cc)
net_of One h = absurd (cc)
net_of X h = absurd (cc)
net_of Z h = absurd (cc)

pub all_nets : (bits : List RawBit) (i : ℕ) → list_all is_net bits ≡ true → i < length bits → is_net (get_or bits i no_bit) ≡ true
all_nets [] i h l = absurd (omega arith)
all_nets (b ∷ bits) zero h l = (and_parts (is_net b) (list_all is_net bits) h).0
all_nets (b ∷ bits) (suc i) h l = all_nets bits i (and_parts (is_net b) (list_all is_net bits) h).1 (omega arith)

-- bits that are nets hold a word
pub word_held : (v : ℕ → Bool) (bits : List RawBit) (w : Word) → ((i : ℕ) → i < length bits → is_net (get_or bits i no_bit) ≡ true) → length bits ≡ length w
    → ((i x : ℕ) → get_or bits i no_bit ≡ Net x → v x ≡ bit w i) → raw_word v bits ≡ w
word_held v bits w nets l h =
    same_words (raw_word v bits) w (length-map bits (raw_bit v) ∙ l)
    (λ i k. (let here : i < length bits = (let e = length-map bits (raw_bit v) in omega arith) in
    let net = net_of (get_or bits i no_bit) (nets i here) in
    bit_read v bits i ∙ ap (raw_bit v) net.1 ∙ h i net.0 net.1))

-- ---- more on lists

pub from_map : {A B : Type 0} (f : A → B) (xs : List A) (y : B) → Has (map f xs) y → (x : A) × Has xs x × (f x ≡ y)
from_map f [] y h = absurd h
from_map f (x ∷ xs) y (inl e) = (x, inl refl, e)
from_map f (x ∷ xs) y (inr h) = (let rest = from_map f xs y h in (rest.0, inr rest.1, rest.2))

pub Has-take : {A : Type 0} (n : ℕ) (xs : List A) (x : A) → Has (take n xs) x → Has xs x
Has-take zero xs x h = absurd h
Has-take (suc n) [] x h = absurd h
Has-take (suc n) (y ∷ ys) x (inl e) = inl e
Has-take (suc n) (y ∷ ys) x (inr h) = inr (Has-take n ys x h)

pub same_bool : (a b : Bool) → (a ≡ true → b ≡ true) → (b ≡ true → a ≡ true) → a ≡ b
same_bool true b f g = sym (f refl)
same_bool false true f g = g refl
same_bool false false f g = refl
