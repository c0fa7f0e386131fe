-- Free bits in turn: some_bit t v k says whether k holds at some bit that v with the taint t allows.
use Rattle.std.specs.Prelude.{◌≡◌, Bool, true, false, not, ◌&&◌, ◌||◌, refl, if◌then◌else◌}
use Rattle.std.proofs.Common.{sym, ap, ◌∙◌}
use Rattle.cif_defs.specs.Words.{xor}
use Rattle.cif_defs.specs.Completions.{some_bit}

-- ---- disjunctions

or_same : (a : Bool) → (a || a) ≡ a
or_same true = refl
or_same false = refl

or_swap : (a b : Bool) → (a || b) ≡ (b || a)
or_swap true true = refl
or_swap true false = refl
or_swap false true = refl
or_swap false false = refl

-- ---- one free bit

pub some_constant : (t v b : Bool) → some_bit t v (λ d. b) ≡ b
some_constant true v b = or_same b
some_constant false v b = refl

pub some_same : (t v : Bool) (k l : Bool → Bool) → ((d : Bool) → k d ≡ l d) → some_bit t v k ≡ some_bit t v l
some_same true v k l h = ap (λ x. x || k true) (h false) ∙ ap (λ x. l false || x) (h true)
some_same false v k l h = h v

-- whether a function of one bit depends on it
abbrev pub depends : (Bool → Bool) → Bool
depends a = xor (a false) (a true)

by_images : (x y b : Bool) (a p : Bool → Bool) → a false ≡ x → a true ≡ y → (p (a false) || p (a true)) ≡ some_bit (xor x y) (a b) p
by_images true true true a p e f = ap (λ z. p z || p (a true)) (e ∙ sym f) ∙ or_same (p (a true))
by_images true true false a p e f = ap (λ z. p (a false) || p z) (f ∙ sym e) ∙ or_same (p (a false))
by_images true false b a p e f = ap (λ z. p z || p (a true)) e ∙ ap (λ z. p true || p z) f ∙ or_swap (p true) (p false)
by_images false true b a p e f = ap (λ z. p z || p (a true)) e ∙ ap (λ z. p false || p z) f
by_images false false true a p e f = ap (λ z. p z || p (a true)) (e ∙ sym f) ∙ or_same (p (a true))
by_images false false false a p e f = ap (λ z. p (a false) || p z) (f ∙ sym e) ∙ or_same (p (a false))

-- what a function gives at a free bit is a free bit
pub some_image : (t v : Bool) (a p : Bool → Bool) → some_bit t v (λ d. p (a d)) ≡ some_bit (t && depends a) (a v) p
some_image true v a p = by_images (a false) (a true) v a p refl refl
some_image false v a p = refl

-- ---- two free bits

pub middle : (a b c d : Bool) → ((a || b) || (c || d)) ≡ ((a || c) || (b || d))
middle true b c d = refl
middle false true true d = refl
middle false true false d = refl
middle false false true d = refl
middle false false false d = refl

pub some_swap : (t v u w : Bool) (k : Bool → Bool → Bool) → some_bit t v (λ d. some_bit u w (λ e. k d e)) ≡ some_bit u w (λ e. some_bit t v (λ d. k d e))
some_swap true v true w k = middle (k false false) (k false true) (k true false) (k true true)
some_swap true v false w k = refl
some_swap false v true w k = refl
some_swap false v false w k = refl

-- ---- a choice

-- the taint of y where c is 1, else of x, each with its taint: where c is tainted, that of both and of their difference
abbrev pub choice_taint : Bool → Bool → Bool → Bool → Bool → Bool → Bool
choice_taint x tx y ty c tc = if tc then tx || ty || xor x y else (if c then ty else tx)

absorb_left : (a b : Bool) → ((a || b) || a) ≡ (a || b)
absorb_left true b = refl
absorb_left false true = refl
absorb_left false false = refl

absorb_right : (a b : Bool) → ((a || b) || b) ≡ (a || b)
absorb_right true b = refl
absorb_right false true = refl
absorb_right false false = refl

-- either of two free bits, where z is one of them
either : (tx x ty y : Bool) (c : Bool) (p : Bool → Bool) → (some_bit tx x p || some_bit ty y p) ≡ some_bit (tx || ty || xor x y) (if c then y else x) p
either true x true y c p = or_same (p false || p true)
either true x false true c p = absorb_right (p false) (p true)
either true x false false c p = absorb_left (p false) (p true)
either false true true y c p = or_swap (p true) (p false || p true) ∙ absorb_right (p false) (p true)
either false false true y c p = or_swap (p false) (p false || p true) ∙ absorb_left (p false) (p true)
either false true false true true p = or_same (p true)
either false true false true false p = or_same (p true)
either false true false false c p = or_swap (p true) (p false)
either false false false true c p = refl
either false false false false true p = or_same (p false)
either false false false false false p = or_same (p false)

-- what a choice between two free bits by a third gives is a free bit
chosen_bit : (tc c tx x ty y : Bool) (p : Bool → Bool) → some_bit tc c (λ e. some_bit tx x (λ d. some_bit ty y (λ b. p (if e then b else d)))) ≡ some_bit (choice_taint x tx y ty c tc) (if c then y else x) p
chosen_bit true c tx x ty y p =
    ap (λ z. z || some_bit tx x (λ d. some_bit ty y p)) (some_same tx x (λ d. some_bit ty y (λ b. p d)) p (λ d. some_constant ty y (p d)))
    ∙ ap (λ z. some_bit tx x p || z) (some_constant tx x (some_bit ty y p)) ∙ either tx x ty y c p
chosen_bit false true tx x ty y p = some_constant tx x (some_bit ty y p)
chosen_bit false false tx x ty y p = some_same tx x (λ d. some_bit ty y (λ b. p d)) p (λ d. some_constant ty y (p d))

-- the same by a control that a function says to be active
pub some_chosen : (tc c tx x ty y : Bool) (a p : Bool → Bool) → some_bit tc c (λ e. some_bit tx x (λ d. some_bit ty y (λ b. p (if a e then b else d)))) ≡ some_bit (choice_taint x tx y ty (a c) (tc && depends a)) (if a c then y else x) p
some_chosen tc c tx x ty y a p =
    some_image tc c a (λ e. some_bit tx x (λ d. some_bit ty y (λ b. p (if e then b else d)))) ∙ chosen_bit (tc && depends a) (a c) tx x ty y p

-- ---- a free bit can be 0 and 1 exactly where it is tainted

pub both_bits : (t v : Bool) → (some_bit t v (λ b. b) && some_bit t v (λ b. not b)) ≡ t
both_bits true v = refl
both_bits false true = refl
both_bits false false = refl
