-- The parts of a well formed term: t is the term, and x, y and z are its parts as code reads them.
use Rattle.std.proofs.Common.{◌≡◌, ◌∙◌, ◌≤◌, ◌<◌, ◌+◌, Bor, ℕ, List, ◌∷◌, map, length, Some, IsTrue, ap, sym, arith}
use Rattle.std.specs.Global.{Box}
use Rattle.cif_defs.specs.Words.{Word}
use Rattle.cif_term.specs.declared.ops.Op1.{Op1}
use Rattle.cif_term.specs.declared.ops.Op2.{Op2}
use Rattle.cif_term.specs.declared.scope.Scope.{Scope}
use Rattle.cif_term.specs.declared.scope.Scope.TheVariants.{Inside}
use Rattle.cif_term.specs.declared.term.Term.{Term}
use Rattle.cif_term.specs.declared.term.Term.TheVariants as variant
use Rattle.cif_term.specs.Formulas.{Formula, Pick, Join, One, Two, Choose, Let, is_on_numbers, same_width, width_of, value_of}
use Rattle.cif_term.specs.Scopes.{named_in}
use Rattle.cif_term.specs.TermView.{formula_of}
use Rattle.cif_term.proofs.Lengths.{length-value, width_range, pick_some, join_some, one_some, two_some, same_some, choose_some, let_some}
use Rattle.cif_term.proofs.Views.{named_in-Inside, formula_of-Pick, formula_of-Join, formula_of-One, formula_of-Two, formula_of-Choose, formula_of-Let}

-- a formula over words of these widths
abbrev pub IsFormedFor : Formula → List Word → List Word → Type 0
IsFormedFor f vs named = (n : ℕ) × (width_of f (map length vs) (map length named) ≡ Some n)

width_along : (f g : Formula) (vs named : List Word) (n : ℕ) → f ≡ g → width_of f (map length vs) (map length named) ≡ Some n → width_of g (map length vs) (map length named) ≡ Some n
width_along f g vs named n e h = ap (λ (k : Formula). width_of k (map length vs) (map length named)) (sym e) ∙ h

-- ---- the formula of a term, from those of its parts

pub whole_pick : (t x : Term) (part : Box Term) (places : List ℕ) → t ≡ variant.Pick part places → x ≡ part.value → formula_of t ≡ Pick (formula_of x) places
whole_pick t x part places e f = ap formula_of e ∙ formula_of-Pick part places ∙ ap (λ (s : Term). Pick (formula_of s) places) (sym f)

pub whole_join : (t x y : Term) (low high : Box Term) → t ≡ variant.Join low high → x ≡ low.value → y ≡ high.value → formula_of t ≡ Join (formula_of x) (formula_of y)
whole_join t x y low high e f g =
    ap formula_of e ∙ formula_of-Join low high ∙ ap (λ (s : Term). Join (formula_of s) (formula_of high.value)) (sym f) ∙ ap (λ (s : Term). Join (formula_of x) (formula_of s)) (sym g)

pub whole_one : (t x : Term) (op : Op1) (part : Box Term) → t ≡ variant.One op part → x ≡ part.value → formula_of t ≡ One op (formula_of x)
whole_one t x op part e f = ap formula_of e ∙ formula_of-One op part ∙ ap (λ (s : Term). One op (formula_of s)) (sym f)

pub whole_two : (t x y : Term) (op : Op2) (first second : Box Term) → t ≡ variant.Two op first second → x ≡ first.value → y ≡ second.value → formula_of t ≡ Two op (formula_of x) (formula_of y)
whole_two t x y op first second e f g =
    ap formula_of e ∙ formula_of-Two op first second ∙ ap (λ (s : Term). Two op (formula_of s) (formula_of second.value)) (sym f) ∙ ap (λ (s : Term). Two op (formula_of x) (formula_of s)) (sym g)

pub whole_choose : (t x y z : Term) (select zero one : Box Term) → t ≡ variant.Choose select zero one → x ≡ select.value → y ≡ zero.value → z ≡ one.value → formula_of t ≡ Choose (formula_of x) (formula_of y) (formula_of z)
whole_choose t x y z select zero one e f g h =
    ap formula_of e ∙ formula_of-Choose select zero one ∙ ap (λ (s : Term). Choose (formula_of s) (formula_of zero.value) (formula_of one.value)) (sym f)
    ∙ ap (λ (s : Term). Choose (formula_of x) (formula_of s) (formula_of one.value)) (sym g) ∙ ap (λ (s : Term). Choose (formula_of x) (formula_of y) (formula_of s)) (sym h)

pub whole_let : (t x y : Term) (named body : Box Term) → t ≡ variant.Let named body → x ≡ named.value → y ≡ body.value → formula_of t ≡ Let (formula_of x) (formula_of y)
whole_let t x y named body e f g =
    ap formula_of e ∙ formula_of-Let named body ∙ ap (λ (s : Term). Let (formula_of s) (formula_of body.value)) (sym f) ∙ ap (λ (s : Term). Let (formula_of x) (formula_of s)) (sym g)

-- ---- what is known of the parts

pub formed_pick : (f g : Formula) (places : List ℕ) (vs named : List Word) → f ≡ Pick g places → IsFormedFor f vs named → IsFormedFor g vs named × (length places ≤ 65536)
formed_pick f g places vs named e h =
    let r = pick_some places (width_of g (map length vs) (map length named)) h.0 (width_along f (Pick g places) vs named h.0 e h.1) in
    ((r.0, r.1), omega arith)

pub formed_join : (f g k : Formula) (vs named : List Word) → f ≡ Join g k → IsFormedFor f vs named
    → (m : ℕ) × (n : ℕ) × (width_of g (map length vs) (map length named) ≡ Some m) × (width_of k (map length vs) (map length named) ≡ Some n) × (m + n ≤ 65536)
formed_join f g k vs named e h =
    let r = join_some (width_of g (map length vs) (map length named)) (width_of k (map length vs) (map length named)) h.0 (width_along f (Join g k) vs named h.0 e h.1) in
    (r.0, r.1, r.2, r.3, omega arith)

pub formed_one : (f g : Formula) (op : Op1) (vs named : List Word) → f ≡ One op g → IsFormedFor f vs named → IsFormedFor g vs named
formed_one f g op vs named e h =
    let r = one_some op (width_of g (map length vs) (map length named)) h.0 (width_along f (One op g) vs named h.0 e h.1) in
    (r.0, r.1)

pub formed_two : (f g k : Formula) (op : Op2) (vs named : List Word) → f ≡ Two op g k → IsFormedFor f vs named
    → (n : ℕ) × (width_of g (map length vs) (map length named) ≡ Some n) × (width_of k (map length vs) (map length named) ≡ Some n) × (0 < n) × (IsTrue (is_on_numbers op) → n ≤ 128)
formed_two f g k op vs named e h =
    let r = two_some op (same_width (width_of g (map length vs) (map length named)) (width_of k (map length vs) (map length named))) h.0 (width_along f (Two op g k) vs named h.0 e h.1) in
    let both = same_some (width_of g (map length vs) (map length named)) (width_of k (map length vs) (map length named)) r.0 r.1 in
    let range = width_range g (map length vs) (map length named) r.0 both.0 in
    (r.0, both.0, both.1, omega arith, r.3)

pub formed_choose : (f s g k : Formula) (vs named : List Word) → f ≡ Choose s g k → IsFormedFor f vs named
    → (width_of s (map length vs) (map length named) ≡ Some 1) × IsFormedFor g vs named × IsFormedFor k vs named
formed_choose f s g k vs named e h =
    let r = choose_some (width_of s (map length vs) (map length named)) (same_width (width_of g (map length vs) (map length named)) (width_of k (map length vs) (map length named))) h.0
    (width_along f (Choose s g k) vs named h.0 e h.1) in
    let both = same_some (width_of g (map length vs) (map length named)) (width_of k (map length vs) (map length named)) h.0 r.1 in
    (r.0, (h.0, both.0), (h.0, both.1))

pub formed_let : (f g k : Formula) (vs ts named : List Word) → map length ts ≡ map length vs → f ≡ Let g k → IsFormedFor f vs named
    → IsFormedFor g vs named × IsFormedFor k vs (value_of g vs ts named ∷ named)
formed_let f g k vs ts named shape e h =
    let r = let_some (width_of g (map length vs) (map length named)) (λ m. width_of k (map length vs) (m ∷ map length named)) h.0 (width_along f (Let g k) vs named h.0 e h.1) in
    let long : length (value_of g vs ts named) ≡ r.0 = length-value g vs ts named r.0 shape r.1 in
    ((r.0, r.1), (h.0, ap (λ m. width_of k (map length vs) (m ∷ map length named)) long ∙ r.2))

-- w is the value of a part
pub long_value : (f : Formula) (vs ts named : List Word) (w : Word) (n : ℕ) → map length ts ≡ map length vs → w ≡ value_of f vs ts named → width_of f (map length vs) (map length named) ≡ Some n → length w ≡ n
long_value f vs ts named w n shape e h = ap length e ∙ length-value f vs ts named n shape h

-- w is the value of what a Let names
pub formed_body : (f g k : Formula) (vs ts : List Word) (w : Bor Word) (outer : Bor (Scope Word)) → map length ts ≡ map length vs → f ≡ Let g k → IsFormedFor f vs (named_in outer.now)
    → w.now ≡ value_of g vs ts (named_in outer.now) → IsFormedFor k vs (named_in (Inside w outer))
formed_body f g k vs ts w outer shape e h v =
    let r = (formed_let f g k vs ts (named_in outer.now) shape e h).1 in
    let names : named_in (Inside w outer) ≡ value_of g vs ts (named_in outer.now) ∷ named_in outer.now = named_in-Inside w outer ∙ ap (λ (x : Word). x ∷ named_in outer.now) v in
    (r.0, ap (λ l. width_of k (map length vs) (map length l)) names ∙ r.1)
