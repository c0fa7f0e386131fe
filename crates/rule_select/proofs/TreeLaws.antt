-- Trees of choices compute the words and the exact taints of their bits.
use Rattle.std.specs.Prelude.{ℕ, zero, suc, ◌+◌, ◌*◌, ◌<◌, ◌≤◌, ◌≡◌, ◌≢◌, Bool, true, false, List, [], ◌∷◌, length, set, slice_get, Some, nat_lt, refl, if◌then◌else◌}
use Rattle.std.specs.List.{list_all}
use Rattle.std.proofs.Common.{arith, sym, ap, ◌∙◌, inl, inr}
use Rattle.std.proofs.lemmas.Bool.Decides.{nat_tests}
use Rattle.std.proofs.lemmas.List.{get_or-set_same, get_or-set_other, get_or_past, length-set}
use Rattle.cif_defs.specs.Words.{Word, bit, operand, word}
use Rattle.cif_defs.specs.Completions.{can_differ}
use Rattle.cif_defs.proofs.Split.{fixed}
use Rattle.cif_defs.proofs.Numbers.{word-same}
use Rattle.cif_defs.proofs.WordLaws.{le_or_lt}
use Rattle.cif_term.specs.Formulas.{Formula, Bound, Choose, IsFormed, value_of, pieces}
use Rattle.cif_term.proofs.FormedFormulas.{formed_bound, formed_choose, formed_let, formed_pick, formed_taint, formed_value, raised}
use Rattle.cif_term.proofs.Values.{value-choose}
use Rattle.rule_select.specs.Choices.{choice_taint, taint_choice}
use Rattle.rule_select.specs.Trees.{select_bit, select_taint, stage_taint, stage_value, staged, tree}
use Rattle.rule_select.proofs.ChoiceTaints.{Ignores, IsChoice, choice_differs}
use Rattle.rule_select.proofs.ChoiceTerms.{formed_taint_choice, value-taint_choice}

-- ---- one choice

-- the bits that a choice by bit k of operand q gives
abbrev pub chosen_bit : ℕ → ℕ → (ℕ → List Word → Bool) → (ℕ → List Word → Bool) → ℕ → List Word → Bool
chosen_bit q k f g i us = if bit (operand us q) k then g i us else f i us

-- whether they can differ, as a word
abbrev pub differs : (ℕ → List Word → Bool) → List Word → List Word → ℕ → Bool
differs f vs ts i = can_differ (f i) vs ts

pub chosen_differs : (q k : ℕ) (f g : ℕ → List Word → Bool) (vs ts : List Word) → q < length vs → k < length (operand vs q) → ((i : ℕ) → Ignores (f i) q k) → ((i : ℕ) → Ignores (g i) q k) → (i : ℕ)
    → differs (chosen_bit q k f g) vs ts i ≡ choice_taint (f i vs) (differs f vs ts i) (g i vs) (differs g vs ts i) (bit (operand vs q) k) (bit (operand ts q) k)
chosen_differs q k f g vs ts there within a b i =
    let choice : IsChoice (chosen_bit q k f g i) (f i) (g i) q k vs = record { there = there; within = within; chosen = λ us. refl; zero_ignores = a i; one_ignores = b i } in
    choice_differs (chosen_bit q k f g i) (f i) (g i) q k vs ts choice

pub value-chosen : (n q k : ℕ) (f g : ℕ → List Word → Bool) (x y : Formula) (vs ts named : List Word) → value_of x vs ts named ≡ word n (λ i. f i vs) → value_of y vs ts named ≡ word n (λ i. g i vs)
    → value_of (Choose (select_bit q k) x y) vs ts named ≡ word n (λ i. chosen_bit q k f g i vs)
value-chosen n q k f g x y vs ts named e d = value-choose n (bit (operand vs q) k) (λ i. f i vs) (λ i. g i vs) (select_bit q k) x y vs ts named refl e d

pub taint-chosen : (n q k : ℕ) (f g : ℕ → List Word → Bool) (x tx y ty : Formula) (vs ts named : List Word) → q < length vs → k < length (operand vs q) → ((i : ℕ) → Ignores (f i) q k) → ((i : ℕ) → Ignores (g i) q k)
    → value_of x vs ts named ≡ word n (λ i. f i vs) → value_of tx vs ts named ≡ word n (differs f vs ts) → value_of y vs ts named ≡ word n (λ i. g i vs) → value_of ty vs ts named ≡ word n (differs g vs ts)
    → value_of (taint_choice (select_bit q k) (select_taint q k) x tx y ty) vs ts named ≡ word n (differs (chosen_bit q k f g) vs ts)
taint-chosen n q k f g x tx y ty vs ts named there within a b ex etx ey ety =
    value-taint_choice n (bit (operand vs q) k) (bit (operand ts q) k) (λ i. f i vs) (differs f vs ts) (λ i. g i vs) (differs g vs ts) (select_bit q k) (select_taint q k) x tx y ty vs ts named refl refl ex etx ey ety
    ∙ word-same n _ _ (λ i h. sym (chosen_differs q k f g vs ts there within a b i))

-- ---- trees

-- steps j one f: the bits of the part of a word of bits f that stage j takes for a select bit at 0 or at 1; wide j: the width after j stages
pub record Tree : Type 0 where
  pub select : ℕ
  pub order : ℕ → ℕ
  pub parts : ℕ → Bool → Bool → Formula → Formula
  pub steps : ℕ → Bool → (ℕ → List Word → Bool) → ℕ → List Word → Bool
  pub wide : ℕ → ℕ
  pub leaf : ℕ → List Word → Bool

-- the bits after j stages
abbrev pub tree_bit : Tree → ℕ → ℕ → List Word → Bool
tree_bit t zero i us = t.leaf i us
tree_bit t (suc j) i us = if bit (operand us t.select) (t.order j) then t.steps j true (tree_bit t j) i us else t.steps j false (tree_bit t j) i us

-- the part of stage j for a select at 0 or at 1 reads what it is said to
pub record IsPart (t : Tree) (j : ℕ) (one : Bool) (vs ts : List Word) : Type 0 where
  pub value : (f : ℕ → List Word → Bool) (x : Formula) (named : List Word) → value_of x vs ts named ≡ word (t.wide j) (λ i. f i vs)
      → value_of (t.parts (t.order j) one false x) vs ts named ≡ word (t.wide (suc j)) (λ i. t.steps j one f i vs)
  pub taint : (f : ℕ → List Word → Bool) (x : Formula) (named : List Word) → value_of x vs ts named ≡ word (t.wide j) (differs f vs ts)
      → value_of (t.parts (t.order j) one true x) vs ts named ≡ word (t.wide (suc j)) (differs (t.steps j one f) vs ts)
  pub ignores : (f : ℕ → List Word → Bool) (k : ℕ) → ((i : ℕ) → Ignores (f i) t.select k) → (i : ℕ) → Ignores (t.steps j one f i) t.select k

-- a tree of m stages
pub record IsTree (t : Tree) (m : ℕ) (vs ts : List Word) : Type 0 where
  pub there : t.select < length vs
  pub within : (j : ℕ) → j < m → t.order j < length (operand vs t.select)
  pub apart : (j k : ℕ) → k < j → j < m → t.order j ≢ t.order k
  pub leaf_ignores : (k i : ℕ) → Ignores (t.leaf i) t.select k
  pub part : (j : ℕ) (one : Bool) → j < m → IsPart t j one vs ts

-- ---- no stage before reads the select bit of a stage

kept_by : (d : Bool) (q k s : ℕ) (us : List Word) → s ≢ k → bit (operand (fixed d q k us) q) s ≡ bit (operand us q) s
kept_by d q k s us o = elim (le_or_lt q (length us)) [
  | inl h ↦ ap (λ (w : Word). bit w s) (get_or-set_same us q (set (operand us q) k d) [] h) ∙ get_or-set_other (operand us q) k s d false o
  | inr h ↦ ap (λ (w : Word). bit w s) (get_or_past (fixed d q k us) q [] (omega (arith, length-set us q (set (operand us q) k d))) ∙ sym (get_or_past us q [] h))
]

chosen_ignores : (q k s : ℕ) (f g : ℕ → List Word → Bool) → s ≢ k → ((i : ℕ) → Ignores (f i) q k) → ((i : ℕ) → Ignores (g i) q k) → (i : ℕ) → Ignores (chosen_bit q s f g i) q k
chosen_ignores q k s f g o a b i = record {
  same = λ d us. ap (λ x. if x then g i (fixed d q k us) else f i (fixed d q k us)) (kept_by d q k s us o)
      ∙ ap (λ x. if bit (operand us q) s then x else f i (fixed d q k us)) ((b i).same d us) ∙ ap (λ x. if bit (operand us q) s then g i us else x) ((a i).same d us);
}

pub tree_ignores : (t : Tree) (m : ℕ) (vs ts : List Word) → IsTree t m vs ts → (j k : ℕ) → j ≤ m → ((i : ℕ) → i < j → t.order i ≢ k) → (i : ℕ) → Ignores (tree_bit t j i) t.select k
tree_ignores t m vs ts g zero k h o i = g.leaf_ignores k i
tree_ignores t m vs ts g (suc j) k h o i =
    let before : (i : ℕ) → Ignores (tree_bit t j i) t.select k = tree_ignores t m vs ts g j k (omega arith) (λ n l. o n (omega arith)) in
    chosen_ignores t.select k (t.order j) (t.steps j false (tree_bit t j)) (t.steps j true (tree_bit t j)) (o j (omega arith))
    ((g.part j false (omega arith)).ignores (tree_bit t j) k before) ((g.part j true (omega arith)).ignores (tree_bit t j) k before) i

-- ---- the values of stages

-- what is named after j stages
pub record IsNamed (t : Tree) (j : ℕ) (vs ts named : List Word) : Type 0 where
  pub value : operand named 1 ≡ word (t.wide j) (λ i. tree_bit t j i vs)
  pub taint : operand named 0 ≡ word (t.wide j) (differs (tree_bit t j) vs ts)

value-stage : (t : Tree) (m j : ℕ) (x : Formula) (vs ts named : List Word) → IsTree t m vs ts → j < m → value_of x vs ts named ≡ word (t.wide j) (λ i. tree_bit t j i vs)
    → value_of (Choose (select_bit t.select (t.order j)) (t.parts (t.order j) false false x) (t.parts (t.order j) true false x)) vs ts named ≡ word (t.wide (suc j)) (λ i. tree_bit t (suc j) i vs)
value-stage t m j x vs ts named g h e =
    value-chosen (t.wide (suc j)) t.select (t.order j) (t.steps j false (tree_bit t j)) (t.steps j true (tree_bit t j)) (t.parts (t.order j) false false x) (t.parts (t.order j) true false x) vs ts named
    ((g.part j false h).value (tree_bit t j) x named e) ((g.part j true h).value (tree_bit t j) x named e)

taint-stage : (t : Tree) (m j : ℕ) (x tx : Formula) (vs ts named : List Word) → IsTree t m vs ts → j < m → value_of x vs ts named ≡ word (t.wide j) (λ i. tree_bit t j i vs) → value_of tx vs ts named ≡ word (t.wide j) (differs (tree_bit t j) vs ts)
    → value_of (taint_choice (select_bit t.select (t.order j)) (select_taint t.select (t.order j)) (t.parts (t.order j) false false x) (t.parts (t.order j) false true tx) (t.parts (t.order j) true false x) (t.parts (t.order j) true true tx)) vs ts named
    ≡ word (t.wide (suc j)) (differs (tree_bit t (suc j)) vs ts)
taint-stage t m j x tx vs ts named g h e d =
    let before : (i : ℕ) → Ignores (tree_bit t j i) t.select (t.order j) = tree_ignores t m vs ts g j (t.order j) (omega arith) (λ i l q. g.apart j i l h (sym q)) in
    taint-chosen (t.wide (suc j)) t.select (t.order j) (t.steps j false (tree_bit t j)) (t.steps j true (tree_bit t j))
    (t.parts (t.order j) false false x) (t.parts (t.order j) false true tx) (t.parts (t.order j) true false x) (t.parts (t.order j) true true tx) vs ts named g.there (g.within j h)
    ((g.part j false h).ignores (tree_bit t j) (t.order j) before) ((g.part j true h).ignores (tree_bit t j) (t.order j) before)
    ((g.part j false h).value (tree_bit t j) x named e) ((g.part j false h).taint (tree_bit t j) tx named d)
    ((g.part j true h).value (tree_bit t j) x named e) ((g.part j true h).taint (tree_bit t j) tx named d)

pub value-staged : (t : Tree) (m : ℕ) (vs ts : List Word) (body : Formula) (w : Word) → IsTree t m vs ts → ((named : List Word) → IsNamed t m vs ts named → value_of body vs ts named ≡ w)
    → (r j : ℕ) (named : List Word) → j + r ≡ m → IsNamed t j vs ts named → value_of (staged t.select t.order t.parts body r j) vs ts named ≡ w
value-staged t m vs ts body w g done zero j named e n = let q : j ≡ m = omega arith in done named (record { value = n.value ∙ ap (λ k. word (t.wide k) (λ i. tree_bit t k i vs)) q; taint = n.taint ∙ ap (λ k. word (t.wide k) (differs (tree_bit t k) vs ts)) q })
value-staged t m vs ts body w g done (suc r) j named e n =
    let h : j < m = omega arith in
    let value : Word = value_of (stage_value t.select (t.order j) t.parts (Bound 1)) vs ts named in
    let taint : Word = value_of (stage_taint t.select (t.order j) t.parts (Bound 2) (Bound 1)) vs ts (value ∷ named) in
    value-staged t m vs ts body w g done r (suc j) (taint ∷ value ∷ named) (omega arith) (record {
      value = value-stage t m j (Bound 1) vs ts named g h n.value;
      taint = taint-stage t m j (Bound 2) (Bound 1) vs ts (value ∷ named) g h n.value n.taint;
    })

pub value-tree : (t : Tree) (m : ℕ) (vs ts named : List Word) (x tx body : Formula) (w : Word) → IsTree t m vs ts → value_of x vs ts named ≡ word (t.wide 0) (λ i. t.leaf i vs) → ((n : Word) → value_of tx vs ts (n ∷ named) ≡ word (t.wide 0) (differs t.leaf vs ts))
    → ((named : List Word) → IsNamed t m vs ts named → value_of body vs ts named ≡ w) → value_of (tree t.select t.order t.parts x tx m body) vs ts named ≡ w
value-tree t m vs ts named x tx body w g e d done = value-staged t m vs ts body w g done m 0 _ (omega arith) (record { value = e; taint = d _ })

-- ---- how stages are formed

-- the cost of the stages j, j + 1, .., as many as r
abbrev pub stages_cost : (ℕ → ℕ) → ℕ → ℕ → ℕ
stages_cost wide zero j = 0
stages_cost wide (suc r) j = 6 * pieces (wide (suc j)) + stages_cost wide r (suc j)

-- over operands of widths ws
pub record IsFormedTree (t : Tree) (m : ℕ) (ws : List ℕ) : Type 0 where
  pub select_width : ℕ
  pub select_there : slice_get ws t.select ≡ Some select_width
  pub select_few : select_width ≤ 65536
  pub within : (j : ℕ) → j < m → t.order j < select_width
  pub wide_some : (j : ℕ) → j ≤ m → 1 ≤ t.wide j
  pub wide_few : (j : ℕ) → j ≤ m → t.wide j ≤ 65536
  pub part : (j : ℕ) (one tainted : Bool) (x : Formula) (named : List ℕ) → j < m → IsFormed x ws named (t.wide j) 0 → IsFormed (t.parts (t.order j) one tainted x) ws named (t.wide (suc j)) 0

one_inside : (k n : ℕ) → k < n → list_all (λ i. nat_lt i n) (k ∷ []) ≡ true
one_inside k n h = grind (arith, nat_tests)

pub formed_bit : (q k n : ℕ) (ws named : List ℕ) → slice_get ws q ≡ Some n → k < n → n ≤ 65536 → IsFormed (select_bit q k) ws named 1 0
formed_bit q k n ws named e h few = formed_pick (k ∷ []) 1 (formed_value ws named q n e (omega arith) few) (one_inside k n h) refl (omega arith) (omega arith)

pub formed_bit_taint : (q k n : ℕ) (ws named : List ℕ) → slice_get ws q ≡ Some n → k < n → n ≤ 65536 → IsFormed (select_taint q k) ws named 1 0
formed_bit_taint q k n ws named e h few = formed_pick (k ∷ []) 1 (formed_taint ws named q n e (omega arith) few) (one_inside k n h) refl (omega arith) (omega arith)

formed_select : (t : Tree) (m j : ℕ) (ws named : List ℕ) → IsFormedTree t m ws → j < m → IsFormed (select_bit t.select (t.order j)) ws named 1 0
formed_select t m j ws named f h = formed_bit t.select (t.order j) f.select_width ws named f.select_there (f.within j h) f.select_few

formed_select_taint : (t : Tree) (m j : ℕ) (ws named : List ℕ) → IsFormedTree t m ws → j < m → IsFormed (select_taint t.select (t.order j)) ws named 1 0
formed_select_taint t m j ws named f h = formed_bit_taint t.select (t.order j) f.select_width ws named f.select_there (f.within j h) f.select_few

pub formed_staged : (t : Tree) (m : ℕ) (ws : List ℕ) (body : Formula) (n k : ℕ) → IsFormedTree t m ws
    → ((named : List ℕ) → slice_get named 1 ≡ Some (t.wide m) → slice_get named 0 ≡ Some (t.wide m) → IsFormed body ws named n k)
    → (r j : ℕ) (named : List ℕ) → j + r ≡ m → slice_get named 1 ≡ Some (t.wide j) → slice_get named 0 ≡ Some (t.wide j) → IsFormed (staged t.select t.order t.parts body r j) ws named n (stages_cost t.wide r j + k)
formed_staged t m ws body n k f done zero j named e a b = let q : j ≡ m = omega arith in raised (0 + k) (done named (a ∙ ap (λ i. Some (t.wide i)) q) (b ∙ ap (λ i. Some (t.wide i)) q)) (omega arith)
formed_staged t m ws body n k f done (suc r) j named e a b =
    let h : j < m = omega arith in
    let some : 1 ≤ t.wide (suc j) = f.wide_some (suc j) (omega arith) in
    let value : IsFormed (Bound 1) ws named (t.wide j) 0 = formed_bound ws named 1 (t.wide j) a (f.wide_some j (omega arith)) (f.wide_few j (omega arith)) in
    let first : IsFormed (Choose (select_bit t.select (t.order j)) (t.parts (t.order j) false false (Bound 1)) (t.parts (t.order j) true false (Bound 1))) ws named (t.wide (suc j)) (0 + 0 + 0 + pieces (t.wide (suc j))) =
    formed_choose (formed_select t m j ws named f h) (f.part j false false (Bound 1) named h value) (f.part j true false (Bound 1) named h value) some in
    let under : List ℕ = t.wide (suc j) ∷ named in
    let value' : IsFormed (Bound 2) ws under (t.wide j) 0 = formed_bound ws under 2 (t.wide j) a (f.wide_some j (omega arith)) (f.wide_few j (omega arith)) in
    let taint' : IsFormed (Bound 1) ws under (t.wide j) 0 = formed_bound ws under 1 (t.wide j) b (f.wide_some j (omega arith)) (f.wide_few j (omega arith)) in
    let second = formed_taint_choice (formed_select t m j ws under f h) (formed_select_taint t m j ws under f h) (f.part j false false (Bound 2) under h value') (f.part j false true (Bound 1) under h taint') (f.part j true false (Bound 2) under h value') (f.part j true true (Bound 1) under h taint') some in
    let rest = formed_staged t m ws body n k f done r (suc j) (t.wide (suc j) ∷ under) (omega arith) refl refl in
    raised (stages_cost t.wide (suc r) j + k) (formed_let first (formed_let second rest)) (omega arith)

pub formed_tree : (t : Tree) (m : ℕ) (ws named : List ℕ) (x tx body : Formula) (n k : ℕ) → IsFormedTree t m ws → IsFormed x ws named (t.wide 0) 0 → ((i : ℕ) → IsFormed tx ws (i ∷ named) (t.wide 0) 0)
    → ((named : List ℕ) → slice_get named 1 ≡ Some (t.wide m) → slice_get named 0 ≡ Some (t.wide m) → IsFormed body ws named n k) → IsFormed (tree t.select t.order t.parts x tx m body) ws named n (stages_cost t.wide m 0 + k)
formed_tree t m ws named x tx body n k f a b done = raised (stages_cost t.wide m 0 + k) (formed_let a (formed_let (b (t.wide 0)) (formed_staged t m ws body n k f done m 0 (t.wide 0 ∷ t.wide 0 ∷ named) (omega arith) refl refl))) (omega arith)
