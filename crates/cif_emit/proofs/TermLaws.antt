-- Terms as cells, form by form.
use Rattle.std.specs.Prelude.{ℕ, zero, suc, ◌+◌, ◌≤◌, ◌≡◌, max, Bool, true, false, ◌&&◌, List, [], ◌∷◌, ◌++◌, map, length, get_or, Option, Some, unwrap_or, if◌then◌else◌, IsTrue, refl}
use Rattle.std.proofs.Common.{arith, ap, sym, ◌∙◌, subst, length-append}
use Rattle.std.proofs.lemmas.List.{map-append, length-map}
use Rattle.cif_defs.specs.Words.{Word, bit, operand}
use Rattle.cif_defs.specs.declared.raw_module.RawBit.{RawBit}
use Rattle.cif_defs.specs.declared.raw_module.RawBit.TheVariants.{Zero}
use Rattle.cif_defs.specs.declared.raw_module.RawCell.{RawCell}
use Rattle.cif_term.specs.declared.ops.Op1.{Op1}
use Rattle.cif_term.specs.declared.ops.Op2.{Op2}
use Rattle.cif_term.specs.Formulas.{Formula, Value, Taint, Const, Bound, Pick, Join, One, Two, Choose, Let, value_of, width_of, cost_of, plain_width, picked, one_word, two_word, one_width, two_width, one_cost, two_cost, pieces, is_on_numbers, same_width}
use Rattle.cif_term.proofs.Lengths.{length-value, width_range, pick_some, join_some, one_some, two_some, same_some, choose_some, let_some}
use Rattle.cif_raw_runs.specs.Assigned.{raw_bit, raw_word, raw_words}
use Rattle.cif_emit.specs.Constants.{constant_bits, picked_bits}
use Rattle.cif_emit.specs.Makers.{Maker}
use Rattle.cif_emit.specs.Emitted.{is_known, are_known, IsEmitted, IsEmittedIn, IsValue, value_bits, taint_bits, all_bits, widths}
use Rattle.cif_emit.specs.declared.terms.OperandPair.{OperandPair}
use Rattle.cif_emit.proofs.Emissions.{known_append, known_first, known_second, nothing_emitted, then_emitted, weaker, shown_emitted}

-- ---- bits and words

pub words_wide : (v : ℕ → Bool) (words : List (List RawBit)) → map length (raw_words v words) ≡ widths words
words_wide v [] = refl
words_wide v (w ∷ words) = let first : length (raw_word v w) ≡ length w = length-map w (raw_bit v) in let rest = words_wide v words in (cc)

word_at : (v : ℕ → Bool) (words : List (List RawBit)) (p : ℕ) → raw_word v (get_or words p []) ≡ operand (raw_words v words) p
word_at v [] p = refl
word_at v (w ∷ words) zero = refl
word_at v (w ∷ words) (suc p) = word_at v words p

both_true : (a b : Bool) → a ≡ true → b ≡ true → (a && b) ≡ true
both_true a b h k = ap (λ x. x && b) h ∙ k

at_known : (known : List ℕ) (words : List (List RawBit)) (p : ℕ) → are_known known (all_bits words) ≡ true → are_known known (get_or words p []) ≡ true
at_known known [] p h = refl
at_known known (w ∷ words) zero h = known_first known w (all_bits words) h
at_known known (w ∷ words) (suc p) h = at_known known words p (known_second known w (all_bits words) h)

constant_word : (v : ℕ → Bool) (w : Word) → raw_word v (constant_bits w) ≡ w
constant_word v [] = refl
constant_word v (true ∷ w) = ap (λ (l : Word). true ∷ l) (constant_word v w)
constant_word v (false ∷ w) = ap (λ (l : Word). false ∷ l) (constant_word v w)

constant_known : (known : List ℕ) (w : Word) → are_known known (constant_bits w) ≡ true
constant_known known [] = refl
constant_known known (true ∷ w) = constant_known known w
constant_known known (false ∷ w) = constant_known known w

bit_picked : (v : ℕ → Bool) (bits : List RawBit) (i : ℕ) → raw_bit v (get_or bits i Zero) ≡ bit (raw_word v bits) i
bit_picked v [] i = refl
bit_picked v (b ∷ bits) zero = refl
bit_picked v (b ∷ bits) (suc i) = bit_picked v bits i

word_picked : (v : ℕ → Bool) (places : List ℕ) (bits : List RawBit) → raw_word v (picked_bits places bits) ≡ picked places (raw_word v bits)
word_picked v [] bits = refl
word_picked v (i ∷ places) bits = let first = bit_picked v bits i in let rest = word_picked v places bits in (cc)

first_of_known : (known : List ℕ) (b : RawBit) (bits : List RawBit) → are_known known (b ∷ bits) ≡ true → is_known known b ≡ true
first_of_known known b bits h = only (is_known known b) (are_known known bits) h
  where
    only : (p q : Bool) → (p && q) ≡ true → p ≡ true
    only true q e = refl
    only false q e = e

rest_of_known : (known : List ℕ) (b : RawBit) (bits : List RawBit) → are_known known (b ∷ bits) ≡ true → are_known known bits ≡ true
rest_of_known known b bits h = known_second known (b ∷ []) bits h

bit_known : (known : List ℕ) (bits : List RawBit) (i : ℕ) → are_known known bits ≡ true → is_known known (get_or bits i Zero) ≡ true
bit_known known [] i h = refl
bit_known known (b ∷ bits) zero h = first_of_known known b bits h
bit_known known (b ∷ bits) (suc i) h = bit_known known bits i (rest_of_known known b bits h)

picked_known : (known : List ℕ) (places : List ℕ) (bits : List RawBit) → are_known known bits ≡ true → are_known known (picked_bits places bits) ≡ true
picked_known known [] bits h = refl
picked_known known (i ∷ places) bits h = both_true _ _ (bit_known known bits i h) (picked_known known places bits h)

-- ---- what formed means

abbrev pub IsFormedOver : Formula → List OperandPair → List (List RawBit) → Type 0
IsFormedOver f ports named = (n : ℕ) × (width_of f (widths (value_bits ports)) (widths named) ≡ Some n)

plain_is : (f : Formula) (ws nw : List ℕ) (n : ℕ) → width_of f ws nw ≡ Some n → plain_width f ws nw ≡ n
plain_is f ws nw n h = ap (λ (u : Option ℕ). unwrap_or u 0) h

-- the inputs of a formula
abbrev pub inputs_of : List OperandPair → List (List RawBit) → List RawBit
inputs_of ports named = all_bits (value_bits ports) ++ all_bits (taint_bits ports) ++ all_bits named

-- a form whose bits cost nothing
leaf_emitted : (m : Maker) (old : List RawCell) (f : Formula) (ports : List OperandPair) (named : List (List RawBit)) (bits : List RawBit)
    → widths (taint_bits ports) ≡ widths (value_bits ports) → IsFormedOver f ports named
    → ((known : List ℕ) → are_known known (inputs_of ports named) ≡ true → are_known known bits ≡ true)
    → ((v : ℕ → Bool) → IsValue f ports named v (raw_word v bits))
    → IsEmitted m m old old (inputs_of ports named) (IsValue f ports named) 0 (plain_width f (widths (value_bits ports)) (widths named)) bits
leaf_emitted m old f ports named bits shape formed shows means =
    let v : ℕ → Bool = λ _. false in
    let vs = raw_words v (value_bits ports) in
    let ts = raw_words v (taint_bits ports) in
    let ns = raw_words v named in
    let same : map length ts ≡ map length vs = words_wide v (taint_bits ports) ∙ shape ∙ sym (words_wide v (value_bits ports)) in
    let width : width_of f (map length vs) (map length ns) ≡ Some formed.0 = ap (λ (l : List ℕ). width_of f l (map length ns)) (words_wide v (value_bits ports)) ∙ ap (λ (l : List ℕ). width_of f (widths (value_bits ports)) l) (words_wide v named) ∙ formed.1 in
    let long : length bits ≡ formed.0 = sym (length-map bits (raw_bit v)) ∙ ap length (means v) ∙ length-value f vs ts ns formed.0 same width in
    nothing_emitted m old (inputs_of ports named) bits (IsValue f ports named) (plain_width f (widths (value_bits ports)) (widths named)) shows means (long ∙ sym (plain_is f _ _ formed.0 formed.1))

values_known : (known : List ℕ) (ports : List OperandPair) (named : List (List RawBit)) → are_known known (inputs_of ports named) ≡ true → are_known known (all_bits (value_bits ports)) ≡ true
values_known known ports named h = known_first known (all_bits (value_bits ports)) (all_bits (taint_bits ports)) (known_first known (all_bits (value_bits ports) ++ all_bits (taint_bits ports)) (all_bits named) h)

taints_known : (known : List ℕ) (ports : List OperandPair) (named : List (List RawBit)) → are_known known (inputs_of ports named) ≡ true → are_known known (all_bits (taint_bits ports)) ≡ true
taints_known known ports named h = known_second known (all_bits (value_bits ports)) (all_bits (taint_bits ports)) (known_first known (all_bits (value_bits ports) ++ all_bits (taint_bits ports)) (all_bits named) h)

names_known : (known : List ℕ) (ports : List OperandPair) (named : List (List RawBit)) → are_known known (inputs_of ports named) ≡ true → are_known known (all_bits named) ≡ true
names_known known ports named h = known_second known (all_bits (value_bits ports) ++ all_bits (taint_bits ports)) (all_bits named) h

-- ---- the forms; f is the formula of the whole

pub value_emitted : (m : Maker) (old : List RawCell) (f : Formula) (p : ℕ) (ports : List OperandPair) (named : List (List RawBit)) (bits : List RawBit) → f ≡ Value p
    → widths (taint_bits ports) ≡ widths (value_bits ports) → IsFormedOver f ports named → bits ≡ get_or (value_bits ports) p [] → IsEmittedIn m m old old f ports named bits
value_emitted m old f p ports named bits e shape formed b =
    subst (λ (g : Formula). IsEmittedIn m m old old g ports named bits) (sym e)
    (leaf_emitted m old (Value p) ports named bits shape (subst (λ (g : Formula). IsFormedOver g ports named) e formed)
    (λ known h. subst (λ (l : List RawBit). are_known known l ≡ true) (sym b) (at_known known (value_bits ports) p (values_known known ports named h)))
    (λ v. ap (raw_word v) b ∙ word_at v (value_bits ports) p))

pub taint_emitted : (m : Maker) (old : List RawCell) (f : Formula) (p : ℕ) (ports : List OperandPair) (named : List (List RawBit)) (bits : List RawBit) → f ≡ Taint p
    → widths (taint_bits ports) ≡ widths (value_bits ports) → IsFormedOver f ports named → bits ≡ get_or (taint_bits ports) p [] → IsEmittedIn m m old old f ports named bits
taint_emitted m old f p ports named bits e shape formed b =
    subst (λ (g : Formula). IsEmittedIn m m old old g ports named bits) (sym e)
    (leaf_emitted m old (Taint p) ports named bits shape (subst (λ (g : Formula). IsFormedOver g ports named) e formed)
    (λ known h. subst (λ (l : List RawBit). are_known known l ≡ true) (sym b) (at_known known (taint_bits ports) p (taints_known known ports named h)))
    (λ v. ap (raw_word v) b ∙ word_at v (taint_bits ports) p))

pub bound_emitted : (m : Maker) (old : List RawCell) (f : Formula) (p : ℕ) (ports : List OperandPair) (named : List (List RawBit)) (bits : List RawBit) → f ≡ Bound p
    → widths (taint_bits ports) ≡ widths (value_bits ports) → IsFormedOver f ports named → bits ≡ get_or named p [] → IsEmittedIn m m old old f ports named bits
bound_emitted m old f p ports named bits e shape formed b =
    subst (λ (g : Formula). IsEmittedIn m m old old g ports named bits) (sym e)
    (leaf_emitted m old (Bound p) ports named bits shape (subst (λ (g : Formula). IsFormedOver g ports named) e formed)
    (λ known h. subst (λ (l : List RawBit). are_known known l ≡ true) (sym b) (at_known known named p (names_known known ports named h)))
    (λ v. ap (raw_word v) b ∙ word_at v named p))

pub const_emitted : (m : Maker) (old : List RawCell) (f : Formula) (w : Word) (ports : List OperandPair) (named : List (List RawBit)) (bits : List RawBit) → f ≡ Const w
    → widths (taint_bits ports) ≡ widths (value_bits ports) → IsFormedOver f ports named → bits ≡ constant_bits w → IsEmittedIn m m old old f ports named bits
const_emitted m old f w ports named bits e shape formed b =
    subst (λ (g : Formula). IsEmittedIn m m old old g ports named bits) (sym e)
    (leaf_emitted m old (Const w) ports named bits shape (subst (λ (g : Formula). IsFormedOver g ports named) e formed)
    (λ known h. subst (λ (l : List RawBit). are_known known l ≡ true) (sym b) (constant_known known w))
    (λ v. ap (raw_word v) b ∙ constant_word v w))

pub pick_emitted : {m n : Maker} {old new : List RawCell} {bits : List RawBit} (f g : Formula) (places : List ℕ) (ports : List OperandPair) (named : List (List RawBit)) (zs : List RawBit) → f ≡ Pick g places
    → IsFormedOver f ports named → IsEmittedIn m n old new g ports named bits → (bs : List RawBit) → bs ≡ bits → zs ≡ picked_bits places bs → IsEmittedIn m n old new f ports named zs
pick_emitted {m} {n} {old} {new} {bits} f g places ports named zs e formed a bs same b =
    let formed_here : IsFormedOver (Pick g places) ports named = subst (λ (k : Formula). IsFormedOver k ports named) e formed in
    let r = pick_some places (width_of g (widths (value_bits ports)) (widths named)) formed_here.0 formed_here.1 in
    let zs_is : zs ≡ picked_bits places bits = b ∙ ap (picked_bits places) same in
    subst (λ (k : Formula). IsEmittedIn m n old new k ports named zs) (sym e)
    (shown_emitted (IsValue g ports named) (IsValue (Pick g places) ports named) zs (plain_width (Pick g places) (widths (value_bits ports)) (widths named)) a
    (λ known h. subst (λ (l : List RawBit). are_known known l ≡ true) (sym zs_is) (picked_known known places bits h))
    (λ v h. ap (raw_word v) zs_is ∙ word_picked v places bits ∙ ap (picked places) h)
    (ap length zs_is ∙ length-map places _ ∙ r.2 ∙ sym (plain_is (Pick g places) _ _ formed_here.0 formed_here.1)))

pub join_emitted : {l m n : Maker} {one two three : List RawCell} {low high : List RawBit} (f g k : Formula) (ports : List OperandPair) (named : List (List RawBit)) (zs : List RawBit) → f ≡ Join g k
    → IsFormedOver f ports named → IsEmittedIn l m one two g ports named low → IsEmittedIn m n two three k ports named high → zs ≡ low ++ high → IsEmittedIn l n one three f ports named zs
join_emitted {l} {m} {n} {one} {two} {three} {low} {high} f g k ports named zs e formed a b z =
    let formed_here : IsFormedOver (Join g k) ports named = subst (λ (q : Formula). IsFormedOver q ports named) e formed in
    let r = join_some (width_of g (widths (value_bits ports)) (widths named)) (width_of k (widths (value_bits ports)) (widths named)) formed_here.0 formed_here.1 in
    let first : length low ≡ r.0 = a.as_wide ∙ plain_is g _ _ r.0 r.2 in
    let second : length high ≡ r.1 = b.as_wide ∙ plain_is k _ _ r.1 r.3 in
    let both : r.0 + r.1 ≡ formed_here.0 = r.4 in
    let sum : length (low ++ high) ≡ formed_here.0 = omega (arith, length-append low high) in
    subst (λ (q : Formula). IsEmittedIn l n one three q ports named zs) (sym e)
    (then_emitted (IsValue g ports named) (IsValue k ports named) (IsValue (Join g k) ports named) zs (plain_width (Join g k) (widths (value_bits ports)) (widths named)) a b
    (λ q h j. h)
    (λ q h j. subst (λ (x : List RawBit). are_known q x ≡ true) (sym z) (known_append q low high h j))
    (λ v h j. ap (raw_word v) z ∙ map-append (raw_bit v) low high ∙ ap (λ (w : Word). w ++ raw_word v high) h ∙ ap (λ (w : Word). value_of g (raw_words v (value_bits ports)) (raw_words v (taint_bits ports)) (raw_words v named) ++ w) j)
    (ap length z ∙ sum ∙ sym (plain_is (Join g k) _ _ formed_here.0 formed_here.1)))

pub one_emitted_in : {l m n : Maker} {one two three : List RawCell} {bits y : List RawBit} (f g : Formula) (op : Op1) (ports : List OperandPair) (named : List (List RawBit)) → f ≡ One op g
    → IsFormedOver f ports named → IsEmittedIn l m one two g ports named bits → (a : List RawBit) → a ≡ bits
    → IsEmitted m n two three a (λ v w. w ≡ one_word op (raw_word v a)) (one_cost op (length a)) (one_width op (length a)) y → IsEmittedIn l n one three f ports named y
one_emitted_in {l} {m} {n} {one} {two} {three} {bits} {y} f g op ports named e formed part a same b =
    let formed_here : IsFormedOver (One op g) ports named = subst (λ (q : Formula). IsFormedOver q ports named) e formed in
    let ws = widths (value_bits ports) in
    let nw = widths named in
    let r = one_some op (width_of g ws nw) formed_here.0 formed_here.1 in
    let wide : length a ≡ plain_width g ws nw = ap length same ∙ part.as_wide in
    let whole : one_width op (length a) ≡ plain_width (One op g) ws nw = ap (one_width op) (wide ∙ plain_is g ws nw r.0 r.1) ∙ r.2 ∙ sym (plain_is (One op g) ws nw formed_here.0 formed_here.1) in
    let cost : cost_of g ws nw + one_cost op (length a) ≡ cost_of (One op g) ws nw = ap (λ k. cost_of g ws nw + one_cost op k) wide in
    subst (λ (q : Formula). IsEmittedIn l n one three q ports named y) (sym e)
    (weaker (inputs_of ports named) (inputs_of ports named) (IsValue (One op g) ports named) (IsValue (One op g) ports named) (cost_of g ws nw + one_cost op (length a)) (cost_of (One op g) ws nw) (one_width op (length a)) (plain_width (One op g) ws nw)
    (then_emitted (IsValue g ports named) (λ v w. w ≡ one_word op (raw_word v a)) (IsValue (One op g) ports named) y (one_width op (length a)) part b
    (λ q h j. subst (λ (x : List RawBit). are_known q x ≡ true) (sym same) j) (λ q h j. j) (λ v h j. j ∙ ap (one_word op) (ap (raw_word v) same ∙ h)) b.as_wide)
    (λ q h. h) (λ v w h. h) (subst (λ k. cost_of g ws nw + one_cost op (length a) ≤ k) cost (omega arith)) whole)

-- two parts, each of which has its value
abbrev AreValues : Formula → Formula → List OperandPair → List (List RawBit) → List RawBit → List RawBit → (ℕ → Bool) → Word → Type 0
AreValues g k ports named a b v w = IsValue g ports named v (raw_word v a) × IsValue k ports named v (raw_word v b)

two_parts : {l m n : Maker} {one two three : List RawCell} {a b : List RawBit} (g k : Formula) (ports : List OperandPair) (named : List (List RawBit))
    → IsEmittedIn l m one two g ports named a → IsEmittedIn m n two three k ports named b
    → IsEmitted l n one three (inputs_of ports named) (AreValues g k ports named a b) (cost_of g (widths (value_bits ports)) (widths named) + cost_of k (widths (value_bits ports)) (widths named)) (length (a ++ b)) (a ++ b)
two_parts {a = a} {b = b} g k ports named x y =
    then_emitted (IsValue g ports named) (IsValue k ports named) (AreValues g k ports named a b) (a ++ b) (length (a ++ b)) x y (λ q h j. h) (λ q h j. known_append q a b h j) (λ v h j. (h, j)) refl

max_same : (n : ℕ) → max n n ≡ n
max_same n = omega arith

pub two_emitted_in : {l m n o : Maker} {one two three four : List RawCell} {a b y : List RawBit} (f g k : Formula) (op : Op2) (ports : List OperandPair) (named : List (List RawBit)) → f ≡ Two op g k
    → IsFormedOver f ports named → IsEmittedIn l m one two g ports named a → IsEmittedIn m n two three k ports named b → (p q : List RawBit) → p ≡ a → q ≡ b
    → IsEmitted n o three four (p ++ q) (λ v w. w ≡ two_word op (raw_word v p) (raw_word v q)) (two_cost op (length p)) (two_width op (length p)) y → IsEmittedIn l o one four f ports named y
two_emitted_in {l} {m} {n} {o} {one} {two} {three} {four} {a} {b} {y} f g k op ports named e formed first second p q ep eq last =
    let formed_here : IsFormedOver (Two op g k) ports named = subst (λ (x : Formula). IsFormedOver x ports named) e formed in
    let ws = widths (value_bits ports) in
    let nw = widths named in
    let r = two_some op (same_width (width_of g ws nw) (width_of k ws nw)) formed_here.0 formed_here.1 in
    let both = same_some (width_of g ws nw) (width_of k ws nw) r.0 r.1 in
    let pg : plain_width g ws nw ≡ r.0 = plain_is g ws nw r.0 both.0 in
    let pk : plain_width k ws nw ≡ r.0 = plain_is k ws nw r.0 both.1 in
    let wide : length p ≡ r.0 = ap length ep ∙ first.as_wide ∙ pg in
    let widest : max (plain_width g ws nw) (plain_width k ws nw) ≡ r.0 = ap (λ x. max x (plain_width k ws nw)) pg ∙ ap (max r.0) pk ∙ max_same r.0 in
    let whole : two_width op (length p) ≡ plain_width (Two op g k) ws nw = ap (two_width op) wide ∙ r.2 ∙ sym (plain_is (Two op g k) ws nw formed_here.0 formed_here.1) in
    let cost : cost_of g ws nw + cost_of k ws nw + two_cost op (length p) ≡ cost_of (Two op g k) ws nw = ap (λ x. cost_of g ws nw + cost_of k ws nw + two_cost op x) (wide ∙ sym widest) in
    subst (λ (x : Formula). IsEmittedIn l o one four x ports named y) (sym e)
    (weaker (inputs_of ports named) (inputs_of ports named) (IsValue (Two op g k) ports named) (IsValue (Two op g k) ports named) (cost_of g ws nw + cost_of k ws nw + two_cost op (length p)) (cost_of (Two op g k) ws nw) (two_width op (length p)) (plain_width (Two op g k) ws nw)
    (then_emitted (AreValues g k ports named a b) (λ v w. w ≡ two_word op (raw_word v p) (raw_word v q)) (IsValue (Two op g k) ports named) y (two_width op (length p)) (two_parts g k ports named first second) last
    (λ s h j. subst (λ (x : List RawBit). are_known s (x ++ q) ≡ true) (sym ep) (subst (λ (x : List RawBit). are_known s (a ++ x) ≡ true) (sym eq) j)) (λ s h j. j)
    (λ v h j. j ∙ ap (λ (x : Word). two_word op x (raw_word v q)) (ap (raw_word v) ep ∙ h.0) ∙ ap (λ (x : Word). two_word op (value_of g (raw_words v (value_bits ports)) (raw_words v (taint_bits ports)) (raw_words v named)) x) (ap (raw_word v) eq ∙ h.1)) last.as_wide)
    (λ s h. h) (λ v w h. h) (subst (λ x. cost_of g ws nw + cost_of k ws nw + two_cost op (length p) ≤ x) cost (omega arith)) whole)

abbrev AreChoices : Formula → Formula → Formula → List OperandPair → List (List RawBit) → List RawBit → List RawBit → List RawBit → (ℕ → Bool) → Word → Type 0
AreChoices s g k ports named c a b v w = IsValue s ports named v (raw_word v c) × IsValue g ports named v (raw_word v a) × IsValue k ports named v (raw_word v b)

widest : (n : ℕ) → 1 ≤ n → max 1 (max n n) ≡ n
widest n h = omega arith

pub choose_emitted_in : {l m n o u : Maker} {one two three four five : List RawCell} {c a b y : List RawBit} (f s g k : Formula) (ports : List OperandPair) (named : List (List RawBit)) → f ≡ Choose s g k
    → IsFormedOver f ports named → IsEmittedIn l m one two s ports named c → IsEmittedIn m n two three g ports named a → IsEmittedIn n o three four k ports named b → (t p q : List RawBit) → t ≡ c → p ≡ a → q ≡ b
    → IsEmitted o u four five (t ++ (p ++ q)) (λ v w. w ≡ (if bit (raw_word v t) 0 then raw_word v q else raw_word v p)) (pieces (length p)) (length p) y → IsEmittedIn l u one five f ports named y
choose_emitted_in {l} {m} {n} {o} {u} {one} {two} {three} {four} {five} {c} {a} {b} {y} f s g k ports named e formed select first second t p q et ep eq last =
    let formed_here : IsFormedOver (Choose s g k) ports named = subst (λ (x : Formula). IsFormedOver x ports named) e formed in
    let ws = widths (value_bits ports) in
    let nw = widths named in
    let n : ℕ = formed_here.0 in
    let r = choose_some (width_of s ws nw) (same_width (width_of g ws nw) (width_of k ws nw)) n formed_here.1 in
    let both = same_some (width_of g ws nw) (width_of k ws nw) n r.1 in
    let some : 1 ≤ n = (width_range g ws nw n both.0).0 in
    let ps : plain_width s ws nw ≡ 1 = plain_is s ws nw 1 r.0 in
    let pg : plain_width g ws nw ≡ n = plain_is g ws nw n both.0 in
    let pk : plain_width k ws nw ≡ n = plain_is k ws nw n both.1 in
    let wide : length p ≡ n = ap length ep ∙ first.as_wide ∙ pg in
    let most : max (plain_width s ws nw) (max (plain_width g ws nw) (plain_width k ws nw)) ≡ n =
    ap (λ x. max x (max (plain_width g ws nw) (plain_width k ws nw))) ps ∙ ap (λ x. max 1 (max x (plain_width k ws nw))) pg ∙ ap (λ x. max 1 (max n x)) pk ∙ widest n some in
    let cost : cost_of s ws nw + cost_of g ws nw + cost_of k ws nw + pieces (length p) ≡ cost_of (Choose s g k) ws nw = ap (λ x. cost_of s ws nw + cost_of g ws nw + cost_of k ws nw + pieces x) (wide ∙ sym most) in
    let parts : IsEmitted l o one four (inputs_of ports named) (AreChoices s g k ports named c a b) (cost_of s ws nw + cost_of g ws nw + cost_of k ws nw) (length (c ++ (a ++ b))) (c ++ (a ++ b)) =
    then_emitted (AreValues s g ports named c a) (IsValue k ports named) (AreChoices s g k ports named c a b) (c ++ (a ++ b)) (length (c ++ (a ++ b))) (two_parts s g ports named select first) second (λ x h j. h)
    (λ x h j. known_append x c (a ++ b) (known_first x c a h) (known_append x a b (known_second x c a h) j)) (λ v h j. (h.0, h.1, j)) refl in
    subst (λ (x : Formula). IsEmittedIn l u one five x ports named y) (sym e)
    (weaker (inputs_of ports named) (inputs_of ports named) (IsValue (Choose s g k) ports named) (IsValue (Choose s g k) ports named) (cost_of s ws nw + cost_of g ws nw + cost_of k ws nw + pieces (length p)) (cost_of (Choose s g k) ws nw) (length p) (plain_width (Choose s g k) ws nw)
    (then_emitted (AreChoices s g k ports named c a b) (λ v w. w ≡ (if bit (raw_word v t) 0 then raw_word v q else raw_word v p)) (IsValue (Choose s g k) ports named) y (length p) parts last
    (λ x h j. subst (λ (z : List RawBit). are_known x (z ++ (p ++ q)) ≡ true) (sym et) (subst (λ (z : List RawBit). are_known x (c ++ (z ++ q)) ≡ true) (sym ep) (subst (λ (z : List RawBit). are_known x (c ++ (a ++ z)) ≡ true) (sym eq) j))) (λ x h j. j)
    (λ v h j. j ∙ ap (λ (x : Word). if bit x 0 then raw_word v q else raw_word v p) (ap (raw_word v) et ∙ h.0)
    ∙ ap (λ (x : Word). if bit (value_of s (raw_words v (value_bits ports)) (raw_words v (taint_bits ports)) (raw_words v named)) 0 then x else raw_word v p) (ap (raw_word v) eq ∙ h.2)
    ∙ ap (λ (x : Word). if bit (value_of s (raw_words v (value_bits ports)) (raw_words v (taint_bits ports)) (raw_words v named)) 0 then value_of k (raw_words v (value_bits ports)) (raw_words v (taint_bits ports)) (raw_words v named) else x) (ap (raw_word v) ep ∙ h.1)) last.as_wide)
    (λ x h. h) (λ v w h. h) (subst (λ x. cost_of s ws nw + cost_of g ws nw + cost_of k ws nw + pieces (length p) ≤ x) cost (omega arith))
    (wide ∙ sym (plain_is (Choose s g k) ws nw n formed_here.1)))

pub let_emitted_in : {l m n : Maker} {one two three : List RawCell} {bits y : List RawBit} (f g k : Formula) (ports : List OperandPair) (named inside : List (List RawBit)) → f ≡ Let g k
    → IsFormedOver f ports named → IsEmittedIn l m one two g ports named bits → inside ≡ bits ∷ named → IsEmittedIn m n two three k ports inside y → IsEmittedIn l n one three f ports named y
let_emitted_in {l} {m} {n} {one} {two} {three} {bits} {y} f g k ports named inside e formed part es body =
    let formed_here : IsFormedOver (Let g k) ports named = subst (λ (q : Formula). IsFormedOver q ports named) e formed in
    let ws = widths (value_bits ports) in
    let nw = widths named in
    let r = let_some (width_of g ws nw) (λ x. width_of k ws (x ∷ nw)) formed_here.0 formed_here.1 in
    let pg : plain_width g ws nw ≡ r.0 = plain_is g ws nw r.0 r.1 in
    let wide : length bits ≡ r.0 = part.as_wide ∙ pg in
    let here : IsEmittedIn m n two three k ports (bits ∷ named) y = subst (λ (x : List (List RawBit)). IsEmittedIn m n two three k ports x y) es body in
    let width : plain_width k ws (length bits ∷ nw) ≡ formed_here.0 = ap (λ x. plain_width k ws (x ∷ nw)) wide ∙ plain_is k ws (r.0 ∷ nw) formed_here.0 r.2 in
    let cost : cost_of g ws nw + cost_of k ws (length bits ∷ nw) ≡ cost_of (Let g k) ws nw = ap (λ x. cost_of g ws nw + cost_of k ws (x ∷ nw)) part.as_wide in
    subst (λ (q : Formula). IsEmittedIn l n one three q ports named y) (sym e)
    (weaker (inputs_of ports named) (inputs_of ports named) (IsValue (Let g k) ports named) (IsValue (Let g k) ports named) (cost_of g ws nw + cost_of k ws (length bits ∷ nw)) (cost_of (Let g k) ws nw) (plain_width k ws (length bits ∷ nw)) (plain_width (Let g k) ws nw)
    (then_emitted (IsValue g ports named) (IsValue k ports (bits ∷ named)) (IsValue (Let g k) ports named) y (plain_width k ws (length bits ∷ nw)) part here
    (λ q h j. known_append q (all_bits (value_bits ports) ++ all_bits (taint_bits ports)) (bits ++ all_bits named) (known_first q (all_bits (value_bits ports) ++ all_bits (taint_bits ports)) (all_bits named) h) (known_append q bits (all_bits named) j (names_known q ports named h)))
    (λ q h j. j)
    (λ v h j. j ∙ ap (λ (x : Word). value_of k (raw_words v (value_bits ports)) (raw_words v (taint_bits ports)) (x ∷ raw_words v named)) h) here.as_wide)
    (λ q h. h) (λ v w h. h) (subst (λ x. cost_of g ws nw + cost_of k ws (length bits ∷ nw) ≤ x) cost (omega arith))
    (width ∙ sym (plain_is (Let g k) ws nw formed_here.0 formed_here.1)))

-- ---- the parts of a well formed term are well formed

pub pick_part : (f g : Formula) (places : List ℕ) (ports : List OperandPair) (named : List (List RawBit)) → f ≡ Pick g places → IsFormedOver f ports named → IsFormedOver g ports named
pick_part f g places ports named e formed =
    let here : IsFormedOver (Pick g places) ports named = subst (λ (q : Formula). IsFormedOver q ports named) e formed in
    let r = pick_some places (width_of g (widths (value_bits ports)) (widths named)) here.0 here.1 in (r.0, r.1)

pub join_parts : (f g k : Formula) (ports : List OperandPair) (named : List (List RawBit)) → f ≡ Join g k → IsFormedOver f ports named → IsFormedOver g ports named × IsFormedOver k ports named
join_parts f g k ports named e formed =
    let here : IsFormedOver (Join g k) ports named = subst (λ (q : Formula). IsFormedOver q ports named) e formed in
    let r = join_some (width_of g (widths (value_bits ports)) (widths named)) (width_of k (widths (value_bits ports)) (widths named)) here.0 here.1 in ((r.0, r.2), (r.1, r.3))

pub one_part : (f g : Formula) (op : Op1) (ports : List OperandPair) (named : List (List RawBit)) → f ≡ One op g → IsFormedOver f ports named → IsFormedOver g ports named
one_part f g op ports named e formed =
    let here : IsFormedOver (One op g) ports named = subst (λ (q : Formula). IsFormedOver q ports named) e formed in
    let r = one_some op (width_of g (widths (value_bits ports)) (widths named)) here.0 here.1 in (r.0, r.1)

-- both parts of an operation have n bits
pub record HaveWidth (op : Op2) (g k : Formula) (ports : List OperandPair) (named : List (List RawBit)) (n : ℕ) : Type 0 where
  pub first : width_of g (widths (value_bits ports)) (widths named) ≡ Some n
  pub second : width_of k (widths (value_bits ports)) (widths named) ≡ Some n
  pub some : 1 ≤ n
  pub limit : n ≤ 65536
  pub numbers : IsTrue (is_on_numbers op) → n ≤ 128

pub two_part : (f g k : Formula) (op : Op2) (ports : List OperandPair) (named : List (List RawBit)) → f ≡ Two op g k → IsFormedOver f ports named → (n : ℕ) × HaveWidth op g k ports named n
two_part f g k op ports named e formed =
    let here : IsFormedOver (Two op g k) ports named = subst (λ (q : Formula). IsFormedOver q ports named) e formed in
    let ws = widths (value_bits ports) in
    let nw = widths named in
    let r = two_some op (same_width (width_of g ws nw) (width_of k ws nw)) here.0 here.1 in
    let both = same_some (width_of g ws nw) (width_of k ws nw) r.0 r.1 in
    let range = width_range g ws nw r.0 both.0 in
    (r.0, record { first = both.0; second = both.1; some = range.0; limit = range.1; numbers = r.3 })

pub record AreChoosable (s g k : Formula) (ports : List OperandPair) (named : List (List RawBit)) (n : ℕ) : Type 0 where
  pub select : width_of s (widths (value_bits ports)) (widths named) ≡ Some 1
  pub first : width_of g (widths (value_bits ports)) (widths named) ≡ Some n
  pub second : width_of k (widths (value_bits ports)) (widths named) ≡ Some n
  pub limit : n ≤ 65536

pub choose_part : (f s g k : Formula) (ports : List OperandPair) (named : List (List RawBit)) → f ≡ Choose s g k → IsFormedOver f ports named → (n : ℕ) × AreChoosable s g k ports named n
choose_part f s g k ports named e formed =
    let here : IsFormedOver (Choose s g k) ports named = subst (λ (q : Formula). IsFormedOver q ports named) e formed in
    let ws = widths (value_bits ports) in
    let nw = widths named in
    let r = choose_some (width_of s ws nw) (same_width (width_of g ws nw) (width_of k ws nw)) here.0 here.1 in
    let both = same_some (width_of g ws nw) (width_of k ws nw) here.0 r.1 in
    (here.0, record { select = r.0; first = both.0; second = both.1; limit = (width_range g ws nw here.0 both.0).1 })

pub let_named : (f g k : Formula) (ports : List OperandPair) (named : List (List RawBit)) → f ≡ Let g k → IsFormedOver f ports named → IsFormedOver g ports named
let_named f g k ports named e formed =
    let here : IsFormedOver (Let g k) ports named = subst (λ (q : Formula). IsFormedOver q ports named) e formed in
    let r = let_some (width_of g (widths (value_bits ports)) (widths named)) (λ x. width_of k (widths (value_bits ports)) (x ∷ widths named)) here.0 here.1 in (r.0, r.1)

pub let_body : {l m : Maker} {one two : List RawCell} {bits : List RawBit} (f g k : Formula) (ports : List OperandPair) (named inside : List (List RawBit)) → f ≡ Let g k → IsFormedOver f ports named
    → IsEmittedIn l m one two g ports named bits → inside ≡ bits ∷ named → IsFormedOver k ports inside
let_body {bits = bits} f g k ports named inside e formed part es =
    let here : IsFormedOver (Let g k) ports named = subst (λ (q : Formula). IsFormedOver q ports named) e formed in
    let ws = widths (value_bits ports) in
    let nw = widths named in
    let r = let_some (width_of g ws nw) (λ x. width_of k ws (x ∷ nw)) here.0 here.1 in
    let wide : length bits ≡ r.0 = part.as_wide ∙ plain_is g ws nw r.0 r.1 in
    (here.0, ap (λ (l : List (List RawBit)). width_of k ws (widths l)) es ∙ ap (λ x. width_of k ws (x ∷ nw)) wide ∙ r.2)

-- the width of what was emitted
pub wide_as : {m n : Maker} {old new : List RawCell} {bits : List RawBit} (f : Formula) (ports : List OperandPair) (named : List (List RawBit)) (k : ℕ) → IsEmittedIn m n old new f ports named bits
    → width_of f (widths (value_bits ports)) (widths named) ≡ Some k → length bits ≡ k
wide_as f ports named k a h = a.as_wide ∙ plain_is f (widths (value_bits ports)) (widths named) k h
