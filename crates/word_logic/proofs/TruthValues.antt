-- Flags of kinds with operands as truth values, and complements.
use Rattle.std.specs.Prelude.{ℕ, ◌≡◌, Bool, true, false, not, ◌&&◌, ◌||◌, refl}
use Rattle.std.proofs.Common.{sym, ap, ◌∙◌}
use Rattle.cif_defs.specs.Coarse.{max_word, min_word}
use Rattle.cif_defs.specs.Meanings.{not_word}
use Rattle.cif_defs.specs.Words.{Word, extend, flag_word, has_one, word_of}
use Rattle.cif_defs.specs.declared.kinds.Kind.{Kind}
use Rattle.cif_defs.specs.declared.kinds.Kind.TheVariants.{LogicAnd, LogicOr, Not}
use Rattle.cif_defs.proofs.Numbers.{word-same}
use Rattle.word_logic.specs.declared.bounds.Chance.{Chance}
use Rattle.word_logic.specs.Chances.{is_logic, logic_open}
use Rattle.word_logic.specs.LogicWords.{binary_taint, binary_word, unary_word}
use Rattle.word_logic.proofs.Bitwise.{shown_bit}

pub unary-not : (k : Kind) (n m : ℕ) (s : Bool) (v x c : ℕ) → k ≡ Not → word_of n x ≡ extend n s (word_of m v) → word_of n c ≡ not_word n false (word_of n x) → word_of n c ≡ unary_word k n s (word_of m v)
unfolding unary_word
unary-not k n m s v x c e f g =
    g ∙ ap (λ (w : Word). not_word n false w) f ∙ word-same n _ _ (λ i h. ap not (shown_bit n s (word_of m v) i h)) ∙ sym (ap (λ j. unary_word j n s (word_of m v)) e)

pub value-logic_and : (k : Kind) (n : ℕ) (s p q : Bool) (a b w : Word) → k ≡ LogicAnd → p ≡ has_one a → q ≡ has_one b → w ≡ flag_word n (p && q) → w ≡ binary_word k n s a b
unfolding binary_word
value-logic_and k n s p q a b w e f g h = h ∙ ap (λ x. flag_word n (x && q)) f ∙ ap (λ y. flag_word n (has_one a && y)) g ∙ sym (ap (λ j. binary_word j n s a b) e)

pub value-logic_or : (k : Kind) (n : ℕ) (s p q : Bool) (a b w : Word) → k ≡ LogicOr → p ≡ has_one a → q ≡ has_one b → w ≡ flag_word n (p || q) → w ≡ binary_word k n s a b
unfolding binary_word
value-logic_or k n s p q a b w e f g h = h ∙ ap (λ x. flag_word n (x || q)) f ∙ ap (λ y. flag_word n (has_one a || y)) g ∙ sym (ap (λ j. binary_word j n s a b) e)

-- what can be said of a word with its taint
abbrev pub chance_of : Word → Word → Chance
chance_of a t = record { possible = has_one (max_word a t); certain = has_one (min_word a t) }

abbrev made : Bool → Bool → Chance
made p c = record { possible = p; certain = c }

same_chance : (x y : Chance) → x.possible ≡ y.possible → x.certain ≡ y.certain → x ≡ y
same_chance x y e f = ap (λ p. made p x.certain) e ∙ ap (made y.possible) f

open_by : (k : Kind) (n : ℕ) (s : Bool) (a t b u : Word) → is_logic k ≡ true → flag_word n (logic_open k (chance_of a t) (chance_of b u)) ≡ binary_taint k n s a t b u
unfolding binary_taint
open_by LogicAnd n s a t b u h = refl
open_by LogicOr n s a t b u h = refl
open_by _ n s a t b u h = absurd (cc)

pub taint-logic : (k : Kind) (n : ℕ) (s o : Bool) (x y : Chance) (a t b u w : Word) → is_logic k ≡ true → x.possible ≡ has_one (max_word a t) → x.certain ≡ has_one (min_word a t)
    → y.possible ≡ has_one (max_word b u) → y.certain ≡ has_one (min_word b u) → o ≡ logic_open k x y → w ≡ flag_word n o → w ≡ binary_taint k n s a t b u
taint-logic k n s o x y a t b u w h xp xc yp yc e f =
    f ∙ ap (flag_word n) e ∙ ap (λ (z : Chance). flag_word n (logic_open k z y)) (same_chance x (chance_of a t) xp xc)
    ∙ ap (λ (z : Chance). flag_word n (logic_open k (chance_of a t) z)) (same_chance y (chance_of b u) yp yc) ∙ open_by k n s a t b u h
