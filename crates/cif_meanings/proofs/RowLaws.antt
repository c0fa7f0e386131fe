-- The output words of a cell, from the row of its kind.
use Rattle.std.specs.Prelude.{ℕ, ◌≡◌, ◌≢◌, ◌⊎◌, true, List, [], ◌∷◌, refl}
use Rattle.std.proofs.Common.{sym, ap, ◌∙◌, Result, IfOk, Vec, Global, inl, inr}
use Rattle.std.proofs.lemmas.Result.{IfOk-weaker}
use Rattle.cif_defs.specs.Words.{Word, operand}
use Rattle.cif_defs.specs.Cells.{Cell, meaning, words_by, y_width, a_signed}
use Rattle.cif_defs.specs.Meanings.{reduce_or_word, shl_word}
use Rattle.cif_defs.specs.declared.kinds.Kind.{Kind}
use Rattle.cif_defs.specs.declared.kinds.Kind.TheVariants.{Not, Pos, And, Or, Xor, Xnor, ReduceAnd, ReduceOr, ReduceXor, ReduceXnor, ReduceBool, LogicNot, LogicAnd, LogicOr, Shl, Sshl, Shr, Sshr, Shift, Shiftx}
use Rattle.cif_meanings.specs.CellPorts.{is_unary, is_binary, is_shift}

-- an answer that is the one word of a list
pub alone : {E : Type 0} (r : Result Word E) (v : Word) (ws : List Word) → v ∷ [] ≡ ws → IfOk r (λ w. w ≡ v) → IfOk r (λ w. w ∷ [] ≡ ws)
alone r v ws e h = IfOk-weaker r (λ w. w ≡ v) (λ w. w ∷ [] ≡ ws) (λ w q. ap (λ (x : Word). x ∷ []) q ∙ e) h

pub all_words : {E : Type 0} (r : Result (Vec Word Global) E) (u v : List Word) → u ≡ v → IfOk r (λ ws. ws.items ≡ u) → IfOk r (λ ws. ws.items ≡ v)
all_words r u v e h = IfOk-weaker r (λ (ws : Vec Word Global). ws.items ≡ u) (λ (ws : Vec Word Global). ws.items ≡ v) (λ ws q. q ∙ e) h

-- what a cell gives by its kind
pub by_kind : (c : Cell) (us : List Word) (found k : Kind) (ws : List Word) → found ≡ c.kind → found ≡ k → words_by k c us ≡ ws → ws ≡ meaning c us
by_kind c us found k ws e h row = sym (ap (λ x. words_by x c us) (sym e ∙ h) ∙ row)

-- ---- a row at what the code read

pub row_2 : {A B : Type 0} (row : A → B → Word) (a p : A) (b q : B) (ws : List Word) → a ≡ p → b ≡ q → row p q ∷ [] ≡ ws → row a b ∷ [] ≡ ws
row_2 row a p b q ws e f h = ap (λ x. row x b ∷ []) e ∙ ap (λ x. row p x ∷ []) f ∙ h

pub row_3 : {A B C : Type 0} (row : A → B → C → Word) (a p : A) (b q : B) (c r : C) (ws : List Word) → a ≡ p → b ≡ q → c ≡ r → row p q r ∷ [] ≡ ws → row a b c ∷ [] ≡ ws
row_3 row a p b q c r ws e f g h = ap (λ x. row x b c ∷ []) e ∙ row_2 (row p) b q c r ws f g h

pub row_4 : {A B C D : Type 0} (row : A → B → C → D → Word) (a p : A) (b q : B) (c r : C) (d s : D) (ws : List Word) → a ≡ p → b ≡ q → c ≡ r → d ≡ s → row p q r s ∷ [] ≡ ws → row a b c d ∷ [] ≡ ws
row_4 row a p b q c r d s ws e f g i h = ap (λ x. row x b c d ∷ []) e ∙ row_3 (row p) b q c r d s ws f g i h

pub row_5 : {A B C D F : Type 0} (row : A → B → C → D → F → Word) (a p : A) (b q : B) (c r : C) (d s : D) (f t : F) (ws : List Word) → a ≡ p → b ≡ q → c ≡ r → d ≡ s → f ≡ t → row p q r s t ∷ [] ≡ ws → row a b c d f ∷ [] ≡ ws
row_5 row a p b q c r d s f t ws e g i j k h = ap (λ x. row x b c d f ∷ []) e ∙ row_4 (row p) b q c r d s f t ws g i j k h

-- two words of one shape
pub both_words : (row other : ℕ → Word → Word → Word → Word) (n m : ℕ) (a p b q c r x y : Word) (ws : List Word) → n ≡ m → a ≡ p → b ≡ q → c ≡ r → x ≡ row n a b c → y ≡ other n a b c
    → row m p q r ∷ other m p q r ∷ [] ≡ ws → x ∷ y ∷ [] ≡ ws
both_words row other n m a p b q c r x y ws e f g h i j k = cc

-- ---- kinds that share a row

pub left_shift : (k : Kind) (c : Cell) (us : List Word) → (k ≡ Shl) ⊎ (k ≡ Sshl) → words_by k c us ≡ shl_word (y_width c) (a_signed c) (operand us 0) (operand us 1) ∷ []
unfolding words_by
left_shift k c us (inl e) = ap (λ x. words_by x c us) e
left_shift k c us (inr e) = ap (λ x. words_by x c us) e

-- ---- the kinds that are left in each family

pub last_unary : (k : Kind) (c : Cell) (us : List Word) → is_unary k ≡ true → k ≢ Not → k ≢ Pos → k ≢ ReduceAnd → k ≢ ReduceXor → k ≢ ReduceXnor → k ≢ LogicNot
    → words_by k c us ≡ reduce_or_word (y_width c) (operand us 0) ∷ []
unfolding words_by
last_unary ReduceOr c us e n1 n2 n3 n4 n5 n6 = refl
last_unary ReduceBool c us e n1 n2 n3 n4 n5 n6 = refl
last_unary Not c us e n1 n2 n3 n4 n5 n6 = absurd (n1 refl)
last_unary Pos c us e n1 n2 n3 n4 n5 n6 = absurd (n2 refl)
last_unary ReduceAnd c us e n1 n2 n3 n4 n5 n6 = absurd (n3 refl)
last_unary ReduceXor c us e n1 n2 n3 n4 n5 n6 = absurd (n4 refl)
last_unary ReduceXnor c us e n1 n2 n3 n4 n5 n6 = absurd (n5 refl)
last_unary LogicNot c us e n1 n2 n3 n4 n5 n6 = absurd (n6 refl)
last_unary _ c us e n1 n2 n3 n4 n5 n6 = absurd (cc)

pub last_binary : (k : Kind) → is_binary k ≡ true → k ≢ And → k ≢ Or → k ≢ Xor → k ≢ Xnor → k ≢ LogicAnd → k ≡ LogicOr
last_binary LogicOr e n1 n2 n3 n4 n5 = refl
last_binary And e n1 n2 n3 n4 n5 = absurd (n1 refl)
last_binary Or e n1 n2 n3 n4 n5 = absurd (n2 refl)
last_binary Xor e n1 n2 n3 n4 n5 = absurd (n3 refl)
last_binary Xnor e n1 n2 n3 n4 n5 = absurd (n4 refl)
last_binary LogicAnd e n1 n2 n3 n4 n5 = absurd (n5 refl)
last_binary _ e n1 n2 n3 n4 n5 = absurd (cc)

pub last_shift : (k : Kind) → is_shift k ≡ true → k ≢ Shl → k ≢ Sshl → k ≢ Shr → k ≢ Sshr → k ≢ Shift → k ≡ Shiftx
last_shift Shiftx e n1 n2 n3 n4 n5 = refl
last_shift Shl e n1 n2 n3 n4 n5 = absurd (n1 refl)
last_shift Sshl e n1 n2 n3 n4 n5 = absurd (n2 refl)
last_shift Shr e n1 n2 n3 n4 n5 = absurd (n3 refl)
last_shift Sshr e n1 n2 n3 n4 n5 = absurd (n4 refl)
last_shift Shift e n1 n2 n3 n4 n5 = absurd (n5 refl)
last_shift _ e n1 n2 n3 n4 n5 = absurd (cc)
