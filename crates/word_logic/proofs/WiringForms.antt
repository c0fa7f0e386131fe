-- Forms of $concat, $slice and $fa: what numbers have to be, and what they hold.
use Rattle.std.specs.Prelude.{ℕ, ◌<◌, ◌≡◌, ◌-◌, ◌+◌, ◌^◌, [], ◌∷◌}
use Rattle.std.proofs.Common.{sym, subst}
use Rattle.cif_defs.specs.Words.{word_of}
use Rattle.cif_defs.specs.Meanings.{concat_word, slice_word}
use Rattle.word_numbers.specs.HeldWords.{AreNarrow, words_held}
use Rattle.word_numbers.specs.declared.words.Words.{Words}
use Rattle.word_logic.specs.declared.form.LogicForm.{LogicForm}
use Rattle.word_logic.specs.declared.form.LogicForm.TheVariants.{Joined, Sliced, Adder}
use Rattle.word_logic.specs.LogicForms.{IsJoin, IsSound, form_operands, form_outputs, form_taints, form_words}
use Rattle.word_logic.specs.LogicWords.{carry_taint, parity_taint}
use Rattle.word_logic.proofs.HeldOutputs.{one_held, room_above, two_held}

pub join_of : (f : LogicForm) (m n : ℕ) → f ≡ Joined m n → IsSound f → IsJoin m n
join_of f m n e s = subst IsSound e s

pub join_operands : (f : LogicForm) (v : Words) (m n : ℕ) → f ≡ Joined m n → AreNarrow (form_operands f) v → AreNarrow (m ∷ n ∷ []) v
join_operands f v m n e h = subst (λ g. AreNarrow (form_operands g) v) e h

pub join_room : (f : LogicForm) (v : Words) (m n : ℕ) → f ≡ Joined m n → IsSound f → AreNarrow (form_operands f) v → v.b < 2 ^ (128 - m)
join_room f v m n e s h = let j = join_of f m n e s in let w = join_operands f v m n e h in room_above m n v.b j.limit w.b

-- b is what x is joined of, for any width of its high part
pub joined_words : (f : LogicForm) (v r : Words) (m n x : ℕ) → f ≡ Joined m n → AreNarrow (form_operands f) v → r ≡ record { a = x; b = 0; c = 0; d = 0 }
    → ((k : ℕ) → v.b < 2 ^ k → word_of (m + k) x ≡ concat_word m k (word_of m v.a) (word_of k v.b)) → words_held (form_outputs f) r ≡ form_words f (words_held (form_operands f) v)
joined_words f v r m n x e h q made =
    let w = join_operands f v m n e h in
    subst (λ g. words_held (form_outputs g) r ≡ form_words g (words_held (form_operands g) v)) (sym e) (one_held (m + n) x (concat_word m n (word_of m v.a) (word_of n v.b)) r q (made n w.b))

pub joined_taints : (f : LogicForm) (v t r : Words) (m n x : ℕ) → f ≡ Joined m n → AreNarrow (form_operands f) t → r ≡ record { a = x; b = 0; c = 0; d = 0 }
    → ((k : ℕ) → t.b < 2 ^ k → word_of (m + k) x ≡ concat_word m k (word_of m t.a) (word_of k t.b)) → words_held (form_outputs f) r ≡ form_taints f (words_held (form_operands f) v) (words_held (form_operands f) t)
joined_taints f v t r m n x e h q made =
    let w = join_operands f t m n e h in
    subst (λ g. words_held (form_outputs g) r ≡ form_taints g (words_held (form_operands g) v) (words_held (form_operands g) t)) (sym e) (one_held (m + n) x (concat_word m n (word_of m t.a) (word_of n t.b)) r q (made n w.b))

pub part_operands : (f : LogicForm) (v : Words) (m at n : ℕ) → f ≡ Sliced m at n → AreNarrow (form_operands f) v → AreNarrow (m ∷ []) v
part_operands f v m at n e h = subst (λ g. AreNarrow (form_operands g) v) e h

pub sliced_words : (f : LogicForm) (v r : Words) (m at n x : ℕ) → f ≡ Sliced m at n → AreNarrow (form_operands f) v → r ≡ record { a = x; b = 0; c = 0; d = 0 }
    → ((k : ℕ) → v.a < 2 ^ k → word_of n x ≡ slice_word n at (word_of k v.a)) → words_held (form_outputs f) r ≡ form_words f (words_held (form_operands f) v)
sliced_words f v r m at n x e h q made =
    let w = part_operands f v m at n e h in
    subst (λ g. words_held (form_outputs g) r ≡ form_words g (words_held (form_operands g) v)) (sym e) (one_held n x (slice_word n at (word_of m v.a)) r q (made m w.a))

pub sliced_taints : (f : LogicForm) (v t r : Words) (m at n x : ℕ) → f ≡ Sliced m at n → AreNarrow (form_operands f) t → r ≡ record { a = x; b = 0; c = 0; d = 0 }
    → ((k : ℕ) → t.a < 2 ^ k → word_of n x ≡ slice_word n at (word_of k t.a)) → words_held (form_outputs f) r ≡ form_taints f (words_held (form_operands f) v) (words_held (form_operands f) t)
sliced_taints f v t r m at n x e h q made =
    let w = part_operands f t m at n e h in
    subst (λ g. words_held (form_outputs g) r ≡ form_taints g (words_held (form_operands g) v) (words_held (form_operands g) t)) (sym e) (one_held n x (slice_word n at (word_of m t.a)) r q (made m w.a))

pub adder_taints : (f : LogicForm) (v t r : Words) (n x y : ℕ) → f ≡ Adder n → r ≡ record { a = x; b = y; c = 0; d = 0 }
    → word_of n x ≡ carry_taint n (word_of n v.a) (word_of n t.a) (word_of n v.b) (word_of n t.b) (word_of n v.c) (word_of n t.c) → word_of n y ≡ parity_taint n (word_of n t.a) (word_of n t.b) (word_of n t.c)
    → words_held (form_outputs f) r ≡ form_taints f (words_held (form_operands f) v) (words_held (form_operands f) t)
adder_taints f v t r n x y e q a b =
    subst (λ g. words_held (form_outputs g) r ≡ form_taints g (words_held (form_operands g) v) (words_held (form_operands g) t)) (sym e) (two_held n n x y _ _ r q a b)
