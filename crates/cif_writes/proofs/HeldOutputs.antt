-- The words that numbers hold at outputs.
use Rattle.std.specs.Prelude.{ℕ, zero, suc, ◌<◌, ◌≤◌, ◌≡◌, List, [], ◌∷◌, get_or, length, map, refl}
use Rattle.std.proofs.Common.{arith, ap, ◌∙◌}
use Rattle.cif_defs.specs.Words.{word_of}
use Rattle.word_numbers.specs.HeldWords.{held, words_held}
use Rattle.word_numbers.specs.NarrowCells.{AreWithin128}
use Rattle.word_numbers.specs.declared.words.Words.{Words}

held_at : {A : Type 0} (outs : List (List A)) (xs : List ℕ) (i : ℕ) → i < length outs → length outs ≤ length xs → word_of (length (get_or outs i [])) (get_or xs i 0) ≡ get_or (held (map length outs) xs) i []
held_at [] xs i l f = absurd (omega arith)
held_at (o ∷ outs) [] i l f = absurd (omega arith)
held_at (o ∷ outs) (x ∷ xs) zero l f = refl
held_at (o ∷ outs) (x ∷ xs) (suc i) l f = held_at outs xs i (omega arith) (omega arith)

-- the word at an output that was read
pub held_output : {A : Type 0} (outs : List (List A)) (w : Words) (i : ℕ) (out : List A) (x : ℕ) → length outs ≤ 4 → i < length outs → out ≡ get_or outs i [] → x ≡ get_or (w.a ∷ w.b ∷ w.c ∷ w.d ∷ []) i 0 → word_of (length out) x ≡ get_or (words_held (map length outs) w) i []
held_output outs w i out x f l eo ex = ap (λ n. word_of n x) (ap length eo) ∙ ap (λ y. word_of (length (get_or outs i [])) y) ex ∙ held_at outs (w.a ∷ w.b ∷ w.c ∷ w.d ∷ []) i l f

pub narrow_output : {A : Type 0} (outs : List (List A)) (p : ℕ) (out : List A) → AreWithin128 (map length outs) → out ≡ get_or outs p [] → length out ≤ 128
narrow_output [] p out h e = let z : length out ≡ 0 = ap length e in omega arith
narrow_output (o ∷ outs) zero out h e = let l : length o ≤ 128 = h.0 in let z : length out ≡ length o = ap length e in omega arith
narrow_output (o ∷ outs) (suc p) out h e = narrow_output outs p out h.1 e
