-- Four numbers hold the words of at most four operands.
use Rattle.std.specs.Prelude.{ℕ, zero, suc, ◌<◌, ◌≤◌, ◌^◌, ◌≡◌, Bool, List, [], ◌∷◌, get_or, length, map, refl}
use Rattle.std.proofs.Common.{arith, ap, ◌∙◌}
use Rattle.cif_defs.specs.Words.{Word, word_of}
use Rattle.cif_defs.specs.Run.{src_word, words_under}
use Rattle.cif_defs.specs.TaintRun.{taint_word, taints_under}
use Rattle.cif_defs.specs.declared.nets.Src.{Src}
use Rattle.word_numbers.specs.HeldWords.{AreNarrow, held}
use Rattle.word_numbers.specs.NarrowCells.{AreWithin128}
use Rattle.word_numbers.specs.declared.words.Words.{Words}

-- an operand has at most 128 bits
pub within_at : (ops : List (List Src)) (p : ℕ) (ss : List Src) → AreWithin128 (map length ops) → ss ≡ get_or ops p [] → length ss ≤ 128
within_at [] p ss h e = let z : length ss ≡ 0 = ap length e in omega arith
within_at (s ∷ ops) zero ss h e = let l : length s ≤ 128 = h.0 in let z : length ss ≡ length s = ap length e in omega arith
within_at (s ∷ ops) (suc p) ss h e = within_at ops p ss h.1 e

held_four : (f : List Src → Word) (ops : List (List Src)) (a b c d : ℕ) → length ops ≤ 4 → word_of (length (get_or ops 0 [])) a ≡ f (get_or ops 0 []) → word_of (length (get_or ops 1 [])) b ≡ f (get_or ops 1 []) → word_of (length (get_or ops 2 [])) c ≡ f (get_or ops 2 [])
    → word_of (length (get_or ops 3 [])) d ≡ f (get_or ops 3 []) → held (map length ops) (a ∷ b ∷ c ∷ d ∷ []) ≡ map f ops
held_four f [] a b c d l ea eb ec ed = refl
held_four f (s ∷ []) a b c d l ea eb ec ed = rw ea refl
held_four f (s ∷ t ∷ []) a b c d l ea eb ec ed = rw (ea, eb) refl
held_four f (s ∷ t ∷ u ∷ []) a b c d l ea eb ec ed = rw (ea, eb, ec) refl
held_four f (s ∷ t ∷ u ∷ v ∷ []) a b c d l ea eb ec ed = rw (ea, eb, ec, ed) refl
held_four f (s ∷ t ∷ u ∷ v ∷ w ∷ ops) a b c d l ea eb ec ed = absurd (omega (arith, l))

values_each : (v : ℕ → Bool) (ops : List (List Src)) → map (src_word v) ops ≡ words_under v ops
values_each v [] = refl
values_each v (ss ∷ ops) = ap (λ (ws : List Word). src_word v ss ∷ ws) (values_each v ops)

taints_each : (t : ℕ → Bool) (ops : List (List Src)) → map (taint_word t) ops ≡ taints_under t ops
taints_each t [] = refl
taints_each t (ss ∷ ops) = ap (λ (ws : List Word). taint_word t ss ∷ ws) (taints_each t ops)

pub held_values : (v : ℕ → Bool) (ops : List (List Src)) (a b c d : ℕ) → length ops ≤ 4 → word_of (length (get_or ops 0 [])) a ≡ src_word v (get_or ops 0 []) → word_of (length (get_or ops 1 [])) b ≡ src_word v (get_or ops 1 []) → word_of (length (get_or ops 2 [])) c ≡ src_word v (get_or ops 2 [])
    → word_of (length (get_or ops 3 [])) d ≡ src_word v (get_or ops 3 []) → held (map length ops) (a ∷ b ∷ c ∷ d ∷ []) ≡ words_under v ops
held_values v ops a b c d l ea eb ec ed = held_four (src_word v) ops a b c d l ea eb ec ed ∙ values_each v ops

pub held_taints : (v : ℕ → Bool) (ops : List (List Src)) (a b c d : ℕ) → length ops ≤ 4 → word_of (length (get_or ops 0 [])) a ≡ taint_word v (get_or ops 0 []) → word_of (length (get_or ops 1 [])) b ≡ taint_word v (get_or ops 1 []) → word_of (length (get_or ops 2 [])) c ≡ taint_word v (get_or ops 2 [])
    → word_of (length (get_or ops 3 [])) d ≡ taint_word v (get_or ops 3 []) → held (map length ops) (a ∷ b ∷ c ∷ d ∷ []) ≡ taints_under v ops
held_taints v ops a b c d l ea eb ec ed = held_four (taint_word v) ops a b c d l ea eb ec ed ∙ taints_each v ops

width_at : (ops : List (List Src)) (p : ℕ) → get_or (map length ops) p 0 ≡ length (get_or ops p [])
width_at [] p = refl
width_at (s ∷ ops) zero = refl
width_at (s ∷ ops) (suc p) = width_at ops p

below_at : (ops : List (List Src)) (p x : ℕ) → x < 2 ^ length (get_or ops p []) → x < 2 ^ get_or (map length ops) p 0
below_at ops p x l = let e : 2 ^ get_or (map length ops) p 0 ≡ 2 ^ length (get_or ops p []) = ap (λ n. 2 ^ n) (width_at ops p) in omega arith

pub narrow_four : (ops : List (List Src)) (w : Words) → w.a < 2 ^ length (get_or ops 0 []) → w.b < 2 ^ length (get_or ops 1 []) → w.c < 2 ^ length (get_or ops 2 []) → w.d < 2 ^ length (get_or ops 3 []) → AreNarrow (map length ops) w
narrow_four ops w a b c d = record {
  a = below_at ops 0 w.a a;
  b = below_at ops 1 w.b b;
  c = below_at ops 2 w.c c;
  d = below_at ops 3 w.d d;
}
