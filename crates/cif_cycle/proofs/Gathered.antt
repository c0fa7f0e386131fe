-- Words that are gathered source by source.
use Rattle.std.specs.Prelude.{ℕ, zero, suc, ◌+◌, ◌<◌, ◌≡◌, Bool, List, [], ◌∷◌, ◌++◌, length, get_or, take}
use Rattle.std.proofs.Common.{arith, ap, refl, add-one}
use Rattle.cif_defs.specs.Words.{Word}
use Rattle.cif_defs.specs.Run.{src_bit, src_word, words_under}
use Rattle.cif_defs.specs.TaintRun.{src_taint, taint_word, taints_under}
use Rattle.cif_defs.specs.declared.nets.Src.{Src}

value_more_suc : (v : ℕ → Bool) (ss : List Src) (i : ℕ) (d : Src) → i < length ss → src_word v (take (suc i) ss) ≡ src_word v (take i ss) ++ src_bit v (get_or ss i d) ∷ []
value_more_suc v [] i d h = absurd (omega arith)
value_more_suc v (s ∷ ss) zero d h = refl
value_more_suc v (s ∷ ss) (suc i) d h = ap (λ (w : Word). src_bit v s ∷ w) (value_more_suc v ss i d (omega arith))

pub value_more : (v : ℕ → Bool) (ss : List Src) (i : ℕ) (d : Src) → i < length ss → src_word v (take (i + 1) ss) ≡ src_word v (take i ss) ++ src_bit v (get_or ss i d) ∷ []
value_more v ss i d h = rw add-one (value_more_suc v ss i d h)

taint_more_suc : (v : ℕ → Bool) (ss : List Src) (i : ℕ) (d : Src) → i < length ss → taint_word v (take (suc i) ss) ≡ taint_word v (take i ss) ++ src_taint v (get_or ss i d) ∷ []
taint_more_suc v [] i d h = absurd (omega arith)
taint_more_suc v (s ∷ ss) zero d h = refl
taint_more_suc v (s ∷ ss) (suc i) d h = ap (λ (w : Word). src_taint v s ∷ w) (taint_more_suc v ss i d (omega arith))

pub taint_more : (v : ℕ → Bool) (ss : List Src) (i : ℕ) (d : Src) → i < length ss → taint_word v (take (i + 1) ss) ≡ taint_word v (take i ss) ++ src_taint v (get_or ss i d) ∷ []
taint_more v ss i d h = rw add-one (taint_more_suc v ss i d h)

values_more_suc : (v : ℕ → Bool) (ops : List (List Src)) (i : ℕ) (d : List Src) → i < length ops → words_under v (take (suc i) ops) ≡ words_under v (take i ops) ++ src_word v (get_or ops i d) ∷ []
values_more_suc v [] i d h = absurd (omega arith)
values_more_suc v (s ∷ ss) zero d h = refl
values_more_suc v (s ∷ ss) (suc i) d h = ap (λ (w : List Word). src_word v s ∷ w) (values_more_suc v ss i d (omega arith))

pub values_more : (v : ℕ → Bool) (ops : List (List Src)) (i : ℕ) (d : List Src) → i < length ops → words_under v (take (i + 1) ops) ≡ words_under v (take i ops) ++ src_word v (get_or ops i d) ∷ []
values_more v ss i d h = rw add-one (values_more_suc v ss i d h)

taints_more_suc : (v : ℕ → Bool) (ops : List (List Src)) (i : ℕ) (d : List Src) → i < length ops → taints_under v (take (suc i) ops) ≡ taints_under v (take i ops) ++ taint_word v (get_or ops i d) ∷ []
taints_more_suc v [] i d h = absurd (omega arith)
taints_more_suc v (s ∷ ss) zero d h = refl
taints_more_suc v (s ∷ ss) (suc i) d h = ap (λ (w : List Word). taint_word v s ∷ w) (taints_more_suc v ss i d (omega arith))

pub taints_more : (v : ℕ → Bool) (ops : List (List Src)) (i : ℕ) (d : List Src) → i < length ops → taints_under v (take (i + 1) ops) ≡ taints_under v (take i ops) ++ taint_word v (get_or ops i d) ∷ []
taints_more v ss i d h = rw add-one (taints_more_suc v ss i d h)

pub value_push : (v : ℕ → Bool) (ss : List Src) (i : ℕ) (d : Src) (w u : Word) (x : Bool) → i < length ss → w ≡ src_word v (take i ss) → u ≡ w ++ x ∷ [] → x ≡ src_bit v (get_or ss i d) → u ≡ src_word v (take (i + 1) ss)
value_push v ss i d w u x h e q r = let m = value_more v ss i d h in cc

pub taint_push : (v : ℕ → Bool) (ss : List Src) (i : ℕ) (d : Src) (w u : Word) (x : Bool) → i < length ss → w ≡ taint_word v (take i ss) → u ≡ w ++ x ∷ [] → x ≡ src_taint v (get_or ss i d) → u ≡ taint_word v (take (i + 1) ss)
taint_push v ss i d w u x h e q r = let m = taint_more v ss i d h in cc

pub values_push : (v : ℕ → Bool) (ops : List (List Src)) (i : ℕ) (d : List Src) (w u : List Word) (x : Word) → i < length ops → w ≡ words_under v (take i ops) → u ≡ w ++ x ∷ [] → x ≡ src_word v (get_or ops i d) → u ≡ words_under v (take (i + 1) ops)
values_push v ops i d w u x h e q r = let m = values_more v ops i d h in cc

pub taints_push : (v : ℕ → Bool) (ops : List (List Src)) (i : ℕ) (d : List Src) (w u : List Word) (x : Word) → i < length ops → w ≡ taints_under v (take i ops) → u ≡ w ++ x ∷ [] → x ≡ taint_word v (get_or ops i d) → u ≡ taints_under v (take (i + 1) ops)
taints_push v ops i d w u x h e q r = let m = taints_more v ops i d h in cc
