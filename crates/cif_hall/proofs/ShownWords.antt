-- The lengths of words that are read.
use Rattle.std.proofs.Common.{ℕ, suc, ◌≡◌, ◌≤◌, Bool, List, [], ◌∷◌, length, refl, ap, ◌∙◌, arith}
use Rattle.cif_defs.specs.Run.{src_word}
use Rattle.cif_defs.specs.TaintRun.{taint_word}
use Rattle.cif_defs.specs.declared.nets.Src.{Src}

length-values : (v : ℕ → Bool) (ss : List Src) → length (src_word v ss) ≡ length ss
length-values v [] = refl
length-values v (s ∷ ss) = ap suc (length-values v ss)

length-taints : (v : ℕ → Bool) (ss : List Src) → length (taint_word v ss) ≡ length ss
length-taints v [] = refl
length-taints v (s ∷ ss) = ap suc (length-taints v ss)

pub short-values : (v : ℕ → Bool) (ss bits : List Src) (w : List Bool) → w ≡ src_word v ss → ss ≡ bits → length bits ≤ 65536 → length w ≤ 65536
short-values v ss bits w is same short = omega (arith, ap (length {A = Bool}) is ∙ length-values v ss ∙ ap length same)

pub short-taints : (v : ℕ → Bool) (ss bits : List Src) (w : List Bool) → w ≡ taint_word v ss → ss ≡ bits → length bits ≤ 65536 → length w ≤ 65536
short-taints v ss bits w is same short = omega (arith, ap (length {A = Bool}) is ∙ length-taints v ss ∙ ap length same)
