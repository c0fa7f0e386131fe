-- The words that a cell reads are as wide as its operands, and so are their taints.
use Rattle.std.specs.Prelude.{ℕ, suc, ◌≡◌, Bool, List, [], ◌∷◌, length, map, refl}
use Rattle.std.proofs.Common.{ap}
use Rattle.cif_defs.specs.Run.{src_word, words_under}
use Rattle.cif_defs.specs.TaintRun.{taint_word, taints_under}
use Rattle.cif_defs.specs.declared.nets.Src.{Src}

pub length-source : (v : ℕ → Bool) (ss : List Src) → length (src_word v ss) ≡ length ss
length-source v [] = refl
length-source v (s ∷ ss) = ap suc (length-source v ss)

pub words_wide : (v : ℕ → Bool) (ops : List (List Src)) → map length (words_under v ops) ≡ map length ops
words_wide v [] = refl
words_wide v (ss ∷ ops) = let one : length (src_word v ss) ≡ length ss = length-source v ss in let rest : map length (words_under v ops) ≡ map length ops = words_wide v ops in cc

pub length-taint : (v : ℕ → Bool) (ss : List Src) → length (taint_word v ss) ≡ length ss
length-taint v [] = refl
length-taint v (s ∷ ss) = ap suc (length-taint v ss)

pub taints_wide : (v : ℕ → Bool) (ops : List (List Src)) → map length (taints_under v ops) ≡ map length ops
taints_wide v [] = refl
taints_wide v (ss ∷ ops) = let one : length (taint_word v ss) ≡ length ss = length-taint v ss in let rest : map length (taints_under v ops) ≡ map length ops = taints_wide v ops in cc
