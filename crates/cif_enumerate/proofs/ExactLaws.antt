-- Exact taint, output by output.
use Rattle.std.specs.Prelude.{ℕ, ◌+◌, ◌<◌, ◌≡◌, false, if◌then◌else◌, List, [], ◌∷◌, ◌++◌, map, length, get_or}
use Rattle.std.specs.List.{range_with_len}
use Rattle.std.proofs.Common.{arith, sym, ap, ◌∙◌}
use Rattle.std.proofs.lemmas.List.{get_or_default}
use Rattle.std.proofs.lemmas.List.FromFn.{map-range_with_len_more}
use Rattle.cif_defs.specs.Cells.{Cell, coarse_by, meaning}
use Rattle.cif_defs.specs.Completions.{can_differ}
use Rattle.cif_defs.specs.Kinds.{is_coarse}
use Rattle.cif_defs.specs.Taint.{output_bit, output_taint}
use Rattle.cif_defs.specs.Words.{Word, bit, operand, word}
use Rattle.cif_enumerate.specs.ExactWords.{exact_bits}

-- the exact taint of output p
abbrev pub exact_at : Cell → List Word → List Word → ℕ → Word
exact_at c vs ts p = exact_bits c p (length (operand (meaning c vs) p)) vs ts

-- one more output
pub exact_pushed : (c : Cell) (vs ts outputs words more : List Word) (p n : ℕ) (output w : Word) → outputs ≡ meaning c vs → p < length outputs → output ≡ get_or outputs p output → n ≡ length output → w ≡ exact_bits c p n vs ts → words ≡ map (exact_at c vs ts) (range_with_len 0 p) → more ≡ words ++ w ∷ [] → more ≡ map (exact_at c vs ts) (range_with_len 0 (p + 1))
exact_pushed c vs ts outputs words more p n output w given inside read long made so_far pushed =
    let same : output ≡ operand (meaning c vs) p = read ∙ get_or_default outputs p output [] inside ∙ ap (λ (us : List Word). operand us p) given in
    let here : w ≡ exact_at c vs ts p = made ∙ ap (λ k. exact_bits c p k vs ts) (long ∙ ap length same) in
    pushed
    ∙ ap (λ (us : List Word). us ++ w ∷ []) so_far
    ∙ ap (λ (u : Word). map (exact_at c vs ts) (range_with_len 0 p) ++ u ∷ []) here
    ∙ sym (map-range_with_len_more (exact_at c vs ts) 0 p p (omega arith))

-- it is the taint of the output, but for the kinds of coarse taint
pub exact_is_taint : (c : Cell) (p n : ℕ) (vs ts : List Word) → is_coarse c.kind ≡ false → exact_bits c p n vs ts ≡ word n (λ i. output_taint c p i vs ts)
exact_is_taint c p n vs ts exact = ap (λ b. word n (λ i. if b then bit (coarse_by c.kind c vs ts) i else can_differ (output_bit c p i) vs ts)) (sym exact)
