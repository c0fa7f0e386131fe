-- When lines fit, step by step.
use Rattle.std.specs.Prelude.{◌≡◌, Bool, true, false, ◌&&◌, ◌||◌, List, [], ◌∷◌, map, reverse, refl}
use Rattle.std.proofs.Common.{sym, ap, ◌∙◌}
use Rattle.std.specs.List.{list_any}
use lib.Pointwise.{pointwise}
use mathlib.Core.List.{reverse-cons}
use Rattle.std.proofs.lemmas.List.Folds.{list_any-append}
use Rattle.cif_defs.specs.Stimulus.{StimLine as LineData}
use Rattle.cif_defs.specs.declared.nets.Src.{Src}
use Rattle.cif_defs.specs.declared.nets.Src.TheVariants.{Bit, Zero, One}
use Rattle.cif_defs.specs.contracts.nets.SrcPartialEq.TheImpl.{eq-value}
use Rattle.cif_stimulus.specs.StimulusView.{line_seen}
use Rattle.cif_stimulus.specs.Fitting.{is_same_source, are_same_sources}
use Rattle.cif_stimulus.specs.declared.line.StimLine.{StimLine}

-- ---- bits

same_source : (a b : Src) → (eq-value).it a b ≡ is_same_source a b
same_source (Bit a) (Bit b) = refl
same_source (Bit a) Zero = refl
same_source (Bit a) One = refl
same_source Zero (Bit b) = refl
same_source Zero Zero = refl
same_source Zero One = refl
same_source One (Bit b) = refl
same_source One Zero = refl
same_source One One = refl

pub same_sources : (us vs : List Src) → pointwise (eq-value).it us vs ≡ are_same_sources us vs
same_sources [] [] = refl
same_sources [] (v ∷ vs) = refl
same_sources (u ∷ us) [] = refl
same_sources (u ∷ us) (v ∷ vs) = ap (λ b. b && pointwise (eq-value).it us vs) (same_source u v) ∙ ap (λ b. is_same_source u v && b) (same_sources us vs)

-- ---- lines before a line, the nearest first

last_first : (a b : Bool) → (a || (b || false)) ≡ (b || a)
last_first true true = refl
last_first true false = refl
last_first false true = refl
last_first false false = refl

-- the order of lines says nothing of whether one of them passes a test
pub any_reversed : (test : LineData → Bool) (ls : List LineData) → list_any test (reverse ls) ≡ list_any test ls
any_reversed test [] = refl
any_reversed test (l ∷ ls) =
    ap (list_any test) (reverse-cons l ls)
    ∙ list_any-append test (reverse ls) (l ∷ [])
    ∙ last_first (list_any test (reverse ls)) (test l)
    ∙ ap (λ b. test l || b) (any_reversed test ls)

pub any_before : (test : LineData → Bool) (ls : List StimLine) → list_any (λ l. test (line_seen l)) ls ≡ list_any test (reverse (map line_seen ls))
any_before test [] = refl
any_before test (l ∷ ls) = sym
    (ap (list_any test) (reverse-cons (line_seen l) (map line_seen ls))
    ∙ list_any-append test (reverse (map line_seen ls)) (line_seen l ∷ [])
    ∙ last_first (list_any test (reverse (map line_seen ls))) (test (line_seen l))
    ∙ ap (λ b. test (line_seen l) || b) (sym (any_before test ls)))
