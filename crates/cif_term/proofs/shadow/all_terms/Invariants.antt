-- The terms so far, and what they give.
use Rattle.std.proofs.Common.{◌≡◌, List, length, map}
use Rattle.std.specs.List.{range_with_len}
use Rattle.cif_defs.specs.Words.{Word}
use Rattle.cif_term.specs.Formulas.{values_of}
use Rattle.cif_term.specs.TermView.{formula_of}
use Rattle.cif_term.proofs.shadow.all_terms.Given as goal

abbrev pub invariant-loop-output : goal.invariant-loop-output
invariant-loop-output g l = record {
  stand : map formula_of l.terms.items ≡ map (g.S.Shadow.formula l.shadow) (range_with_len 0 l.output);
  mean : (vs ts : List Word) → map length vs ≡ g.S.Shadow.widths l.shadow → map length ts ≡ g.S.Shadow.widths l.shadow
      → values_of (map formula_of l.terms.items) vs ts ≡ map (g.S.Shadow.meant l.shadow vs ts) (range_with_len 0 l.output);
}
