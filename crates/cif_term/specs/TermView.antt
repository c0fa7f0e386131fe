-- The formula that a term stands for.
use Rattle.cif_term.specs.Formulas.{Formula, Value, Taint, Const, Bound, Pick, Join, One, Two, Choose, Let}
use Rattle.cif_term.specs.declared.term.Term.{Term, fold-Term}
use Rattle.cif_term.specs.declared.term.Term.TheOpen.{Term-F}

-- one level, with each part already seen as its formula
abbrev pub formula_step : Term-F Formula → Formula
formula_step (Term-F.Value p) = Value p
formula_step (Term-F.Taint p) = Taint p
formula_step (Term-F.Const w) = Const w
formula_step (Term-F.Bound i) = Bound i
formula_step (Term-F.Pick f places) = Pick f.value places
formula_step (Term-F.Join f g) = Join f.value g.value
formula_step (Term-F.One op f) = One op f.value
formula_step (Term-F.Two op f g) = Two op f.value g.value
formula_step (Term-F.Choose s f g) = Choose s.value f.value g.value
formula_step (Term-F.Let f g) = Let f.value g.value

abbrev pub formula_of : Term → Formula
formula_of = fold-Term Formula formula_step
