-- Words with their taints, as formulas, and the choice between two of them by a control.
use Rattle.std.specs.Prelude.{ℕ, ◌==◌, nat_le, if◌then◌else◌}
use Rattle.cif_defs.specs.Words.{Word, bit, word, zeros}
use Rattle.cif_term.specs.declared.ops.Op1.TheVariants.{Not}
use Rattle.cif_term.specs.declared.ops.Op2.TheVariants.{Or, Xor}
use Rattle.cif_term.specs.Formulas.{Formula, Value, Taint, Const, Bound, One, Two, Choose, Let}

pub record Marked : Type 0 where
  pub value : Formula
  pub taint : Formula

-- the word of an operand
abbrev pub operand_mark : ℕ → Marked
operand_mark p = record { value = Value p; taint = Taint p }

-- n bits that are always those of w
abbrev pub fixed_mark : ℕ → Word → Marked
fixed_mark n w = record { value = Const (word n (λ i. bit w i)); taint = Const (zeros n) }

-- whether the control at operand p is active, which it never is where its polarity is neither 0 nor 1
abbrev pub control_mark : ℕ → ℕ → Marked
control_mark polarity p = record {
  value = if polarity == 1 then Value p else (if polarity == 0 then One Not (Value p) else Const (zeros 1));
  taint = if nat_le polarity 1 then Taint p else Const (zeros 1);
}

-- y where the control c is active, else x; inside, Bound 1 is the taint of x, and Bound 0 that of y
abbrev pub chosen_mark : Marked → Marked → Marked → Marked
chosen_mark c x y = record {
  value = Choose c.value x.value y.value;
  taint = Let x.taint (Let y.taint (Choose c.taint
      (Choose c.value (Bound 1) (Bound 0))
      (Two Or (Two Or (Bound 1) (Bound 0)) (Two Xor x.value y.value))));
}
