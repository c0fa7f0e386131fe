-- What sums add up, as formulas over the operands of a cell.
use Rattle.std.specs.Prelude.{ℕ, Bool, true, false, [], ◌∷◌, if◌then◌else◌}
use Rattle.cif_defs.specs.Words.{zeros}
use Rattle.cif_term.specs.declared.ops.Op1.TheVariants.{Not}
use Rattle.cif_term.specs.declared.ops.Op2.TheVariants.{And, Or, Xor}
use Rattle.cif_term.specs.Extended.{extended}
use Rattle.cif_term.specs.Formulas.{Formula, Value, Taint, Const, One, Two}
use Rattle.rule_arith.specs.declared.operands.Addend.{Addend}
use Rattle.rule_arith.specs.declared.operands.Addend.TheVariants.{Plain, Complement, Unit as UnitAddend, Inverted}
use Rattle.rule_arith.specs.Bounds.{sign_start}

-- operand p of m bits, extended to n bits, and its taint
abbrev pub operand_word : ℕ → Bool → ℕ → ℕ → Formula
operand_word n signed m p = extended n signed m (Value p)

abbrev pub operand_taint : ℕ → Bool → ℕ → ℕ → Formula
operand_taint n signed m p = extended n signed m (Taint p)

-- an operand of one bit where its taint is 0, or where it is 1
abbrev pub bit_bound : ℕ → Bool → Formula
bit_bound p upper = if upper then Two Or (Value p) (Taint p) else Two And (Value p) (One Not (Taint p))

-- n times the same bit: it is its own sign
abbrev pub repeated : ℕ → Formula → Formula
repeated n f = extended n true 1 f

-- the word of n bits that an addend stands for
abbrev pub addend_word : ℕ → Addend → Formula
addend_word n (Plain o) = operand_word n o.signed o.bits o.port
addend_word n (Complement o) = One Not (operand_word n o.signed o.bits o.port)
addend_word n UnitAddend = extended n false 1 (Const (true ∷ []))
addend_word n (Inverted o p upper) = Two Xor (operand_word n o.signed o.bits o.port) (repeated n (bit_bound p upper))

abbrev pub addend_taint : ℕ → Addend → Formula
addend_taint n (Plain o) = operand_taint n o.signed o.bits o.port
addend_taint n (Complement o) = operand_taint n o.signed o.bits o.port
addend_taint n UnitAddend = Const (zeros n)
addend_taint n (Inverted o p upper) = operand_taint n o.signed o.bits o.port

-- where its sign starts
abbrev pub addend_start : ℕ → Addend → ℕ
addend_start n (Plain o) = sign_start n o.signed o.bits
addend_start n (Complement o) = sign_start n o.signed o.bits
addend_start n UnitAddend = n
addend_start n (Inverted o p upper) = sign_start n o.signed o.bits
