-- How the enable and the reset of a register decide which bit it takes, each bit with its taint.
use Rattle.std.specs.Prelude.{ℕ, ◌<◌, ◌≡◌, Bool, true, false, ◌&&◌, List, length}
use Rattle.cif_defs.specs.Words.{Word, bit, operand, xor}
use Rattle.cif_defs.specs.Registers.{is_active}
use Rattle.cif_defs.specs.Cells.{Cell, digits_of, next_word, number_of, reset_operand, shown_word, width}
use Rattle.cif_defs.specs.Taint.{next_register_taint, shown_taint}
use Rattle.cif_defs.specs.declared.kinds.Kind.{Kind}
use Rattle.cif_defs.specs.declared.kinds.Kind.TheVariants.{Dffe, Sdff, Sdffe, Sdffce, Adff, Adffe}
use Rattle.cif_defs.specs.declared.kinds.Param.{Param}
use Rattle.cif_defs.specs.declared.kinds.Param.TheVariants.{EnPolarity, SrstPolarity, SrstValue, ArstPolarity, ArstValue}
use Rattle.cif_register_bits.specs.declared.tainted_bit.TaintedBit.{TaintedBit}
use Rattle.cif_register_bits.specs.declared.controls.Precedence.{Precedence}
use Rattle.cif_register_bits.specs.declared.controls.Precedence.TheVariants.{Reset, Enable}
use Rattle.cif_register_bits.specs.declared.controls.Controls.{Controls}
use Rattle.cif_register_bits.specs.Choices.{bit_with, chosen, untainted}

-- ---- what is chosen

-- d where the enable is active, else the stored bit; and the bit r of the reset value where the reset is active
abbrev pub next_by_precedence : Precedence → Controls → Bool → TaintedBit → TaintedBit → TaintedBit
next_by_precedence Reset x r d stored = chosen x.reset (chosen x.enable stored d) (untainted r)
next_by_precedence Enable x r d stored = chosen x.enable stored (chosen x.reset d (untainted r))

abbrev pub next_of : Controls → Bool → TaintedBit → TaintedBit → TaintedBit
next_of x r d stored = next_by_precedence x.first x r d stored

-- the bit r of the reset value where the reset is active, else the stored bit
abbrev pub shown_of : Controls → Bool → TaintedBit → TaintedBit
shown_of x r stored = chosen x.reset stored (untainted r)

-- ---- by kind

-- whether a control of this polarity is active; that is tainted only where it depends on the control, which it doesn't by
-- a polarity that is neither 0 nor 1
abbrev pub active_bit : ℕ → TaintedBit → TaintedBit
active_bit polarity b = record { value = is_active polarity b.value; taint = b.taint && xor (is_active polarity false) (is_active polarity true) }

-- whether operand p is active, where vs and ts are the operand words and their taints
abbrev pub active_at : Cell → Param → List Word → List Word → ℕ → TaintedBit
active_at c polarity vs ts p = active_bit (number_of c polarity) (bit_with (operand vs p) (operand ts p) 0)

unfoldable pub enable_by : Kind → Cell → List Word → List Word → TaintedBit
enable_by Dffe c vs ts = active_at c EnPolarity vs ts 1
enable_by Sdffe c vs ts = active_at c EnPolarity vs ts 1
enable_by Sdffce c vs ts = active_at c EnPolarity vs ts 1
enable_by Adffe c vs ts = active_at c EnPolarity vs ts 1
enable_by _ c vs ts = untainted true

unfoldable pub reset_by : Kind → Cell → List Word → List Word → TaintedBit
reset_by Sdff c vs ts = active_at c SrstPolarity vs ts 1
reset_by Sdffe c vs ts = active_at c SrstPolarity vs ts 2
reset_by Sdffce c vs ts = active_at c SrstPolarity vs ts 2
reset_by Adff c vs ts = active_at c ArstPolarity vs ts 1
reset_by Adffe c vs ts = active_at c ArstPolarity vs ts 2
reset_by _ c vs ts = untainted false

unfoldable pub reset_value_by : Kind → Param
reset_value_by Adff = ArstValue
reset_value_by Adffe = ArstValue
reset_value_by _ = SrstValue

unfoldable pub precedence_by : Kind → Precedence
precedence_by Sdffce = Enable
precedence_by _ = Reset

abbrev pub controls_by : Kind → Cell → List Word → List Word → Controls
controls_by k c vs ts = record {
  enable = enable_by k c vs ts;
  reset = reset_by k c vs ts;
  reset_value = reset_value_by k;
  first = precedence_by k;
}

abbrev pub controls_of : Cell → List Word → List Word → Controls
controls_of c vs ts = controls_by c.kind c vs ts

-- ---- what controls have to be, where vs and ts are the operand words of a register and their taints

-- by x, the register stores next what it does, and the taint is that of what it stores next
pub record IsSteeredBy (c : Cell) (vs ts : List Word) (x : Controls) : Type 0 where
  pub value : (stored stored_taint : Word) (i : ℕ) → i < width c
      → (next_of x (bit (digits_of c x.reset_value) i) (bit_with (operand vs 0) (operand ts 0) i) (bit_with stored stored_taint i)).value ≡ bit (next_word c vs stored) i
  pub taint : (stored stored_taint : Word) (i : ℕ) → length stored ≡ width c → length stored_taint ≡ width c → i < width c
      → (next_of x (bit (digits_of c x.reset_value) i) (bit_with (operand vs 0) (operand ts 0) i) (bit_with stored stored_taint i)).taint ≡ bit (next_register_taint c vs ts stored stored_taint) i

-- by x, a register with asynchronous reset shows what it does, and the taint is that of what it shows
pub record IsShownBy (c : Cell) (vs ts : List Word) (x : Controls) : Type 0 where
  pub value : (stored stored_taint : Word) (i : ℕ) → i < width c
      → (shown_of x (bit (digits_of c x.reset_value) i) (bit_with stored stored_taint i)).value ≡ bit (shown_word c (bit (operand vs (reset_operand c.kind)) 0) stored) i
  pub taint : (stored stored_taint : Word) (i : ℕ) → length stored ≡ width c → length stored_taint ≡ width c → i < width c
      → (shown_of x (bit (digits_of c x.reset_value) i) (bit_with stored stored_taint i)).taint
      ≡ bit (shown_taint c (operand vs (reset_operand c.kind)) (operand ts (reset_operand c.kind)) stored stored_taint) i
