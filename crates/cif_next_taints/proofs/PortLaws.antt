-- The terms of a memory, emitted at one write port.
use Rattle.std.specs.Prelude.{ℕ, ◌≡◌, Bool, true, List, [], ◌∷◌, ◌++◌, length, get_or, Option, unwrap_or, refl}
use Rattle.std.proofs.Common.{arith, ap, sym, ◌∙◌, append-nil, subst}
use Rattle.cif_defs.specs.Words.{Word}
use Rattle.cif_defs.specs.declared.raw_module.RawBit.{RawBit}
use Rattle.cif_defs.specs.declared.raw_module.RawCell.{RawCell}
use Rattle.cif_term.specs.Formulas.{Formula, IsFormed, cost_of, plain_width}
use Rattle.rule_memory.specs.MemoryFormulas.{MemoryFormulas}
use Rattle.cif_raw_runs.specs.Assigned.{raw_word}
use Rattle.cif_emit.specs.Emitted.{IsEmitted, IsEmittedIn, IsValue, are_known, taint_bits, value_bits, widths}
use Rattle.cif_emit.specs.Makers.{Maker}
use Rattle.cif_emit.specs.declared.terms.OperandPair.{OperandPair}
use Rattle.cif_emit.proofs.Emissions.{known_append, known_first, then_emitted, weaker}
use Rattle.cif_next_taints.specs.Next.{bits_of}
use Rattle.cif_next_taints.specs.Ports.{AreFormedAt, AreNextAtPort, flag_operand, port_bits_written}
use Rattle.cif_next_taints.specs.declared.memories.PortWrites.{PortWrites}
use Rattle.cif_next_taints.proofs.Joins.{taint_widths_joined, value_widths_joined}
use Rattle.cif_next_taints.proofs.Known.{flag_known}

-- a formed term, emitted over operands alone
pub formed_emitted : {m n : Maker} {old new : List RawCell} {bits : List RawBit} (f : Formula) (operands : List OperandPair) (width k : ℕ) → IsFormed f (widths (value_bits operands)) [] width k
    → IsEmittedIn m n old new f operands [] bits → IsEmitted m n old new (bits_of operands) (IsValue f operands []) k width bits
formed_emitted f operands width k formed emitted =
    weaker (bits_of operands ++ []) (bits_of operands) (IsValue f operands []) (IsValue f operands []) (cost_of f (widths (value_bits operands)) []) k (plain_width f (widths (value_bits operands)) []) width emitted
    (λ known h. subst (λ (l : List RawBit). are_known known l ≡ true) (sym (append-nil (bits_of operands))) h)
    (λ v w h. h) formed.cost (ap (λ (u : Option ℕ). unwrap_or u 0) formed.width)

-- ---- the flag

pub flag_formed_over : (f : Formula) (operands : List OperandPair) (flag : RawBit) (all : List OperandPair) → all ≡ operands ++ flag_operand flag ∷ [] → IsFormed f (widths (value_bits operands) ++ 1 ∷ []) [] 1 5
    → IsFormed f (widths (value_bits all)) [] 1 5
flag_formed_over f operands flag all e formed =
    subst (λ (l : List ℕ). IsFormed f l [] 1 5) (sym (ap (λ (l : List OperandPair). widths (value_bits l)) e ∙ value_widths_joined operands (flag_operand flag))) formed

pub flag_shape : (operands : List OperandPair) (flag : RawBit) (all : List OperandPair) → all ≡ operands ++ flag_operand flag ∷ [] → widths (taint_bits operands) ≡ widths (value_bits operands)
    → widths (taint_bits all) ≡ widths (value_bits all)
flag_shape operands flag all e shape =
    ap (λ (l : List OperandPair). widths (taint_bits l)) e ∙ taint_widths_joined operands (flag_operand flag) ∙ ap (λ (l : List ℕ). l ++ 1 ∷ []) shape
    ∙ sym (ap (λ (l : List OperandPair). widths (value_bits l)) e ∙ value_widths_joined operands (flag_operand flag))

only_bit : (bits : List RawBit) (b d : RawBit) → length bits ≡ 1 → b ≡ get_or bits 0 d → bits ≡ b ∷ []
only_bit [] b d h e = absurd (cc)
only_bit (x ∷ []) b d h e = ap (λ (y : RawBit). y ∷ []) (sym e)
only_bit (x ∷ y ∷ bits) b d h e = absurd (cc)

pub flag_emitted : {m n : Maker} {old new : List RawCell} {bits : List RawBit} (f : Formula) (operands : List OperandPair) (flag b d : RawBit) (all : List OperandPair) → all ≡ operands ++ flag_operand flag ∷ []
    → IsFormed f (widths (value_bits operands) ++ 1 ∷ []) [] 1 5 → IsEmittedIn m n old new f all [] bits → b ≡ get_or bits 0 d
    → IsEmitted m n old new (bits_of operands ++ flag ∷ []) (IsValue f (operands ++ flag_operand flag ∷ []) []) 5 1 (b ∷ [])
flag_emitted {m} {n} {old} {new} {bits} f operands flag b d all e formed emitted first =
    let joined : List OperandPair = operands ++ flag_operand flag ∷ [] in
    let here : IsEmittedIn m n old new f joined [] bits = subst (λ (l : List OperandPair). IsEmittedIn m n old new f l [] bits) e emitted in
    let whole : IsEmitted m n old new (bits_of joined) (IsValue f joined []) 5 1 bits = formed_emitted f joined 1 5 (flag_formed_over f operands flag joined refl formed) here in
    subst (λ (l : List RawBit). IsEmitted m n old new (bits_of operands ++ flag ∷ []) (IsValue f joined []) 5 1 l) (only_bit bits b d whole.as_wide first)
    (weaker (bits_of joined) (bits_of operands ++ flag ∷ []) (IsValue f joined []) (IsValue f joined []) 5 5 1 1 whole (λ known h. flag_known known operands flag h) (λ v w h. h) (omega arith) refl)

-- ---- all that is emitted at a port

-- the enables and the word have their values
abbrev AreBoth : MemoryFormulas → List OperandPair → PortWrites → (ℕ → Bool) → Word → Type 0
AreBoth fs operands w v all = IsValue fs.enable operands [] v (raw_word v w.enables) × IsValue fs.word operands [] v (raw_word v w.words)

pub port_emitted : {l m k o : Maker} {one two three four : List RawCell} (fs : MemoryFormulas) (operands same : List OperandPair) (flag : RawBit) (w : PortWrites) → AreFormedAt fs (widths (value_bits operands))
    → IsEmittedIn l m one two fs.enable operands [] w.enables → IsEmittedIn m k two three fs.word operands [] w.words
    → same ≡ operands → IsEmitted k o three four (bits_of same ++ flag ∷ []) (IsValue fs.flag (same ++ flag_operand flag ∷ []) []) 5 1 (w.flag ∷ [])
    → IsEmitted l o one four (bits_of operands ++ flag ∷ []) (λ v all. AreNextAtPort fs operands flag w v) 9 (length (port_bits_written w)) (port_bits_written w)
port_emitted {l} {m} {k} {o} {one} {two} {three} {four} fs operands same flag w formed enables words e after =
    let inputs : List RawBit = bits_of operands ++ flag ∷ [] in
    let next : IsEmitted k o three four inputs (IsValue fs.flag (operands ++ flag_operand flag ∷ []) []) 5 1 (w.flag ∷ []) =
    subst (λ (l : List OperandPair). IsEmitted k o three four (bits_of l ++ flag ∷ []) (IsValue fs.flag (l ++ flag_operand flag ∷ []) []) 5 1 (w.flag ∷ [])) e after in
    let n : ℕ = get_or (widths (value_bits operands)) 0 0 in
    let first : IsEmitted l m one two inputs (IsValue fs.enable operands []) 3 n w.enables =
    weaker (bits_of operands) inputs (IsValue fs.enable operands []) (IsValue fs.enable operands []) 3 3 n n (formed_emitted fs.enable operands n 3 formed.enable enables)
    (λ known h. known_first known (bits_of operands) (flag ∷ []) h) (λ v x h. h) (omega arith) refl in
    then_emitted (AreBoth fs operands w) (IsValue fs.flag (operands ++ flag_operand flag ∷ []) []) (λ v all. AreNextAtPort fs operands flag w v) (port_bits_written w) (length (port_bits_written w))
    (then_emitted (IsValue fs.enable operands []) (IsValue fs.word operands []) (AreBoth fs operands w) (w.enables ++ w.words) (length (w.enables ++ w.words)) first (formed_emitted fs.word operands n 1 formed.word words)
    (λ known h j. known_first known (bits_of operands) (flag ∷ []) h) (λ known h j. known_append known w.enables w.words h j) (λ v h j. (h, j)) refl)
    next (λ known h j. h) (λ known h j. known_append known (w.enables ++ w.words) (w.flag ∷ []) h j) (λ v h j. record { enables = h.0; words = h.1; flag = j }) refl
