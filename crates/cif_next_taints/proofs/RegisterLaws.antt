-- The term of a register, emitted over its operands and the stored word.
use Rattle.std.specs.Prelude.{ℕ, ◌≤◌, ◌≡◌, Bool, true, List, [], ◌∷◌, ◌++◌, length, Option, Some, unwrap_or, refl}
use Rattle.std.proofs.Common.{ap, sym, ◌∙◌, append-nil, subst}
use Rattle.std.proofs.lemmas.List.{length-map}
use Rattle.cif_defs.specs.Words.{Word}
use Rattle.cif_defs.specs.Cells.{Cell, width}
use Rattle.cif_defs.specs.Fitted.{operand_widths}
use Rattle.cif_defs.specs.declared.raw_module.RawBit.{RawBit}
use Rattle.cif_defs.specs.declared.raw_module.RawCell.{RawCell}
use Rattle.cif_term.specs.Formulas.{Formula, cost_of, plain_width, value_of, width_of}
use Rattle.rule_state.specs.RegisterTaints.{IsNextTaint}
use Rattle.cif_raw_runs.specs.Assigned.{raw_bit, raw_word, raw_words}
use Rattle.cif_emit.specs.Emitted.{IsEmitted, IsEmittedIn, IsValue, are_known, taint_bits, value_bits, widths}
use Rattle.cif_emit.specs.Makers.{Maker}
use Rattle.cif_emit.specs.declared.terms.OperandPair.{OperandPair}
use Rattle.cif_emit.proofs.Emissions.{weaker}
use Rattle.cif_emit.proofs.TermLaws.{words_wide}
use Rattle.cif_next_taints.specs.Next.{AreRegisterOperands, IsNextRegister, bits_of}
use Rattle.cif_next_taints.proofs.Joins.{taint_widths_joined, taint_words_joined, value_widths_joined, value_words_joined}

-- ---- widths

pub value_widths : (c : Cell) (operands : List OperandPair) (stored : OperandPair) (all : List OperandPair) → AreRegisterOperands c operands stored → all ≡ operands ++ stored ∷ []
    → widths (value_bits all) ≡ operand_widths c ++ width c ∷ []
value_widths c operands stored all are e =
    ap (λ (l : List OperandPair). widths (value_bits l)) e ∙ value_widths_joined operands stored
    ∙ ap (λ (l : List ℕ). l ++ length stored.values ∷ []) are.values ∙ ap (λ n. operand_widths c ++ n ∷ []) are.word.values

pub taint_widths : (c : Cell) (operands : List OperandPair) (stored : OperandPair) (all : List OperandPair) → AreRegisterOperands c operands stored → all ≡ operands ++ stored ∷ []
    → widths (taint_bits all) ≡ operand_widths c ++ width c ∷ []
taint_widths c operands stored all are e =
    ap (λ (l : List OperandPair). widths (taint_bits l)) e ∙ taint_widths_joined operands stored
    ∙ ap (λ (l : List ℕ). l ++ length stored.taints ∷ []) are.taints ∙ ap (λ n. operand_widths c ++ n ∷ []) are.word.taints

pub formed_over : (c : Cell) (f : Formula) (operands : List OperandPair) (stored : OperandPair) (all : List OperandPair) → IsNextTaint c f → AreRegisterOperands c operands stored → all ≡ operands ++ stored ∷ []
    → width_of f (widths (value_bits all)) [] ≡ Some (width c)
formed_over c f operands stored all is are e = ap (λ (l : List ℕ). width_of f l []) (value_widths c operands stored all are e) ∙ is.formed

-- ---- what is emitted

next_word_read : (c : Cell) (f : Formula) (operands : List OperandPair) (stored : OperandPair) (v : ℕ → Bool) (w : Word) → IsNextTaint c f → AreRegisterOperands c operands stored
    → IsValue f (operands ++ stored ∷ []) [] v w → IsNextRegister c operands stored v w
next_word_read c f operands stored v w is are h =
    let vs : List Word = raw_words v (value_bits operands) in
    let ts : List Word = raw_words v (taint_bits operands) in
    h ∙ ap (λ (l : List Word). value_of f l (raw_words v (taint_bits (operands ++ stored ∷ []))) []) (value_words_joined v operands stored)
    ∙ ap (λ (l : List Word). value_of f (vs ++ raw_word v stored.values ∷ []) l []) (taint_words_joined v operands stored)
    ∙ is.means vs ts (raw_word v stored.values) (raw_word v stored.taints) (words_wide v (value_bits operands) ∙ are.values) (words_wide v (taint_bits operands) ∙ are.taints)
    (length-map stored.values (raw_bit v) ∙ are.word.values) (length-map stored.taints (raw_bit v) ∙ are.word.taints)

pub register_emitted : {m n : Maker} {old new : List RawCell} {bits : List RawBit} (c : Cell) (f : Formula) (operands : List OperandPair) (stored : OperandPair) (all : List OperandPair) (zs : List RawBit)
    → IsNextTaint c f → AreRegisterOperands c operands stored → all ≡ operands ++ stored ∷ [] → IsEmittedIn m n old new f all [] bits → zs ≡ bits
    → IsEmitted m n old new (bits_of (operands ++ stored ∷ [])) (IsNextRegister c operands stored) 31 (width c) zs
register_emitted {m} {n} {old} {new} {bits} c f operands stored all zs is are e emitted same =
    let joined : List OperandPair = operands ++ stored ∷ [] in
    let here : IsEmittedIn m n old new f joined [] bits = subst (λ (l : List OperandPair). IsEmittedIn m n old new f l [] bits) e emitted in
    let cost : cost_of f (widths (value_bits joined)) [] ≤ 31 = subst (λ (l : List ℕ). cost_of f l [] ≤ 31) (sym (value_widths c operands stored joined are refl)) is.cost in
    let wide : plain_width f (widths (value_bits joined)) [] ≡ width c = ap (λ (u : Option ℕ). unwrap_or u 0) (formed_over c f operands stored joined is are refl) in
    subst (λ (l : List RawBit). IsEmitted m n old new (bits_of joined) (IsNextRegister c operands stored) 31 (width c) l) (sym same)
    (weaker (bits_of joined ++ []) (bits_of joined) (IsValue f joined []) (IsNextRegister c operands stored) (cost_of f (widths (value_bits joined)) []) 31 (plain_width f (widths (value_bits joined)) []) (width c) here
    (λ known h. subst (λ (l : List RawBit). are_known known l ≡ true) (sym (append-nil (bits_of joined))) h)
    (λ v w h. next_word_read c f operands stored v w is are h) cost wide)
