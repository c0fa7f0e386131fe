-- Operands with one more after them.
use Rattle.std.specs.Prelude.{ℕ, ◌≡◌, Bool, List, [], ◌∷◌, ◌++◌, length}
use Rattle.std.proofs.Common.{ap, ◌∙◌}
use Rattle.std.proofs.lemmas.List.{map-append}
use Rattle.cif_defs.specs.declared.raw_module.RawBit.{RawBit}
use Rattle.cif_raw_runs.specs.Assigned.{raw_word, raw_words}
use Rattle.cif_emit.specs.Emitted.{taint_bits, value_bits, widths}
use Rattle.cif_emit.specs.declared.terms.OperandPair.{OperandPair}

pub values_joined : (operands : List OperandPair) (last : OperandPair) → value_bits (operands ++ last ∷ []) ≡ value_bits operands ++ last.values ∷ []
values_joined operands last = map-append (λ (o : OperandPair). o.values) operands (last ∷ [])

pub taints_joined : (operands : List OperandPair) (last : OperandPair) → taint_bits (operands ++ last ∷ []) ≡ taint_bits operands ++ last.taints ∷ []
taints_joined operands last = map-append (λ (o : OperandPair). o.taints) operands (last ∷ [])

pub value_widths_joined : (operands : List OperandPair) (last : OperandPair) → widths (value_bits (operands ++ last ∷ [])) ≡ widths (value_bits operands) ++ length last.values ∷ []
value_widths_joined operands last = ap widths (values_joined operands last) ∙ map-append (λ (bits : List RawBit). length bits) (value_bits operands) (last.values ∷ [])

pub taint_widths_joined : (operands : List OperandPair) (last : OperandPair) → widths (taint_bits (operands ++ last ∷ [])) ≡ widths (taint_bits operands) ++ length last.taints ∷ []
taint_widths_joined operands last = ap widths (taints_joined operands last) ∙ map-append (λ (bits : List RawBit). length bits) (taint_bits operands) (last.taints ∷ [])

pub value_words_joined : (v : ℕ → Bool) (operands : List OperandPair) (last : OperandPair) → raw_words v (value_bits (operands ++ last ∷ [])) ≡ raw_words v (value_bits operands) ++ raw_word v last.values ∷ []
value_words_joined v operands last = ap (raw_words v) (values_joined operands last) ∙ map-append (raw_word v) (value_bits operands) (last.values ∷ [])

pub taint_words_joined : (v : ℕ → Bool) (operands : List OperandPair) (last : OperandPair) → raw_words v (taint_bits (operands ++ last ∷ [])) ≡ raw_words v (taint_bits operands) ++ raw_word v last.taints ∷ []
taint_words_joined v operands last = ap (raw_words v) (taints_joined operands last) ∙ map-append (raw_word v) (taint_bits operands) (last.taints ∷ [])
