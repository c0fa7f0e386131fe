-- Bits that are known.
use Rattle.std.specs.Prelude.{ℕ, ◌*◌, ◌≡◌, true, List, [], ◌∷◌, ◌++◌, take, drop, refl}
use Rattle.std.proofs.Common.{ap, sym, ◌∙◌, subst, append-nil}
use Rattle.std.proofs.lemmas.List.{take-append-drop}
use Rattle.std.proofs.lemmas.List.Concat.{flat_map-append}
use Rattle.cif_defs.specs.Cells.{Cell, number_of, width}
use Rattle.cif_defs.specs.declared.kinds.Param.TheVariants.{Abits}
use Rattle.cif_defs.specs.declared.raw_module.RawBit.{RawBit}
use Rattle.cif_defs.specs.declared.raw_module.RawBit.TheVariants.{Zero}
use Rattle.cif_emit.specs.Emitted.{all_bits, are_known, taint_bits, value_bits}
use Rattle.cif_emit.specs.declared.terms.OperandPair.{OperandPair}
use Rattle.cif_emit.proofs.Emissions.{known_append, known_first, known_second}
use Rattle.cif_next_taints.specs.Next.{bits_of, write_bits}
use Rattle.cif_next_taints.specs.Ports.{flag_operand, part_of, port_operands}
use Rattle.cif_next_taints.specs.declared.memories.WriteOperands.{WriteOperands}
use Rattle.cif_next_taints.proofs.Joins.{taints_joined, values_joined}

-- ---- what a port has

pub part_known : (known : List ℕ) (n p : ℕ) (bits : List RawBit) → are_known known bits ≡ true → are_known known (part_of n p bits) ≡ true
part_known known n p bits h =
    let after : are_known known (drop (p * n) bits) ≡ true = known_second known (take (p * n) bits) _ (subst (λ (l : List RawBit). are_known known l ≡ true) (sym (take-append-drop (p * n) bits)) h) in
    known_first known (take n (drop (p * n) bits)) (drop n (drop (p * n) bits)) (subst (λ (l : List RawBit). are_known known l ≡ true) (sym (take-append-drop n (drop (p * n) bits))) after)

-- what each of three has is known where all of it is
three_known : (known : List ℕ) (a b c : List RawBit) (k m n p : ℕ) → are_known known (all_bits (a ∷ b ∷ c ∷ [])) ≡ true → are_known known (all_bits (part_of k p a ∷ part_of m p b ∷ part_of n p c ∷ [])) ≡ true
three_known known a b c k m n p h =
    let later : are_known known (b ++ (c ++ [])) ≡ true = known_second known a (b ++ (c ++ [])) h in
    let last : are_known known (c ++ []) ≡ true = known_second known b (c ++ []) later in
    known_append known (part_of k p a) _ (part_known known k p a (known_first known a (b ++ (c ++ [])) h))
    (known_append known (part_of m p b) _ (part_known known m p b (known_first known b (c ++ []) later))
    (known_append known (part_of n p c) [] (part_known known n p c (known_first known c [] last)) refl))

pub port_known : (known : List ℕ) (c : Cell) (o : WriteOperands) (p : ℕ) → are_known known (write_bits o) ≡ true → are_known known (bits_of (port_operands c o p)) ≡ true
port_known known c o p h =
    let values : are_known known (all_bits (o.enables.values ∷ o.addresses.values ∷ o.words.values ∷ [])) ≡ true = known_first known (all_bits (o.enables.values ∷ o.addresses.values ∷ o.words.values ∷ [])) (all_bits (o.enables.taints ∷ o.addresses.taints ∷ o.words.taints ∷ [])) h in
    let taints : are_known known (all_bits (o.enables.taints ∷ o.addresses.taints ∷ o.words.taints ∷ [])) ≡ true = known_second known (all_bits (o.enables.values ∷ o.addresses.values ∷ o.words.values ∷ [])) _ h in
    known_append known (all_bits (value_bits (port_operands c o p))) (all_bits (taint_bits (port_operands c o p)))
    (three_known known o.enables.values o.addresses.values o.words.values (width c) (number_of c Abits) (width c) p values)
    (three_known known o.enables.taints o.addresses.taints o.words.taints (width c) (number_of c Abits) (width c) p taints)

-- ---- operands with the flag after them

all_joined : (words : List (List RawBit)) (last : List RawBit) → all_bits (words ++ last ∷ []) ≡ all_bits words ++ last
all_joined words last = flat_map-append (λ (bits : List RawBit). bits) words (last ∷ []) ∙ ap (λ (l : List RawBit). all_bits words ++ l) (append-nil last)

pub flag_known : (known : List ℕ) (operands : List OperandPair) (flag : RawBit) → are_known known (bits_of operands ++ flag ∷ []) ≡ true → are_known known (bits_of (operands ++ flag_operand flag ∷ [])) ≡ true
flag_known known operands flag h =
    let both : are_known known (bits_of operands) ≡ true = known_first known (bits_of operands) (flag ∷ []) h in
    let values : are_known known (all_bits (value_bits operands) ++ flag ∷ []) ≡ true = known_append known (all_bits (value_bits operands)) (flag ∷ []) (known_first known (all_bits (value_bits operands)) (all_bits (taint_bits operands)) both) (known_second known (bits_of operands) (flag ∷ []) h) in
    let taints : are_known known (all_bits (taint_bits operands) ++ Zero ∷ []) ≡ true = known_append known (all_bits (taint_bits operands)) (Zero ∷ []) (known_second known (all_bits (value_bits operands)) _ both) refl in
    known_append known (all_bits (value_bits (operands ++ flag_operand flag ∷ []))) (all_bits (taint_bits (operands ++ flag_operand flag ∷ [])))
    (subst (λ (l : List RawBit). are_known known l ≡ true) (sym (ap all_bits (values_joined operands (flag_operand flag)) ∙ all_joined (value_bits operands) (flag ∷ []))) values)
    (subst (λ (l : List RawBit). are_known known l ≡ true) (sym (ap all_bits (taints_joined operands (flag_operand flag)) ∙ all_joined (taint_bits operands) (Zero ∷ []))) taints)
