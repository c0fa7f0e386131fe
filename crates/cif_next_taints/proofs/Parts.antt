-- What a port has of joined bits.
use Rattle.std.specs.Prelude.{ℕ, ◌+◌, ◌*◌, ◌<◌, ◌≤◌, ◌≡◌, Bool, false, List, [], ◌∷◌, length, take, drop}
use Rattle.std.proofs.Common.{arith, ap, sym, ◌∙◌, length-take, length-drop}
use Rattle.std.proofs.lemmas.Nat.{mul-le}
use Rattle.std.proofs.lemmas.List.{get_or-take, get_or-drop, length-map, take-map, drop-map}
use Rattle.cif_defs.specs.Words.{Word, bit, block}
use Rattle.cif_defs.specs.Cells.{Cell, number_of, shape_of}
use Rattle.cif_defs.specs.declared.kinds.Param.TheVariants.{WrPorts}
use Rattle.cif_defs.specs.declared.raw_module.RawBit.{RawBit}
use Rattle.cif_defs.proofs.WordLaws.{bit-word, length-word, same_words}
use Rattle.cif_raw_runs.specs.Assigned.{raw_bit, raw_word, raw_words}
use Rattle.cif_emit.specs.Emitted.{taint_bits, value_bits, widths}
use Rattle.rule_memory.specs.MemoryTaints.{port_widths, port_words}
use Rattle.cif_next_taints.specs.Next.{AreWriteOperands, taints_with, values_with}
use Rattle.cif_next_taints.specs.Ports.{part_of, port_operands}
use Rattle.cif_next_taints.specs.declared.memories.WriteOperands.{WriteOperands}

-- ---- a part of bits

pub part_inside : (n p k m : ℕ) → m ≡ k * n → p < k → p * n + n ≤ m
part_inside n p k m e h = let all : (p + 1) * n ≤ k * n = mul-le (p + 1) n k n (omega arith) (omega arith) in omega arith

pub length-part : (n p : ℕ) (bits : List RawBit) → p * n + n ≤ length bits → length (part_of n p bits) ≡ n
length-part n p bits h = omega (arith, length-take n (drop (p * n) bits), length-drop (p * n) bits)

block_part : (n p : ℕ) (w : Word) → p * n + n ≤ length w → take n (drop (p * n) w) ≡ block n p w
block_part n p w h =
    let long : length (take n (drop (p * n) w)) ≡ n = omega (arith, length-take n (drop (p * n) w), length-drop (p * n) w) in
    same_words (take n (drop (p * n) w)) (block n p w) (long ∙ sym (length-word n (λ i. bit w (p * n + i)))) (λ i l.
    let low : i < n = omega arith in
    get_or-take n (drop (p * n) w) i false low ∙ get_or-drop (p * n) w i false ∙ sym (bit-word n (λ j. bit w (p * n + j)) i false low))

pub word_of_part : (v : ℕ → Bool) (n p : ℕ) (bits : List RawBit) → p * n + n ≤ length bits → raw_word v (part_of n p bits) ≡ block n p (raw_word v bits)
word_of_part v n p bits h =
    let long : length (raw_word v bits) ≡ length bits = length-map bits (raw_bit v) in
    sym (take-map (raw_bit v) n (drop (p * n) bits)) ∙ ap (take n) (sym (drop-map (raw_bit v) (p * n) bits)) ∙ block_part n p (raw_word v bits) (omega arith)

-- ---- the operands of a port

three : {A : Type 0} (a b c x y z : A) → a ≡ x → b ≡ y → c ≡ z → ◌≡◌ {A = List A} (a ∷ b ∷ c ∷ []) (x ∷ y ∷ z ∷ [])
three a b c x y z e f g = (cc)

pub value_widths_at : (c : Cell) (o : WriteOperands) (p : ℕ) → AreWriteOperands c o → p < number_of c WrPorts → widths (value_bits (port_operands c o p)) ≡ port_widths c
value_widths_at c o p are h =
    three _ _ _ _ _ _ (length-part _ p o.enables.values (part_inside _ p _ _ are.enables.values h)) (length-part _ p o.addresses.values (part_inside _ p _ _ are.addresses.values h)) (length-part _ p o.words.values (part_inside _ p _ _ are.words.values h))

pub taint_widths_at : (c : Cell) (o : WriteOperands) (p : ℕ) → AreWriteOperands c o → p < number_of c WrPorts → widths (taint_bits (port_operands c o p)) ≡ port_widths c
taint_widths_at c o p are h =
    three _ _ _ _ _ _ (length-part _ p o.enables.taints (part_inside _ p _ _ are.enables.taints h)) (length-part _ p o.addresses.taints (part_inside _ p _ _ are.addresses.taints h)) (length-part _ p o.words.taints (part_inside _ p _ _ are.words.taints h))

pub value_words_at : (v : ℕ → Bool) (read : Word) (c : Cell) (o : WriteOperands) (p : ℕ) → AreWriteOperands c o → p < number_of c WrPorts
    → raw_words v (value_bits (port_operands c o p)) ≡ port_words (shape_of c) (values_with read o v) p
value_words_at v read c o p are h =
    three _ _ _ _ _ _ (word_of_part v _ p o.enables.values (part_inside _ p _ _ are.enables.values h)) (word_of_part v _ p o.addresses.values (part_inside _ p _ _ are.addresses.values h)) (word_of_part v _ p o.words.values (part_inside _ p _ _ are.words.values h))

pub taint_words_at : (v : ℕ → Bool) (read : Word) (c : Cell) (o : WriteOperands) (p : ℕ) → AreWriteOperands c o → p < number_of c WrPorts
    → raw_words v (taint_bits (port_operands c o p)) ≡ port_words (shape_of c) (taints_with read o v) p
taint_words_at v read c o p are h =
    three _ _ _ _ _ _ (word_of_part v _ p o.enables.taints (part_inside _ p _ _ are.enables.taints h)) (word_of_part v _ p o.addresses.taints (part_inside _ p _ _ are.addresses.taints h)) (word_of_part v _ p o.words.taints (part_inside _ p _ _ are.words.taints h))
