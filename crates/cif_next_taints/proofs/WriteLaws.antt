-- What the terms of a memory give, port by port, and that a memory which is written so stores the next taint.
use Rattle.std.specs.Prelude.{ℕ, ◌+◌, ◌*◌, ◌<◌, ◌≡◌, Bool, true, ◌||◌, List, [], ◌∷◌, ◌++◌, length, get_or, refl}
use Rattle.std.specs.List.{flat_map, range_with_len}
use Rattle.std.proofs.Common.{arith, add-one, ap, sym, ◌∙◌, append-nil, length-append, subst}
use Rattle.std.proofs.lemmas.List.{map-append, map-id}
use Rattle.std.proofs.lemmas.List.FromFn.{map-range_with_len_more}
use Rattle.std.proofs.lemmas.List.Concat.{flat_map-append}
use Rattle.cif_defs.specs.Words.{Word, flag_word}
use Rattle.cif_defs.specs.Cells.{Cell, number_of, shape_of, width}
use Rattle.cif_defs.specs.Memory.{flag_after, next_memory, sets_flag}
use Rattle.cif_defs.specs.declared.kinds.Param.TheVariants.{WrPorts}
use Rattle.cif_defs.specs.declared.raw_module.RawBit.{RawBit}
use Rattle.cif_defs.specs.declared.raw_module.RawCell.{RawCell}
use Rattle.cif_term.specs.Formulas.{Formula, value_of}
use Rattle.rule_memory.specs.MemoryFormulas.{MemoryFormulas, enable_formula, flag_formula, memory_formulas, word_formula}
use Rattle.rule_memory.specs.MemoryTaints.{AreMemoryTaints, port_words}
use Rattle.rule_memory.proofs.JoinedPorts.{joined_stores}
use Rattle.rule_memory.proofs.PortValues.{flag_value}
use Rattle.cif_raw_runs.specs.Assigned.{raw_bit, raw_word, raw_words}
use Rattle.cif_emit.specs.Emitted.{IsEmitted, are_known, taint_bits, value_bits, widths}
use Rattle.cif_emit.specs.Makers.{Maker}
use Rattle.cif_emit.specs.declared.terms.OperandPair.{OperandPair}
use Rattle.cif_emit.proofs.Emissions.{known_append, known_first, known_second, nothing_emitted, then_emitted, weaker}
use Rattle.cif_next_taints.specs.Next.{AreNextMemory, AreWriteOperands, bits_of, bits_written, taints_with, values_with, write_bits}
use Rattle.cif_next_taints.specs.Ports.{AreFormedAt, AreNextAtPort, flag_operand, port_bits_written, port_operands}
use Rattle.cif_next_taints.specs.declared.memories.MemoryWrites.{MemoryWrites}
use Rattle.cif_next_taints.specs.declared.memories.PortWrites.{PortWrites}
use Rattle.cif_next_taints.specs.declared.memories.WriteOperands.{WriteOperands}
use Rattle.cif_next_taints.proofs.Joins.{taint_words_joined, value_words_joined}
use Rattle.cif_next_taints.proofs.Known.{port_known}
use Rattle.cif_next_taints.proofs.Parts.{taint_words_at, value_widths_at, value_words_at}

-- ---- words so far

-- what a formula gives at the ports below p, joined
abbrev pub words_below : Cell → Formula → WriteOperands → (ℕ → Bool) → ℕ → Word
words_below c f o v p = flat_map (λ q. value_of f (port_words (shape_of c) (values_with [] o v) q) (port_words (shape_of c) (taints_with [] o v) q) []) (range_with_len 0 p)

range_more : (p : ℕ) → range_with_len 0 (p + 1) ≡ range_with_len 0 p ++ p ∷ []
range_more p = sym (map-id (range_with_len 0 (p + 1))) ∙ map-range_with_len_more (λ (x : ℕ). x) 0 p p (omega arith) ∙ ap (λ (l : List ℕ). l ++ p ∷ []) (map-id (range_with_len 0 p))

joined_more : (f : ℕ → Word) (p : ℕ) → flat_map f (range_with_len 0 (p + 1)) ≡ flat_map f (range_with_len 0 p) ++ f p
joined_more f p = ap (flat_map f) (range_more p) ∙ flat_map-append f (range_with_len 0 p) (p ∷ []) ∙ ap (λ (l : Word). flat_map f (range_with_len 0 p) ++ l) (append-nil (f p))

words_more : (v : ℕ → Bool) (c : Cell) (f : Formula) (o : WriteOperands) (p : ℕ) (bits more all : List RawBit) → AreWriteOperands c o → p < number_of c WrPorts
    → raw_word v bits ≡ words_below c f o v p → raw_word v more ≡ value_of f (raw_words v (value_bits (port_operands c o p))) (raw_words v (taint_bits (port_operands c o p))) [] → all ≡ bits ++ more
    → raw_word v all ≡ words_below c f o v (p + 1)
words_more v c f o p bits more all are l before here e =
    let port : raw_word v more ≡ value_of f (port_words (shape_of c) (values_with [] o v) p) (port_words (shape_of c) (taints_with [] o v) p) [] =
    here ∙ ap (λ (us : List Word). value_of f us (raw_words v (taint_bits (port_operands c o p))) []) (value_words_at v [] c o p are l)
    ∙ ap (λ (us : List Word). value_of f (port_words (shape_of c) (values_with [] o v) p) us []) (taint_words_at v [] c o p are l) in
    ap (raw_word v) e ∙ map-append (raw_bit v) bits more ∙ ap (λ (w : Word). w ++ raw_word v more) before ∙ ap (λ (w : Word). words_below c f o v p ++ w) port
    ∙ sym (joined_more (λ q. value_of f (port_words (shape_of c) (values_with [] o v) q) (port_words (shape_of c) (taints_with [] o v) q) []) p)

-- ---- the flag so far

first_bit : (a b : Bool) → ◌≡◌ {A = Word} (a ∷ []) (b ∷ []) → a ≡ b
first_bit a b e = (cc)

flag_more : (v : ℕ → Bool) (c : Cell) (o : WriteOperands) (p : ℕ) (read read_taint : Word) (first now next : RawBit) → AreWriteOperands c o → p < number_of c WrPorts
    → raw_bit v now ≡ flag_after (shape_of c) (values_with read o v) (taints_with read_taint o v) p (raw_bit v first)
    → raw_bit v next ∷ [] ≡ value_of flag_formula (raw_words v (value_bits (port_operands c o p ++ flag_operand now ∷ []))) (raw_words v (taint_bits (port_operands c o p ++ flag_operand now ∷ []))) []
    → raw_bit v next ≡ flag_after (shape_of c) (values_with read o v) (taints_with read_taint o v) (p + 1) (raw_bit v first)
unfolding flag_after
flag_more v c o p read read_taint first now next are l before here =
    let vs : List Word = values_with read o v in
    let ts : List Word = taints_with read_taint o v in
    let values : raw_words v (value_bits (port_operands c o p ++ flag_operand now ∷ [])) ≡ port_words (shape_of c) vs p ++ (raw_bit v now ∷ []) ∷ [] =
    value_words_joined v (port_operands c o p) (flag_operand now) ∙ ap (λ (us : List Word). us ++ (raw_bit v now ∷ []) ∷ []) (value_words_at v read c o p are l) in
    let taints : raw_words v (taint_bits (port_operands c o p ++ flag_operand now ∷ [])) ≡ port_words (shape_of c) ts p ++ raw_word v (flag_operand now).taints ∷ [] =
    taint_words_joined v (port_operands c o p) (flag_operand now) ∙ ap (λ (us : List Word). us ++ raw_word v (flag_operand now).taints ∷ []) (taint_words_at v read_taint c o p are l) in
    let port : raw_bit v next ∷ [] ≡ flag_word 1 (raw_bit v now || sets_flag (shape_of c) vs ts p) =
    here ∙ ap (λ (us : List Word). value_of flag_formula us (raw_words v (taint_bits (port_operands c o p ++ flag_operand now ∷ []))) []) values
    ∙ ap (λ (us : List Word). value_of flag_formula (port_words (shape_of c) vs p ++ (raw_bit v now ∷ []) ∷ []) us []) taints
    ∙ flag_value (shape_of c) vs ts p (raw_bit v now ∷ []) (raw_word v (flag_operand now).taints) refl in
    let step : raw_bit v next ≡ (raw_bit v now || sets_flag (shape_of c) vs ts p) = first_bit _ _ port in
    step ∙ ap (λ b. b || sets_flag (shape_of c) vs ts p) before ∙ sym (ap (λ k. flag_after (shape_of c) vs ts k (raw_bit v first)) (add-one p))

-- ---- all of it so far

-- the terms of a memory are formed for the operands of its ports
pub formed_at : (c : Cell) (fs : MemoryFormulas) (o : WriteOperands) (p : ℕ) (operands : List OperandPair) → AreMemoryTaints c fs → AreWriteOperands c o → p < number_of c WrPorts → operands ≡ port_operands c o p
    → AreFormedAt fs (widths (value_bits operands))
formed_at c fs o p operands are wide inside e =
    subst (AreFormedAt fs) (sym (ap (λ (us : List OperandPair). widths (value_bits us)) e ∙ value_widths_at c o p wide inside))
    (record { enable = are.stored.enable_formed; word = are.stored.word_formed; flag = are.flag.formed })

-- and one port's bits are added to those of the ports before it
pub bits_more : (c : Cell) (o : WriteOperands) (p : ℕ) (operands : List OperandPair) (bits more all : List RawBit) → AreWriteOperands c o → p < number_of c WrPorts → operands ≡ port_operands c o p
    → length bits ≡ p * width c → length more ≡ get_or (widths (value_bits operands)) 0 0 → all ≡ bits ++ more → length all ≡ (p + 1) * width c
bits_more c o p operands bits more all wide inside e before here joined =
    let port : get_or (widths (value_bits operands)) 0 0 ≡ width c = ap (λ (ws : List ℕ). get_or ws 0 0) (ap (λ (us : List OperandPair). widths (value_bits us)) e ∙ value_widths_at c o p wide inside) in
    let long : length all ≡ length bits + length more = ap length joined ∙ length-append bits more in
    omega arith

-- what has been computed at the ports below p
pub record AreWrittenBelow (c : Cell) (o : WriteOperands) (first : RawBit) (p : ℕ) (w : MemoryWrites) (v : ℕ → Bool) : Type 0 where
  pub enables : raw_word v w.enables.items ≡ words_below c (enable_formula (width c)) o v p
  pub words : raw_word v w.words.items ≡ words_below c word_formula o v p
  pub flag : (read read_taint : Word) → raw_bit v w.flag ≡ flag_after (shape_of c) (values_with read o v) (taints_with read_taint o v) p (raw_bit v first)

abbrev pub IsEmittedBelow : Maker → Maker → List RawCell → List RawCell → Cell → WriteOperands → RawBit → ℕ → MemoryWrites → Type 0
IsEmittedBelow before after old new c o first p w =
    IsEmitted before after old new (write_bits o ++ first ∷ []) (λ v all. AreWrittenBelow c o first p w v) (9 * p) (length (bits_written w)) (bits_written w)

-- no port yet
pub none_written : (m : Maker) (old : List RawCell) (c : Cell) (o : WriteOperands) (first : RawBit) (w : MemoryWrites) → w.enables.items ≡ [] → w.words.items ≡ [] → w.flag ≡ first → IsEmittedBelow m m old old c o first 0 w
unfolding flag_after
none_written m old c o first w e f g =
    let bits : bits_written w ≡ first ∷ [] = ap (λ (l : List RawBit). l ++ w.words.items ++ w.flag ∷ []) e ∙ ap (λ (l : List RawBit). l ++ w.flag ∷ []) f ∙ ap (λ (b : RawBit). b ∷ []) g in
    nothing_emitted m old (write_bits o ++ first ∷ []) (bits_written w) (λ v all. AreWrittenBelow c o first 0 w v) (length (bits_written w))
    (λ known h. subst (λ (l : List RawBit). are_known known l ≡ true) (sym bits) (known_second known (write_bits o) (first ∷ []) h))
    (λ v. record { enables = ap (raw_word v) e; words = ap (raw_word v) f; flag = λ read read_taint. ap (raw_bit v) g }) refl

-- one port more
pub port_written : {l m n : Maker} {one two three : List RawCell} (c : Cell) (o : WriteOperands) (first : RawBit) (p : ℕ) (now next : MemoryWrites) (w : PortWrites) (operands : List OperandPair) (fs : MemoryFormulas)
    → fs ≡ memory_formulas (width c) → AreWriteOperands c o → p < number_of c WrPorts → operands ≡ port_operands c o p
    → next.enables.items ≡ now.enables.items ++ w.enables → next.words.items ≡ now.words.items ++ w.words → next.flag ≡ w.flag
    → IsEmittedBelow l m one two c o first p now
    → IsEmitted m n two three (bits_of operands ++ now.flag ∷ []) (λ v all. AreNextAtPort fs operands now.flag w v) 9 (length (port_bits_written w)) (port_bits_written w)
    → IsEmittedBelow l n one three c o first (p + 1) next
port_written {l} {m} {n} {one} {two} {three} c o first p now next w operands fs is are inside e enables words flag before port =
    let given = subst (λ (us : List OperandPair). IsEmitted m n two three (bits_of us ++ now.flag ∷ []) (λ v all. AreNextAtPort fs us now.flag w v) 9 (length (port_bits_written w)) (port_bits_written w)) e port in
    let here = subst (λ (gs : MemoryFormulas). IsEmitted m n two three (bits_of (port_operands c o p) ++ now.flag ∷ []) (λ v all. AreNextAtPort gs (port_operands c o p) now.flag w v) 9 (length (port_bits_written w)) (port_bits_written w)) is given in
    let inputs : List RawBit = write_bits o ++ first ∷ [] in
    weaker inputs inputs (λ v all. AreWrittenBelow c o first (p + 1) next v) (λ v all. AreWrittenBelow c o first (p + 1) next v) (9 * p + 9) (9 * (p + 1)) (length (bits_written next)) (length (bits_written next))
    (then_emitted (λ v all. AreWrittenBelow c o first p now v) (λ v all. AreNextAtPort (memory_formulas (width c)) (port_operands c o p) now.flag w v) (λ v all. AreWrittenBelow c o first (p + 1) next v)
    (bits_written next) (length (bits_written next)) before here
    (λ known h j. known_append known (bits_of (port_operands c o p)) (now.flag ∷ []) (port_known known c o p (known_first known (write_bits o) (first ∷ []) h)) (known_second known (now.enables.items ++ now.words.items) (now.flag ∷ []) j))
    (λ known h j. bits_known known now next w enables words flag h j)
    (λ v h j. record {
      enables = words_more v c (enable_formula (width c)) o p now.enables.items w.enables next.enables.items are inside h.enables j.enables enables;
      words = words_more v c word_formula o p now.words.items w.words next.words.items are inside h.words j.words words;
      flag = λ read read_taint. ap (raw_bit v) flag ∙ flag_more v c o p read read_taint first now.flag w.flag are inside (h.flag read read_taint) j.flag;
    }) refl)
    (λ known h. h) (λ v x h. h) (omega arith) refl
  where
    bits_known : (known : List ℕ) (now next : MemoryWrites) (w : PortWrites) → next.enables.items ≡ now.enables.items ++ w.enables → next.words.items ≡ now.words.items ++ w.words → next.flag ≡ w.flag
        → are_known known (bits_written now) ≡ true → are_known known (port_bits_written w) ≡ true → are_known known (bits_written next) ≡ true
    bits_known known now next w e f g h j =
        let old_both : are_known known (now.enables.items ++ now.words.items) ≡ true = known_first known (now.enables.items ++ now.words.items) (now.flag ∷ []) h in
        let new_both : are_known known (w.enables ++ w.words) ≡ true = known_first known (w.enables ++ w.words) (w.flag ∷ []) j in
        let enables : are_known known (now.enables.items ++ w.enables) ≡ true = known_append known now.enables.items w.enables (known_first known now.enables.items now.words.items old_both) (known_first known w.enables w.words new_both) in
        let words : are_known known (now.words.items ++ w.words) ≡ true = known_append known now.words.items w.words (known_second known now.enables.items now.words.items old_both) (known_second known w.enables w.words new_both) in
        let flag : are_known known (w.flag ∷ []) ≡ true = known_second known (w.enables ++ w.words) (w.flag ∷ []) j in
        known_append known (next.enables.items ++ next.words.items) (next.flag ∷ [])
        (known_append known next.enables.items next.words.items (subst (λ (l : List RawBit). are_known known l ≡ true) (sym e) enables) (subst (λ (l : List RawBit). are_known known l ≡ true) (sym f) words))
        (subst (λ (b : RawBit). are_known known (b ∷ []) ≡ true) (sym g) flag)

-- ---- after the last port

next_of : (c : Cell) (o : WriteOperands) (first : RawBit) (w : MemoryWrites) (v : ℕ → Bool) → AreWrittenBelow c o first (number_of c WrPorts) w v → AreNextMemory c o first w v
next_of c o first w v are = record {
  stores = λ read read_taint taint.
      ap (λ (x : Word). next_memory (shape_of c) (read ∷ x ∷ raw_word v o.addresses.values ∷ raw_word v w.words.items ∷ []) taint) are.enables
      ∙ ap (λ (x : Word). next_memory (shape_of c) (read ∷ words_below c (enable_formula (width c)) o v (number_of c WrPorts) ∷ raw_word v o.addresses.values ∷ x ∷ []) taint) are.words
      ∙ joined_stores (shape_of c) (values_with read o v) (taints_with read_taint o v) read taint;
  flag = are.flag;
}

pub all_written : {m n : Maker} {old new : List RawCell} (c : Cell) (o : WriteOperands) (first : RawBit) (p : ℕ) (w : MemoryWrites) → p ≡ number_of c WrPorts
    → length w.enables.items ≡ p * width c → length w.words.items ≡ p * width c → IsEmittedBelow m n old new c o first p w
    → IsEmitted m n old new (write_bits o ++ first ∷ []) (λ v all. AreNextMemory c o first w v) (9 * number_of c WrPorts) (2 * (number_of c WrPorts * width c) + 1) (bits_written w)
all_written {m} {n} {old} {new} c o first p w e enables words all =
    let here : IsEmittedBelow m n old new c o first (number_of c WrPorts) w = subst (λ k. IsEmittedBelow m n old new c o first k w) e all in
    let inputs : List RawBit = write_bits o ++ first ∷ [] in
    let each : p * width c ≡ number_of c WrPorts * width c = ap (λ k. k * width c) e in
    let joined : length (bits_written w) ≡ length (w.enables.items ++ w.words.items) + 1 = length-append (w.enables.items ++ w.words.items) (w.flag ∷ []) in
    let both : length (w.enables.items ++ w.words.items) ≡ length w.enables.items + length w.words.items = length-append w.enables.items w.words.items in
    let long : length (bits_written w) ≡ 2 * (number_of c WrPorts * width c) + 1 = omega arith in
    weaker inputs inputs (λ v all. AreWrittenBelow c o first (number_of c WrPorts) w v) (λ v all. AreNextMemory c o first w v) (9 * number_of c WrPorts) (9 * number_of c WrPorts) (length (bits_written w)) (2 * (number_of c WrPorts * width c) + 1) here
    (λ known h. h) (λ v x h. next_of c o first w v h) (omega arith) long
