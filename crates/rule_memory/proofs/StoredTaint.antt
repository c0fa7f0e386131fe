-- A plain memory that is written with the enables and the words of the formulas stores the taint of memory bits.
use Rattle.std.specs.Prelude.{ℕ, zero, suc, ◌+◌, ◌*◌, ◌%◌, ◌<◌, ◌≤◌, ◌≡◌, Bool, true, false, not, ◌&&◌, ◌||◌, List, refl, if◌then◌else◌}
use Rattle.std.proofs.Common.{arith, sym, ap, ◌∙◌}
use Rattle.cif_defs.specs.Memory.{MemoryShape, data_place, is_addressed, is_on_or_tainted, memory_bits, next_memory, next_memory_taint, write_address, written_bit, written_taint_bit}
use Rattle.cif_defs.specs.Words.{Word, bit, block, has_one, operand, word}
use Rattle.cif_defs.proofs.Numbers.{word-same}
use Rattle.cif_defs.proofs.WordLaws.{bit-word}
use Rattle.rule_memory.specs.MemoryFormulas.{word_formula, enable_formula}
use Rattle.rule_memory.specs.MemoryTaints.{AreTaintWrites}
use Rattle.rule_memory.proofs.PortValues.{word_value, enable_value}

-- ---- memory bit k at one port

-- the bit of a joined operand that a port has for memory bit k, where the port's block of the operand is known
place_in_block : (m : MemoryShape) (w : Word) (p k : ℕ) (f : ℕ → Bool) → k % m.width < m.width → block m.width p w ≡ word m.width (λ i. f (p * m.width + i)) → bit w (data_place m p k) ≡ f (data_place m p k)
place_in_block m w p k f l h =
    sym (bit-word m.width (λ i. bit w (p * m.width + i)) (k % m.width) false l) ∙ ap (λ (u : Word). bit u (k % m.width)) h ∙ bit-word m.width (λ i. f (p * m.width + i)) (k % m.width) false l

not_first : (tainted here on x y : Bool) → (if here && (if tainted then false else on) then x else y) ≡ (if not tainted && here && on then x else y)
not_first true true on x y = refl
not_first true false on x y = refl
not_first false true on x y = refl
not_first false false on x y = refl

-- one port more
port_written : (m : MemoryShape) (vs ts us : List Word) (p : ℕ) (taint : Word) (k : ℕ) → k % m.width < m.width → AreTaintWrites m (enable_formula m.width) word_formula vs ts us → p < m.write_ports
    → written_bit m us p taint k ≡ written_taint_bit m vs ts p taint k → written_bit m us (suc p) taint k ≡ written_taint_bit m vs ts (suc p) taint k
unfolding written_bit written_taint_bit
port_written m vs ts us p taint k l writes inside before =
    let j : ℕ = data_place m p k in
    let tainted : Bool = has_one (write_address m ts p) in
    let rest : Bool = written_bit m us p taint k in
    let on : bit (operand us 1) j ≡ (if tainted then false else is_on_or_tainted vs ts j) =
    place_in_block m (operand us 1) p k (λ i. if tainted then false else is_on_or_tainted vs ts i) l (writes.enables p inside ∙ enable_value m vs ts p) in
    let taken : bit (operand us 3) j ≡ (bit (operand ts 3) j || bit (operand ts 1) j) =
    place_in_block m (operand us 3) p k (λ i. bit (operand ts 3) i || bit (operand ts 1) i) l (writes.words p inside ∙ word_value m vs ts p) in
    ap (λ (a : Word). if is_addressed m a k && bit (operand us 1) j then bit (operand us 3) j else rest) (writes.addresses p inside)
    ∙ ap (λ b. if is_addressed m (write_address m vs p) k && b then bit (operand us 3) j else rest) on
    ∙ not_first tainted (is_addressed m (write_address m vs p) k) (is_on_or_tainted vs ts j) (bit (operand us 3) j) rest
    ∙ ap (λ b. if not tainted && is_addressed m (write_address m vs p) k && is_on_or_tainted vs ts j then b else rest) taken
    ∙ ap (λ b. if not tainted && is_addressed m (write_address m vs p) k && is_on_or_tainted vs ts j then bit (operand ts 3) j || bit (operand ts 1) j else b) before

-- after the ports below any number
pub ports_written : (m : MemoryShape) (vs ts us : List Word) (taint : Word) (k : ℕ) → k % m.width < m.width → AreTaintWrites m (enable_formula m.width) word_formula vs ts us
    → (p : ℕ) → p ≤ m.write_ports → written_bit m us p taint k ≡ written_taint_bit m vs ts p taint k
unfolding written_bit written_taint_bit
ports_written m vs ts us taint k l writes zero h = refl
ports_written m vs ts us taint k l writes (suc p) h =
    port_written m vs ts us p taint k l writes (omega arith) (ports_written m vs ts us taint k l writes p (omega arith))

-- ---- the memory

column_inside : (n s k : ℕ) → k < s * n → k % n < n
column_inside zero s k h = absurd (omega arith)
column_inside (suc n) s k h = omega arith

pub taint_stored : (m : MemoryShape) (vs ts us : List Word) (taint : Word) → AreTaintWrites m (enable_formula m.width) word_formula vs ts us → next_memory m us taint ≡ next_memory_taint m vs ts taint
taint_stored m vs ts us taint writes = word-same (memory_bits m) _ _ (λ k l. ports_written m vs ts us taint k (column_inside m.width m.size k l) writes m.write_ports (omega arith))
