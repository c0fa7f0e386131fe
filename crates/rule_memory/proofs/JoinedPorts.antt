-- Operands that join what the formulas give at each write port, port 0 lowest, write the taint.
use Rattle.std.specs.Prelude.{ℕ, zero, suc, ◌+◌, ◌-◌, ◌*◌, ◌<◌, ◌≡◌, false, List, [], ◌∷◌, ◌++◌, length, get_or, refl}
use Rattle.std.specs.List.{flat_map, range_with_len}
use Rattle.std.proofs.Common.{arith, sym, ap, ◌∙◌}
use Rattle.std.proofs.lemmas.List.{get_or_append_left, get_or-append_right}
use Rattle.std.proofs.lemmas.List.FromFn.{get_or-range_with_len, length-range_with_len}
use Rattle.cif_defs.specs.Memory.{MemoryShape, next_memory, next_memory_taint}
use Rattle.cif_defs.specs.Words.{Word, bit, block, operand}
use Rattle.cif_defs.proofs.Numbers.{word-same}
use Rattle.cif_defs.proofs.WordLaws.{bit-word, length-word, same_words}
use Rattle.cif_term.specs.Formulas.{Formula, value_of}
use Rattle.rule_memory.specs.MemoryFormulas.{enable_formula, word_formula}
use Rattle.rule_memory.specs.MemoryTaints.{AreTaintWrites, port_words}
use Rattle.rule_memory.proofs.PortValues.{enable_value, word_value}
use Rattle.rule_memory.proofs.StoredTaint.{taint_stored}

-- ---- block p of joined words of one length is word p

first_block : (n : ℕ) (w rest : Word) → length w ≡ n → block n 0 (w ++ rest) ≡ w
first_block n w rest e = same_words (block n 0 (w ++ rest)) w (length-word n _ ∙ sym e) (λ i l.
    let low : i < n = omega (arith, length-word n (λ j. bit (w ++ rest) (0 * n + j))) in
    let place : 0 * n + i ≡ i = omega arith in
    bit-word n (λ j. bit (w ++ rest) (0 * n + j)) i false low ∙ ap (bit (w ++ rest)) place ∙ get_or_append_left w rest false i (omega arith))

later_block : (n p : ℕ) (w rest : Word) → length w ≡ n → block n (suc p) (w ++ rest) ≡ block n p rest
later_block n p w rest e = word-same n _ _ (λ i l.
    let place : suc p * n + i - n ≡ p * n + i = omega arith in
    get_or-append_right w rest n (suc p * n + i) false e (omega arith) ∙ ap (bit rest) place)

pub joined_block : (n : ℕ) (f : ℕ → Word) → ((x : ℕ) → length (f x) ≡ n) → (xs : List ℕ) (p : ℕ) → p < length xs → block n p (flat_map f xs) ≡ f (get_or xs p 0)
joined_block n f same [] p h = absurd (omega arith)
joined_block n f same (x ∷ xs) zero h = first_block n (f x) (flat_map f xs) (same x)
joined_block n f same (x ∷ xs) (suc p) h = later_block n p (f x) (flat_map f xs) (same x) ∙ joined_block n f same xs p (omega arith)

-- ---- the operands of a memory of taints

-- what a formula gives at each write port, joined
abbrev pub joined_words : MemoryShape → Formula → List Word → List Word → Word
joined_words m f vs ts = flat_map (λ p. value_of f (port_words m vs p) (port_words m ts p) []) (range_with_len 0 m.write_ports)

-- at read addresses, and at the write addresses of vs
abbrev pub taint_operands : MemoryShape → List Word → List Word → Word → List Word
taint_operands m vs ts read_addresses = read_addresses ∷ joined_words m (enable_formula m.width) vs ts ∷ operand vs 2 ∷ joined_words m word_formula vs ts ∷ []

port_block : (m : MemoryShape) (f : Formula) (vs ts : List Word) → ((p : ℕ) → length (value_of f (port_words m vs p) (port_words m ts p) []) ≡ m.width) → (p : ℕ) → p < m.write_ports
    → block m.width p (joined_words m f vs ts) ≡ value_of f (port_words m vs p) (port_words m ts p) []
port_block m f vs ts same p h =
    let given : ℕ → Word = λ q. value_of f (port_words m vs q) (port_words m ts q) [] in
    let place : get_or (range_with_len 0 m.write_ports) p 0 ≡ p = omega (arith, get_or-range_with_len 0 m.write_ports p 0 h) in
    joined_block m.width given same (range_with_len 0 m.write_ports) p (omega (arith, length-range_with_len 0 m.write_ports)) ∙ ap given place

pub joined_writes : (m : MemoryShape) (vs ts : List Word) (read_addresses : Word) → AreTaintWrites m (enable_formula m.width) word_formula vs ts (taint_operands m vs ts read_addresses)
joined_writes m vs ts read_addresses = record {
  enables = port_block m (enable_formula m.width) vs ts (λ p. ap length (enable_value m vs ts p) ∙ length-word m.width _);
  addresses = λ p h. refl;
  words = port_block m word_formula vs ts (λ p. ap length (word_value m vs ts p) ∙ length-word m.width _);
}

-- a plain memory with these operands stores the taint
pub joined_stores : (m : MemoryShape) (vs ts : List Word) (read_addresses taint : Word) → next_memory m (taint_operands m vs ts read_addresses) taint ≡ next_memory_taint m vs ts taint
joined_stores m vs ts read_addresses taint = taint_stored m vs ts (taint_operands m vs ts read_addresses) taint (joined_writes m vs ts read_addresses)
