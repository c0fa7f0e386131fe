-- How the formulas of a memory are formed, and what they cost.
use Rattle.std.specs.Prelude.{ℕ, ◌+◌, ◌*◌, ◌≤◌, ◌≡◌, List, [], ◌∷◌, false, true, refl}
use Rattle.std.proofs.Common.{arith, ap}
use Rattle.std.proofs.lemmas.Bool.Decides.{nat_tests}
use Rattle.std.proofs.lemmas.Nat.{mul-le}
use Rattle.cif_defs.specs.Kinds.{role_of}
use Rattle.cif_defs.specs.Cells.{Cell, number_of, width}
use Rattle.cif_defs.specs.Weights.{weight, weight_by}
use Rattle.cif_defs.specs.Words.{word}
use Rattle.cif_defs.specs.declared.kinds.Kind.{Kind}
use Rattle.cif_defs.specs.declared.kinds.Kind.TheVariants.{Mem}
use Rattle.cif_defs.specs.declared.kinds.Param.TheVariants.{Abits, RdPorts, WrPorts}
use Rattle.cif_defs.specs.declared.kinds.Role.TheVariants.{MemoryBlock}
use Rattle.cif_defs.proofs.WordLaws.{length-word}
use Rattle.cif_kinds.specs.StateCells.{HasMemoryNumbers}
use Rattle.cif_term.specs.declared.ops.Op1.TheVariants.{ReduceOr}
use Rattle.cif_term.specs.declared.ops.Op2.TheVariants.{And, Or}
use Rattle.cif_term.specs.Formulas.{IsFormed, cost_of, joined_pieces, pieces}
use Rattle.cif_term.proofs.FormedFormulas.{formed_choose, formed_const, formed_one, formed_taint, formed_two, formed_value, pieces_narrow, raised}
use Rattle.rule_memory.specs.MemoryFormulas.{MemoryFormulas, word_formula, enable_formula, flag_formula, memory_formulas, read_formula}
use Rattle.rule_memory.specs.MemoryTaints.{flag_widths, memory_cost, port_widths, read_widths}

-- ---- words of 1 to 4,096 bits, and addresses of 1 to 32

pub record AreNarrow (n a : ℕ) : Type 0 where
  pub some : 1 ≤ n
  pub limit : n ≤ 4096
  pub some_address : 1 ≤ a
  pub address_limit : a ≤ 32

pub narrow : (c : Cell) → HasMemoryNumbers c → AreNarrow (width c) (number_of c Abits)
narrow c h = record { some = h.some_bits; limit = h.width_limit; some_address = h.some_address; address_limit = h.address_limit }

joined_small : (p : ℕ) → p ≤ 1 → joined_pieces p ≤ 1
joined_small p h = grind (arith, nat_tests)

reduced_small : (n : ℕ) → n ≤ 4096 → joined_pieces (pieces n) ≤ 1
reduced_small n h = joined_small (pieces n) (pieces_narrow n h)

-- ---- the formulas

pub read_formed : (n a : ℕ) → AreNarrow n a → IsFormed (read_formula n) (a ∷ 1 ∷ n ∷ []) [] n 3
read_formed n a h =
    let some : 1 ≤ n = h.some in
    let limit : n ≤ 4096 = h.limit in
    let some_address : 1 ≤ a = h.some_address in
    let address_limit : a ≤ 32 = h.address_limit in
    let ws : List ℕ = a ∷ 1 ∷ n ∷ [] in
    let one_piece : pieces n ≤ 1 = pieces_narrow n limit in
    let one_reduced : joined_pieces (pieces a) ≤ 1 = reduced_small a (omega arith) in
    let tainted = formed_one ReduceOr (formed_taint ws [] 0 a refl some_address (omega arith)) in
    let all = formed_two Or tainted (formed_value ws [] 1 1 refl (omega arith) (omega arith)) (λ e. absurd (cc)) in
    let ones = formed_const (word n (λ i. true)) ws [] n (length-word n (λ i. true)) some (omega arith) in
    raised 3 (formed_choose all (formed_value ws [] 2 n refl some (omega arith)) ones some) (omega arith)

pub enable_formed : (n a : ℕ) → AreNarrow n a → IsFormed (enable_formula n) (n ∷ a ∷ n ∷ []) [] n 3
enable_formed n a h =
    let some : 1 ≤ n = h.some in
    let limit : n ≤ 4096 = h.limit in
    let some_address : 1 ≤ a = h.some_address in
    let address_limit : a ≤ 32 = h.address_limit in
    let ws : List ℕ = n ∷ a ∷ n ∷ [] in
    let one_piece : pieces n ≤ 1 = pieces_narrow n limit in
    let one_reduced : joined_pieces (pieces a) ≤ 1 = reduced_small a (omega arith) in
    let tainted = formed_one ReduceOr (formed_taint ws [] 1 a refl some_address (omega arith)) in
    let enables = formed_two Or (formed_value ws [] 0 n refl some (omega arith)) (formed_taint ws [] 0 n refl some (omega arith)) (λ e. absurd (cc)) in
    let none = formed_const (word n (λ i. false)) ws [] n (length-word n (λ i. false)) some (omega arith) in
    raised 3 (formed_choose tainted enables none some) (omega arith)

pub word_formed : (n a : ℕ) → AreNarrow n a → IsFormed word_formula (n ∷ a ∷ n ∷ []) [] n 1
word_formed n a h =
    let some : 1 ≤ n = h.some in
    let limit : n ≤ 4096 = h.limit in
    let ws : List ℕ = n ∷ a ∷ n ∷ [] in
    let one_piece : pieces n ≤ 1 = pieces_narrow n limit in
    raised 1 (formed_two Or (formed_taint ws [] 2 n refl some (omega arith)) (formed_taint ws [] 0 n refl some (omega arith)) (λ e. absurd (cc))) (omega arith)

pub flag_formed : (n a : ℕ) → AreNarrow n a → IsFormed flag_formula (n ∷ a ∷ n ∷ 1 ∷ []) [] 1 5
flag_formed n a h =
    let some : 1 ≤ n = h.some in
    let limit : n ≤ 4096 = h.limit in
    let some_address : 1 ≤ a = h.some_address in
    let address_limit : a ≤ 32 = h.address_limit in
    let ws : List ℕ = n ∷ a ∷ n ∷ 1 ∷ [] in
    let one_piece : pieces n ≤ 1 = pieces_narrow n limit in
    let one_reduced : joined_pieces (pieces a) ≤ 1 = reduced_small a (omega arith) in
    let word_reduced : joined_pieces (pieces n) ≤ 1 = reduced_small n limit in
    let tainted = formed_one ReduceOr (formed_taint ws [] 1 a refl some_address (omega arith)) in
    let enables = formed_two Or (formed_value ws [] 0 n refl some (omega arith)) (formed_taint ws [] 0 n refl some (omega arith)) (λ e. absurd (cc)) in
    let sets = formed_two And tainted (formed_one ReduceOr enables) (λ e. absurd (cc)) in
    raised 5 (formed_two Or (formed_value ws [] 3 1 refl (omega arith) (omega arith)) sets (λ e. absurd (cc))) (omega arith)

-- ---- together

memory_kind : (k : Kind) → role_of k ≡ MemoryBlock → k ≡ Mem
memory_kind Mem h = refl
memory_kind _ h = absurd (cc)

memory_weight : (c : Cell) → role_of c.kind ≡ MemoryBlock → weight c ≡ 16 * (number_of c RdPorts + number_of c WrPorts) + 8
unfolding weight_by
memory_weight c h = ap (λ k. weight_by k c) (memory_kind c.kind h)

all_ports : (r w x y : ℕ) → x ≤ 3 → y ≤ 9 → r * x + w * y + 2 ≤ 16 * (r + w) + 8
all_ports r w x y h l = omega (arith, mul-le r x r 3 (omega arith) h, mul-le w y w 9 (omega arith) l)

pub cost_within : (c : Cell) → role_of c.kind ≡ MemoryBlock → HasMemoryNumbers c → memory_cost c (memory_formulas (width c)) + 2 ≤ weight c
cost_within c role h =
    let n : AreNarrow (width c) (number_of c Abits) = narrow c h in
    let read_cost = (read_formed (width c) (number_of c Abits) n).cost in
    let enable_cost = (enable_formed (width c) (number_of c Abits) n).cost in
    let word_cost = (word_formed (width c) (number_of c Abits) n).cost in
    let flag_cost = (flag_formed (width c) (number_of c Abits) n).cost in
    let fs : MemoryFormulas = memory_formulas (width c) in
    let x : ℕ = cost_of fs.read (read_widths c) [] in
    let y : ℕ = cost_of fs.enable (port_widths c) [] + cost_of fs.word (port_widths c) [] + cost_of fs.flag (flag_widths c) [] in
    let each : y ≤ 9 = omega arith in
    omega (arith, memory_weight c role, all_ports (number_of c RdPorts) (number_of c WrPorts) x y read_cost each)
