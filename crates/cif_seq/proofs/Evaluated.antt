-- What the net bits hold once the words of a cell are written to them: what its drivers give.
use Rattle.std.specs.Prelude.{ℕ, zero, suc, ◌+◌, ◌*◌, ◌/◌, ◌%◌, ◌<◌, ◌≤◌, ◌≡◌, ◌==◌, Bool, true, false, List, [], ◌∷◌, length, map, get_or, Option, Some, None, refl}
use Rattle.std.proofs.Common.{arith, ap, sym, ◌∙◌, cond, inl, inr, subst}
use Rattle.std.proofs.lemmas.Bool.{eqb-true}
use Rattle.std.proofs.lemmas.Bool.Decides.{nat_tests}
use Rattle.std.proofs.lemmas.List.{get_or_past}
use Rattle.std.proofs.lemmas.Nat.{div-mul-add, mod-mul-add}
use Rattle.cif_defs.specs.Words.{Word, bit, word, operand}
use Rattle.cif_defs.specs.Cells.{meaning, number_of, reset_operand, shape_of, shown_word, width}
use Rattle.cif_defs.specs.Memory.{read_address, read_taint, read_word}
use Rattle.cif_defs.specs.Taint.{output_taint, shown_taint}
use Rattle.cif_defs.specs.Netlist.{IsWired, Netlist, cell_at, driver_of, output_at, role_at}
use Rattle.cif_defs.specs.Run.{driver_value, operand_words, register_bit}
use Rattle.cif_defs.specs.TaintRun.{TaintState, driver_taint, operand_taints, register_taint}
use Rattle.cif_defs.specs.declared.nets.Driver.{Driver}
use Rattle.cif_defs.specs.declared.nets.Driver.TheVariants.{Input, Output, Register, Read, Clock}
use Rattle.cif_defs.specs.declared.kinds.Param.TheVariants.{RdPorts}
use Rattle.cif_defs.specs.declared.kinds.Role.{Role}
use Rattle.cif_defs.specs.declared.kinds.Role.TheVariants.{Combinational, PlainRegister, ResetRegister, MemoryBlock}
use Rattle.cif_defs.proofs.WordLaws.{le_or_lt, bit-word}
use Rattle.cif_defs.specs.Evaluation.{evaluate_one, is_of_cell}
use Rattle.cif_cycle.specs.CellWords.{read_taints, read_words}
use Rattle.cif_shown.specs.Evaluates.{EvaluatesTaints, EvaluatesValues, Marks}
use Rattle.cif_writes.specs.Writes.{cleared, put_word, put_words}
use Rattle.cif_writes.proofs.PutWords.{put_word_here, put_word_other, put_words_here, put_words_other}

-- ---- drivers

in_drivers : (n : Netlist) (b : ℕ) (g : Driver) → driver_of n b ≡ g → (g ≡ Clock → ⊥) → b < length n.drivers
in_drivers n b g e h = elim (le_or_lt b (length n.drivers)) [ inl l ↦ l | inr l ↦ absurd (h (sym e ∙ get_or_past n.drivers b Clock l)) ]

-- a bit that a cell drives is a net bit
driven_in : (n : Netlist) (c b : ℕ) (g : Driver) → driver_of n b ≡ g → is_of_cell c g ≡ true → b < length n.drivers
driven_in n c b (Output d p i) e t = in_drivers n b (Output d p i) e (λ q. absurd (cc))
driven_in n c b (Register d i) e t = in_drivers n b (Register d i) e (λ q. absurd (cc))
driven_in n c b (Read d r i) e t = in_drivers n b (Read d r i) e (λ q. absurd (cc))
driven_in n c b (Input p i) e t = absurd (cc)
driven_in n c b Clock e t = absurd (cc)

-- the output, and the place in it, at which the bit of a driver stands, where words of a memory have m bits
abbrev port_of : Driver → ℕ
port_of (Output d p i) = p
port_of _ = 0

abbrev index_of : ℕ → Driver → ℕ
index_of m (Output d p i) = i
index_of m (Register d i) = i
index_of m (Read d r i) = r * m + i
index_of m (Input p i) = 0
index_of m Clock = 0

cell_is : (c : ℕ) → (c == c) ≡ true
cell_is c = grind (arith, nat_tests)

same_output : (c d p q i j : ℕ) → Output c p i ≡ Output d q j → (c ≡ d) × (p ≡ q) × (i ≡ j)
same_output c d p q i j e = (cc, cc, cc)

role_clash : (n : Netlist) (c d : ℕ) (r s : Role) → (c == d) ≡ true → role_at n c ≡ r → role_at n d ≡ s → r ≡ s
role_clash n c d r s t e f = sym e ∙ ap (role_at n) (eqb-true c d t) ∙ f

-- ---- which places a cell has

-- each bit that cell c drives stands at the place that its driver names, and at no other
record Owns (n : Netlist) (c b : ℕ) : Type 0 where
  here : is_of_cell c (driver_of n b) ≡ true → output_at (cell_at n c) (port_of (driver_of n b)) (index_of (width (cell_at n c)) (driver_of n b)) ≡ Some b
  alone : (q j : ℕ) → output_at (cell_at n c) q j ≡ Some b → (is_of_cell c (driver_of n b) ≡ true) × (q ≡ port_of (driver_of n b)) × (j ≡ index_of (width (cell_at n c)) (driver_of n b))

-- the same for a cell with one output
record OwnsWord (n : Netlist) (c b : ℕ) : Type 0 where
  here : is_of_cell c (driver_of n b) ≡ true → output_at (cell_at n c) 0 (index_of (width (cell_at n c)) (driver_of n b)) ≡ Some b
  alone : (j : ℕ) → output_at (cell_at n c) 0 j ≡ Some b → (is_of_cell c (driver_of n b) ≡ true) × (j ≡ index_of (width (cell_at n c)) (driver_of n b))

output_here : (n : Netlist) (c b : ℕ) (g : Driver) → IsWired n → role_at n c ≡ Combinational → driver_of n b ≡ g → is_of_cell c g ≡ true → output_at (cell_at n c) (port_of g) (index_of (width (cell_at n c)) g) ≡ Some b
output_here n c b (Output d p i) w role e t = ap (λ x. output_at (cell_at n x) p i) (eqb-true c d t) ∙ w.output_place b d p i e
output_here n c b (Read d r i) w role e t = absurd (let q : Combinational ≡ MemoryBlock = role_clash n c d Combinational MemoryBlock t role (w.read_role b d r i e) in cc)
output_here n c b (Register d i) w role e t = elim (w.register_role b d i e) [
  | inl f ↦ absurd (let q : Combinational ≡ PlainRegister = role_clash n c d Combinational PlainRegister t role f in cc)
  | inr f ↦ absurd (let q : Combinational ≡ ResetRegister = role_clash n c d Combinational ResetRegister t role f in cc)
]
output_here n c b (Input p i) w role e t = absurd (cc)
output_here n c b Clock w role e t = absurd (cc)

output_alone : (n : Netlist) (c b q j m : ℕ) (g : Driver) → g ≡ Output c q j → (is_of_cell c g ≡ true) × (q ≡ port_of g) × (j ≡ index_of m g)
output_alone n c b q j m g e = (ap (is_of_cell c) e ∙ cell_is c, sym (ap port_of e), sym (ap (index_of m) e))

owns_outputs : (n : Netlist) (c b : ℕ) → IsWired n → role_at n c ≡ Combinational → Owns n c b
owns_outputs n c b w role = record {
  here = λ t. output_here n c b (driver_of n b) w role refl t;
  alone = λ q j h. output_alone n c b q j (width (cell_at n c)) (driver_of n b) (w.by_output c q j b role h);
}

register_here : (n : Netlist) (c b : ℕ) (g : Driver) → IsWired n → role_at n c ≡ ResetRegister → driver_of n b ≡ g → is_of_cell c g ≡ true → output_at (cell_at n c) 0 (index_of (width (cell_at n c)) g) ≡ Some b
register_here n c b (Register d i) w role e t = ap (λ x. output_at (cell_at n x) 0 i) (eqb-true c d t) ∙ w.register_place b d i e
register_here n c b (Output d p i) w role e t = absurd (let q : ResetRegister ≡ Combinational = role_clash n c d ResetRegister Combinational t role (w.output_role b d p i e) in cc)
register_here n c b (Read d r i) w role e t = absurd (let q : ResetRegister ≡ MemoryBlock = role_clash n c d ResetRegister MemoryBlock t role (w.read_role b d r i e) in cc)
register_here n c b (Input p i) w role e t = absurd (cc)
register_here n c b Clock w role e t = absurd (cc)

owns_register : (n : Netlist) (c b : ℕ) → IsWired n → role_at n c ≡ ResetRegister → OwnsWord n c b
owns_register n c b w role = record {
  here = λ t. register_here n c b (driver_of n b) w role refl t;
  alone = λ j h. let e : driver_of n b ≡ Register c j = w.by_register c j b (inr role) h in (ap (is_of_cell c) e ∙ cell_is c, sym (ap (index_of (width (cell_at n c))) e));
}

read_here : (n : Netlist) (c b : ℕ) (g : Driver) → IsWired n → role_at n c ≡ MemoryBlock → driver_of n b ≡ g → is_of_cell c g ≡ true → output_at (cell_at n c) 0 (index_of (width (cell_at n c)) g) ≡ Some b
read_here n c b (Read d r i) w role e t = ap (λ x. output_at (cell_at n x) 0 (r * width (cell_at n x) + i)) (eqb-true c d t) ∙ (w.read_place b d r i e).1
read_here n c b (Output d p i) w role e t = absurd (let q : MemoryBlock ≡ Combinational = role_clash n c d MemoryBlock Combinational t role (w.output_role b d p i e) in cc)
read_here n c b (Register d i) w role e t = elim (w.register_role b d i e) [
  | inl f ↦ absurd (let q : MemoryBlock ≡ PlainRegister = role_clash n c d MemoryBlock PlainRegister t role f in cc)
  | inr f ↦ absurd (let q : MemoryBlock ≡ ResetRegister = role_clash n c d MemoryBlock ResetRegister t role f in cc)
]
read_here n c b (Input p i) w role e t = absurd (cc)
read_here n c b Clock w role e t = absurd (cc)

parts_of : (j m : ℕ) → 1 ≤ m → (j / m * m + j % m ≡ j) × (j % m < m)
parts_of j m h = (omega arith, omega arith)

read_alone : (n : Netlist) (c b j : ℕ) → IsWired n → role_at n c ≡ MemoryBlock → 1 ≤ width (cell_at n c) → output_at (cell_at n c) 0 j ≡ Some b
    → (is_of_cell c (driver_of n b) ≡ true) × (j ≡ index_of (width (cell_at n c)) (driver_of n b))
read_alone n c b j w role some h =
    let m : ℕ = width (cell_at n c) in
    let parts = parts_of j m some in
    let e : driver_of n b ≡ Read c (j / m) (j % m) = w.by_read c (j / m) (j % m) b role parts.1 (ap (output_at (cell_at n c) 0) parts.0 ∙ h) in
    (ap (is_of_cell c) e ∙ cell_is c, sym parts.0 ∙ sym (ap (index_of m) e))

owns_reads : (n : Netlist) (c b : ℕ) → IsWired n → role_at n c ≡ MemoryBlock → 1 ≤ width (cell_at n c) → OwnsWord n c b
owns_reads n c b w role some = record {
  here = λ t. read_here n c b (driver_of n b) w role refl t;
  alone = λ j h. read_alone n c b j w role some h;
}

-- ---- words that are written

outputs_at : (n : Netlist) (c : ℕ) (marks bits : List Bool) (ws : List Word) (b : ℕ) (t : Bool) → Owns n c b → length bits ≡ length n.drivers → is_of_cell c (driver_of n b) ≡ t
    → bit (put_words marks (cell_at n c).outputs ws bits) b ≡ cond t (cleared marks b (bit (operand ws (port_of (driver_of n b))) (index_of (width (cell_at n c)) (driver_of n b)))) (bit bits b)
outputs_at n c marks bits ws b true o size t =
    let inside : b < length n.drivers = driven_in n c b (driver_of n b) refl t in
    put_words_here marks (cell_at n c).outputs ws bits b (port_of (driver_of n b)) (index_of (width (cell_at n c)) (driver_of n b)) (omega arith) (o.here t) (λ q j h. let a = o.alone q j h in (a.1, a.2))
outputs_at n c marks bits ws b false o size t = put_words_other marks (cell_at n c).outputs ws bits b (λ q j h. absurd (let a = (o.alone q j h).0 in cc))

word_at : (n : Netlist) (c : ℕ) (marks bits : List Bool) (w : Word) (b : ℕ) (t : Bool) → OwnsWord n c b → length bits ≡ length n.drivers → is_of_cell c (driver_of n b) ≡ t
    → bit (put_word marks (get_or (cell_at n c).outputs 0 []) w bits) b ≡ cond t (cleared marks b (bit w (index_of (width (cell_at n c)) (driver_of n b)))) (bit bits b)
word_at n c marks bits w b true o size t =
    let inside : b < length n.drivers = driven_in n c b (driver_of n b) refl t in
    put_word_here marks (get_or (cell_at n c).outputs 0 []) w bits b (index_of (width (cell_at n c)) (driver_of n b)) (omega arith) (o.here t) (λ j h. (o.alone j h).1)
word_at n c marks bits w b false o size t = put_word_other marks (get_or (cell_at n c).outputs 0 []) w bits b (λ j h. absurd (let a = (o.alone j h).0 in cc))

cond_same : (t x y z : Bool) → (t ≡ true → x ≡ y) → cond t x z ≡ cond t y z
cond_same true x y z h = h refl
cond_same false x y z h = refl

marked : (n : Netlist) (c : ℕ) (marks : List Bool) (released : ℕ → Bool) (b : ℕ) (x : Bool) → Marks n marks released → is_of_cell c (driver_of n b) ≡ true → cleared marks b x ≡ cond (released b) false x
marked n c marks released b x m t = ap (λ y. cond y false x) (m b (driven_in n c b (driver_of n b) refl t))

-- ---- combinational cells

value_output : (n : Netlist) (c b : ℕ) (stored : List Word) (input : ℕ → ℕ → Bool) (v : ℕ → Bool) (g : Driver) → IsWired n → role_at n c ≡ Combinational → driver_of n b ≡ g → is_of_cell c g ≡ true
    → bit (operand (meaning (cell_at n c) (operand_words v (cell_at n c))) (port_of g)) (index_of (width (cell_at n c)) g) ≡ driver_value n stored input v g
unfolding driver_value
value_output n c b stored input v (Output d p i) w role e t = ap (λ x. bit (operand (meaning (cell_at n x) (operand_words v (cell_at n x))) p) i) (eqb-true c d t)
value_output n c b stored input v (Read d r i) w role e t = absurd (let q : Combinational ≡ MemoryBlock = role_clash n c d Combinational MemoryBlock t role (w.read_role b d r i e) in cc)
value_output n c b stored input v (Register d i) w role e t = elim (w.register_role b d i e) [
  | inl f ↦ absurd (let q : Combinational ≡ PlainRegister = role_clash n c d Combinational PlainRegister t role f in cc)
  | inr f ↦ absurd (let q : Combinational ≡ ResetRegister = role_clash n c d Combinational ResetRegister t role f in cc)
]
value_output n c b stored input v (Input p i) w role e t = absurd (cc)
value_output n c b stored input v Clock w role e t = absurd (cc)

pub outputs_values : (n : Netlist) (c : ℕ) (stored ws : List Word) (old new : List Bool) → IsWired n → role_at n c ≡ Combinational → length old ≡ length n.drivers → ws ≡ meaning (cell_at n c) (operand_words (bit old) (cell_at n c))
    → new ≡ put_words [] (cell_at n c).outputs ws old → EvaluatesValues n stored c old new
unfolding EvaluatesValues evaluate_one
outputs_values n c stored ws old new w role size hw h = λ input b.
    ap (λ (bits : List Bool). bit bits b) h
    ∙ outputs_at n c [] old ws b (is_of_cell c (driver_of n b)) (owns_outputs n c b w role) size refl
    ∙ cond_same (is_of_cell c (driver_of n b)) _ _ (bit old b) (λ t.
    ap (λ (us : List Word). bit (operand us (port_of (driver_of n b))) (index_of (width (cell_at n c)) (driver_of n b))) hw ∙ value_output n c b stored input (bit old) (driver_of n b) w role refl t)

taint_output : (n : Netlist) (c b : ℕ) (stored : List Word) (x : Bool) (t : TaintState) (input : ℕ → ℕ → Bool) (v u : ℕ → Bool) (g : Driver) → IsWired n → role_at n c ≡ Combinational → driver_of n b ≡ g → is_of_cell c g ≡ true
    → x ≡ output_taint (cell_at n c) (port_of g) (index_of (width (cell_at n c)) g) (operand_words v (cell_at n c)) (operand_taints u (cell_at n c)) → x ≡ driver_taint n stored v t input u g
unfolding driver_taint
taint_output n c b stored x t input v u (Output d p i) w role e is h = h ∙ ap (λ z. output_taint (cell_at n z) p i (operand_words v (cell_at n z)) (operand_taints u (cell_at n z))) (eqb-true c d is)
taint_output n c b stored x t input v u (Read d r i) w role e is h = absurd (let q : Combinational ≡ MemoryBlock = role_clash n c d Combinational MemoryBlock is role (w.read_role b d r i e) in cc)
taint_output n c b stored x t input v u (Register d i) w role e is h = elim (w.register_role b d i e) [
  | inl f ↦ absurd (let q : Combinational ≡ PlainRegister = role_clash n c d Combinational PlainRegister is role f in cc)
  | inr f ↦ absurd (let q : Combinational ≡ ResetRegister = role_clash n c d Combinational ResetRegister is role f in cc)
]
taint_output n c b stored x t input v u (Input p i) w role e is h = absurd (cc)
taint_output n c b stored x t input v u Clock w role e is h = absurd (cc)

-- an output bit that drives a net bit stands inside its output
inside : {A : Type 0} (xs : List (Option A)) (i : ℕ) (a : A) → get_or xs i None ≡ Some a → i < length xs
inside [] i a e = absurd (cc)
inside (x ∷ xs) zero a e = omega arith
inside (x ∷ xs) (suc i) a e = let l : i < length xs = inside xs i a e in omega arith

pub inside_output : (outs : List (List (Option ℕ))) (p i b : ℕ) → get_or (get_or outs p []) i None ≡ Some b → i < get_or (map length outs) p 0
inside_output [] p i b e = absurd (cc)
inside_output (o ∷ outs) zero i b e = inside o i b e
inside_output (o ∷ outs) (suc p) i b e = inside_output outs p i b e

pub outputs_taints : (n : Netlist) (c : ℕ) (stored ws : List Word) (t : TaintState) (released : ℕ → Bool) (marks values old new : List Bool) → IsWired n → role_at n c ≡ Combinational → length old ≡ length n.drivers → Marks n marks released
    → ((p i : ℕ) → i < get_or (map length (cell_at n c).outputs) p 0 → bit (operand ws p) i ≡ output_taint (cell_at n c) p i (operand_words (bit values) (cell_at n c)) (operand_taints (bit old) (cell_at n c)))
    → new ≡ put_words marks (cell_at n c).outputs ws old → EvaluatesTaints n stored values t released c old new
unfolding EvaluatesTaints evaluate_one
outputs_taints n c stored ws t released marks values old new w role size m hw h = λ input b.
    ap (λ (bits : List Bool). bit bits b) h
    ∙ outputs_at n c marks old ws b (is_of_cell c (driver_of n b)) (owns_outputs n c b w role) size refl
    ∙ cond_same (is_of_cell c (driver_of n b)) _ _ (bit old b) (λ is.
    let p : ℕ = port_of (driver_of n b) in let i : ℕ = index_of (width (cell_at n c)) (driver_of n b) in
    marked n c marks released b (bit (operand ws p) i) m is
    ∙ ap (λ x. cond (released b) false x) (taint_output n c b stored (bit (operand ws p) i) t input (bit values) (bit old) (driver_of n b) w role refl is
    (hw p i (inside_output (cell_at n c).outputs p i b (output_here n c b (driver_of n b) w role refl is)))))

-- ---- registers with asynchronous reset

value_shown : (n : Netlist) (c i : ℕ) (stored : List Word) (input : ℕ → ℕ → Bool) (v : ℕ → Bool) → role_at n c ≡ ResetRegister
    → bit (shown_word (cell_at n c) (bit (operand (operand_words v (cell_at n c)) (reset_operand (cell_at n c).kind)) 0) (get_or stored c [])) i ≡ driver_value n stored input v (Register c i)
unfolding driver_value
value_shown n c i stored input v role = sym (ap (λ (r : Role). register_bit r (cell_at n c) v (get_or stored c []) i) role)

value_register : (n : Netlist) (c b : ℕ) (stored : List Word) (input : ℕ → ℕ → Bool) (v : ℕ → Bool) (w : Word) (g : Driver) → IsWired n → role_at n c ≡ ResetRegister → driver_of n b ≡ g → is_of_cell c g ≡ true
    → w ≡ shown_word (cell_at n c) (bit (operand (operand_words v (cell_at n c)) (reset_operand (cell_at n c).kind)) 0) (get_or stored c []) → bit w (index_of (width (cell_at n c)) g) ≡ driver_value n stored input v g
value_register n c b stored input v w (Register d i) wired role e t h =
    ap (λ (u : Word). bit u i) h ∙ value_shown n c i stored input v role ∙ ap (λ z. driver_value n stored input v (Register z i)) (eqb-true c d t)
value_register n c b stored input v w (Output d p i) wired role e t h = absurd (let q : ResetRegister ≡ Combinational = role_clash n c d ResetRegister Combinational t role (wired.output_role b d p i e) in cc)
value_register n c b stored input v w (Read d r i) wired role e t h = absurd (let q : ResetRegister ≡ MemoryBlock = role_clash n c d ResetRegister MemoryBlock t role (wired.read_role b d r i e) in cc)
value_register n c b stored input v w (Input p i) wired role e t h = absurd (cc)
value_register n c b stored input v w Clock wired role e t h = absurd (cc)

pub register_values : (n : Netlist) (c : ℕ) (stored : List Word) (w : Word) (old new : List Bool) → IsWired n → role_at n c ≡ ResetRegister → length old ≡ length n.drivers
    → w ≡ shown_word (cell_at n c) (bit (operand (operand_words (bit old) (cell_at n c)) (reset_operand (cell_at n c).kind)) 0) (get_or stored c [])
    → new ≡ put_word [] (get_or (cell_at n c).outputs 0 []) w old → EvaluatesValues n stored c old new
unfolding EvaluatesValues evaluate_one
register_values n c stored w old new wired role size hw h = λ input b.
    ap (λ (bits : List Bool). bit bits b) h
    ∙ word_at n c [] old w b (is_of_cell c (driver_of n b)) (owns_register n c b wired role) size refl
    ∙ cond_same (is_of_cell c (driver_of n b)) _ _ (bit old b) (λ t. value_register n c b stored input (bit old) w (driver_of n b) wired role refl t hw)

abbrev taint_shown_word : Netlist → ℕ → List Word → TaintState → (ℕ → Bool) → (ℕ → Bool) → Word
taint_shown_word n c stored t v u = shown_taint (cell_at n c) (operand (operand_words v (cell_at n c)) (reset_operand (cell_at n c).kind)) (operand (operand_taints u (cell_at n c)) (reset_operand (cell_at n c).kind)) (get_or stored c []) (get_or t.stored c [])

taint_shown : (n : Netlist) (c i : ℕ) (stored : List Word) (t : TaintState) (input : ℕ → ℕ → Bool) (v u : ℕ → Bool) → role_at n c ≡ ResetRegister → i < width (cell_at n c)
    → bit (taint_shown_word n c stored t v u) i ≡ driver_taint n stored v t input u (Register c i)
unfolding driver_taint
taint_shown n c i stored t input v u role l =
    bit-word (width (cell_at n c)) _ i false l ∙ sym (ap (λ (r : Role). register_taint r (cell_at n c) v u (get_or stored c []) (get_or t.stored c []) i) role)

taint_register : (n : Netlist) (c b : ℕ) (stored : List Word) (t : TaintState) (input : ℕ → ℕ → Bool) (v u : ℕ → Bool) (w : Word) (g : Driver) → IsWired n → role_at n c ≡ ResetRegister → length (get_or (cell_at n c).outputs 0 []) ≡ width (cell_at n c)
    → driver_of n b ≡ g → is_of_cell c g ≡ true → w ≡ taint_shown_word n c stored t v u → bit w (index_of (width (cell_at n c)) g) ≡ driver_taint n stored v t input u g
taint_register n c b stored t input v u w (Register d i) wired role long e is h =
    let place : get_or (get_or (cell_at n c).outputs 0 []) i None ≡ Some b = register_here n c b (Register d i) wired role e is in
    let low : i < length (get_or (cell_at n c).outputs 0 []) = inside (get_or (cell_at n c).outputs 0 []) i b place in
    ap (λ (x : Word). bit x i) h ∙ taint_shown n c i stored t input v u role (omega arith) ∙ ap (λ z. driver_taint n stored v t input u (Register z i)) (eqb-true c d is)
taint_register n c b stored t input v u w (Output d p i) wired role long e is h = absurd (let q : ResetRegister ≡ Combinational = role_clash n c d ResetRegister Combinational is role (wired.output_role b d p i e) in cc)
taint_register n c b stored t input v u w (Read d r i) wired role long e is h = absurd (let q : ResetRegister ≡ MemoryBlock = role_clash n c d ResetRegister MemoryBlock is role (wired.read_role b d r i e) in cc)
taint_register n c b stored t input v u w (Input p i) wired role long e is h = absurd (cc)
taint_register n c b stored t input v u w Clock wired role long e is h = absurd (cc)

pub register_taints : (n : Netlist) (c : ℕ) (stored : List Word) (w : Word) (t : TaintState) (released : ℕ → Bool) (marks values old new : List Bool) → IsWired n → role_at n c ≡ ResetRegister → length (get_or (cell_at n c).outputs 0 []) ≡ width (cell_at n c)
    → length old ≡ length n.drivers → Marks n marks released
    → w ≡ shown_taint (cell_at n c) (operand (operand_words (bit values) (cell_at n c)) (reset_operand (cell_at n c).kind)) (operand (operand_taints (bit old) (cell_at n c)) (reset_operand (cell_at n c).kind)) (get_or stored c []) (get_or t.stored c [])
    → new ≡ put_word marks (get_or (cell_at n c).outputs 0 []) w old → EvaluatesTaints n stored values t released c old new
unfolding EvaluatesTaints evaluate_one
register_taints n c stored w t released marks values old new wired role long size m hw h = λ input b.
    ap (λ (bits : List Bool). bit bits b) h
    ∙ word_at n c marks old w b (is_of_cell c (driver_of n b)) (owns_register n c b wired role) size refl
    ∙ cond_same (is_of_cell c (driver_of n b)) _ _ (bit old b) (λ is.
    marked n c marks released b (bit w (index_of (width (cell_at n c)) (driver_of n b))) m is
    ∙ ap (λ x. cond (released b) false x) (taint_register n c b stored t input (bit values) (bit old) w (driver_of n b) wired role long refl is hw))

-- ---- memories

-- a bit of joined words of m bits
joined_bit : (ports m r i : ℕ) (f : ℕ → ℕ → Bool) → r * m + i < ports * m → i < m → bit (word (ports * m) (λ k. f (k / m) (k % m))) (r * m + i) ≡ f r i
joined_bit ports m r i f l h =
    let first : (r * m + i) / m ≡ r = div-mul-add r m i h in
    let second : (r * m + i) % m ≡ i = mod-mul-add r m i h in
    bit-word (ports * m) _ (r * m + i) false l ∙ ap (λ x. f x ((r * m + i) % m)) first ∙ ap (f r) second

value_joined : (n : Netlist) (c r i ports : ℕ) (stored : List Word) (input : ℕ → ℕ → Bool) (v : ℕ → Bool) → i < width (cell_at n c) → r * width (cell_at n c) + i < ports * width (cell_at n c)
    → bit (read_words (cell_at n c) ports (operand_words v (cell_at n c)) (get_or stored c [])) (r * width (cell_at n c) + i) ≡ driver_value n stored input v (Read c r i)
unfolding driver_value
value_joined n c r i ports stored input v l h =
    joined_bit ports (width (cell_at n c)) r i (λ p j. bit (read_word (shape_of (cell_at n c)) (read_address (shape_of (cell_at n c)) (operand_words v (cell_at n c)) p) (get_or stored c [])) j) h l

value_read : (n : Netlist) (c b ports : ℕ) (stored : List Word) (input : ℕ → ℕ → Bool) (v : ℕ → Bool) (w : Word) (g : Driver) → IsWired n → role_at n c ≡ MemoryBlock → length (get_or (cell_at n c).outputs 0 []) ≡ ports * width (cell_at n c)
    → driver_of n b ≡ g → is_of_cell c g ≡ true → w ≡ read_words (cell_at n c) ports (operand_words v (cell_at n c)) (get_or stored c []) → bit w (index_of (width (cell_at n c)) g) ≡ driver_value n stored input v g
value_read n c b ports stored input v w (Read d r i) wired role long e is h =
    let same : c ≡ d = eqb-true c d is in
    let place : get_or (get_or (cell_at n c).outputs 0 []) (r * width (cell_at n c) + i) None ≡ Some b = read_here n c b (Read d r i) wired role e is in
    let low : r * width (cell_at n c) + i < length (get_or (cell_at n c).outputs 0 []) = inside (get_or (cell_at n c).outputs 0 []) (r * width (cell_at n c) + i) b place in
    let least : i < width (cell_at n c) = subst (λ z. i < width (cell_at n z)) (sym same) ((wired.read_place b d r i e).0) in
    ap (λ (x : Word). bit x (r * width (cell_at n c) + i)) h ∙ value_joined n c r i ports stored input v least (omega arith) ∙ ap (λ z. driver_value n stored input v (Read z r i)) same
value_read n c b ports stored input v w (Output d p i) wired role long e is h = absurd (let q : MemoryBlock ≡ Combinational = role_clash n c d MemoryBlock Combinational is role (wired.output_role b d p i e) in cc)
value_read n c b ports stored input v w (Register d i) wired role long e is h = elim (wired.register_role b d i e) [
  | inl f ↦ absurd (let q : MemoryBlock ≡ PlainRegister = role_clash n c d MemoryBlock PlainRegister is role f in cc)
  | inr f ↦ absurd (let q : MemoryBlock ≡ ResetRegister = role_clash n c d MemoryBlock ResetRegister is role f in cc)
]
value_read n c b ports stored input v w (Input p i) wired role long e is h = absurd (cc)
value_read n c b ports stored input v w Clock wired role long e is h = absurd (cc)

pub memory_values : (n : Netlist) (c : ℕ) (stored : List Word) (w : Word) (old new : List Bool) → IsWired n → role_at n c ≡ MemoryBlock → 1 ≤ width (cell_at n c) → length (get_or (cell_at n c).outputs 0 []) ≡ number_of (cell_at n c) RdPorts * width (cell_at n c)
    → length old ≡ length n.drivers → w ≡ read_words (cell_at n c) (number_of (cell_at n c) RdPorts) (operand_words (bit old) (cell_at n c)) (get_or stored c [])
    → new ≡ put_word [] (get_or (cell_at n c).outputs 0 []) w old → EvaluatesValues n stored c old new
unfolding EvaluatesValues evaluate_one
memory_values n c stored w old new wired role some long size hw h = λ input b.
    ap (λ (bits : List Bool). bit bits b) h
    ∙ word_at n c [] old w b (is_of_cell c (driver_of n b)) (owns_reads n c b wired role some) size refl
    ∙ cond_same (is_of_cell c (driver_of n b)) _ _ (bit old b) (λ is. value_read n c b (number_of (cell_at n c) RdPorts) stored input (bit old) w (driver_of n b) wired role long refl is hw)

taint_joined : (n : Netlist) (c r i ports : ℕ) (stored : List Word) (t : TaintState) (input : ℕ → ℕ → Bool) (v u : ℕ → Bool) → i < width (cell_at n c) → r * width (cell_at n c) + i < ports * width (cell_at n c)
    → bit (read_taints (cell_at n c) ports (operand_words v (cell_at n c)) (operand_taints u (cell_at n c)) (get_or t.flags c false) (get_or t.stored c [])) (r * width (cell_at n c) + i) ≡ driver_taint n stored v t input u (Read c r i)
unfolding driver_taint
taint_joined n c r i ports stored t input v u l h =
    joined_bit ports (width (cell_at n c)) r i
    (λ p j. bit (read_taint (shape_of (cell_at n c)) (read_address (shape_of (cell_at n c)) (operand_words v (cell_at n c)) p) (read_address (shape_of (cell_at n c)) (operand_taints u (cell_at n c)) p) (get_or t.flags c false) (get_or t.stored c [])) j) h l

taint_of_read : (n : Netlist) (c b ports : ℕ) (stored : List Word) (t : TaintState) (input : ℕ → ℕ → Bool) (v u : ℕ → Bool) (w : Word) (g : Driver) → IsWired n → role_at n c ≡ MemoryBlock → length (get_or (cell_at n c).outputs 0 []) ≡ ports * width (cell_at n c)
    → driver_of n b ≡ g → is_of_cell c g ≡ true → w ≡ read_taints (cell_at n c) ports (operand_words v (cell_at n c)) (operand_taints u (cell_at n c)) (get_or t.flags c false) (get_or t.stored c [])
    → bit w (index_of (width (cell_at n c)) g) ≡ driver_taint n stored v t input u g
taint_of_read n c b ports stored t input v u w (Read d r i) wired role long e is h =
    let same : c ≡ d = eqb-true c d is in
    let place : get_or (get_or (cell_at n c).outputs 0 []) (r * width (cell_at n c) + i) None ≡ Some b = read_here n c b (Read d r i) wired role e is in
    let low : r * width (cell_at n c) + i < length (get_or (cell_at n c).outputs 0 []) = inside (get_or (cell_at n c).outputs 0 []) (r * width (cell_at n c) + i) b place in
    let least : i < width (cell_at n c) = subst (λ z. i < width (cell_at n z)) (sym same) ((wired.read_place b d r i e).0) in
    ap (λ (x : Word). bit x (r * width (cell_at n c) + i)) h ∙ taint_joined n c r i ports stored t input v u least (omega arith) ∙ ap (λ z. driver_taint n stored v t input u (Read z r i)) same
taint_of_read n c b ports stored t input v u w (Output d p i) wired role long e is h = absurd (let q : MemoryBlock ≡ Combinational = role_clash n c d MemoryBlock Combinational is role (wired.output_role b d p i e) in cc)
taint_of_read n c b ports stored t input v u w (Register d i) wired role long e is h = elim (wired.register_role b d i e) [
  | inl f ↦ absurd (let q : MemoryBlock ≡ PlainRegister = role_clash n c d MemoryBlock PlainRegister is role f in cc)
  | inr f ↦ absurd (let q : MemoryBlock ≡ ResetRegister = role_clash n c d MemoryBlock ResetRegister is role f in cc)
]
taint_of_read n c b ports stored t input v u w (Input p i) wired role long e is h = absurd (cc)
taint_of_read n c b ports stored t input v u w Clock wired role long e is h = absurd (cc)

pub memory_taints : (n : Netlist) (c : ℕ) (stored : List Word) (w : Word) (t : TaintState) (released : ℕ → Bool) (marks values old new : List Bool) → IsWired n → role_at n c ≡ MemoryBlock → 1 ≤ width (cell_at n c)
    → length (get_or (cell_at n c).outputs 0 []) ≡ number_of (cell_at n c) RdPorts * width (cell_at n c) → length old ≡ length n.drivers → Marks n marks released
    → w ≡ read_taints (cell_at n c) (number_of (cell_at n c) RdPorts) (operand_words (bit values) (cell_at n c)) (operand_taints (bit old) (cell_at n c)) (get_or t.flags c false) (get_or t.stored c [])
    → new ≡ put_word marks (get_or (cell_at n c).outputs 0 []) w old → EvaluatesTaints n stored values t released c old new
unfolding EvaluatesTaints evaluate_one
memory_taints n c stored w t released marks values old new wired role some long size m hw h = λ input b.
    ap (λ (bits : List Bool). bit bits b) h
    ∙ word_at n c marks old w b (is_of_cell c (driver_of n b)) (owns_reads n c b wired role some) size refl
    ∙ cond_same (is_of_cell c (driver_of n b)) _ _ (bit old b) (λ is.
    marked n c marks released b (bit w (index_of (width (cell_at n c)) (driver_of n b))) m is
    ∙ ap (λ x. cond (released b) false x) (taint_of_read n c b (number_of (cell_at n c) RdPorts) stored t input (bit values) (bit old) w (driver_of n b) wired role long refl is hw))
