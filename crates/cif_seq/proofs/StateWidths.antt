-- What the cells store in a cycle is one word and one taint word for each, as long as its state, and one flag.
use Rattle.std.specs.Prelude.{ℕ, zero, suc, ◌<◌, ◌≡◌, Bool, List, [], length, map, get_or, refl}
use Rattle.std.specs.List.{range_with_len}
use Rattle.std.proofs.Common.{arith, ap, ◌∙◌}
use Rattle.std.proofs.lemmas.List.FromFn.{get_or-map-range_with_len, length-map-range_with_len}
use Rattle.cif_defs.specs.Words.{Word}
use Rattle.cif_defs.specs.Cells.{Cell, next_by, shape_of, state_bits, state_bits_by, width}
use Rattle.cif_defs.specs.Memory.{memory_bits}
use Rattle.cif_defs.specs.Netlist.{Netlist, cell_at, role_at}
use Rattle.cif_defs.specs.Stimulus.{Stimulus, start_at}
use Rattle.cif_defs.specs.Run.{operand_words, state, stored_by, value}
use Rattle.cif_defs.specs.TaintRun.{IsFrame, taint_in, taint_state, taint_stored_by}
use Rattle.cif_defs.specs.declared.kinds.Kind.{Kind}
use Rattle.cif_defs.specs.declared.kinds.Kind.TheVariants.{Adff, Adffe, Dff, Dffe, Sdff, Sdffce, Sdffe}
use Rattle.cif_defs.specs.declared.kinds.Role.{Role}
use Rattle.cif_defs.specs.declared.kinds.Role.TheVariants.{CarriedOver, Combinational, MemoryBlock, PlainRegister, ResetRegister}
use Rattle.cif_defs.proofs.WordLaws.{length-word}
use Rattle.cif_defs.proofs.Orders.{in_range}
use Rattle.cif_seq.specs.Stored.{ArePassing, AreStored, IsStored, IsStoredAt}

length-next : (k : Kind) (c : Cell) (us : List Word) (stored : Word) → length (next_by k c us stored) ≡ width c
unfolding next_by
length-next Dff c us stored = length-word (width c) _
length-next Dffe c us stored = length-word (width c) _
length-next Sdff c us stored = length-word (width c) _
length-next Sdffe c us stored = length-word (width c) _
length-next Sdffce c us stored = length-word (width c) _
length-next Adff c us stored = length-word (width c) _
length-next Adffe c us stored = length-word (width c) _
length-next _ c us stored = length-word (width c) _

pub length-stored : (r : Role) (c : Cell) (v : ℕ → Bool) (stored : Word) → length (stored_by r c v stored) ≡ state_bits_by r c
length-stored PlainRegister c v stored = length-next c.kind c (operand_words v c) stored
length-stored ResetRegister c v stored = length-next c.kind c (operand_words v c) stored
length-stored MemoryBlock c v stored = length-word (memory_bits (shape_of c)) _
length-stored Combinational c v stored = refl
length-stored CarriedOver c v stored = refl

pub length-taint : (r : Role) (c : Cell) (v t : ℕ → Bool) (stored stored_taint : Word) → length (taint_stored_by r c v t stored stored_taint) ≡ state_bits_by r c
length-taint PlainRegister c v t stored stored_taint = length-word (width c) _
length-taint ResetRegister c v t stored stored_taint = length-word (width c) _
length-taint MemoryBlock c v t stored stored_taint = length-word (memory_bits (shape_of c)) _
length-taint Combinational c v t stored stored_taint = refl
length-taint CarriedOver c v t stored stored_taint = refl

listed : (f : ℕ → Word) (n c : ℕ) → c < n → get_or (map f (range_with_len 0 n)) c [] ≡ f c
listed f n c l = get_or-map-range_with_len f 0 n c c [] l (omega arith)

as_many : {A : Type 0} (f : ℕ → A) (n : ℕ) → length (map f (range_with_len 0 n)) ≡ n
as_many f n = length-map-range_with_len f 0 n

state_width : (n : Netlist) (s : Stimulus) (k c : ℕ) → c < length n.cells → length (get_or (state n s k) c []) ≡ state_bits (cell_at n c)
unfolding state
state_width n s zero c l = ap length (listed (λ x. (start_at n s x).value) (length n.cells) c l) ∙ length-word (state_bits (cell_at n c)) _
state_width n s (suc k) c l =
    ap length (listed (λ x. stored_by (role_at n x) (cell_at n x) (value n s k) (get_or (state n s k) x [])) (length n.cells) c l)
    ∙ length-stored (role_at n c) (cell_at n c) (value n s k) (get_or (state n s k) c [])

taint_width : (n : Netlist) (s : Stimulus) (k c : ℕ) → c < length n.cells → length (get_or (taint_state n s k).stored c []) ≡ state_bits (cell_at n c)
unfolding taint_state
taint_width n s zero c l = ap length (listed (λ x. (start_at n s x).taint) (length n.cells) c l) ∙ length-word (state_bits (cell_at n c)) _
taint_width n s (suc k) c l =
    ap length (listed (λ x. taint_stored_by (role_at n x) (cell_at n x) (value n s k) (taint_in n s k (taint_state n s k)) (get_or (state n s k) x []) (get_or (taint_state n s k).stored x [])) (length n.cells) c l)
    ∙ length-taint (role_at n c) (cell_at n c) (value n s k) (taint_in n s k (taint_state n s k)) (get_or (state n s k) c []) (get_or (taint_state n s k).stored c [])

many_values : (n : Netlist) (s : Stimulus) (k : ℕ) → length (state n s k) ≡ length n.cells
unfolding state
many_values n s zero = as_many _ (length n.cells)
many_values n s (suc k) = as_many _ (length n.cells)

many_taints : (n : Netlist) (s : Stimulus) (k : ℕ) → length (taint_state n s k).stored ≡ length n.cells
unfolding taint_state
many_taints n s zero = as_many _ (length n.cells)
many_taints n s (suc k) = as_many _ (length n.cells)

many_flags : (n : Netlist) (s : Stimulus) (k : ℕ) → length (taint_state n s k).flags ≡ length n.cells
unfolding taint_state
many_flags n s zero = as_many _ (length n.cells)
many_flags n s (suc k) = as_many _ (length n.cells)

pub is_stored : (n : Netlist) (s : Stimulus) (k : ℕ) (values taints : List Word) (flags : List Bool) → values ≡ state n s k → taints ≡ (taint_state n s k).stored → flags ≡ (taint_state n s k).flags → IsStored n values taints flags
is_stored n s k values taints flags e f g = record {
  as_many_values = ap length e ∙ many_values n s k;
  as_many_taints = ap length f ∙ many_taints n s k;
  as_many_flags = ap length g ∙ many_flags n s k;
  value_width = λ c l. ap (λ (ws : List Word). length (get_or ws c [])) e ∙ state_width n s k c l;
  taint_width = λ c l. ap (λ (ws : List Word). length (get_or ws c [])) f ∙ taint_width n s k c l;
}

pub frame_stored : (n : Netlist) (s : Stimulus) (k : ℕ) (values taints : List Bool) (stored stored_taints : List Word) (flags : List Bool) → IsFrame n s k values taints stored stored_taints flags → IsStored n stored stored_taints flags
frame_stored n s k values taints stored stored_taints flags h = is_stored n s k stored stored_taints flags h.state_values h.state_taints h.memory_flags

-- so it is for each cell of a list of passing cells
pub stored_at : (n : Netlist) (values taints : List Word) (flags : List Bool) (c : ℕ) → c < length n.cells → IsStored n values taints flags → IsStoredAt n values taints flags c
stored_at n values taints flags c l h = record {
  value_place = (let z : length values ≡ length n.cells = h.as_many_values in omega arith);
  taint_place = (let z : length taints ≡ length n.cells = h.as_many_taints in omega arith);
  flag_place = (let z : length flags ≡ length n.cells = h.as_many_flags in omega arith);
  value_width = h.value_width c l;
  taint_width = h.taint_width c l;
}

pub all_stored : (n : Netlist) (values taints : List Word) (flags : List Bool) (cells : List ℕ) → ArePassing n cells → IsStored n values taints flags → AreStored n values taints flags cells
all_stored n values taints flags cells p h = λ i l. stored_at n values taints flags (get_or cells i 0) (in_range n (get_or cells i 0) (p i l)) h
