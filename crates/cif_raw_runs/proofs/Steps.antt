-- What the cells of a raw module store, by their names: at cycle 0, and from a cycle to the next.
use Rattle.std.specs.Prelude.{ℕ, suc, ◌<◌, ◌≡◌, Bool, false, List, [], length, map, get_or, Contains, Some, refl}
use Rattle.std.specs.List.{range_with_len}
use Rattle.std.proofs.Common.{arith, sym, ap, ◌∙◌}
use Rattle.std.proofs.lemmas.List.{length-map}
use Rattle.std.proofs.lemmas.List.FromFn.{get_or-map-range_with_len}
use Rattle.cif_defs.specs.Words.{Word}
use Rattle.cif_defs.specs.Kinds.{role_of}
use Rattle.cif_defs.specs.Order.{IsInOrder}
use Rattle.cif_defs.specs.Table.{kind_of}
use Rattle.cif_defs.specs.RawModule.{net_numbers}
use Rattle.cif_defs.specs.Cells.{Cell, state_bits}
use Rattle.cif_defs.specs.Netlist.{Netlist, cell_at, role_at}
use Rattle.cif_defs.specs.Run.{operand_words, state, stored_by, value}
use Rattle.cif_defs.specs.TaintRun.{TaintState, flag_by, operand_taints, taint, taint_state, taint_stored_by}
use Rattle.cif_defs.specs.Accepted.{cell_of, initial_of, netlist_of}
use Rattle.cif_defs.specs.Stimulus.{Stimulus, TaintedWord, sized, start_at, started_by}
use Rattle.cif_defs.specs.declared.kinds.Kind.{Kind}
use Rattle.cif_defs.specs.declared.kinds.Role.{Role}
use Rattle.cif_defs.specs.declared.kinds.Role.TheVariants.{Combinational, PlainRegister, ResetRegister, MemoryBlock, CarriedOver}
use Rattle.cif_defs.specs.declared.raw_module.RawCell.{RawCell}
use Rattle.cif_defs.specs.declared.raw_module.Raw.{Raw}
use Rattle.cif_nets.proofs.Places.{At, At-below, At-map}
use Rattle.cif_nets.proofs.Driven.{CellIs}
use Rattle.cif_raw_runs.specs.Assigned.{words_read}
use Rattle.cif_raw_runs.specs.Places.{net_taint, net_value, stored_word}
use Rattle.cif_raw_runs.specs.Given.{Advances, Starts, cell_starts, flag_next, taint_next, taints_read, word_next}
use Rattle.cif_raw_runs.proofs.Anywhere.{flag_next_anywhere, starts_anywhere, taint_next_anywhere, word_next_anywhere}
use Rattle.cif_raw_runs.proofs.Numbers.{at_contained}
use Rattle.cif_raw_runs.proofs.OperandWords.{AreSame, cell_at_place, operand_taints_read, operands_read, role_at_place}
use Rattle.cif_raw_runs.proofs.Values.{stored_found}
use Rattle.cif_raw_runs.proofs.Taints.{flag_found, same_taints, same_values, stored_taint_found}

-- ---- lists with a place for each cell

at_cell : {X : Type 0} (f : ℕ → X) (raw : Raw) (c : ℕ) (cell : RawCell) (d : X) → At raw.cells c cell → get_or (map f (range_with_len 0 (length (netlist_of raw).cells))) c d ≡ f c
unfolding netlist_of
at_cell f raw c cell d at =
    let inside : c < length raw.cells = At-below raw.cells c cell at in
    get_or-map-range_with_len f 0 (length (netlist_of raw).cells) c c d (omega (arith, length-map raw.cells (cell_of (net_numbers raw)))) (omega arith)

-- ---- cycle 0

initial_at_place : (raw : Raw) (c : ℕ) (cell : RawCell) → At raw.cells c cell → get_or (netlist_of raw).initial c [] ≡ initial_of (net_numbers raw) raw.names cell
unfolding netlist_of
initial_at_place raw c cell at = At-map (initial_of (net_numbers raw) raw.names) raw.cells c cell [] at

start_found : (ns : List ℕ) (raw : Raw) (s : Stimulus) (c : ℕ) (cell : RawCell) → At raw.cells c cell → start_at (netlist_of raw) s c ≡ cell_starts ns raw s cell
start_found ns raw s c cell at =
    ap (λ (d : Cell). sized (state_bits d) (started_by s.lines d (record { value = get_or (netlist_of raw).initial c []; taint = [] }))) (cell_at_place raw c cell at)
    ∙ ap (λ (w : Word). sized (state_bits (cell_of (net_numbers raw) cell)) (started_by s.lines (cell_of (net_numbers raw) cell) (record { value = w; taint = [] }))) (initial_at_place raw c cell at)
    ∙ starts_anywhere (net_numbers raw) ns raw s cell

pub starts : (raw : Raw) (ns : List ℕ) (s : Stimulus) (cell : RawCell) → IsInOrder raw → Contains raw.cells cell → Starts ns raw s cell
unfolding state taint_state
starts raw ns s cell h cell_in = (let place = at_contained raw.cells cell cell_in in let c : ℕ = place.0 in record {
  word = sym (stored_found raw s 0 c cell h place.1) ∙ at_cell (λ d. (start_at (netlist_of raw) s d).value) raw c cell [] place.1 ∙ ap (λ (w : TaintedWord). w.value) (start_found ns raw s c cell place.1);
  taint = sym (stored_taint_found raw s 0 c cell h place.1) ∙ at_cell (λ d. (start_at (netlist_of raw) s d).taint) raw c cell [] place.1 ∙ ap (λ (w : TaintedWord). w.taint) (start_found ns raw s c cell place.1);
  flag = sym (flag_found raw s 0 c cell h place.1) ∙ at_cell (λ d. false) raw c cell false place.1;
})

-- ---- the next cycle

word_by : (role : Role) (c : Cell) (w : ℕ → Bool) (stored : Word) → stored_by role c w stored ≡ word_next role c (operand_words w c) stored
word_by Combinational c w stored = refl
word_by PlainRegister c w stored = refl
word_by ResetRegister c w stored = refl
word_by MemoryBlock c w stored = refl
word_by CarriedOver c w stored = refl

taint_by : (role : Role) (c : Cell) (w u : ℕ → Bool) (stored stored_taint : Word) → taint_stored_by role c w u stored stored_taint ≡ taint_next role c (operand_words w c) (operand_taints u c) stored stored_taint
taint_by Combinational c w u stored stored_taint = refl
taint_by PlainRegister c w u stored stored_taint = refl
taint_by ResetRegister c w u stored stored_taint = refl
taint_by MemoryBlock c w u stored stored_taint = refl
taint_by CarriedOver c w u stored stored_taint = refl

flag_by_role : (role : Role) (c : Cell) (w u : ℕ → Bool) (flag : Bool) → flag_by role c w u flag ≡ flag_next role c (operand_words w c) (operand_taints u c) flag
flag_by_role Combinational c w u flag = refl
flag_by_role PlainRegister c w u flag = refl
flag_by_role ResetRegister c w u flag = refl
flag_by_role MemoryBlock c w u flag = refl
flag_by_role CarriedOver c w u flag = refl

word_goes : (ns : List ℕ) (raw : Raw) (c : ℕ) (cell : RawCell) (k : Kind) (v w : ℕ → Bool) (stored : Word) → CellIs raw c cell k → AreSame raw v w
    → stored_by (role_at (netlist_of raw) c) (cell_at (netlist_of raw) c) w stored ≡ word_next (role_of k) (cell_of ns cell) (words_read v cell k) stored
word_goes ns raw c cell k v w stored is same = (let d : Cell = cell_at (netlist_of raw) c in
    ap (λ (role : Role). stored_by role d w stored) (role_at_place raw c cell k is)
    ∙ word_by (role_of k) d w stored
    ∙ ap (λ (us : List Word). word_next (role_of k) d us stored) (operands_read raw c cell k v w is same)
    ∙ ap (λ (e : Cell). word_next (role_of k) e (words_read v cell k) stored) (cell_at_place raw c cell is.at_cell)
    ∙ word_next_anywhere (net_numbers raw) ns cell (role_of k) (words_read v cell k) stored)

taint_goes : (ns : List ℕ) (raw : Raw) (c : ℕ) (cell : RawCell) (k : Kind) (v w t u : ℕ → Bool) (stored stored_taint : Word) → CellIs raw c cell k → AreSame raw v w → AreSame raw t u
    → taint_stored_by (role_at (netlist_of raw) c) (cell_at (netlist_of raw) c) w u stored stored_taint ≡ taint_next (role_of k) (cell_of ns cell) (words_read v cell k) (taints_read t cell k) stored stored_taint
taint_goes ns raw c cell k v w t u stored stored_taint is same same_t = (let d : Cell = cell_at (netlist_of raw) c in
    ap (λ (role : Role). taint_stored_by role d w u stored stored_taint) (role_at_place raw c cell k is)
    ∙ taint_by (role_of k) d w u stored stored_taint
    ∙ ap (λ (us : List Word). taint_next (role_of k) d us (operand_taints u d) stored stored_taint) (operands_read raw c cell k v w is same)
    ∙ ap (λ (us : List Word). taint_next (role_of k) d (words_read v cell k) us stored stored_taint) (operand_taints_read raw c cell k t u is same_t)
    ∙ ap (λ (e : Cell). taint_next (role_of k) e (words_read v cell k) (taints_read t cell k) stored stored_taint) (cell_at_place raw c cell is.at_cell)
    ∙ taint_next_anywhere (net_numbers raw) ns cell (role_of k) (words_read v cell k) (taints_read t cell k) stored stored_taint)

flag_goes : (ns : List ℕ) (raw : Raw) (c : ℕ) (cell : RawCell) (k : Kind) (v w t u : ℕ → Bool) (flag : Bool) → CellIs raw c cell k → AreSame raw v w → AreSame raw t u
    → flag_by (role_at (netlist_of raw) c) (cell_at (netlist_of raw) c) w u flag ≡ flag_next (role_of k) (cell_of ns cell) (words_read v cell k) (taints_read t cell k) flag
flag_goes ns raw c cell k v w t u flag is same same_t = (let d : Cell = cell_at (netlist_of raw) c in
    ap (λ (role : Role). flag_by role d w u flag) (role_at_place raw c cell k is)
    ∙ flag_by_role (role_of k) d w u flag
    ∙ ap (λ (us : List Word). flag_next (role_of k) d us (operand_taints u d) flag) (operands_read raw c cell k v w is same)
    ∙ ap (λ (us : List Word). flag_next (role_of k) d (words_read v cell k) us flag) (operand_taints_read raw c cell k t u is same_t)
    ∙ ap (λ (e : Cell). flag_next (role_of k) e (words_read v cell k) (taints_read t cell k) flag) (cell_at_place raw c cell is.at_cell)
    ∙ flag_next_anywhere (net_numbers raw) ns cell (role_of k) (words_read v cell k) (taints_read t cell k) flag)

pub advances : (raw : Raw) (ns : List ℕ) (s : Stimulus) (k : ℕ) (v t : ℕ → Bool) (cell : RawCell) (kind : Kind) → IsInOrder raw → Contains raw.cells cell → kind_of cell.kind ≡ Some kind
    → ((x : ℕ) → Contains (net_numbers raw) x → v x ≡ net_value raw s k x) → ((x : ℕ) → Contains (net_numbers raw) x → t x ≡ net_taint raw s k x) → Advances ns raw s k v t cell kind
unfolding state taint_state
advances raw ns s k v t cell kind h cell_in is_kind values taints = (let place = at_contained raw.cells cell cell_in in
    let c : ℕ = place.0 in
    let n : Netlist = netlist_of raw in
    let stored : List Word = state (netlist_of raw) s k in
    let tainted : TaintState = taint_state (netlist_of raw) s k in
    let is : CellIs raw place.0 cell kind = record { at_cell = place.1; is_kind = is_kind } in
    let same = same_values raw s k v values in
    let same_t = same_taints raw s k t taints in record {
      word = sym (stored_found raw s (suc k) c cell h place.1)
          ∙ at_cell (λ d. stored_by (role_at n d) (cell_at n d) (value n s k) (get_or stored d [])) raw c cell [] place.1
          ∙ word_goes ns raw c cell kind v (value n s k) (get_or stored c []) is same
          ∙ ap (λ (w : Word). word_next (role_of kind) (cell_of ns cell) (words_read v cell kind) w) (stored_found raw s k c cell h place.1);
      taint = sym (stored_taint_found raw s (suc k) c cell h place.1)
          ∙ at_cell (λ d. taint_stored_by (role_at n d) (cell_at n d) (value n s k) (taint n s k) (get_or stored d []) (get_or tainted.stored d [])) raw c cell [] place.1
          ∙ taint_goes ns raw c cell kind v (value n s k) t (taint n s k) (get_or stored c []) (get_or tainted.stored c []) is same same_t
          ∙ ap (λ (w : Word). taint_next (role_of kind) (cell_of ns cell) (words_read v cell kind) (taints_read t cell kind) w (get_or tainted.stored c [])) (stored_found raw s k c cell h place.1)
          ∙ ap (λ (w : Word). taint_next (role_of kind) (cell_of ns cell) (words_read v cell kind) (taints_read t cell kind) (stored_word raw s k cell.name) w) (stored_taint_found raw s k c cell h place.1);
      flag = sym (flag_found raw s (suc k) c cell h place.1)
          ∙ at_cell (λ d. flag_by (role_at n d) (cell_at n d) (value n s k) (taint n s k) (get_or tainted.flags d false)) raw c cell false place.1
          ∙ flag_goes ns raw c cell kind v (value n s k) t (taint n s k) (get_or tainted.flags c false) is same same_t
          ∙ ap (λ b. flag_next (role_of kind) (cell_of ns cell) (words_read v cell kind) (taints_read t cell kind) b) (flag_found raw s k c cell h place.1);
    })
