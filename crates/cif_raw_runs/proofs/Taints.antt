-- The taints of a run are the one assignment of the net numbers that has the taint of what is given in each cycle.
use Rattle.std.specs.Prelude.{ℕ, ◌≡◌, Bool, false, List, [], length, filter, get_or, Contains, refl}
use Rattle.std.proofs.Common.{sym, ap, ◌∙◌, cond}
use Rattle.cif_defs.specs.Words.{Word, bit}
use Rattle.cif_defs.specs.Kinds.{role_of}
use Rattle.cif_defs.specs.Order.{IsInOrder}
use Rattle.cif_defs.specs.RawModule.{net_numbers}
use Rattle.cif_defs.specs.Cells.{Cell}
use Rattle.cif_defs.specs.Netlist.{Netlist, cell_at, driver_of, no_wire, role_at}
use Rattle.cif_defs.specs.Run.{operand_words, state, value}
use Rattle.cif_defs.specs.TaintRun.{TaintState, driver_taint, input_taint, operand_taints, register_taint, taint, taint_state}
use Rattle.cif_defs.specs.Accepted.{cell_of, is_input, netlist_of, place_of, wire_of}
use Rattle.cif_defs.specs.Stimulus.{Stimulus, held_by, is_released, unset}
use Rattle.cif_defs.specs.declared.kinds.Role.{Role}
use Rattle.cif_defs.specs.declared.kinds.Role.TheVariants.{Combinational, PlainRegister, ResetRegister, MemoryBlock, CarriedOver}
use Rattle.cif_defs.specs.declared.nets.Driver.{Driver}
use Rattle.cif_defs.specs.declared.nets.Driver.TheVariants.{Input, Clock}
use Rattle.cif_defs.specs.declared.nets.Wire.{Wire}
use Rattle.cif_defs.specs.declared.raw_module.RawPort.{RawPort}
use Rattle.cif_defs.specs.declared.raw_module.RawCell.{RawCell}
use Rattle.cif_defs.specs.declared.raw_module.Raw.{Raw}
use Rattle.cif_defs.proofs.TaintSettles.{taint_at_0, taint_is_given, taints_settled}
use Rattle.cif_nets.proofs.Places.{At, At-map}
use Rattle.cif_raw_runs.specs.Assigned.{words_read}
use Rattle.cif_raw_runs.specs.Places.{flag_at, is_released_number, net_taint, net_value, stored_taint_word, stored_word, taint_at}
use Rattle.cif_raw_runs.specs.Ranks.{IsRunnable}
use Rattle.cif_raw_runs.specs.Given.{AreTaints, bit_taint_given, port_holds, taint_given, taints_read}
use Rattle.cif_raw_runs.proofs.Anywhere.{taint_given_anywhere}
use Rattle.cif_raw_runs.proofs.RankLaws.{ranked, ranks_low}
use Rattle.cif_raw_runs.proofs.Numbers.{cell_found, contained_has, has_contained}
use Rattle.cif_nets.proofs.Passed.{passes_form}
use Rattle.cif_raw_runs.proofs.Drivers.{own_driver, shown_driver}
use Rattle.cif_raw_runs.proofs.GivenLaws.{Agrees, by_bits, by_bits_at, given_if_driven, given_is_final}
use Rattle.cif_raw_runs.proofs.OperandWords.{AreSame, cell_at_place, operand_taints_read, operands_read, role_at_place}
use Rattle.cif_raw_runs.proofs.Values.{net_value_is, stored_found}

-- ---- what drivers give

pub stored_taint_found : (raw : Raw) (s : Stimulus) (k c : ℕ) (cell : RawCell) → IsInOrder raw → At raw.cells c cell → get_or (taint_state (netlist_of raw) s k).stored c [] ≡ stored_taint_word raw s k cell.name
unfolding stored_taint_word
stored_taint_found raw s k c cell h at = ap (λ (j : ℕ). get_or (taint_state (netlist_of raw) s k).stored j []) (sym (cell_found raw c cell h at))

pub flag_found : (raw : Raw) (s : Stimulus) (k c : ℕ) (cell : RawCell) → IsInOrder raw → At raw.cells c cell → get_or (taint_state (netlist_of raw) s k).flags c false ≡ flag_at raw s k cell.name
unfolding flag_at
flag_found raw s k c cell h at = ap (λ (j : ℕ). get_or (taint_state (netlist_of raw) s k).flags j false) (sym (cell_found raw c cell h at))

-- the taint that is given under what a cell stores
abbrev taint_under : Role → Netlist → ℕ → List Word → List Word → Word → Word → Bool → ℕ → ℕ → Bool
taint_under role n c vs ts word taint flag p i = taint_given role (cell_at n c) vs ts word taint flag p i

shown_taint : (n : Netlist) (stored : List Word) (w : ℕ → Bool) (t : TaintState) (input : ℕ → ℕ → Bool) (u : ℕ → Bool) (role : Role) (c p i : ℕ) → role_at n c ≡ role
    → driver_taint n stored w t input u (shown_driver role c p i)
    ≡ taint_under role n c (operand_words w (cell_at n c)) (operand_taints u (cell_at n c)) (get_or stored c []) (get_or t.stored c []) (get_or t.flags c false) p i
unfolding driver_taint
shown_taint n stored w t input u Combinational c p i e = refl
shown_taint n stored w t input u PlainRegister c p i e = ap (λ (r : Role). register_taint r (cell_at n c) w u (get_or stored c []) (get_or t.stored c []) i) e
shown_taint n stored w t input u ResetRegister c p i e = ap (λ (r : Role). register_taint r (cell_at n c) w u (get_or stored c []) (get_or t.stored c []) i) e
shown_taint n stored w t input u MemoryBlock c p i e = refl
shown_taint n stored w t input u CarriedOver c p i e = refl

input_holds : (raw : Raw) (s : Stimulus) (k q i : ℕ) (port : RawPort) → At (filter is_input raw.ports) q port → input_taint (netlist_of raw) s k q i ≡ bit (port_holds s k port).taint i
unfolding netlist_of
input_holds raw s k q i port at = ap (λ (w : Wire). bit (held_by s.lines w.name k unset).taint i) (At-map (wire_of (net_numbers raw)) (filter is_input raw.ports) q port no_wire at)

clock_taint : (n : Netlist) (stored : List Word) (w : ℕ → Bool) (t : TaintState) (input : ℕ → ℕ → Bool) (u : ℕ → Bool) → driver_taint n stored w t input u Clock ≡ false
unfolding driver_taint
clock_taint n stored w t input u = refl

input_gives : (n : Netlist) (stored : List Word) (w : ℕ → Bool) (t : TaintState) (input : ℕ → ℕ → Bool) (u : ℕ → Bool) (q i : ℕ) → driver_taint n stored w t input u (Input q i) ≡ input q i
unfolding driver_taint
input_gives n stored w t input u q i = refl

agrees : (ns : List ℕ) (raw : Raw) (s : Stimulus) (k : ℕ) (v w t u : ℕ → Bool) → IsInOrder raw → AreSame raw v w → AreSame raw t u
    → Agrees raw (driver_taint (netlist_of raw) (state (netlist_of raw) s k) w (taint_state (netlist_of raw) s k) (input_taint (netlist_of raw) s k) u) (λ port i. bit (port_holds s k port).taint i) (bit_taint_given ns raw s k v t)
agrees ns raw s k v w t u h same same_t = (let n : Netlist = netlist_of raw in
    let stored : List Word = state (netlist_of raw) s k in
    let tainted : TaintState = taint_state (netlist_of raw) s k in record {
      input = λ q port i at. input_gives n stored w tainted (input_taint n s k) u q i ∙ input_holds raw s k q i port at;
      cell = λ c cell kind p i is.
          shown_taint n stored w tainted (input_taint n s k) u (role_of kind) c p i (role_at_place raw c cell kind is)
          ∙ ap (λ (us : List Word). taint_under (role_of kind) n c us (operand_taints u (cell_at n c)) (get_or stored c []) (get_or tainted.stored c []) (get_or tainted.flags c false) p i) (operands_read raw c cell kind v w is same)
          ∙ ap (λ (us : List Word). taint_under (role_of kind) n c (words_read v cell kind) us (get_or stored c []) (get_or tainted.stored c []) (get_or tainted.flags c false) p i) (operand_taints_read raw c cell kind t u is same_t)
          ∙ ap (λ (d : Cell). taint_given (role_of kind) d (words_read v cell kind) (taints_read t cell kind) (get_or stored c []) (get_or tainted.stored c []) (get_or tainted.flags c false) p i) (cell_at_place raw c cell is.at_cell)
          ∙ ap (λ (x : Word). taint_given (role_of kind) (cell_of (net_numbers raw) cell) (words_read v cell kind) (taints_read t cell kind) x (get_or tainted.stored c []) (get_or tainted.flags c false) p i) (stored_found raw s k c cell h is.at_cell)
          ∙ ap (λ (x : Word). taint_given (role_of kind) (cell_of (net_numbers raw) cell) (words_read v cell kind) (taints_read t cell kind) (stored_word raw s k cell.name) x (get_or tainted.flags c false) p i) (stored_taint_found raw s k c cell h is.at_cell)
          ∙ ap (λ (x : Bool). taint_given (role_of kind) (cell_of (net_numbers raw) cell) (words_read v cell kind) (taints_read t cell kind) (stored_word raw s k cell.name) (stored_taint_word raw s k cell.name) x p i) (flag_found raw s k c cell h is.at_cell)
          ∙ taint_given_anywhere (net_numbers raw) ns cell (role_of kind) (words_read v cell kind) (taints_read t cell kind) (stored_word raw s k cell.name) (stored_taint_word raw s k cell.name) (flag_at raw s k cell.name) p i;
      clock = clock_taint n stored w tainted (input_taint n s k) u;
    })

-- ---- the laws

-- the taint of a net number is that of its net bit
pub net_taint_is : (raw : Raw) (s : Stimulus) (k x : ℕ) → net_taint raw s k x ≡ taint (netlist_of raw) s k (place_of (net_numbers raw) x)
unfolding taint_at
net_taint_is raw s k x = refl

-- what has the values of a run at the net numbers has those of its net bits
pub same_values : (raw : Raw) (s : Stimulus) (k : ℕ) (v : ℕ → Bool) → ((x : ℕ) → Contains (net_numbers raw) x → v x ≡ net_value raw s k x) → AreSame raw v (value (netlist_of raw) s k)
same_values raw s k v h = λ x number. h x (contained_has (net_numbers raw) x number) ∙ net_value_is raw s k x

pub same_taints : (raw : Raw) (s : Stimulus) (k : ℕ) (t : ℕ → Bool) → ((x : ℕ) → Contains (net_numbers raw) x → t x ≡ net_taint raw s k x) → AreSame raw t (taint (netlist_of raw) s k)
same_taints raw s k t h = λ x number. h x (contained_has (net_numbers raw) x number) ∙ net_taint_is raw s k x

pub taints_given : (raw : Raw) (r : ℕ → ℕ) (ns : List ℕ) (s : Stimulus) (k : ℕ) (v : ℕ → Bool) → IsRunnable raw r → ((x : ℕ) → Contains (net_numbers raw) x → v x ≡ net_value raw s k x) → AreTaints ns raw s k v (net_taint raw s k)
taints_given raw r ns s k v h same =
    let n : Netlist = netlist_of raw in
    let stored : List Word = state (netlist_of raw) s k in
    let tainted : TaintState = taint_state (netlist_of raw) s k in
    let input : ℕ → ℕ → Bool = input_taint (netlist_of raw) s k in
    given_if_driven raw (is_released_number raw s) (driver_taint n stored (value n s k) tainted input (taint n s k)) (λ port i. bit (port_holds s k port).taint i) (bit_taint_given ns raw s k v (net_taint raw s k)) (net_taint raw s k) (passes_form raw h.form)
    (agrees ns raw s k v (value n s k) (net_taint raw s k) (taint n s k) h.in_order (same_values raw s k v same) (λ x number. net_taint_is raw s k x))
    (λ x number. net_taint_is raw s k x ∙ taint_is_given n stored (value n s k) tainted input (is_released s.lines) r (ranked n r h.wired h.ranks) (ranks_low n r h.wired h.ranks) (place_of (net_numbers raw) x)
    ∙ ap (λ (d : Driver). cond (is_released_number raw s x) false (driver_taint n stored (value n s k) tainted input (taint n s k) d)) (own_driver raw x number))

pub taints_unique : (raw : Raw) (r : ℕ → ℕ) (ns : List ℕ) (s : Stimulus) (k : ℕ) (v t : ℕ → Bool) → IsRunnable raw r → ((x : ℕ) → Contains (net_numbers raw) x → v x ≡ net_value raw s k x) → AreTaints ns raw s k v t
    → (x : ℕ) → Contains (net_numbers raw) x → t x ≡ net_taint raw s k x
taints_unique raw r ns s k v t h same g x number =
    let n : Netlist = netlist_of raw in
    let stored : List Word = state (netlist_of raw) s k in
    let tainted : TaintState = taint_state (netlist_of raw) s k in
    let input : ℕ → ℕ → Bool = input_taint (netlist_of raw) s k in
    let low = ranks_low n r h.wired h.ranks in
    given_is_final raw r (is_released s.lines) (driver_taint n stored (value n s k) tainted input) (taint n s k) (λ port i. bit (port_holds s k port).taint i) (bit_taint_given ns raw s k v t) t (length n.cells) x h.form
    (taints_settled n stored (value n s k) tainted input (is_released s.lines) r (ranked n r h.wired h.ranks) low)
    (λ b y z l. sym (taint_at_0 n stored (value n s k) tainted input r y (driver_of n b) l) ∙ taint_at_0 n stored (value n s k) tainted input r z (driver_of n b) l) low
    (agrees ns raw s k v (value n s k) t (by_bits raw t) h.in_order (same_values raw s k v same) (by_bits_at raw t)) g (has_contained (net_numbers raw) x number)
    ∙ sym (net_taint_is raw s k x)
