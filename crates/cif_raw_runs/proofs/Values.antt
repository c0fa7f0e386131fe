-- The values of a run are the one assignment of the net numbers that has what is given in each cycle.
use Rattle.std.specs.Prelude.{ℕ, ◌≡◌, Bool, false, List, [], length, filter, get_or, Contains, refl}
use Rattle.std.proofs.Common.{sym, ap, ◌∙◌}
use Rattle.cif_defs.specs.Words.{Word, bit}
use Rattle.cif_defs.specs.Kinds.{role_of}
use Rattle.cif_defs.specs.Order.{IsInOrder}
use Rattle.cif_defs.specs.RawModule.{net_numbers}
use Rattle.cif_defs.specs.Cells.{Cell}
use Rattle.cif_defs.specs.Netlist.{Netlist, cell_at, driver_of, no_wire, role_at}
use Rattle.cif_defs.specs.Run.{driver_value, input_value, operand_words, register_bit, state, value}
use Rattle.cif_defs.specs.Accepted.{cell_of, is_input, netlist_of, place_of, wire_of}
use Rattle.cif_defs.specs.Stimulus.{Stimulus, held_by, unset}
use Rattle.cif_defs.specs.declared.kinds.Role.{Role}
use Rattle.cif_defs.specs.declared.kinds.Role.TheVariants.{Combinational, PlainRegister, ResetRegister, MemoryBlock, CarriedOver}
use Rattle.cif_defs.specs.declared.nets.Driver.TheVariants.{Input, Clock}
use Rattle.cif_defs.specs.declared.nets.Wire.{Wire}
use Rattle.cif_defs.specs.declared.raw_module.RawPort.{RawPort}
use Rattle.cif_defs.specs.declared.raw_module.RawCell.{RawCell}
use Rattle.cif_defs.specs.declared.raw_module.Raw.{Raw}
use Rattle.cif_defs.proofs.Levels.{given_at_0, value_is_given, values_settled}
use Rattle.cif_nets.proofs.Places.{At, At-map}
use Rattle.cif_raw_runs.specs.Assigned.{words_read}
use Rattle.cif_raw_runs.specs.Places.{net_value, stored_word, value_at}
use Rattle.cif_raw_runs.specs.Ranks.{IsRunnable}
use Rattle.cif_raw_runs.specs.Given.{AreValues, bit_given, port_holds, word_given}
use Rattle.cif_raw_runs.proofs.Anywhere.{word_given_anywhere}
use Rattle.cif_raw_runs.proofs.RankLaws.{ranked, ranks_low}
use Rattle.cif_raw_runs.proofs.Numbers.{cell_found, has_contained}
use Rattle.cif_nets.proofs.Passed.{passes_form}
use Rattle.cif_raw_runs.proofs.Drivers.{own_driver, shown_driver}
use Rattle.cif_raw_runs.proofs.GivenLaws.{Agrees, by_bits, by_bits_at, given_if_driven, given_is_final}
use Rattle.cif_raw_runs.proofs.OperandWords.{AreSame, cell_at_place, operands_read, role_at_place}

-- ---- what drivers give

pub stored_found : (raw : Raw) (s : Stimulus) (k c : ℕ) (cell : RawCell) → IsInOrder raw → At raw.cells c cell → get_or (state (netlist_of raw) s k) c [] ≡ stored_word raw s k cell.name
unfolding stored_word
stored_found raw s k c cell h at = ap (λ (j : ℕ). get_or (state (netlist_of raw) s k) j []) (sym (cell_found raw c cell h at))

shown_value : (n : Netlist) (stored : List Word) (input : ℕ → ℕ → Bool) (w : ℕ → Bool) (role : Role) (c p i : ℕ) → role_at n c ≡ role
    → driver_value n stored input w (shown_driver role c p i) ≡ bit (word_given role (cell_at n c) (operand_words w (cell_at n c)) (get_or stored c []) p) i
unfolding driver_value
shown_value n stored input w Combinational c p i e = refl
shown_value n stored input w PlainRegister c p i e = ap (λ (r : Role). register_bit r (cell_at n c) w (get_or stored c []) i) e
shown_value n stored input w ResetRegister c p i e = ap (λ (r : Role). register_bit r (cell_at n c) w (get_or stored c []) i) e
shown_value n stored input w MemoryBlock c p i e = refl
shown_value n stored input w CarriedOver c p i e = refl

input_holds : (raw : Raw) (s : Stimulus) (k q i : ℕ) (port : RawPort) → At (filter is_input raw.ports) q port → input_value (netlist_of raw) s k q i ≡ bit (port_holds s k port).value i
unfolding netlist_of
input_holds raw s k q i port at = ap (λ (w : Wire). bit (held_by s.lines w.name k unset).value i) (At-map (wire_of (net_numbers raw)) (filter is_input raw.ports) q port no_wire at)

clock_value : (n : Netlist) (stored : List Word) (input : ℕ → ℕ → Bool) (w : ℕ → Bool) → driver_value n stored input w Clock ≡ false
unfolding driver_value
clock_value n stored input w = refl

input_gives : (n : Netlist) (stored : List Word) (input : ℕ → ℕ → Bool) (w : ℕ → Bool) (q i : ℕ) → driver_value n stored input w (Input q i) ≡ input q i
unfolding driver_value
input_gives n stored input w q i = refl

agrees : (ns : List ℕ) (raw : Raw) (s : Stimulus) (k : ℕ) (v w : ℕ → Bool) → IsInOrder raw → AreSame raw v w
    → Agrees raw (driver_value (netlist_of raw) (state (netlist_of raw) s k) (input_value (netlist_of raw) s k) w) (λ port i. bit (port_holds s k port).value i) (bit_given ns raw s k v)
agrees ns raw s k v w h same = (let n : Netlist = netlist_of raw in let stored : List Word = state (netlist_of raw) s k in record {
  input = λ q port i at. input_gives n stored (input_value n s k) w q i ∙ input_holds raw s k q i port at;
  cell = λ c cell kind p i is.
      shown_value n stored (input_value n s k) w (role_of kind) c p i (role_at_place raw c cell kind is)
      ∙ ap (λ (us : List Word). bit (word_given (role_of kind) (cell_at n c) us (get_or stored c []) p) i) (operands_read raw c cell kind v w is same)
      ∙ ap (λ (d : Cell). bit (word_given (role_of kind) d (words_read v cell kind) (get_or stored c []) p) i) (cell_at_place raw c cell is.at_cell)
      ∙ ap (λ (word : Word). bit (word_given (role_of kind) (cell_of (net_numbers raw) cell) (words_read v cell kind) word p) i) (stored_found raw s k c cell h is.at_cell)
      ∙ ap (λ (word : Word). bit word i) (word_given_anywhere (net_numbers raw) ns cell (role_of kind) (words_read v cell kind) (stored_word raw s k cell.name) p);
  clock = clock_value n stored (input_value n s k) w;
})

-- ---- the laws

-- the value of a net number is that of its net bit
pub net_value_is : (raw : Raw) (s : Stimulus) (k x : ℕ) → net_value raw s k x ≡ value (netlist_of raw) s k (place_of (net_numbers raw) x)
unfolding value_at
net_value_is raw s k x = refl

pub values_given : (raw : Raw) (r : ℕ → ℕ) (ns : List ℕ) (s : Stimulus) (k : ℕ) → IsRunnable raw r → AreValues ns raw s k (net_value raw s k)
values_given raw r ns s k h =
    let n : Netlist = netlist_of raw in
    let stored : List Word = state (netlist_of raw) s k in
    let input : ℕ → ℕ → Bool = input_value (netlist_of raw) s k in
    given_if_driven raw (λ x. false) (driver_value n stored input (value n s k)) (λ port i. bit (port_holds s k port).value i) (bit_given ns raw s k (net_value raw s k)) (net_value raw s k) (passes_form raw h.form)
    (agrees ns raw s k (net_value raw s k) (value n s k) h.in_order (λ x number. net_value_is raw s k x))
    (λ x number. net_value_is raw s k x ∙ value_is_given n stored input r (ranked n r h.wired h.ranks) (ranks_low n r h.wired h.ranks) (place_of (net_numbers raw) x)
    ∙ ap (driver_value n stored input (value n s k)) (own_driver raw x number))

pub values_unique : (raw : Raw) (r : ℕ → ℕ) (ns : List ℕ) (s : Stimulus) (k : ℕ) (v : ℕ → Bool) → IsRunnable raw r → AreValues ns raw s k v → (x : ℕ) → Contains (net_numbers raw) x → v x ≡ net_value raw s k x
values_unique raw r ns s k v h g x number =
    let n : Netlist = netlist_of raw in
    let stored : List Word = state (netlist_of raw) s k in
    let input : ℕ → ℕ → Bool = input_value (netlist_of raw) s k in
    let low = ranks_low n r h.wired h.ranks in
    given_is_final raw r (λ b. false) (driver_value n stored input) (value n s k) (λ port i. bit (port_holds s k port).value i) (bit_given ns raw s k v) v (length n.cells) x h.form
    (values_settled n stored input r (ranked n r h.wired h.ranks) low)
    (λ b y z l. sym (given_at_0 n stored input r y (driver_of n b) l) ∙ given_at_0 n stored input r z (driver_of n b) l) low
    (agrees ns raw s k v (by_bits raw v) h.in_order (by_bits_at raw v)) g (has_contained (net_numbers raw) x number)
    ∙ sym (net_value_is raw s k x)
