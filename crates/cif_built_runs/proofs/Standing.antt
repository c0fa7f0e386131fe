-- What stands in a module that is built: the other module's ports and cells, and the new ones.
use Rattle.std.specs.Prelude.{ℕ, ◌≡◌, true, false, List, ◌++◌, map, get_or, Contains, Option, Some, None, option_to_list, option_map, refl}
use Rattle.std.specs.List.{flat_map}
use Rattle.std.proofs.Common.{sym, ap, ◌∙◌, inl, inr}
use Rattle.std.proofs.lemmas.Bool.{MatchBool-at_false, MatchBool-at_true}
use Rattle.std.proofs.lemmas.List.Sorted.{Contains-permutation}
use Rattle.cif_defs.specs.Kinds.{is_memory, is_register, role_of}
use Rattle.cif_defs.specs.Table.{kind_of}
use Rattle.cif_defs.specs.RawModule.{clock_bits, net_numbers, nets_in, numbers_held, operand_bits, output_bits}
use Rattle.cif_defs.specs.declared.kinds.Kind.{Kind}
use Rattle.cif_defs.specs.declared.kinds.Kind.TheVariants.{Mem}
use Rattle.cif_defs.specs.declared.kinds.Role.{Role}
use Rattle.cif_defs.specs.declared.kinds.Role.TheVariants.{Combinational}
use Rattle.cif_defs.specs.declared.raw_module.RawPort.{RawPort}
use Rattle.cif_defs.specs.declared.raw_module.RawCell.{RawCell}
use Rattle.cif_defs.specs.declared.raw_module.Raw.{Raw}
use Rattle.cif_nets.proofs.Places.{At-has, Has, Has-append, Has-flat_map, Has-left, Has-right}
use Rattle.cif_nets.proofs.Rising.{Has-from_rising, Has-rising}
use Rattle.cif_raw_runs.proofs.Numbers.{contained_has, has_contained}
use Rattle.cif_augment.specs.Names.{data_ports, has_flag, has_role, has_role_by, is_combinational, is_reset_register}
use Rattle.cif_augment.specs.Additions.{IsCopy, IsFlag, IsFurtherCell, IsTaintMemory, IsTaintRegister, block_cells}
use Rattle.cif_built.specs.Makings.{IsStateCell, Making, block_of, state_cells}
use Rattle.cif_built.specs.Built.{IsBuilt, IsMaking, IsShadowPort}
use Rattle.cif_built_runs.proofs.Lists.{Has-map, Has-option, each_has, from_flat_map, partner, some_and}

-- ---- what the other module has

pub own_port : {n a : Raw} {released : List ℕ} (p : RawPort) → IsBuilt n released a → Contains n.ports p → Contains a.ports p
own_port {n = n} {a = a} p h c =
    Contains-permutation (n.ports ++ h.ports) a.ports p h.has_ports (contained_has (n.ports ++ h.ports) p (Has-left n.ports h.ports p (has_contained n.ports p c)))

abbrev pub new_cells : List Making → List RawCell
new_cells makings = flat_map block_cells (map block_of makings)

pub own_cell : {n a : Raw} {released : List ℕ} (c : RawCell) → IsBuilt n released a → Contains n.cells c → Contains a.cells c
own_cell {n = n} {a = a} c h c_in =
    Contains-permutation (n.cells ++ new_cells h.makings) a.cells c h.has_cells (contained_has (n.cells ++ new_cells h.makings) c (Has-left n.cells (new_cells h.makings) c (has_contained n.cells c c_in)))

-- a net number of the other module is one of this
abbrev cell_numbers : RawCell → List ℕ
cell_numbers c = nets_in (operand_bits c) ++ nets_in (output_bits c) ++ nets_in (clock_bits c)

held_by_both : {n a : Raw} {released : List ℕ} (x : ℕ) → IsBuilt n released a → Has (numbers_held n) x → Has (numbers_held a) x
held_by_both {n = n} {a = a} x h k =
    let ports : Raw → List ℕ = λ raw. flat_map (λ (p : RawPort). nets_in p.bits) raw.ports in
    let cells : Raw → List ℕ = λ raw. flat_map cell_numbers raw.cells in
    elim (Has-append (ports n) (cells n) x k) [
      | inl b ↦ (let p = from_flat_map (λ (p : RawPort). nets_in p.bits) n.ports x b in
          let at = At-has a.ports p.0 (has_contained a.ports p.0 (own_port p.0 h (contained_has n.ports p.0 p.1))) in
          Has-left (ports a) (cells a) x (Has-flat_map (λ (p : RawPort). nets_in p.bits) a.ports at.0 p.0 x at.1 p.2))
      | inr b ↦ (let c = from_flat_map cell_numbers n.cells x b in
          let at = At-has a.cells c.0 (has_contained a.cells c.0 (own_cell c.0 h (contained_has n.cells c.0 c.1))) in
          Has-right (ports a) (cells a) x (Has-flat_map cell_numbers a.cells at.0 c.0 x at.1 c.2))
    ]

pub own_number : {n a : Raw} {released : List ℕ} (x : ℕ) → IsBuilt n released a → Contains (net_numbers n) x → Contains (net_numbers a) x
unfolding net_numbers
own_number {n = n} {a = a} x h c =
    contained_has (net_numbers a) x (Has-rising (numbers_held a) x (held_by_both x h (Has-from_rising (numbers_held n) x (has_contained (net_numbers n) x c))))

-- ---- new ports

-- the port of the taint of a port
pub record TaintPort (n a : Raw) (released : List ℕ) (h : IsBuilt n released a) (p : RawPort) : Type 0 where
  pub port : RawPort
  pub is_new : Has h.ports port
  pub shown : Contains a.ports port
  pub shadow : IsShadowPort n released h.shadow p port

pub taint_port : {n a : Raw} {released : List ℕ} (p : RawPort) (h : IsBuilt n released a) → Contains (data_ports n) p → TaintPort n a released h p
taint_port {n = n} {a = a} {released = released} p h c =
    let found = partner (IsShadowPort n released h.shadow) (data_ports n) h.ports p h.are_ports (has_contained (data_ports n) p c) in
    record {
      port = found.0;
      is_new = found.1;
      shown = Contains-permutation (n.ports ++ h.ports) a.ports found.0 h.has_ports (contained_has (n.ports ++ h.ports) found.0 (Has-right n.ports h.ports found.0 found.1));
      shadow = found.2;
    }

-- ---- new cells

-- the new cells for a cell
pub record Made (n a : Raw) (released : List ℕ) (h : IsBuilt n released a) (c : RawCell) : Type 0 where
  pub making : Making
  pub here : Has h.makings making
  pub is : IsMaking n released h.shadow c making

pub made : {n a : Raw} {released : List ℕ} (c : RawCell) (h : IsBuilt n released a) → Contains n.cells c → Made n a released h c
made {n = n} {released = released} c h c_in =
    let found = partner (IsMaking n released h.shadow) n.cells h.makings c h.are_makings (has_contained n.cells c c_in) in
    record { making = found.0; here = found.1; is = found.2 }

pub new_cell : {n a : Raw} {released : List ℕ} (h : IsBuilt n released a) (m : Making) (d : RawCell) → Has h.makings m → Has (block_cells (block_of m)) d → Contains a.cells d
new_cell {n = n} {a = a} h m d m_in k =
    let at = At-has (map block_of h.makings) (block_of m) (Has-map block_of h.makings m m_in) in
    Contains-permutation (n.cells ++ new_cells h.makings) a.cells d h.has_cells
    (contained_has (n.cells ++ new_cells h.makings) d (Has-right n.cells (new_cells h.makings) d (Has-flat_map block_cells (map block_of h.makings) at.0 (block_of m) d at.1 k)))

-- a cell of the module that stores for another
pub record Stores (a : Raw) (d : RawCell) : Type 0 where
  pub in_module : Contains a.cells d
  pub state : IsStateCell d

state_cell : {n a : Raw} {released : List ℕ} (c : RawCell) (h : IsBuilt n released a) (m : Making) (d : RawCell) → IsMaking n released h.shadow c m → Has h.makings m → Has (state_cells m) d → Stores a d
state_cell c h m d is m_in k = record {
  in_module = new_cell h m d m_in (Has-left (state_cells m) (m.showing ++ m.storing) d k);
  state = each_has IsStateCell (state_cells m) d is.state k;
}

taint_among : (m : Making) (d : RawCell) → m.taint ≡ Some d → Has (state_cells m) d
taint_among m d e = Has-left (option_to_list m.taint ++ option_to_list m.flag) (option_to_list m.copy) d (Has-left (option_to_list m.taint) (option_to_list m.flag) d (Has-option m.taint d e))

flag_among : (m : Making) (d : RawCell) → m.flag ≡ Some d → Has (state_cells m) d
flag_among m d e = Has-left (option_to_list m.taint ++ option_to_list m.flag) (option_to_list m.copy) d (Has-right (option_to_list m.taint) (option_to_list m.flag) d (Has-option m.flag d e))

copy_among : (m : Making) (d : RawCell) → m.copy ≡ Some d → Has (state_cells m) d
copy_among m d e = Has-right (option_to_list m.taint ++ option_to_list m.flag) (option_to_list m.copy) d (Has-option m.copy d e)

-- the cell that stores the taint of a register
pub record TaintRegister (a : Raw) (c : RawCell) (m : Making) : Type 0 where
  pub cell : RawCell
  pub found : m.taint ≡ Some cell
  pub is : IsTaintRegister c cell
  pub stores : Stores a cell

pub taint_register : {n a : Raw} {released : List ℕ} (c : RawCell) (h : IsBuilt n released a) (m : Made n a released h c) → has_role is_register c ≡ true → TaintRegister a c m.making
taint_register c h m e =
    let found = some_and (IsTaintRegister c) m.making.taint (MatchBool-at_true _ _ e m.is.block.taint) in
    record { cell = found.0; found = found.1; is = found.2; stores = state_cell c h m.making found.0 m.is m.here (taint_among m.making found.0 found.1) }

-- the memory that stores the taint of a memory
pub record TaintMemory (a : Raw) (c : RawCell) (m : Making) : Type 0 where
  pub cell : RawCell
  pub found : m.taint ≡ Some cell
  pub is : IsTaintMemory c cell
  pub stores : Stores a cell

no_register : (c : RawCell) (o : Option Kind) → has_role_by is_memory o ≡ true → has_role_by is_register o ≡ false
no_register c None e = refl
no_register c (Some Mem) e = refl
no_register c (Some _) e = absurd (cc)

pub taint_memory : {n a : Raw} {released : List ℕ} (c : RawCell) (h : IsBuilt n released a) (m : Made n a released h c) → has_role is_memory c ≡ true → TaintMemory a c m.making
taint_memory c h m e =
    let found = some_and (IsTaintMemory c) m.making.taint (MatchBool-at_true _ _ e (MatchBool-at_false _ _ (no_register c (kind_of c.kind) e) m.is.block.taint)) in
    record { cell = found.0; found = found.1; is = found.2; stores = state_cell c h m.making found.0 m.is m.here (taint_among m.making found.0 found.1) }

-- the cell that stores the flag of a memory
pub record FlagCell (a : Raw) (c : RawCell) (m : Making) : Type 0 where
  pub cell : RawCell
  pub found : m.flag ≡ Some cell
  pub is : IsFlag c cell
  pub stores : Stores a cell

pub flag_cell : {n a : Raw} {released : List ℕ} (c : RawCell) (h : IsBuilt n released a) (m : Made n a released h c) → has_flag c ≡ true → FlagCell a c m.making
flag_cell c h m e =
    let found = some_and (IsFlag c) m.making.flag (MatchBool-at_true _ _ e m.is.block.flag) in
    record { cell = found.0; found = found.1; is = found.2; stores = state_cell c h m.making found.0 m.is m.here (flag_among m.making found.0 found.1) }

-- the cell that stores the word of a register with asynchronous reset
pub record CopyCell (a : Raw) (c : RawCell) (m : Making) : Type 0 where
  pub cell : RawCell
  pub found : m.copy ≡ Some cell
  pub is : IsCopy c cell
  pub stores : Stores a cell

pub copy_cell : {n a : Raw} {released : List ℕ} (c : RawCell) (h : IsBuilt n released a) (m : Made n a released h c) → has_role is_reset_register c ≡ true → CopyCell a c m.making
copy_cell c h m e =
    let found = some_and (IsCopy c) m.making.copy (MatchBool-at_true _ _ e m.is.block.copy) in
    record { cell = found.0; found = found.1; is = found.2; stores = state_cell c h m.making found.0 m.is m.here (copy_among m.making found.0 found.1) }

-- ---- cells that compute

combinational_role : (r : Role) → is_combinational r ≡ true → Some r ≡ Some Combinational
combinational_role Combinational e = refl
combinational_role _ e = absurd (cc)

pub combinational_by : (o : Option Kind) → has_role_by is_combinational o ≡ true → option_map role_of o ≡ Some Combinational
combinational_by None e = absurd (cc)
combinational_by (Some k) e = combinational_role (role_of k) e

-- the further cells stand in the module and compute
pub further_cell : {n a : Raw} {released : List ℕ} (c d : RawCell) (h : IsBuilt n released a) (m : Made n a released h c) → Contains (m.making.showing ++ m.making.storing) d
    → Contains a.cells d × (option_map role_of (kind_of d.kind) ≡ Some Combinational)
further_cell c d h m k =
    let cells : List RawCell = m.making.showing ++ m.making.storing in
    let is : IsFurtherCell c k.0 (get_or cells k.0 d) = m.is.block.further k.0 d k.1 in
    let computes : has_role is_combinational d ≡ true = ap (has_role is_combinational) (sym k.2) ∙ is.computes in
    (new_cell h m.making d m.here (Has-right (state_cells m.making) cells d (has_contained cells d k)), combinational_by (kind_of d.kind) computes)
