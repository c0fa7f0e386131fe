-- Where the drivers of net bits lie: in a cell of the netlist, at a place that its word or its read port has.
use Rattle.std.specs.Prelude.{ℕ, ◌+◌, ◌*◌, ◌<◌, ◌≤◌, ◌≡◌, ◌⊎◌, List, [], length, get_or, Option, Some, None, true}
use Rattle.std.proofs.Common.{arith, sym, ap, inl, inr}
use Rattle.std.proofs.lemmas.List.{get_or_past}
use Rattle.std.proofs.Math.Nat.{mul-le-mul_right}
use Rattle.cif_defs.specs.Kinds.{role_of}
use Rattle.cif_defs.specs.Cells.{Cell, number_of, width}
use Rattle.cif_defs.specs.Accepted.{netlist_of}
use Rattle.cif_defs.specs.Netlist.{IsWired, cell_at, driver_of, no_cell, role_at}
use Rattle.cif_defs.specs.declared.kinds.Role.{Role}
use Rattle.cif_defs.specs.declared.kinds.Role.TheVariants.{PlainRegister, ResetRegister, MemoryBlock, CarriedOver}
use Rattle.cif_defs.specs.declared.kinds.Param.TheVariants.{RdPorts}
use Rattle.cif_defs.specs.declared.nets.Driver.TheVariants.{Register, Read}
use Rattle.cif_defs.specs.declared.raw_module.Raw.{Raw}
use Rattle.cif_checks.specs.Checks.{IsAccepted}
use Rattle.cif_defs.specs.Kinds.{is_register}
use Rattle.cif_cells.proofs.FittedCells.{fitted}
use Rattle.cif_cells.proofs.MemoryCells.{read_data_width}
use Rattle.cif_kinds.proofs.RegisterCells.{q_width}
use Rattle.cif_nets.proofs.Wired.{wired}

le_or_lt : (x y : ℕ) → (y < x) ⊎ (x ≤ y)
le_or_lt x y = search arith

-- a cell that isn't carried over is one of the netlist
inside_if : (cells : List Cell) (c : ℕ) → (CarriedOver ≡ role_of (get_or cells c no_cell).kind → ⊥) → c < length cells
inside_if cells c apart = elim (le_or_lt (length cells) c) [
  | inl l ↦ l
  | inr l ↦ absurd (apart (sym (ap (λ (x : Cell). role_of x.kind) (get_or_past cells c no_cell l))))
]

-- a connected bit lies inside
bit_inside : (bits : List (Option ℕ)) (i b : ℕ) → get_or bits i None ≡ Some b → i < length bits
bit_inside bits i b h = elim (le_or_lt (length bits) i) [
  | inl l ↦ l
  | inr l ↦ absurd (let past : get_or bits i None ≡ None = get_or_past bits i None l in cc)
]

port_below : (r n w i : ℕ) → r * w + i < n * w → r < n
port_below r n w i h = elim (le_or_lt n r) [
  | inl l ↦ l
  | inr l ↦ absurd (let m : n * w ≤ r * w = mul-le-mul_right w l in omega arith)
]

abbrev IsRegisterRole : Role → Type 0
IsRegisterRole r = (r ≡ PlainRegister) ⊎ (r ≡ ResetRegister)

register_role : (r : Role) → IsRegisterRole r → is_register r ≡ true
register_role r (inl e) = ap is_register e
register_role r (inr e) = ap is_register e

not_carried : (r : Role) → IsRegisterRole r → CarriedOver ≡ r → ⊥
not_carried r (inl e) h = cc
not_carried r (inr e) h = cc

pub record IsRegisterBit (raw : Raw) (c i : ℕ) : Type 0 where
  pub cell : c < length (netlist_of raw).cells
  pub index : i < width (cell_at (netlist_of raw) c)

pub register_bit : (raw : Raw) → IsAccepted raw → (b c i : ℕ) → driver_of (netlist_of raw) b ≡ Register c i → IsRegisterBit raw c i
register_bit raw h b c i e =
    let w : IsWired (netlist_of raw) = wired raw h in
    let role = w.register_role b c i e in
    let cell : c < length (netlist_of raw).cells = inside_if (netlist_of raw).cells c (not_carried (role_at (netlist_of raw) c) role) in
    let inside : i < length (get_or (cell_at (netlist_of raw) c).outputs 0 []) = bit_inside (get_or (cell_at (netlist_of raw) c).outputs 0 []) i b (w.register_place b c i e) in
    let wide : length (get_or (cell_at (netlist_of raw) c).outputs 0 []) ≡ width (cell_at (netlist_of raw) c) = q_width (cell_at (netlist_of raw) c) (register_role (role_at (netlist_of raw) c) role) (fitted raw h c cell) in
    record { cell = cell; index = omega arith }

pub record IsReadBit (raw : Raw) (c r i : ℕ) : Type 0 where
  pub cell : c < length (netlist_of raw).cells
  pub port : r < number_of (cell_at (netlist_of raw) c) RdPorts
  pub index : i < width (cell_at (netlist_of raw) c)

pub read_bit : (raw : Raw) → IsAccepted raw → (b c r i : ℕ) → driver_of (netlist_of raw) b ≡ Read c r i → IsReadBit raw c r i
read_bit raw h b c r i e =
    let w : IsWired (netlist_of raw) = wired raw h in
    let role : role_at (netlist_of raw) c ≡ MemoryBlock = w.read_role b c r i e in
    let place = w.read_place b c r i e in
    let d = cell_at (netlist_of raw) c in
    let cell : c < length (netlist_of raw).cells = inside_if (netlist_of raw).cells c (λ q. cc) in
    let inside : r * width d + i < length (get_or d.outputs 0 []) = bit_inside (get_or d.outputs 0 []) (r * width d + i) b place.1 in
    let wide : length (get_or d.outputs 0 []) ≡ number_of d RdPorts * width d = read_data_width d role (fitted raw h c cell) in
    record { cell = cell; port = port_below r (number_of d RdPorts) (width d) i (omega arith); index = place.0 }
