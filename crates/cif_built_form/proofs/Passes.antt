-- Operand bits that are passed on in the same cycle stand at operands that count, in the order of the cells.
use Rattle.std.specs.Prelude.{ℕ, zero, suc, ◌<◌, ◌≤◌, ◌≡◌, List, [], ◌∷◌, map, get_or, take, drop, Some, refl}
use Rattle.std.specs.List.{flat_map}
use Rattle.std.proofs.Common.{arith, ap, ◌∙◌, inl, inr}
use Rattle.cif_defs.specs.Kinds.{role_of}
use Rattle.cif_defs.specs.Table.{kind_of, operands_of, outputs_of}
use Rattle.cif_defs.specs.RawModule.{net_numbers, operand_bits, output_bits, port_bits}
use Rattle.cif_defs.specs.Cells.{Cell, reset_operand}
use Rattle.cif_defs.specs.Netlist.{cell_at, operand_at}
use Rattle.cif_defs.specs.Accepted.{cell_by, cell_of, driver_of_number, netlist_of, no_bit, place_of, source}
use Rattle.cif_defs.specs.declared.kinds.Kind.{Kind}
use Rattle.cif_defs.specs.declared.kinds.PortRow.{PortRow}
use Rattle.cif_defs.specs.declared.kinds.Role.{Role}
use Rattle.cif_defs.specs.declared.kinds.Role.TheVariants.{Combinational, PlainRegister, ResetRegister, MemoryBlock, CarriedOver}
use Rattle.cif_defs.specs.declared.nets.Src.{Src}
use Rattle.cif_defs.specs.declared.nets.Src.TheVariants.{Bit, Zero as ZeroSource}
use Rattle.cif_defs.specs.declared.raw_module.RawBit.{RawBit}
use Rattle.cif_defs.specs.declared.raw_module.RawBit.TheVariants.{Net}
use Rattle.cif_defs.specs.declared.raw_module.RawCell.{RawCell}
use Rattle.cif_defs.specs.declared.raw_module.Raw.{Raw}
use Rattle.cif_defs.proofs.Levels.{IsRanked, driver_rank, rank_of, register_rank}
use Rattle.cif_nets.proofs.Places.{At, At-has, At-map, Has, Has-at, Has-left, Has-right}
use Rattle.cif_nets.proofs.Driven.{CellIs}
use Rattle.cif_raw_runs.specs.Given.{shown_bits, word_width}
use Rattle.cif_raw_runs.proofs.Numbers.{net_at}
use Rattle.cif_raw_runs.proofs.OperandWords.{cell_at_place, role_at_place}
use Rattle.cif_raw_runs.proofs.Drivers.{own_driver, shown_driver}
use Rattle.cif_built.specs.Makings.{operand_row, passing_bits}
use Rattle.cif_built_form.proofs.Lists.{from_flat_map}

-- ---- bits of one port among those of all

in_row : (c : RawCell) (rows : List PortRow) (p : ℕ) (b : RawBit) → Has (get_or (map (port_bits c) rows) p []) b → Has (flat_map (port_bits c) rows) b
in_row c [] p b h = absurd h
in_row c (r ∷ rows) zero b h = Has-left (port_bits c r) (flat_map (port_bits c) rows) b h
in_row c (r ∷ rows) (suc p) b h = Has-right (port_bits c r) (flat_map (port_bits c) rows) b (in_row c rows p b h)

has_take : (i : ℕ) (bits : List RawBit) (b : RawBit) → Has (take i bits) b → Has bits b
has_take zero bits b h = absurd h
has_take (suc i) [] b h = absurd h
has_take (suc i) (c ∷ bits) b (inl e) = inl e
has_take (suc i) (c ∷ bits) b (inr h) = inr (has_take i bits b h)

has_drop : (i : ℕ) (bits : List RawBit) (b : RawBit) → Has (drop i bits) b → Has bits b
has_drop zero bits b h = h
has_drop (suc i) [] b h = absurd h
has_drop (suc i) (c ∷ bits) b h = inr (has_drop i bits b h)

-- ---- what is shown stands at an output

shown_by_role : (c : RawCell) (k : Kind) (role : Role) (p : ℕ) (b : RawBit) → kind_of c.kind ≡ Some k → Has (shown_bits role c k p) b → Has (output_bits c) b
shown_by_role c k Combinational p b e h = rw e (in_row c (outputs_of k) p b h)
shown_by_role c k PlainRegister p b e h = h
shown_by_role c k ResetRegister p b e h = h
shown_by_role c k MemoryBlock p b e h = has_drop _ (output_bits c) b (has_take (word_width c) _ b h)
shown_by_role c k CarriedOver p b e h = absurd h

pub shown_at_output : (c : RawCell) (k : Kind) (p i x : ℕ) → kind_of c.kind ≡ Some k → get_or (shown_bits (role_of k) c k p) i no_bit ≡ Net x → Has (output_bits c) (Net x)
shown_at_output c k p i x e h = shown_by_role c k (role_of k) p (Net x) e (Has-at (shown_bits (role_of k) c k p) i (Net x) (net_at (shown_bits (role_of k) c k p) i x h))

-- ---- what passes stands at an operand

passing_at : (c : RawCell) (k : Kind) (role : Role) (b : RawBit) → role_of k ≡ role → kind_of c.kind ≡ Some k → Has (passing_bits c k) b → Has (operand_bits c) b
passing_at c k Combinational b r e h = rw r at h
passing_at c k ResetRegister b r e h = rw e (in_row c (operands_of k) (reset_operand k) b (rw r at h))
passing_at c k MemoryBlock b r e h = rw e (in_row c (operands_of k) 0 b (rw r at h))
passing_at c k PlainRegister b r e h = absurd (rw r at h)
passing_at c k CarriedOver b r e h = absurd (rw r at h)

pub passing_operand : (c : RawCell) (k : Kind) (b : RawBit) → kind_of c.kind ≡ Some k → Has (passing_bits c k) b → Has (operand_bits c) b
passing_operand c k b e h = passing_at c k (role_of k) b refl e h

-- ---- in the netlist

row_mapped : (s : RawBit → Src) (c : RawCell) (rows : List PortRow) (p : ℕ) → get_or (map (λ (r : PortRow). map s (port_bits c r)) rows) p [] ≡ map s (get_or (map (port_bits c) rows) p [])
row_mapped s c [] p = refl
row_mapped s c (r ∷ rows) zero = refl
row_mapped s c (r ∷ rows) (suc p) = row_mapped s c rows p

operand_seen : (raw : Raw) (c : ℕ) (cell : RawCell) (k : Kind) (p j x : ℕ) → CellIs raw c cell k → At (operand_row cell k p) j (Net x) → operand_at (cell_at (netlist_of raw) c) p j ≡ Bit (place_of (net_numbers raw) x)
unfolding cell_of
operand_seen raw c cell k p j x is at =
    let ns = net_numbers raw in
    ap (λ (d : Cell). operand_at d p j) (cell_at_place raw c cell is.at_cell ∙ ap (cell_by ns cell) is.is_kind)
    ∙ ap (λ (ss : List Src). get_or ss j ZeroSource) (row_mapped (source ns) cell (operands_of k) p)
    ∙ At-map (source ns) (operand_row cell k p) j (Net x) ZeroSource at

kind_seen : (raw : Raw) (c : ℕ) (cell : RawCell) (k : Kind) → CellIs raw c cell k → (cell_at (netlist_of raw) c).kind ≡ k
unfolding cell_of
kind_seen raw c cell k is = ap (λ (d : Cell). d.kind) (cell_at_place raw c cell is.at_cell ∙ ap (cell_by (net_numbers raw) cell) is.is_kind)

-- ---- ranks

module _ (raw : Raw) (r : ℕ → ℕ) (ranked : IsRanked (netlist_of raw) r) where
  -- the rank of a net number
  abbrev pub rank : ℕ → ℕ
  rank x = rank_of (netlist_of raw) r (place_of (net_numbers raw) x)

  -- whatever passes through a cell
  row_of : (cell : RawCell) (k : Kind) (x : ℕ) → Has (flat_map (port_bits cell) (operands_of k)) (Net x) → (p : ℕ) × (j : ℕ) × At (operand_row cell k p) j (Net x)
  row_of cell k x h =
      let row = from_flat_map (port_bits cell) (operands_of k) (Net x) h in
      let p = At-has (operands_of k) row.0 row.1 in
      let same : operand_row cell k p.0 ≡ port_bits cell row.0 = At-map (port_bits cell) (operands_of k) p.0 row.0 [] p.1 in
      let j = At-has (operand_row cell k p.0) (Net x) (rw same row.2) in
      (p.0, j.0, j.1)

  passes_through : (c : ℕ) (cell : RawCell) (k : Kind) (x : ℕ) (role : Role) → role_of k ≡ role → CellIs raw c cell k → Has (passing_bits cell k) (Net x) → rank x ≤ r c
  passes_through c cell k x Combinational e is h =
      let bits : Has (operand_bits cell) (Net x) = rw e at h in
      let at = row_of cell k x (rw is.is_kind at bits) in
      ranked.by_cell c at.0 at.1 (place_of (net_numbers raw) x) (role_at_place raw c cell k is ∙ e) (operand_seen raw c cell k at.0 at.1 x is at.2)
  passes_through c cell k x MemoryBlock e is h =
      let j = At-has (operand_row cell k 0) (Net x) (rw e at h) in
      ranked.by_memory c j.0 (place_of (net_numbers raw) x) (operand_seen raw c cell k 0 j.0 x is j.1) (role_at_place raw c cell k is ∙ e)
  passes_through c cell k x ResetRegister e is h =
      let j = At-has (operand_row cell k (reset_operand k)) (Net x) (rw e at h) in
      let same : reset_operand (cell_at (netlist_of raw) c).kind ≡ reset_operand k = ap reset_operand (kind_seen raw c cell k is) in
      ranked.by_reset c j.0 (place_of (net_numbers raw) x) (ap (λ (p : ℕ). operand_at (cell_at (netlist_of raw) c) p j.0) same ∙ operand_seen raw c cell k (reset_operand k) j.0 x is j.1) (role_at_place raw c cell k is ∙ e)
  passes_through c cell k x PlainRegister e is h = absurd (rw e at h)
  passes_through c cell k x CarriedOver e is h = absurd (rw e at h)

  -- what a cell shows ranks above it, where anything passes through it
  rank_by_role : (c : ℕ) (cell : RawCell) (k : Kind) (x : ℕ) (role : Role) (p i : ℕ) → role_of k ≡ role → CellIs raw c cell k → Has (passing_bits cell k) (Net x) → driver_rank (netlist_of raw) r (shown_driver role c p i) ≡ suc (r c)
  rank_by_role c cell k x Combinational p i e is h = refl
  rank_by_role c cell k x MemoryBlock p i e is h = refl
  rank_by_role c cell k x ResetRegister p i e is h = ap (λ (role : Role). register_rank role (r c)) (role_at_place raw c cell k is ∙ e)
  rank_by_role c cell k x PlainRegister p i e is h = absurd (rw e at h)
  rank_by_role c cell k x CarriedOver p i e is h = absurd (rw e at h)

  -- a number that passes through a cell ranks below those that the cell shows
  pub passes_below : (c : ℕ) (cell : RawCell) (k : Kind) (x y p i : ℕ) → CellIs raw c cell k → Has (net_numbers raw) y → driver_of_number raw y ≡ shown_driver (role_of k) c p i → Has (passing_bits cell k) (Net x) → rank x < rank y
  passes_below c cell k x y p i is number d h =
      let below : rank x ≤ r c = passes_through c cell k x (role_of k) refl is h in
      let above : rank y ≡ suc (r c) = ap (driver_rank (netlist_of raw) r) (own_driver raw y number ∙ d) ∙ rank_by_role c cell k x (role_of k) p i refl is h in
      omega arith
