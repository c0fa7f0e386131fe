-- Which cell drives which, by net numbers: what `Drives` says of the netlist of a module.
use Rattle.std.specs.Prelude.{ℕ, ◌<◌, ◌≡◌, true, false, List, [], map, length, get_or, Option, Some, None, refl}
use Rattle.std.specs.List.{flat_map}
use Rattle.std.proofs.Common.{arith, sym, ap, ◌∙◌, inl, inr, subst}
use Rattle.std.proofs.lemmas.Bool.{eq-eqb, eqb-true}
use Rattle.std.proofs.lemmas.List.{get_or_past, length-map}
use Rattle.cif_defs.specs.Kinds.{role_of}
use Rattle.cif_defs.specs.Table.{kind_of, operands_of, outputs_of}
use Rattle.cif_defs.specs.RawModule.{bits_by, net_numbers, nets_in, operand_bits, output_bits, port_bits}
use Rattle.cif_defs.specs.Cells.{Cell, reset_operand}
use Rattle.cif_defs.specs.Netlist.{cell_at, no_cell, operand_at, output_at, role_at}
use Rattle.cif_defs.specs.Accepted.{cell_by, cell_of, netlist_of, place_of, source, target}
use Rattle.cif_defs.specs.Loop.{Drives, counts, is_passing}
use Rattle.cif_defs.specs.declared.kinds.Kind.{Kind}
use Rattle.cif_defs.specs.declared.kinds.PortRow.{PortRow}
use Rattle.cif_defs.specs.declared.kinds.Role.{Role}
use Rattle.cif_defs.specs.declared.kinds.Role.TheVariants.{Combinational, PlainRegister, ResetRegister, MemoryBlock, CarriedOver}
use Rattle.cif_defs.specs.declared.nets.Src.{Src}
use Rattle.cif_defs.specs.declared.nets.Src.TheVariants.{Bit, Zero as ZeroSource}
use Rattle.cif_defs.specs.declared.raw_module.RawBit.{RawBit}
use Rattle.cif_defs.specs.declared.raw_module.RawBit.TheVariants.{Net, Zero, One, X, Z}
use Rattle.cif_defs.specs.declared.raw_module.RawCell.{RawCell}
use Rattle.cif_defs.specs.declared.raw_module.Raw.{Raw}
use Rattle.cif_defs.proofs.Orders.{in_range}
use Rattle.cif_emit.specs.Emitted.{drives}
use Rattle.cif_built.specs.Makings.{operand_row, passing_bits}
use Rattle.cif_nets.proofs.Places.{At, At-from_map, At-has, At-map, At-same, At-moved, Has, Has-nets}
use Rattle.cif_nets.proofs.Rising.{At-place}
use Rattle.cif_nets.proofs.Driven.{CellIs}
use Rattle.cif_nets.proofs.Wired.{at_or_past, nets_of_rows, numbers_rise}
use Rattle.cif_raw_runs.proofs.Numbers.{number_of_operand, number_of_row}
use Rattle.cif_raw_runs.proofs.OperandWords.{cell_at_place, role_at_place}
use Rattle.cif_built_order.proofs.Owners.{from_flat_map, has_net, passes}

-- ---- the bits that count

abbrev pub counted_by : RawCell → Option Kind → List RawBit
counted_by c None = []
counted_by c (Some k) = passing_bits c k

abbrev pub counted : RawCell → List RawBit
counted c = counted_by c (kind_of c.kind)

-- the same by the role
abbrev pub passing_by : RawCell → Kind → Role → List RawBit
passing_by c k Combinational = operand_bits c
passing_by c k ResetRegister = operand_row c k (reset_operand k)
passing_by c k MemoryBlock = operand_row c k 0
passing_by c k PlainRegister = []
passing_by c k CarriedOver = []

pub passing_is : (c : RawCell) (k : Kind) → passing_bits c k ≡ passing_by c k (role_of k)
passing_is c k = refl

pub counted_is : (c : RawCell) (k : Kind) → kind_of c.kind ≡ Some k → counted c ≡ passing_by c k (role_of k)
counted_is c k e = ap (counted_by c) e ∙ passing_is c k

-- cell d drives cell e at a net number
pub record Feeds (raw : Raw) (d e : ℕ) : Type 0 where
  pub number : ℕ
  pub from : RawCell
  pub to : RawCell
  pub at_from : At raw.cells d from
  pub at_to : At raw.cells e to
  pub driven : Has (drives from) number
  pub passing : passes from ≡ true
  pub read : Has (nets_in (counted to)) number

-- ---- from the netlist to net numbers

record IsCell (raw : Raw) (c : ℕ) : Type 0 where
  cell : RawCell
  kind : Kind
  is : CellIs raw c cell kind
  same : cell_at (netlist_of raw) c ≡ cell_by (net_numbers raw) cell (Some kind)

same_by : (ns : List ℕ) (cell : RawCell) (o : Option Kind) → kind_of cell.kind ≡ o → cell_of ns cell ≡ cell_by ns cell o
unfolding cell_of
same_by ns cell o e = ap (cell_by ns cell) e

cell_by_kind : (raw : Raw) (c : ℕ) (cell : RawCell) (o : Option Kind) → At raw.cells c cell → kind_of cell.kind ≡ o → is_passing (role_at (netlist_of raw) c) ≡ true → IsCell raw c
cell_by_kind raw c cell None at e p =
    absurd (let same : cell_at (netlist_of raw) c ≡ no_cell = cell_at_place raw c cell at ∙ same_by (net_numbers raw) cell None e in
    let no : is_passing (role_at (netlist_of raw) c) ≡ false = ap (λ (d : Cell). is_passing (role_of d.kind)) same in
    cc)
cell_by_kind raw c cell (Some k) at e p = record { cell = cell; kind = k; is = record { at_cell = at; is_kind = e }; same = cell_at_place raw c cell at ∙ same_by (net_numbers raw) cell (Some k) e }

pub cells_long : (raw : Raw) → length (netlist_of raw).cells ≡ length raw.cells
unfolding netlist_of
cells_long raw = length-map raw.cells (cell_of (net_numbers raw))

is_cell : (raw : Raw) (c : ℕ) → is_passing (role_at (netlist_of raw) c) ≡ true → IsCell raw c
is_cell raw c p = elim (at_or_past raw.cells c) [
  | inl a ↦ cell_by_kind raw c a.0 (kind_of a.0.kind) a.1 refl p
  | inr l ↦ absurd (let low : c < length (netlist_of raw).cells = in_range (netlist_of raw) c p in let long : length (netlist_of raw).cells ≡ length raw.cells = cells_long raw in omega arith)
]

-- a bit of a row, of which something is read
record RowBit {T : Type 0} (f : RawBit → T) (cell : RawCell) (rows : List PortRow) (p i : ℕ) (y : T) : Type 0 where
  row : PortRow
  bit : RawBit
  at_row : At rows p row
  at_bit : At (port_bits cell row) i bit
  same : f bit ≡ y

row_bit : {T : Type 0} (f : RawBit → T) (cell : RawCell) (rows : List PortRow) (p i : ℕ) (d y : T) → (d ≡ y → ⊥)
    → get_or (get_or (map (λ (r : PortRow). map f (port_bits cell r)) rows) p []) i d ≡ y → RowBit f cell rows p i y
row_bit f cell rows p i d y apart h = elim (at_or_past rows p) [
  | inl a ↦ (let found = At-from_map f (port_bits cell a.0) i y d apart (ap (λ ts. get_or ts i d) (sym (At-map (λ (r : PortRow). map f (port_bits cell r)) rows p a.0 [] a.1)) ∙ h) in
      record { row = a.0; bit = found.0; at_row = a.1; at_bit = found.1; same = found.2 })
  | inr l ↦ absurd (apart (ap (λ ts. get_or ts i d) (sym (get_or_past (map (λ (r : PortRow). map f (port_bits cell r)) rows) p [] (omega (arith, length-map rows (λ (r : PortRow). map f (port_bits cell r)))))) ∙ h))
]

target_is : (ns : List ℕ) (bit : RawBit) (b : ℕ) → target ns bit ≡ Some b → (x : ℕ) × (bit ≡ Net x) × (place_of ns x ≡ b)
target_is ns (Net x) b h = (x, refl, (cc))
target_is ns Zero b h = absurd (cc)
target_is ns One b h = absurd (cc)
target_is ns X b h = absurd (cc)
target_is ns Z b h = absurd (cc)

source_is : (ns : List ℕ) (bit : RawBit) (b : ℕ) → source ns bit ≡ Bit b → (x : ℕ) × (bit ≡ Net x) × (place_of ns x ≡ b)
source_is ns (Net x) b h = (x, refl, (cc))
source_is ns Zero b h = absurd (cc)
source_is ns One b h = absurd (cc)
source_is ns X b h = absurd (cc)
source_is ns Z b h = absurd (cc)

same_number : (raw : Raw) (x y : ℕ) → Has (net_numbers raw) x → Has (net_numbers raw) y → place_of (net_numbers raw) x ≡ place_of (net_numbers raw) y → x ≡ y
same_number raw x y h k e =
    let one : At (net_numbers raw) (place_of (net_numbers raw) x) x = At-place (net_numbers raw) x (numbers_rise raw) h in
    let two : At (net_numbers raw) (place_of (net_numbers raw) x) y = At-moved (net_numbers raw) (place_of (net_numbers raw) y) (place_of (net_numbers raw) x) y e (At-place (net_numbers raw) y (numbers_rise raw) k) in
    At-same (net_numbers raw) (place_of (net_numbers raw) x) x y one two

in_row : (cell : RawCell) (k : Kind) (p i x : ℕ) (r : PortRow) → At (operands_of k) p r → At (port_bits cell r) i (Net x) → Has (nets_in (operand_row cell k p)) x
in_row cell k p i x r row at = rw (At-map (port_bits cell) (operands_of k) p r [] row) (Has-nets (port_bits cell r) i x at)

-- an operand bit that counts is among the bits that do
counts_there : (ns : List ℕ) (cell : RawCell) (k : Kind) (role : Role) (p i x : ℕ) (r : PortRow) → kind_of cell.kind ≡ Some k → counts role (cell_by ns cell (Some k)) p ≡ true
    → At (operands_of k) p r → At (port_bits cell r) i (Net x) → Has (nets_in (passing_by cell k role)) x
counts_there ns cell k Combinational p i x r e h row at =
    (let all : Has (nets_in (flat_map (port_bits cell) (operands_of k))) x = nets_of_rows cell (operands_of k) p r x row (Has-nets (port_bits cell r) i x at) in rw e all)
counts_there ns cell k ResetRegister p i x r e h row at = (let same : p ≡ reset_operand k = eqb-true p (reset_operand k) h in rw (← same) (in_row cell k p i x r row at))
counts_there ns cell k MemoryBlock p i x r e h row at = (let same : p ≡ 0 = eqb-true p 0 h in rw (← same) (in_row cell k p i x r row at))
counts_there ns cell k PlainRegister p i x r e h row at = absurd (cc)
counts_there ns cell k CarriedOver p i x r e h row at = absurd (cc)

passing_role : (role : Role) (c : Cell) (p : ℕ) → counts role c p ≡ true → is_passing role ≡ true
passing_role Combinational c p h = refl
passing_role MemoryBlock c p h = refl
passing_role ResetRegister c p h = refl
passing_role PlainRegister c p h = absurd (cc)
passing_role CarriedOver c p h = absurd (cc)

passes_by_kind : (cell : RawCell) (k : Kind) → kind_of cell.kind ≡ Some k → is_passing (role_of k) ≡ true → passes cell ≡ true
passes_by_kind cell k e h = rw e h

number_moved : (bits : List RawBit) (x y : ℕ) → x ≡ y → Has (nets_in bits) x → Has (nets_in bits) y
number_moved bits x y e h = rw (← e) h

pub feeds : (raw : Raw) (d e : ℕ) → Drives (netlist_of raw) d e → Feeds raw d e
feeds raw d e v =
    let ns : List ℕ = net_numbers raw in
    let one = is_cell raw d v.passing in
    let two = is_cell raw e (passing_role (role_at (netlist_of raw) e) (cell_at (netlist_of raw) e) v.operand v.operand_counts) in
    let out = row_bit (target (net_numbers raw)) one.cell (outputs_of one.kind) v.output v.from None (Some v.net) (λ q. absurd (cc)) (ap (λ (c : Cell). output_at c v.output v.from) (sym one.same) ∙ v.is_output) in
    let inn = row_bit (source (net_numbers raw)) two.cell (operands_of two.kind) v.operand v.to ZeroSource (Bit v.net) (λ q. absurd (cc)) (ap (λ (c : Cell). operand_at c v.operand v.to) (sym two.same) ∙ v.is_operand) in
    let x = target_is (net_numbers raw) out.bit v.net out.same in
    let y = source_is (net_numbers raw) inn.bit v.net inn.same in
    let at_x : At (port_bits one.cell out.row) v.from (Net x.0) = rw (← x.1) out.at_bit in
    let at_y : At (port_bits two.cell inn.row) v.to (Net y.0) = rw (← y.1) inn.at_bit in
    let number_x : Has (net_numbers raw) x.0 = number_of_row raw d one.cell one.kind v.output v.from out.row x.0 one.is out.at_row at_x in
    let number_y : Has (net_numbers raw) y.0 = number_of_operand raw e two.cell two.kind v.operand v.to inn.row y.0 two.is inn.at_row at_y in
    let same : y.0 ≡ x.0 = same_number raw y.0 x.0 number_y number_x (y.2 ∙ sym x.2) in
    let all : Has (nets_in (flat_map (port_bits one.cell) (outputs_of one.kind))) x.0 = nets_of_rows one.cell (outputs_of one.kind) v.output out.row x.0 out.at_row (Has-nets (port_bits one.cell out.row) v.from x.0 at_x) in
    let counting : counts (role_of two.kind) (cell_by (net_numbers raw) two.cell (Some two.kind)) v.operand ≡ true = ap (λ (c : Cell). counts (role_of c.kind) c v.operand) (sym two.same) ∙ v.operand_counts in
    let read : Has (nets_in (passing_by two.cell two.kind (role_of two.kind))) y.0 = counts_there (net_numbers raw) two.cell two.kind (role_of two.kind) v.operand v.to y.0 inn.row two.is.is_kind counting inn.at_row at_y in
    record {
      number = x.0;
      from = one.cell;
      to = two.cell;
      at_from = one.is.at_cell;
      at_to = two.is.at_cell;
      driven = rw one.is.is_kind all;
      passing = passes_by_kind one.cell one.kind one.is.is_kind (ap (λ (c : Cell). is_passing (role_of c.kind)) (sym one.same) ∙ v.passing);
      read = rw (counted_is two.cell two.kind two.is.is_kind) (number_moved (passing_by two.cell two.kind (role_of two.kind)) y.0 x.0 same read);
    }

-- ---- and back

-- a place that counts, at which a number stands
pub record CountsAt (ns : List ℕ) (cell : RawCell) (k : Kind) (role : Role) (x : ℕ) : Type 0 where
  pub operand : ℕ
  pub to : ℕ
  pub row : PortRow
  pub at_row : At (operands_of k) operand row
  pub at_bit : At (port_bits cell row) to (Net x)
  pub counting : counts role (cell_by ns cell (Some k)) operand ≡ true

row_of : (ns : List ℕ) (cell : RawCell) (k : Kind) (role : Role) (p x : ℕ) → counts role (cell_by ns cell (Some k)) p ≡ true → Has (nets_in (operand_row cell k p)) x → CountsAt ns cell k role x
row_of ns cell k role p x h has = elim (at_or_past (operands_of k) p) [
  | inl a ↦ (let here : Has (nets_in (port_bits cell a.0)) x = subst (λ (bits : List RawBit). Has (nets_in bits) x) (At-map (port_bits cell) (operands_of k) p a.0 [] a.1) has in
      let i = At-has (port_bits cell a.0) (Net x) (has_net (port_bits cell a.0) x here) in
      record { operand = p; to = i.0; row = a.0; at_row = a.1; at_bit = i.1; counting = h })
  | inr l ↦ absurd (let none : operand_row cell k p ≡ [] = get_or_past (map (port_bits cell) (operands_of k)) p [] (omega (arith, length-map (operands_of k) (port_bits cell))) in
      let bad : ⊥ = subst (λ (bits : List RawBit). Has (nets_in bits) x) none has in bad)
]

pub counts_at : (ns : List ℕ) (cell : RawCell) (k : Kind) (role : Role) (x : ℕ) → kind_of cell.kind ≡ Some k → Has (nets_in (passing_by cell k role)) x → CountsAt ns cell k role x
counts_at ns cell k Combinational x e h =
    let all : Has (flat_map (port_bits cell) (operands_of k)) (Net x) = rw (← ap (bits_by operands_of cell) e) (has_net (operand_bits cell) x h) in
    let row = from_flat_map (port_bits cell) (operands_of k) (Net x) all in
    let p = At-has (operands_of k) row.0 row.1 in
    let i = At-has (port_bits cell row.0) (Net x) row.2 in
    record { operand = p.0; to = i.0; row = row.0; at_row = p.1; at_bit = i.1; counting = refl }
counts_at ns cell k ResetRegister x e h = row_of ns cell k ResetRegister (reset_operand k) x (eq-eqb (reset_operand k) (reset_operand k) refl) h
counts_at ns cell k MemoryBlock x e h = row_of ns cell k MemoryBlock 0 x refl h
counts_at ns cell k PlainRegister x e h = absurd h
counts_at ns cell k CarriedOver x e h = absurd h

pub drives_if_feeds : (raw : Raw) (d e : ℕ) (from to : RawCell) (k l : Kind) (x : ℕ) → CellIs raw d from k → CellIs raw e to l → is_passing (role_of k) ≡ true → Has (drives from) x → Has (nets_in (counted to)) x
    → Drives (netlist_of raw) d e
drives_if_feeds raw d e from to k l x one two p h r =
    let same_one : cell_at (netlist_of raw) d ≡ cell_by (net_numbers raw) from (Some k) = cell_at_place raw d from one.at_cell ∙ same_by (net_numbers raw) from (Some k) one.is_kind in
    let same_two : cell_at (netlist_of raw) e ≡ cell_by (net_numbers raw) to (Some l) = cell_at_place raw e to two.at_cell ∙ same_by (net_numbers raw) to (Some l) two.is_kind in
    let all : Has (flat_map (port_bits from) (outputs_of k)) (Net x) = rw (← ap (bits_by outputs_of from) one.is_kind) (has_net (output_bits from) x h) in
    let row = from_flat_map (port_bits from) (outputs_of k) (Net x) all in
    let q = At-has (outputs_of k) row.0 row.1 in
    let i = At-has (port_bits from row.0) (Net x) row.2 in
    let place = counts_at (net_numbers raw) to l (role_of l) x two.is_kind (subst (λ (bits : List RawBit). Has (nets_in bits) x) (counted_is to l two.is_kind) r) in
    record {
      passing = ap is_passing (role_at_place raw d from k one) ∙ p;
      output = q.0;
      from = i.0;
      operand = place.operand;
      to = place.to;
      net = place_of (net_numbers raw) x;
      is_output = ap (λ (c : Cell). output_at c q.0 i.0) same_one
          ∙ ap (λ (os : List (Option ℕ)). get_or os i.0 None) (At-map (λ (r : PortRow). map (target (net_numbers raw)) (port_bits from r)) (outputs_of k) q.0 row.0 [] q.1)
          ∙ At-map (target (net_numbers raw)) (port_bits from row.0) i.0 (Net x) None i.1;
      is_operand = ap (λ (c : Cell). operand_at c place.operand place.to) same_two
          ∙ ap (λ (ss : List Src). get_or ss place.to ZeroSource) (At-map (λ (r : PortRow). map (source (net_numbers raw)) (port_bits to r)) (operands_of l) place.operand place.row [] place.at_row)
          ∙ At-map (source (net_numbers raw)) (port_bits to place.row) place.to (Net x) ZeroSource place.at_bit;
      operand_counts = ap (λ (c : Cell). counts (role_of c.kind) c place.operand) same_two ∙ place.counting;
    }
