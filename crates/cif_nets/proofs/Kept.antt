-- Registers and memories have one output.
use Rattle.std.specs.Prelude.{◌<◌, ◌≤◌, ◌^◌, ◌⊎◌, ◌≡◌, true, List, [], ◌∷◌, length, map, get_or, None, Some, refl}
use Rattle.std.specs.List.{flat_map}
use Rattle.std.proofs.Common.{arith, sym, ap, inl, inr, ◌∙◌}
use Rattle.std.proofs.lemmas.List.{append-nil}
use Rattle.cif_defs.specs.Kinds.{role_of}
use Rattle.cif_defs.specs.Table.{kind_of, outputs_of, row}
use Rattle.cif_defs.specs.RawModule.{bits_by, output_bits, port_bits}
use Rattle.cif_defs.specs.declared.kinds.Kind.{Kind}
use Rattle.cif_defs.specs.declared.kinds.Kind.TheVariants.{Dff, Dffe, Sdff, Sdffe, Sdffce, Adff, Adffe, Mem}
use Rattle.cif_defs.specs.declared.kinds.Param.TheVariants.{Width, RdPorts}
use Rattle.cif_defs.specs.declared.kinds.CellPort.TheVariants.{Q, RdData}
use Rattle.cif_defs.specs.declared.kinds.PortWidth.TheVariants.{Of, Product}
use Rattle.cif_defs.specs.declared.kinds.PortRow.{PortRow}
use Rattle.cif_defs.specs.declared.raw_module.RawCell.{RawCell}
use Rattle.cif_defs.specs.declared.kinds.Role.{Role}
use Rattle.cif_defs.specs.declared.kinds.Role.TheVariants.{PlainRegister, ResetRegister, MemoryBlock}
use Rattle.cif_defs.specs.declared.raw_module.RawBit.{RawBit}
use Rattle.cif_checks.specs.Checks.{cell_fault}
use Rattle.cif_checks.specs.Known.{bits_at}
use Rattle.cif_checks.proofs.KnownCells.{ports_are}
use Rattle.cif_nets.specs.Kept.{is_kept}
use Rattle.cif_nets.proofs.FewBits.{few_at_outputs}

pub single_row : (k : Kind) → is_kept (role_of k) ≡ true → (r : PortRow) × (outputs_of k ≡ r ∷ [])
unfolding outputs_of
single_row Dff e = (row Q (Of Width), refl)
single_row Dffe e = (row Q (Of Width), refl)
single_row Sdff e = (row Q (Of Width), refl)
single_row Sdffe e = (row Q (Of Width), refl)
single_row Sdffce e = (row Q (Of Width), refl)
single_row Adff e = (row Q (Of Width), refl)
single_row Adffe e = (row Q (Of Width), refl)
single_row Mem e = (row RdData (Product RdPorts Width), refl)
single_row _ e = absurd (cc)

pub one_output : (cell : RawCell) (k : Kind) (r : PortRow) → kind_of cell.kind ≡ Some k → outputs_of k ≡ r ∷ [] → output_bits cell ≡ port_bits cell r
one_output cell k r is o = ap (bits_by outputs_of cell) is ∙ ap (flat_map (port_bits cell)) o ∙ append-nil (port_bits cell r)

outputs_are : (cell : RawCell) (k : Kind) (ports : List (List RawBit)) (r : PortRow) → ports ≡ bits_at outputs_of cell → kind_of cell.kind ≡ Some k → outputs_of k ≡ r ∷ [] → ports ≡ port_bits cell r ∷ []
outputs_are cell k ports r each is o = ports_are outputs_of cell k ports each is ∙ ap (map (port_bits cell)) o

-- its bits are those of the first output
pub first_output : (cell : RawCell) (k : Kind) (ports : List (List RawBit)) (d : List RawBit) → kind_of cell.kind ≡ Some k → is_kept (role_of k) ≡ true → ports ≡ bits_at outputs_of cell → get_or ports 0 d ≡ output_bits cell
first_output cell k ports d is e each =
    let s = single_row k e in
    ap (λ (ps : List (List RawBit)). get_or ps 0 d) (outputs_are cell k ports s.0 each is s.1) ∙ sym (one_output cell k s.0 is s.1)

pub has_output : (cell : RawCell) (k : Kind) (ports : List (List RawBit)) → kind_of cell.kind ≡ Some k → is_kept (role_of k) ≡ true → ports ≡ bits_at outputs_of cell → length ports ≡ 0 → [] ≡ output_bits cell
has_output cell k ports is e each h =
    let s = single_row k e in
    let n : length ports ≡ 1 = ap length (outputs_are cell k ports s.0 each is s.1) in
    absurd (omega arith)

pub few_kept : (cell : RawCell) (k : Kind) → cell_fault cell ≡ None → kind_of cell.kind ≡ Some k → is_kept (role_of k) ≡ true → length (output_bits cell) ≤ 65536
few_kept cell k h is e =
    let s = single_row k e in
    let few : length (port_bits cell (get_or (outputs_of k) 0 s.0)) ≤ 65536 = few_at_outputs cell k h is 0 s.0 (let n : length (outputs_of k) ≡ 1 = ap length s.1 in omega arith) in
    rw (one_output cell k s.0 is s.1 ∙ sym (ap (λ (rs : List PortRow). port_bits cell (get_or rs 0 s.0)) s.1)) few

pub register_is_kept : (found : Role) (k : Kind) → (found ≡ PlainRegister) ⊎ (found ≡ ResetRegister) → found ≡ role_of k → is_kept (role_of k) ≡ true
register_is_kept found k (inl e) f = ap is_kept (sym f ∙ e)
register_is_kept found k (inr e) f = ap is_kept (sym f ∙ e)

pub memory_is_kept : (found : Role) (k : Kind) → found ≡ MemoryBlock → found ≡ role_of k → is_kept (role_of k) ≡ true
memory_is_kept found k e f = ap is_kept (sym f ∙ e)

pub few_kept_bits : (cell : RawCell) (k : Kind) (bits : List RawBit) → cell_fault cell ≡ None → kind_of cell.kind ≡ Some k → is_kept (role_of k) ≡ true → bits ≡ output_bits cell → length bits < 2 ^ 32
few_kept_bits cell k bits h is e b = (let few : length (output_bits cell) ≤ 65536 = few_kept cell k h is e in let n : length bits ≡ length (output_bits cell) = ap length b in omega arith)
