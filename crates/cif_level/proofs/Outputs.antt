-- What an accepted module says of ports: a register or memory has one output, and no cell has many operands.
use Rattle.std.specs.Prelude.{ℕ, zero, suc, ◌<◌, ◌≤◌, ◌≡◌, ◌==◌, Bool, true, false, ◌||◌, List, [], ◌∷◌, map, length, get_or, Option, Some, None, option_map, unwrap_or, refl}
use Rattle.std.specs.List.{filter_map, cons_option}
use Rattle.std.proofs.Common.{arith, ap}
use Rattle.std.proofs.lemmas.Bool.Decides.{nat_tests}
use Rattle.std.proofs.lemmas.List.{get_or_past, length-map}
use Rattle.cif_defs.specs.Kinds.{role_of}
use Rattle.cif_defs.specs.Cells.{Cell, number_in, width}
use Rattle.cif_defs.specs.RawModule.{number_given, net_numbers, port_bits}
use Rattle.cif_defs.specs.Table.{kind_of, parameters_of, outputs_of, operands_of}
use Rattle.cif_defs.specs.Accepted.{netlist_of, cell_of, cell_by, target, source, numbers_of}
use Rattle.cif_defs.specs.Netlist.{no_cell, cell_at, output_at}
use Rattle.cif_defs.specs.declared.kinds.Role.{Role}
use Rattle.cif_defs.specs.declared.kinds.Role.TheVariants.{Combinational, PlainRegister, ResetRegister, MemoryBlock, CarriedOver}
use Rattle.cif_defs.specs.declared.kinds.Kind.{Kind}
use Rattle.cif_defs.specs.declared.kinds.Kind.TheVariants.{Dff, Dffe, Sdff, Sdffe, Sdffce, Adff, Adffe, Mem, ScopeInfo}
use Rattle.cif_defs.specs.declared.kinds.Param.{Param}
use Rattle.cif_defs.specs.declared.kinds.Param.TheVariants.{Width, Size, Offset, Abits, RdPorts, WrPorts}
use Rattle.cif_defs.specs.declared.kinds.PortRow.{PortRow}
use Rattle.cif_defs.specs.declared.raw_module.RawCell.{RawCell}
use Rattle.cif_defs.specs.declared.raw_module.Raw.{Raw}
use Rattle.cif_checks.specs.Checks.{◌else_by◌, fault_if, first_fault, cell_fault, cell_fault_by, counts_fault, ports_fault, cells_fault, drivers_fault, clocks_fault, reads_fault, inits_fault, memory_bits_fault, build_fault, memory_form, has_bad_form, number_or_0, IsAccepted}
use Rattle.cif_checks.specs.declared.fault.BuildFault.{BuildFault}
use Rattle.cif_level.proofs.Driving.{HasOneOutput}

-- ---- the cells of a netlist

netlist_cell : (ns : List ℕ) (cs : List RawCell) (c : ℕ) (P : Cell → Type 0) → P no_cell → ((rc : RawCell) → P (cell_of ns rc)) → P (get_or (map (cell_of ns) cs) c no_cell)
netlist_cell ns [] c P none some = none
netlist_cell ns (rc ∷ cs) zero P none some = some rc
netlist_cell ns (rc ∷ cs) (suc c) P none some = netlist_cell ns cs c P none some

else_none : (a b : Option BuildFault) → (a else_by b) ≡ None → (a ≡ None) × (b ≡ None)
else_none None b h = (refl, h)
else_none (Some f) b h = absurd (cc)

accepted_cell : (ns : List ℕ) (cs : List RawCell) (c : ℕ) (P : Cell → Type 0) → first_fault cell_fault cs ≡ None → P no_cell → ((rc : RawCell) → cell_fault rc ≡ None → P (cell_of ns rc)) → P (get_or (map (cell_of ns) cs) c no_cell)
accepted_cell ns [] c P h none some = none
accepted_cell ns (rc ∷ cs) zero P h none some = some rc (else_none (cell_fault rc) (first_fault cell_fault cs) h).0
accepted_cell ns (rc ∷ cs) (suc c) P h none some = accepted_cell ns cs c P (else_none (cell_fault rc) (first_fault cell_fault cs) h).1 none some

-- ---- at most four operands

operands_are_few : (k : Kind) → length (operands_of k) ≤ 4
unfolding operands_of
operands_are_few Mem = omega arith
operands_are_few _ = omega arith

operands_by : (ns : List ℕ) (rc : RawCell) (o : Option Kind) → length (cell_by ns rc o).operands ≤ 4
operands_by ns rc None = omega arith
operands_by ns rc (Some k) =
    let few : length (operands_of k) ≤ 4 = operands_are_few k in
    let same : length (map (λ (r : PortRow). map (source ns) (port_bits rc r)) (operands_of k)) ≡ length (operands_of k) = length-map (operands_of k) (λ (r : PortRow). map (source ns) (port_bits rc r)) in
    omega arith

cell_operands : (ns : List ℕ) (rc : RawCell) → length (cell_of ns rc).operands ≤ 4
unfolding cell_of
cell_operands ns rc = operands_by ns rc (kind_of rc.kind)

pub few_operands : (raw : Raw) (c : ℕ) → length (cell_at (netlist_of raw) c).operands ≤ 4
unfolding netlist_of
few_operands raw c = netlist_cell (net_numbers raw) raw.cells c (λ (x : Cell). length x.operands ≤ 4) (omega arith) (λ rc. cell_operands (net_numbers raw) rc)

-- ---- one output

outputs_are_few : (k : Kind) → (role_of k ≡ Combinational → ⊥) → length (outputs_of k) ≤ 1
unfolding outputs_of
outputs_are_few Dff h = omega arith
outputs_are_few Dffe h = omega arith
outputs_are_few Sdff h = omega arith
outputs_are_few Sdffe h = omega arith
outputs_are_few Sdffce h = omega arith
outputs_are_few Adff h = omega arith
outputs_are_few Adffe h = omega arith
outputs_are_few Mem h = omega arith
outputs_are_few ScopeInfo h = omega arith
outputs_are_few _ h = absurd (h refl)

only_one : (rows : List (List (Option ℕ))) (p i b : ℕ) → length rows ≤ 1 → get_or (get_or rows p []) i None ≡ Some b → p ≡ 0
only_one rows zero i b h e = refl
only_one rows (suc p) i b h e = absurd (let past : get_or (get_or rows (suc p) []) i None ≡ None = ap (λ (r : List (Option ℕ)). get_or r i None) (get_or_past rows (suc p) [] (omega arith)) in cc)

abbrev HasOne : Cell → Type 0
HasOne x = (p i b : ℕ) → (role_of x.kind ≡ Combinational → ⊥) → output_at x p i ≡ Some b → p ≡ 0

one_by : (ns : List ℕ) (rc : RawCell) (o : Option Kind) → HasOne (cell_by ns rc o)
one_by ns rc None = λ p i b h e. absurd (cc)
one_by ns rc (Some k) = λ p i b h e.
    let few : length (outputs_of k) ≤ 1 = outputs_are_few k h in
    let same : length (map (λ (r : PortRow). map (target ns) (port_bits rc r)) (outputs_of k)) ≡ length (outputs_of k) = length-map (outputs_of k) (λ (r : PortRow). map (target ns) (port_bits rc r)) in
    only_one (map (λ (r : PortRow). map (target ns) (port_bits rc r)) (outputs_of k)) p i b (omega arith) e

cell_one : (ns : List ℕ) (rc : RawCell) → HasOne (cell_of ns rc)
unfolding cell_of
cell_one ns rc = one_by ns rc (kind_of rc.kind)

no_cell_one : HasOne no_cell
no_cell_one = λ p i b h e. absurd (cc)

-- ---- words of memories have bits

or_false : (a b : Bool) → (a || b) ≡ false → (a ≡ false) × (b ≡ false)
or_false true b h = absurd (cc)
or_false false b h = (refl, h)

fault_false : (b : Bool) (f : BuildFault) → fault_if b f ≡ None → b ≡ false
fault_false true f h = absurd (cc)
fault_false false f h = refl

first_else : (a b c d e f g : Option BuildFault) → (a else_by b else_by c else_by d else_by e else_by f else_by g) ≡ None → b ≡ None
first_else None b c d e f g h =
    let one = else_none (b else_by c else_by d else_by e else_by f) g h in
    let two = else_none (b else_by c else_by d else_by e) f one.0 in
    let three = else_none (b else_by c else_by d) e two.0 in
    let four = else_none (b else_by c) d three.0 in
    (else_none b c four.0).0
first_else (Some x) b c d e f g h = absurd (cc)

first_or : (a b c d e f g i : Bool) → (a || b || c || d || e || f || g || i) ≡ false → a ≡ false
first_or true b c d e f g i h = absurd (cc)
first_or false b c d e f g i h = refl

memory_form_false : (rc : RawCell) (role : Role) → role ≡ MemoryBlock → memory_form rc role ≡ None → has_bad_form rc ≡ false
memory_form_false rc MemoryBlock e h = fault_false (has_bad_form rc) _ h
memory_form_false rc Combinational e h = absurd (cc)
memory_form_false rc PlainRegister e h = absurd (cc)
memory_form_false rc ResetRegister e h = absurd (cc)
memory_form_false rc CarriedOver e h = absurd (cc)

not_zero : (x : ℕ) → (x == 0) ≡ false → 0 < x
not_zero x h = grind (arith, nat_tests)

has_width : (rc : RawCell) (k : Kind) → role_of k ≡ MemoryBlock → cell_fault_by rc (Some k) ≡ None → 0 < number_or_0 rc Width
has_width rc k e h =
    let form : memory_form rc (role_of k) ≡ None = first_else _ _ _ _ _ _ _ h in
    not_zero (number_or_0 rc Width) (first_or _ _ _ _ _ _ _ _ (memory_form_false rc (role_of k) e form))

only_mem : (k : Kind) → role_of k ≡ MemoryBlock → k ≡ Mem
only_mem Mem h = refl
only_mem _ h = absurd (cc)

width_given : (rc : RawCell) (o : Option ℕ) → number_given rc Width ≡ o → 0 < unwrap_or o 0 → number_in (numbers_of rc (parameters_of Mem)) Width ≡ unwrap_or o 0
unfolding parameters_of
width_given rc None e h = absurd (omega arith)
width_given rc (Some x) e h = ap (λ (o : Option ℕ). number_in (cons_option (option_map (λ (y : ℕ). (Width, y)) o) (filter_map (λ (p : Param). option_map (λ (y : ℕ). (p, y)) (number_given rc p)) (Size ∷ Offset ∷ Abits ∷ RdPorts ∷ WrPorts ∷ []))) Width) e

abbrev HasBits : Cell → Type 0
HasBits x = role_of x.kind ≡ MemoryBlock → 0 < width x

bits_by : (ns : List ℕ) (rc : RawCell) (o : Option Kind) → cell_fault_by rc o ≡ None → HasBits (cell_by ns rc o)
bits_by ns rc None h = λ e. absurd (cc)
bits_by ns rc (Some k) h = λ e.
    let wide : 0 < number_or_0 rc Width = has_width rc k e h in
    let given : number_in (numbers_of rc (parameters_of Mem)) Width ≡ number_or_0 rc Width = width_given rc (number_given rc Width) refl wide in
    let same : number_in (numbers_of rc (parameters_of k)) Width ≡ number_in (numbers_of rc (parameters_of Mem)) Width = ap (λ (j : Kind). number_in (numbers_of rc (parameters_of j)) Width) (only_mem k e) in
    omega arith

cell_bits : (ns : List ℕ) (rc : RawCell) → cell_fault rc ≡ None → HasBits (cell_of ns rc)
unfolding cell_of cell_fault
cell_bits ns rc h = bits_by ns rc (kind_of rc.kind) h

no_cell_bits : HasBits no_cell
no_cell_bits = λ e. absurd (cc)

cells_accepted : (raw : Raw) → IsAccepted raw → first_fault cell_fault raw.cells ≡ None
unfolding build_fault cells_fault
cells_accepted raw h = (else_none (first_fault cell_fault raw.cells) (memory_bits_fault raw) (third (counts_fault raw) (ports_fault raw) (cells_fault raw) (drivers_fault raw) (clocks_fault raw) (reads_fault raw) (inits_fault raw) h)).0 where
  third : (a b c d e f g : Option BuildFault) → (a else_by b else_by c else_by d else_by e else_by f else_by g) ≡ None → c ≡ None
  third None None c d e f g h =
      let one = else_none (c else_by d else_by e else_by f) g h in
      let two = else_none (c else_by d else_by e) f one.0 in
      let three = else_none (c else_by d) e two.0 in
      (else_none c d three.0).0
  third None (Some y) c d e f g h = absurd (cc)
  third (Some x) b c d e f g h = absurd (cc)

-- in an accepted netlist each register and memory has one output, of one bit or more for each word read
pub one_output : (raw : Raw) → IsAccepted raw → HasOneOutput (netlist_of raw)
unfolding netlist_of
one_output raw h = record {
  only = λ c p i b r e. netlist_cell (net_numbers raw) raw.cells c HasOne no_cell_one (λ rc. cell_one (net_numbers raw) rc) p i b r e;
  has_bits = λ c e. accepted_cell (net_numbers raw) raw.cells c HasBits (cells_accepted raw h) no_cell_bits (λ rc g. cell_bits (net_numbers raw) rc g) e;
}
