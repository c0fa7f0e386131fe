-- How much cells store, by the numbers that they give.
use Rattle.std.specs.Prelude.{ℕ, ◌*◌, ◌≡◌, ◌≢◌, ◌==◌, Bool, true, false, not, List, [], ◌∷◌, ◌++◌, length, bytes_eq, codes, Option, Some, None, option_and_then, unwrap_or, refl, if◌then◌else◌}
use Rattle.std.proofs.Common.{sym, ap, ◌∙◌, inl}
use Rattle.std.proofs.lemmas.Bool.{eqb-true, not-false}
use Rattle.cif_defs.specs.Kinds.{is_memory, is_register, role_of}
use Rattle.cif_defs.specs.Table.{clocks_of, kind_of, operands_of, outputs_of, param_text, parameters_of, ports_of, row}
use Rattle.cif_defs.specs.RawModule.{needed_number, output_bits, port_bits}
use Rattle.cif_defs.specs.Cells.{Cell, number_of, state_bits, state_bits_by, width}
use Rattle.cif_defs.specs.Accepted.{cell_by, cell_of}
use Rattle.cif_defs.specs.declared.kinds.CellPort.TheVariants.{Q}
use Rattle.cif_defs.specs.declared.kinds.Kind.{Kind}
use Rattle.cif_defs.specs.declared.kinds.Kind.TheVariants.{Dff, Dffe, Sdff, Sdffe, Sdffce, Adff, Adffe, Mem}
use Rattle.cif_defs.specs.declared.kinds.Param.{Param}
use Rattle.cif_defs.specs.declared.kinds.Param.TheVariants.{Init, Offset, Size, Width}
use Rattle.cif_defs.specs.declared.kinds.PortRow.{PortRow}
use Rattle.cif_defs.specs.declared.kinds.PortWidth.TheVariants.{Of}
use Rattle.cif_defs.specs.declared.kinds.Role.{Role}
use Rattle.cif_defs.specs.declared.kinds.Role.TheVariants.{Combinational, PlainRegister, ResetRegister, MemoryBlock, CarriedOver}
use Rattle.cif_defs.specs.declared.raw_module.ParamValue.{ParamValue}
use Rattle.cif_defs.specs.declared.raw_module.RawCell.{RawCell}
use Rattle.cif_checks.specs.Checks.{◌else_by◌, cell_fault, constant_output, first_fault, known_cell_fault, memory_form, missing_port, number_or_0, parameters_fault, too_wide, wrong_width, zero_width}
use Rattle.cif_nets.proofs.FewBits.{known_passes}
use Rattle.cif_nets.proofs.InitLaws.{is_among, is_plain, number_is}
use Rattle.cif_nets.proofs.Kept.{one_output}
use Rattle.cif_nets.proofs.Passed.{each_passes, first_passes, next_passes, test_passes}
use Rattle.cif_nets.proofs.Places.{Has, Has-right}
use Rattle.cif_augment.specs.Names.{has_role, has_role_by, is_reset_register}
use Rattle.cif_augment.specs.Additions.{IsTaintMemory, copy_kind, given}
use Rattle.cif_built_inputs.proofs.Finds.{name_is}
use Rattle.cif_built_inputs.proofs.Named.{kind_of_cell}

-- ---- numbers that are given

pub same_number : (c d : RawCell) (p : Param) → given d p ≡ given c p → number_or_0 d p ≡ number_or_0 c p
same_number c d p e = ap (λ (o : Option ParamValue). unwrap_or (option_and_then needed_number o) 0) e

number_here : (c : RawCell) (k : Kind) (p : Param) → kind_of c.kind ≡ Some k → is_plain p ≡ true → number_of (cell_of [] c) p ≡ (if is_among p (parameters_of k) then number_or_0 c p else 0)
unfolding cell_of
number_here c k p e plain = ap (λ (o : Option Kind). number_of (cell_by [] c o) p) e ∙ number_is c p (parameters_of k) plain

given_number : (c : RawCell) (k : Kind) (p : Param) → kind_of c.kind ≡ Some k → is_plain p ≡ true → is_among p (parameters_of k) ≡ true → number_of (cell_of [] c) p ≡ number_or_0 c p
given_number c k p e plain among = number_here c k p e plain ∙ ap (λ b. if b then number_or_0 c p else 0) among

no_number : (c : RawCell) (k : Kind) (p : Param) → kind_of c.kind ≡ Some k → is_plain p ≡ true → is_among p (parameters_of k) ≡ false → number_of (cell_of [] c) p ≡ 0
no_number c k p e plain among = number_here c k p e plain ∙ ap (λ b. if b then number_or_0 c p else 0) among

register_parameters : (k : Kind) → is_register (role_of k) ≡ true → (is_among Width (parameters_of k) ≡ true) × (is_among Offset (parameters_of k) ≡ false)
unfolding parameters_of
register_parameters Dff e = (refl, refl)
register_parameters Dffe e = (refl, refl)
register_parameters Sdff e = (refl, refl)
register_parameters Sdffe e = (refl, refl)
register_parameters Sdffce e = (refl, refl)
register_parameters Adff e = (refl, refl)
register_parameters Adffe e = (refl, refl)
register_parameters _ e = absurd (cc)

pub memory_kind : (k : Kind) → is_memory (role_of k) ≡ true → k ≡ Mem
memory_kind Mem e = refl
memory_kind _ e = absurd (cc)

-- ---- registers

-- how much a cell stores, in rows of which width, from which address on
pub record HasSizes (c : RawCell) (n w o : ℕ) : Type 0 where
  pub bits : state_bits (cell_of [] c) ≡ n
  pub wide : width (cell_of [] c) ≡ w
  pub offset : number_of (cell_of [] c) Offset ≡ o

register_state : (role : Role) (c : Cell) → is_register role ≡ true → state_bits_by role c ≡ width c
register_state PlainRegister c e = refl
register_state ResetRegister c e = refl
register_state MemoryBlock c e = absurd (cc)
register_state Combinational c e = absurd (cc)
register_state CarriedOver c e = absurd (cc)

pub register_sizes : (c : RawCell) (k : Kind) → kind_of c.kind ≡ Some k → is_register (role_of k) ≡ true → HasSizes c (number_or_0 c Width) (number_or_0 c Width) 0
register_sizes c k e r =
    let has = register_parameters k r in
    let wide = given_number c k Width e refl has.0 in
    record {
      bits = register_state (role_of (cell_of [] c).kind) (cell_of [] c) (ap (λ (l : Kind). is_register (role_of l)) (kind_of_cell [] c k e) ∙ r) ∙ wide;
      wide = wide;
      offset = no_number c k Offset e refl has.1;
    }

-- ---- memories

memory_parameters : (is_among Width (parameters_of Mem) ≡ true) × (is_among Size (parameters_of Mem) ≡ true) × (is_among Offset (parameters_of Mem) ≡ true)
unfolding parameters_of
memory_parameters = (refl, refl, refl)

pub memory_sizes : (c : RawCell) → kind_of c.kind ≡ Some Mem → HasSizes c (number_or_0 c Size * number_or_0 c Width) (number_or_0 c Width) (number_or_0 c Offset)
memory_sizes c e =
    let wide = given_number c Mem Width e refl memory_parameters.0 in
    let size = given_number c Mem Size e refl memory_parameters.1 in
    record {
      bits = ap (λ (l : Kind). state_bits_by (role_of l) (cell_of [] c)) (kind_of_cell [] c Mem e) ∙ ap (λ m. m * width (cell_of [] c)) size ∙ ap (λ m. number_or_0 c Size * m) wide;
      wide = wide;
      offset = given_number c Mem Offset e refl memory_parameters.2;
    }

apart : (a b : List ℕ) → bytes_eq a b ≡ false → a ≢ b
apart a b f e = (let t : bytes_eq a b ≡ true = name_is a b e in absurd (cc))

pub taint_memory_number : (c d : RawCell) (p : Param) → IsTaintMemory c d → bytes_eq (param_text p) (param_text Init) ≡ false → bytes_eq (param_text p) (codes "MEMID") ≡ false → number_or_0 d p ≡ number_or_0 c p
taint_memory_number c d p is not_init not_name = same_number c d p (is.parameters (param_text p) (apart (param_text p) (param_text Init) not_init) (apart (param_text p) (codes "MEMID") not_name))

-- ---- roles

pub role_as : (test : Role → Bool) (c : RawCell) (k : Kind) → kind_of c.kind ≡ Some k → has_role test c ≡ true → test (role_of k) ≡ true
role_as test c k e h = sym (ap (has_role_by test) e) ∙ h

-- ---- copies

pub record CopyKind (k l : Kind) : Type 0 where
  pub kind : kind_of (copy_kind (Some k)) ≡ Some l
  pub register : is_register (role_of l) ≡ true
  pub outputs : outputs_of l ≡ row Q (Of Width) ∷ []
  pub among : Has (ports_of l) (row Q (Of Width))

pub copy_kinds : (k : Kind) → is_reset_register (role_of k) ≡ true → (l : Kind) × CopyKind k l
unfolding outputs_of ports_of
copy_kinds Adff e = (Sdff, record { kind = refl; register = refl; outputs = refl; among = Has-right (clocks_of Sdff ++ operands_of Sdff) (outputs_of Sdff) (row Q (Of Width)) (inl refl) })
copy_kinds Adffe e = (Sdffe, record { kind = refl; register = refl; outputs = refl; among = Has-right (clocks_of Sdffe ++ operands_of Sdffe) (outputs_of Sdffe) (row Q (Of Width)) (inl refl) })
copy_kinds _ e = absurd (cc)

widths_pass : (c : RawCell) (k : Kind) → known_cell_fault c k ≡ None → first_fault (wrong_width c) (ports_of k) ≡ None
widths_pass c k h =
    let forms = parameters_fault c k else_by memory_form c (role_of k) in
    let zeros = forms else_by first_fault (zero_width c k) (ports_of k) in
    let wide = zeros else_by first_fault (too_wide c k) (ports_of k) in
    let missing = wide else_by first_fault (missing_port c) (ports_of k) in
    let wrong = missing else_by first_fault (wrong_width c) (ports_of k) in
    next_passes missing (first_fault (wrong_width c) (ports_of k)) (first_passes wrong (first_fault (constant_output c) (outputs_of k)) h)

-- its outputs are as many as it stores
pub outputs_long : (c : RawCell) (l : Kind) → cell_fault c ≡ None → kind_of c.kind ≡ Some l → outputs_of l ≡ row Q (Of Width) ∷ [] → Has (ports_of l) (row Q (Of Width)) → length (output_bits c) ≡ number_or_0 c Width
outputs_long c l passes e outputs among =
    let r : PortRow = row Q (Of Width) in
    let fits = test_passes (not (length (port_bits c r) == number_or_0 c Width)) _ (each_passes (wrong_width c) (ports_of l) r (widths_pass c l (known_passes c l passes e)) among) in
    ap length (one_output c l r e outputs) ∙ eqb-true (length (port_bits c r)) (number_or_0 c Width) (not-false (length (port_bits c r) == number_or_0 c Width) fits)
