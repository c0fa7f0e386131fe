-- What a cell that passes its checks has: its kind, its numbers, and how long its ports are.
use Rattle.std.specs.Prelude.{ℕ, ◌*◌, ◌≡◌, Bool, true, List, [], ◌∷◌, map, length, get_or, Option, Some, None, option_and_then, option_map, unwrap_or, refl}
use Rattle.std.specs.List.{flat_map}
use Rattle.std.proofs.Common.{sym, ap, subst, ◌∙◌}
use Rattle.std.proofs.lemmas.List.{append-nil, length-map}
use Rattle.cif_defs.specs.Kinds.{role_of, is_register}
use Rattle.cif_defs.specs.Table.{kind_of, operands_of, outputs_of, parameters_of, param_text, row}
use Rattle.cif_defs.specs.RawModule.{bits_by, digits_given, digits_read, needed_number, output_bits, port_bits, value_named}
use Rattle.cif_defs.specs.Cells.{Cell, number_of, shape_of, state_bits, state_bits_by, width}
use Rattle.cif_defs.specs.Fitted.{IsFitted, row_width}
use Rattle.cif_defs.specs.Memory.{MemoryShape}
use Rattle.cif_defs.specs.Accepted.{cell_by, cell_of, source, target}
use Rattle.cif_defs.specs.declared.kinds.Kind.{Kind}
use Rattle.cif_defs.specs.declared.kinds.Kind.TheVariants.{Dff, Dffe, Sdff, Sdffe, Sdffce, Adff, Adffe, Mem}
use Rattle.cif_defs.specs.declared.kinds.Role.{Role}
use Rattle.cif_defs.specs.declared.kinds.Role.TheVariants.{PlainRegister, ResetRegister}
use Rattle.cif_defs.specs.declared.kinds.CellPort.TheVariants.{Q, RdData}
use Rattle.cif_defs.specs.declared.kinds.PortWidth.TheVariants.{Of, Product}
use Rattle.cif_defs.specs.declared.kinds.Param.{Param}
use Rattle.cif_defs.specs.declared.kinds.Param.TheVariants.{Width, Size, Offset, Abits, RdPorts, WrPorts}
use Rattle.cif_defs.specs.declared.kinds.PortRow.{PortRow}
use Rattle.cif_defs.specs.declared.raw_module.ParamValue.{ParamValue}
use Rattle.cif_defs.specs.declared.raw_module.RawBit.{RawBit}
use Rattle.cif_defs.specs.declared.raw_module.RawCell.{RawCell}
use Rattle.cif_checks.specs.Checks.{cell_fault, cell_fault_by, number_or_0}
use Rattle.cif_cells.proofs.FittedCells.{cell_fitted, is_asked, number_kept}
use Rattle.cif_raw_runs.specs.Assigned.{raw_bit, words_read}

-- ---- a cell of a kind

-- a cell of this kind that passes its checks
pub record Passes (c : RawCell) (k : Kind) : Type 0 where
  pub kind : kind_of c.kind ≡ Some k
  pub passes : cell_fault c ≡ None

kind_by : (c : RawCell) (o : Option Kind) → kind_of c.kind ≡ o → cell_fault_by c o ≡ None → (k : Kind) × (kind_of c.kind ≡ Some k)
kind_by c None e h = absurd (cc)
kind_by c (Some k) e h = (k, e)

-- a cell that passes has a kind
pub kind_known : (c : RawCell) → cell_fault c ≡ None → (k : Kind) × (kind_of c.kind ≡ Some k)
unfolding cell_fault
kind_known c h = kind_by c (kind_of c.kind) refl h

pub cell_as : (c : RawCell) (k : Kind) → kind_of c.kind ≡ Some k → cell_of [] c ≡ cell_by [] c (Some k)
unfolding cell_of
cell_as c k e = ap (cell_by [] c) e

pub number_as : (c : RawCell) (k : Kind) (p : Param) → kind_of c.kind ≡ Some k → is_asked (parameters_of k) p ≡ true → number_of (cell_of [] c) p ≡ number_or_0 c p
number_as c k p e asked = ap (λ (d : Cell). number_of d p) (cell_as c k e) ∙ number_kept [] c k p asked

fitted_as : (c : RawCell) (k : Kind) → Passes c k → IsFitted (cell_by [] c (Some k))
fitted_as c k h = subst IsFitted (cell_as c k h.kind) (cell_fitted [] c h.passes)

-- ---- how long its ports are

lengths_mapped : {A B : Type 0} (f : A → B) (xss : List (List A)) → map length (map (λ (xs : List A). map f xs) xss) ≡ map length xss
lengths_mapped f [] = refl
lengths_mapped f (xs ∷ xss) = ap (λ (n : ℕ). n ∷ map length (map (λ ys. map f ys) xss)) (length-map xs f) ∙ ap (λ (ns : List ℕ). length xs ∷ ns) (lengths_mapped f xss)

rows_mapped : {A : Type 0} (f : RawBit → A) (c : RawCell) (rows : List PortRow) → map length (map (λ (r : PortRow). map f (port_bits c r)) rows) ≡ map length (map (port_bits c) rows)
rows_mapped f c [] = refl
rows_mapped f c (r ∷ rows) = ap (λ (n : ℕ). n ∷ map length (map (λ (q : PortRow). map f (port_bits c q)) rows)) (length-map (port_bits c r) f) ∙ ap (λ (ns : List ℕ). length (port_bits c r) ∷ ns) (rows_mapped f c rows)

-- as long as the table of kinds says
pub operand_lengths : (c : RawCell) (k : Kind) → Passes c k → map length (map (port_bits c) (operands_of k)) ≡ map (row_width (cell_by [] c (Some k))) (operands_of k)
operand_lengths c k h = sym (rows_mapped (source []) c (operands_of k)) ∙ (fitted_as c k h).operands

pub read_lengths : (v : ℕ → Bool) (c : RawCell) (k : Kind) → map length (words_read v c k) ≡ map length (map (port_bits c) (operands_of k))
read_lengths v c k = lengths_mapped (raw_bit v) (map (port_bits c) (operands_of k))

output_lengths : (c : RawCell) (k : Kind) → Passes c k → map length (map (port_bits c) (outputs_of k)) ≡ map (row_width (cell_by [] c (Some k))) (outputs_of k)
output_lengths c k h = sym (rows_mapped (target []) c (outputs_of k)) ∙ (fitted_as c k h).outputs

one_length : (c : RawCell) (k : Kind) (rows : List PortRow) (r : PortRow) → rows ≡ r ∷ [] → map length (map (port_bits c) rows) ≡ map (row_width (cell_by [] c (Some k))) rows → length (flat_map (port_bits c) rows) ≡ row_width (cell_by [] c (Some k)) r
one_length c k [] r e h = absurd (cc)
one_length c k (q ∷ s ∷ rows) r e h = absurd (cc)
one_length c k (q ∷ []) r e h =
    let same : q ≡ r = cc in
    ap length (append-nil (port_bits c q)) ∙ ap (λ (ns : List ℕ). get_or ns 0 0) h ∙ ap (row_width (cell_by [] c (Some k))) same

-- a cell with one output port
pub output_length : (c : RawCell) (k : Kind) (r : PortRow) → outputs_of k ≡ r ∷ [] → Passes c k → length (output_bits c) ≡ row_width (cell_of [] c) r
output_length c k r e h =
    ap (λ o. length (bits_by outputs_of c o)) h.kind ∙ one_length c k (outputs_of k) r e (output_lengths c k h) ∙ ap (λ (d : Cell). row_width d r) (sym (cell_as c k h.kind))

register_output : (k : Kind) → is_register (role_of k) ≡ true → outputs_of k ≡ row Q (Of Width) ∷ []
unfolding outputs_of
register_output Dff e = refl
register_output Dffe e = refl
register_output Sdff e = refl
register_output Sdffe e = refl
register_output Sdffce e = refl
register_output Adff e = refl
register_output Adffe e = refl
register_output _ e = absurd (cc)

-- a register shows as many bits as it stores
pub register_length : (c : RawCell) (k : Kind) → is_register (role_of k) ≡ true → Passes c k → length (output_bits c) ≡ width (cell_of [] c)
register_length c k e h = output_length c k (row Q (Of Width)) (register_output k e) h

memory_output : outputs_of Mem ≡ row RdData (Product RdPorts Width) ∷ []
unfolding outputs_of
memory_output = refl

-- a memory shows a word at each read port
pub memory_length : (c : RawCell) → Passes c Mem → length (output_bits c) ≡ number_of (cell_of [] c) RdPorts * width (cell_of [] c)
memory_length c h = output_length c Mem (row RdData (Product RdPorts Width)) memory_output h

-- ---- how much it stores

state_as : (c : RawCell) (k : Kind) → kind_of c.kind ≡ Some k → state_bits (cell_of [] c) ≡ state_bits_by (role_of k) (cell_of [] c)
state_as c k e = ap (λ (r : Role). state_bits_by r (cell_of [] c)) (ap (λ (d : Cell). role_of d.kind) (cell_as c k e))

register_state_by : (role : Role) (d : Cell) → is_register role ≡ true → state_bits_by role d ≡ width d
register_state_by PlainRegister d e = refl
register_state_by ResetRegister d e = refl
register_state_by _ d e = absurd (cc)

pub register_state : (c : RawCell) (k : Kind) → kind_of c.kind ≡ Some k → is_register (role_of k) ≡ true → state_bits (cell_of [] c) ≡ width (cell_of [] c)
register_state c k e r = state_as c k e ∙ register_state_by (role_of k) (cell_of [] c) r

-- ---- numbers that are given alike

pub number_alike : (c d : RawCell) (p q : Param) → value_named (param_text q) d.parameters ≡ value_named (param_text p) c.parameters → number_or_0 d q ≡ number_or_0 c p
number_alike c d p q e = ap (λ (o : Option ParamValue). unwrap_or (option_and_then needed_number o) 0) e

pub digits_alike : (c d : RawCell) (p q : Param) → value_named (param_text q) d.parameters ≡ value_named (param_text p) c.parameters → digits_given d q ≡ digits_given c p
digits_alike c d p q e = ap (λ (o : Option ParamValue). unwrap_or (option_map digits_read o) []) e

-- the shape of a memory, by its numbers
abbrev shape_by : ℕ → ℕ → ℕ → ℕ → ℕ → MemoryShape
shape_by w s o a p = record { width = w; size = s; offset = o; address_bits = a; write_ports = p }

abbrev numbers_shape : RawCell → MemoryShape
numbers_shape c = shape_by (number_or_0 c Width) (number_or_0 c Size) (number_or_0 c Offset) (number_or_0 c Abits) (number_or_0 c WrPorts)

shape_same : (w w' s s' o o' a a' p p' : ℕ) → w ≡ w' → s ≡ s' → o ≡ o' → a ≡ a' → p ≡ p' → shape_by w s o a p ≡ shape_by w' s' o' a' p'
shape_same w w' s s' o o' a a' p p' e f g h i =
    ap (λ x. shape_by x s o a p) e ∙ ap (λ x. shape_by w' x o a p) f ∙ ap (λ x. shape_by w' s' x a p) g ∙ ap (λ x. shape_by w' s' o' x p) h ∙ ap (λ x. shape_by w' s' o' a' x) i

shape_as : (c : RawCell) → kind_of c.kind ≡ Some Mem → shape_of (cell_of [] c) ≡ numbers_shape c
unfolding parameters_of
shape_as c e =
    shape_same _ _ _ _ _ _ _ _ _ _ (number_as c Mem Width e refl) (number_as c Mem Size e refl) (number_as c Mem Offset e refl) (number_as c Mem Abits e refl) (number_as c Mem WrPorts e refl)

abbrev pub GivenAlike : RawCell → RawCell → Param → Type 0
GivenAlike c d p = value_named (param_text p) d.parameters ≡ value_named (param_text p) c.parameters

pub shape_alike : (c d : RawCell) → kind_of c.kind ≡ Some Mem → kind_of d.kind ≡ Some Mem → GivenAlike c d Width → GivenAlike c d Size → GivenAlike c d Offset → GivenAlike c d Abits → GivenAlike c d WrPorts
    → shape_of (cell_of [] d) ≡ shape_of (cell_of [] c)
shape_alike c d e f w s o a p =
    shape_as d f
    ∙ shape_same _ _ _ _ _ _ _ _ _ _ (number_alike c d Width Width w) (number_alike c d Size Size s) (number_alike c d Offset Offset o) (number_alike c d Abits Abits a) (number_alike c d WrPorts WrPorts p)
    ∙ sym (shape_as c e)

pub read_ports_alike : (c d : RawCell) → kind_of c.kind ≡ Some Mem → kind_of d.kind ≡ Some Mem → GivenAlike c d RdPorts → number_of (cell_of [] d) RdPorts ≡ number_of (cell_of [] c) RdPorts
unfolding parameters_of
read_ports_alike c d e f r = number_as d Mem RdPorts f refl ∙ number_alike c d RdPorts RdPorts r ∙ sym (number_as c Mem RdPorts e refl)

-- a memory without write ports
pub no_writes : (c : RawCell) → kind_of c.kind ≡ Some Mem → number_or_0 c WrPorts ≡ 0 → (shape_of (cell_of [] c)).write_ports ≡ 0
unfolding parameters_of
no_writes c e z = number_as c Mem WrPorts e refl ∙ z

has_width : (k : Kind) → is_register (role_of k) ≡ true → is_asked (parameters_of k) Width ≡ true
unfolding parameters_of
has_width Dff e = refl
has_width Dffe e = refl
has_width Sdff e = refl
has_width Sdffe e = refl
has_width Sdffce e = refl
has_width Adff e = refl
has_width Adffe e = refl
has_width _ e = absurd (cc)

pub width_alike : (c d : RawCell) (k j : Kind) → kind_of c.kind ≡ Some k → kind_of d.kind ≡ Some j → is_register (role_of k) ≡ true → is_register (role_of j) ≡ true → GivenAlike c d Width
    → width (cell_of [] d) ≡ width (cell_of [] c)
width_alike c d k j e f r s w = number_as d j Width f (has_width j s) ∙ number_alike c d Width Width w ∙ sym (number_as c k Width e (has_width k r))
