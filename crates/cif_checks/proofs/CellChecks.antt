-- Checks that go over lists, and what they leave known of an accepted cell.
use Rattle.std.specs.Prelude.{ℕ, zero, suc, ◌+◌, ◌*◌, ◌<◌, ◌≤◌, ◌≡◌, Bool, true, false, ◌||◌, ◌==◌, nat_lt, List, [], ◌∷◌, ◌++◌, length, get_or, map, sum, take, Option, Some, None}
use Rattle.std.proofs.Common.{arith, ap, refl, sym, ◌∙◌, lit≤, lit<}
use Rattle.std.proofs.lemmas.Bool.{ltb-false, eqb-true, not-false}
use Rattle.std.proofs.lemmas.List.Sums.{sum_by_more, sum-map}
use Rattle.std.proofs.Math.Nat.{mul-le-mul_right}
use Rattle.cif_defs.specs.Table.{kind_of, operands_of, outputs_of, clocks_of, ports_of, width_limit, shift_limit, shiftx_limit, joined_at, lut_limit}
use Rattle.cif_defs.specs.RawModule.{port_bits}
use Rattle.cif_defs.specs.declared.kinds.Kind.{Kind}
use Rattle.cif_defs.specs.declared.kinds.Kind.TheVariants.{Shl, Sshl, Shr, Sshr, Shift, Shiftx, Pmux, Bmux, Demux, Lut, Mem}
use Rattle.cif_defs.specs.declared.kinds.Param.TheVariants.{Width, Size, WrPorts}
use Rattle.cif_defs.specs.declared.kinds.CellPort.{CellPort}
use Rattle.cif_defs.specs.declared.kinds.CellPort.TheVariants.{A, B, Y, WrEn}
use Rattle.cif_defs.specs.declared.kinds.PortWidth.TheVariants.{Product}
use Rattle.cif_defs.specs.declared.kinds.PortRow.{PortRow}
use Rattle.cif_defs.specs.declared.raw_module.RawCell.{RawCell}
use Rattle.cif_checks.specs.declared.fault.BuildFault.{BuildFault}
use Rattle.cif_checks.specs.declared.cells.PortCheck.TheVariants.{TooWide, WrongWidth}
use Rattle.cif_checks.specs.Checks.{◌else_by◌, fault_if, first_fault, number_or_0, row_width, is_wide_memory, too_wide, wrong_width, known_cell_fault, cell_fault_by, cell_fault, memory_size_by, memory_size}
use Rattle.cif_checks.specs.PortChecks.{row_fault}
use Rattle.cif_checks.proofs.RawLaws.{number_small}

-- ---- one check after another

else_assoc : (a b c : Option BuildFault) → (a else_by b) else_by c ≡ a else_by (b else_by c)
else_assoc None b c = refl
else_assoc (Some f) b c = refl

else_none : (a b : Option BuildFault) → a else_by b ≡ None → (a ≡ None) × (b ≡ None)
else_none None b h = (refl, h)
else_none (Some f) b h = absurd (cc)

fault_none : (b : Bool) (fault : BuildFault) → fault_if b fault ≡ None → b ≡ false
fault_none true fault h = absurd (cc)
fault_none false fault h = refl

fault_append : {A : Type 0} (f : A → Option BuildFault) (xs ys : List A) → first_fault f (xs ++ ys) ≡ first_fault f xs else_by first_fault f ys
fault_append f [] ys = refl
fault_append f (x ∷ xs) ys = ap (λ (o : Option BuildFault). f x else_by o) (fault_append f xs ys) ∙ sym (else_assoc (f x) (first_fault f xs) (first_fault f ys))

fault_none_at : {A : Type 0} (f : A → Option BuildFault) (xs : List A) (i : ℕ) (d : A) → i < length xs → first_fault f xs ≡ None → f (get_or xs i d) ≡ None
fault_none_at f [] i d h none = absurd (omega arith)
fault_none_at f (x ∷ xs) zero d h none = (else_none (f x) (first_fault f xs) none).0
fault_none_at f (x ∷ xs) (suc i) d h none = fault_none_at f xs i d (omega arith) (else_none (f x) (first_fault f xs) none).1

-- ---- three groups, one after another

pub groups : (f : PortRow → Option BuildFault) (a b c ps : List PortRow) → a ++ b ++ c ≡ ps → first_fault f a else_by first_fault f b else_by first_fault f c ≡ first_fault f ps
groups f a b c ps q =
    ap (λ (o : Option BuildFault). o else_by first_fault f c) (sym (fault_append f a b)) ∙ sym (fault_append f (a ++ b) c) ∙ ap (first_fault f) q

-- ---- limits of widths

shift_small : (p : CellPort) → shift_limit p ≤ 65536
shift_small B = lit≤ tt
shift_small p = lit≤ tt

shiftx_small : (p : CellPort) → shiftx_limit p ≤ 65536
shiftx_small A = lit≤ tt
shiftx_small B = lit≤ tt
shiftx_small p = lit≤ tt

joined_small_a : (p : CellPort) → joined_at A p ≤ 65536
joined_small_a A = lit≤ tt
joined_small_a p = lit≤ tt

joined_small_b : (p : CellPort) → joined_at B p ≤ 65536
joined_small_b B = lit≤ tt
joined_small_b p = lit≤ tt

joined_small_y : (p : CellPort) → joined_at Y p ≤ 65536
joined_small_y Y = lit≤ tt
joined_small_y p = lit≤ tt

lut_small : (p : CellPort) → lut_limit p ≤ 65536
lut_small A = lit≤ tt
lut_small p = lit≤ tt

pub limit_small : (k : Kind) (p : CellPort) → width_limit k p ≤ 65536
unfolding width_limit
limit_small Shl p = shift_small p
limit_small Sshl p = shift_small p
limit_small Shr p = shift_small p
limit_small Sshr p = shift_small p
limit_small Shift p = shift_small p
limit_small Shiftx p = shiftx_small p
limit_small Pmux p = joined_small_b p
limit_small Bmux p = joined_small_a p
limit_small Demux p = joined_small_y p
limit_small Lut p = lut_small p
limit_small Mem p = lit≤ tt
limit_small k p = lit≤ tt

or_false : (a b : Bool) → (a || b) ≡ false → (a ≡ false) × (b ≡ false)
or_false true b h = absurd (cc)
or_false false b h = (refl, h)

-- ---- the outputs of a cell that passes the checks of widths are narrow

pub outputs_part : (f : PortRow → Option BuildFault) (k : Kind) → first_fault f (ports_of k) ≡ None → first_fault f (outputs_of k) ≡ None
unfolding ports_of
outputs_part f Mem h =
    (else_none (first_fault f (operands_of Mem)) (first_fault f (outputs_of Mem))
    (sym (fault_append f (operands_of Mem) (outputs_of Mem)) ∙ (else_none (first_fault f (operands_of Mem ++ outputs_of Mem)) (first_fault f (clocks_of Mem)) (sym (fault_append f (operands_of Mem ++ outputs_of Mem) (clocks_of Mem)) ∙ h)).0)).1
outputs_part f k h = (else_none (first_fault f (clocks_of k ++ operands_of k)) (first_fault f (outputs_of k)) (sym (fault_append f (clocks_of k ++ operands_of k) (outputs_of k)) ∙ h)).1

narrow_row : (c : RawCell) (k : Kind) (r : PortRow) → too_wide c k r ≡ None → wrong_width c r ≡ None → length (port_bits c r) ≤ 65536
narrow_row c k r t w =
    let within : row_width c r ≤ width_limit k r.port = ltb-false (width_limit k r.port) (row_width c r) (or_false (nat_lt (width_limit k r.port) (row_width c r)) (is_wide_memory c k r) (fault_none _ _ t)).0 in
    let same : length (port_bits c r) ≡ row_width c r = eqb-true (length (port_bits c r)) (row_width c r) (not-false (length (port_bits c r) == row_width c r) (fault_none _ _ w)) in
    let small : width_limit k r.port ≤ 65536 = limit_small k r.port in
    omega arith

pub narrow_outputs : (c : RawCell) (k : Kind) → first_fault (row_fault TooWide c k) (ports_of k) ≡ None → first_fault (row_fault WrongWidth c k) (ports_of k) ≡ None
    → (i : ℕ) (row : PortRow) → i < length (outputs_of k) → length (port_bits c (get_or (outputs_of k) i row)) ≤ 65536
narrow_outputs c k t w i row h =
    narrow_row c k (get_or (outputs_of k) i row)
    (fault_none_at (row_fault TooWide c k) (outputs_of k) i row h (outputs_part (row_fault TooWide c k) k t))
    (fault_none_at (row_fault WrongWidth c k) (outputs_of k) i row h (outputs_part (row_fault WrongWidth c k) k w))

-- ---- the bits of a memory that passes its checks

word_small : (c : RawCell) → first_fault (too_wide c Mem) (ports_of Mem) ≡ None → number_or_0 c Width ≤ 4096
unfolding ports_of operands_of outputs_of clocks_of
word_small c h =
    let at_enable : too_wide c Mem (record { port = WrEn; width = Product WrPorts Width }) ≡ None = fault_none_at (too_wide c Mem) (ports_of Mem) 1 (record { port = WrEn; width = Product WrPorts Width }) (lit< tt) h in
    ltb-false 4096 (number_or_0 c Width) (or_false _ (nat_lt 4096 (number_or_0 c Width)) (fault_none _ _ at_enable)).1

product_small : (size width : ℕ) → size < 4294967296 → width ≤ 4096 → size * width ≤ 17592186044416
product_small size width s w =
    let at_most : size * width ≤ 4294967296 * width = mul-le-mul_right width (let q : size ≤ 4294967296 = omega arith in q) in
    omega arith

-- a memory's words
pub memory_narrow : (c : RawCell) → known_cell_fault c Mem ≡ None → number_or_0 c Width ≤ 4096
memory_narrow c h = word_small c (else_none _ _ (else_none _ _ (else_none _ _ (else_none _ _ h).0).0).0).1

known_small : (c : RawCell) (k : Kind) → known_cell_fault c k ≡ None → memory_size_by c (Some k) ≤ 17592186044416
known_small c Mem h =
    product_small (number_or_0 c Size) (number_or_0 c Width) (number_small c Size) (memory_narrow c h)
known_small c k h = lit≤ tt

small_by : (c : RawCell) (k : Option Kind) → cell_fault_by c k ≡ None → memory_size_by c k ≤ 17592186044416
small_by c None h = lit≤ tt
small_by c (Some k) h = known_small c k h

cell_small : (c : RawCell) → cell_fault c ≡ None → memory_size c ≤ 17592186044416
unfolding cell_fault
cell_small c h = small_by c (kind_of c.kind) h

pub cell_small_at : (cs : List RawCell) (i : ℕ) (c : RawCell) → i < length cs → c ≡ get_or cs i c → first_fault cell_fault cs ≡ None → memory_size c ≤ 17592186044416
cell_small_at cs i c h e none = cell_small c (ap cell_fault e ∙ fault_none_at cell_fault cs i c h none)

pub sum_step : (cs : List RawCell) (i : ℕ) (c : RawCell) → i < length cs → c ≡ get_or cs i c → sum (map memory_size (take (i + 1) cs)) ≡ sum (map memory_size (take i cs)) + memory_size c
sum_step cs i c h e =
    sum-map memory_size (take (i + 1) cs) ∙ sum_by_more memory_size cs i c h
    ∙ ap (λ n. n + memory_size (get_or cs i c)) (sym (sum-map memory_size (take i cs)))
    ∙ ap (λ (x : RawCell). sum (map memory_size (take i cs)) + memory_size x) (sym e)
