-- No cell weighs so much that the numbers of its further cells have 64 digits.
use Rattle.std.specs.Prelude.{ℕ, ◌+◌, ◌*◌, ◌^◌, ◌<◌, ◌≤◌, ◌≡◌, Bool, true, List, Option, Some, None, refl, cond}
use Rattle.std.proofs.Common.{arith, sym, subst}
use Rattle.std.proofs.lemmas.Bool.{cond_both}
use Rattle.std.proofs.Math.Nat.{mul-le-mul}
use Rattle.cif_defs.specs.Accepted.{cell_of, cell_by, numbers_of}
use Rattle.cif_defs.specs.Cells.{Cell, number_of, number_in}
use Rattle.cif_defs.specs.Fitted.{IsFitted, AllWithin}
use Rattle.cif_defs.specs.Table.{kind_of, parameters_of, operands_of, outputs_of, width_limit}
use Rattle.cif_defs.specs.Weights.{weight, weight_by, blocks_width, wide_steps}
use Rattle.cif_defs.specs.declared.kinds.Kind.{Kind}
use Rattle.cif_defs.specs.declared.kinds.Kind.TheVariants.{Shl, Sshl, Shr, Sshr, Shift, Shiftx, Pmux, Bmux, Demux, Lut, Mem}
use Rattle.cif_defs.specs.declared.kinds.CellPort.TheVariants.{A, Y}
use Rattle.cif_defs.specs.declared.kinds.Param.{Param}
use Rattle.cif_defs.specs.declared.kinds.Param.TheVariants.{AWidth, BWidth, SWidth, Width, RdPorts, WrPorts}
use Rattle.cif_defs.specs.declared.raw_module.RawCell.{RawCell}
use Rattle.cif_checks.specs.Checks.{cell_fault, number_or_0}
use Rattle.cif_cells.proofs.FittedCells.{cell_fitted}
use Rattle.cif_checks.proofs.RawLaws.{number_small}
use Rattle.cif_checks.proofs.CellChecks.{limit_small}
use Rattle.cif_nets.proofs.InitLaws.{is_plain, is_among, number_is}

-- ---- the numbers of a cell are small

either_small : (b : Bool) (x : ℕ) → x < 4294967296 → cond b x 0 < 4294967296
either_small b x h = cond_both b x 0 (λ y. y < 4294967296) (λ _. h) (λ _. omega arith)

small_by : (ns : List ℕ) (cell : RawCell) (o : Option Kind) (p : Param) → is_plain p ≡ true → number_of (cell_by ns cell o) p < 4294967296
small_by ns cell None p plain = omega arith
small_by ns cell (Some k) p plain =
    let e : number_in (numbers_of cell (parameters_of k)) p ≡ cond (is_among p (parameters_of k)) (number_or_0 cell p) 0 = number_is cell p (parameters_of k) plain in
    subst (λ x. x < 4294967296) (sym e) (either_small (is_among p (parameters_of k)) (number_or_0 cell p) (number_small cell p))

abbrev IsSmall : Cell → Type 0
IsSmall c = (p : Param) → is_plain p ≡ true → number_of c p < 4294967296

small : (ns : List ℕ) (cell : RawCell) → IsSmall (cell_of ns cell)
unfolding cell_of
small ns cell p plain = small_by ns cell (kind_of cell.kind) p plain

-- ---- weights

product_small : (a b : ℕ) → a < 4294967296 → b < 4294967296 → 24 * (b + 1) * (1 + wide_steps a) < 10 ^ 64
product_small a b h k =
    let first : 24 * (b + 1) ≤ 103079215104 = omega arith in
    let second : 1 + wide_steps a ≤ 4294967296 = omega arith in
    let both : 24 * (b + 1) * (1 + wide_steps a) ≤ 103079215104 * 4294967296 = mul-le-mul first second in
    omega arith

light_by : (k : Kind) (c : Cell) → IsSmall c → ((k ≡ Bmux) → blocks_width c ≤ 65536) → ((k ≡ Demux) → blocks_width c ≤ 65536) → weight_by k c < 10 ^ 64
unfolding weight_by
light_by Shl c s e f = (let small = s BWidth refl in omega arith)
light_by Sshl c s e f = (let small = s BWidth refl in omega arith)
light_by Shr c s e f = (let small = s BWidth refl in omega arith)
light_by Sshr c s e f = (let small = s BWidth refl in omega arith)
light_by Shift c s e f = (let small = s BWidth refl in omega arith)
light_by Shiftx c s e f = product_small (number_of c AWidth) (number_of c BWidth) (s AWidth refl) (s BWidth refl)
light_by Pmux c s e f = (let small = s SWidth refl in omega arith)
light_by Bmux c s e f = (let small = s SWidth refl in let narrow : blocks_width c ≤ 65536 = e refl in omega arith)
light_by Demux c s e f = (let small = s SWidth refl in let narrow : blocks_width c ≤ 65536 = f refl in omega arith)
light_by Lut c s e f = (let small = s Width refl in omega arith)
light_by Mem c s e f = (let reads = s RdPorts refl in let writes = s WrPorts refl in omega arith)
light_by _ c s e f = omega arith

bmux_narrow : (c : Cell) → IsFitted c → c.kind ≡ Bmux → blocks_width c ≤ 65536
unfolding operands_of
bmux_narrow c h e =
    let all : AllWithin c (operands_of Bmux) = subst (λ k. AllWithin c (operands_of k)) e (h.operands_within (λ m. absurd (cc))) in
    let first : blocks_width c ≤ width_limit c.kind A = all.0.limit in
    let limit : width_limit c.kind A ≤ 65536 = limit_small c.kind A in
    omega arith

demux_narrow : (c : Cell) → IsFitted c → c.kind ≡ Demux → blocks_width c ≤ 65536
unfolding outputs_of
demux_narrow c h e =
    let all : AllWithin c (outputs_of Demux) = subst (λ k. AllWithin c (outputs_of k)) e (h.outputs_within (λ m. absurd (cc))) in
    let first : blocks_width c ≤ width_limit c.kind Y = all.0.limit in
    let limit : width_limit c.kind Y ≤ 65536 = limit_small c.kind Y in
    omega arith

light : (ns : List ℕ) (cell : RawCell) → IsFitted (cell_of ns cell) → weight (cell_of ns cell) < 10 ^ 64
light ns cell h = light_by (cell_of ns cell).kind (cell_of ns cell) (small ns cell) (bmux_narrow (cell_of ns cell) h) (demux_narrow (cell_of ns cell) h)

pub light_cell : (ns : List ℕ) (cell : RawCell) → cell_fault cell ≡ None → weight (cell_of ns cell) < 10 ^ 64
light_cell ns cell h = light ns cell (cell_fitted ns cell h)
