-- What a cell of a case has.
use Rattle.std.specs.Prelude.{ℕ, ◌<◌, ◌≤◌, ◌≡◌, ◌≢◌, Bool, false, List, [], ◌∷◌, map, length, get_or, Option}
use Rattle.std.proofs.Common.{arith, ap, sym, ◌∙◌, subst}
use Rattle.std.proofs.lemmas.List.{get_or_default, length-map}
use Rattle.cif_defs.specs.Words.{Word}
use Rattle.cif_defs.specs.Kinds.{role_of}
use Rattle.cif_defs.specs.Table.{outputs_of}
use Rattle.cif_defs.specs.Accepted.{netlist_of}
use Rattle.cif_defs.specs.Cells.{Cell, state_bits, state_bits_by, width}
use Rattle.cif_defs.specs.Fitted.{IsFitted, operand_widths, row_width}
use Rattle.cif_defs.specs.Netlist.{cell_at, no_cell}
use Rattle.cif_defs.specs.Run.{operand_words}
use Rattle.cif_defs.specs.TaintRun.{operand_taints}
use Rattle.cif_defs.specs.declared.kinds.Kind.{Kind}
use Rattle.cif_defs.specs.declared.kinds.Kind.TheVariants.{Mem}
use Rattle.cif_defs.specs.declared.kinds.Role.{Role}
use Rattle.cif_defs.specs.declared.kinds.Role.TheVariants.{Combinational, MemoryBlock, ResetRegister}
use Rattle.cif_defs.specs.declared.raw_module.Raw.{Raw}
use Rattle.cif_checks.specs.Checks.{IsAccepted}
use Rattle.cif_cells.specs.NetlistView.{AreFitted}
use Rattle.cif_kinds.specs.StateCells.{HasMemoryNumbers}
use Rattle.cif_cells.proofs.FittedCells.{fitted_at}
use Rattle.cif_cells.proofs.MemoryCells.{memory_numbers}
use Rattle.cif_nets.proofs.Wired.{memory_kind}
use Rattle.cif_cycle.specs.CellWords.{AreNarrow}
use Rattle.cif_cycle.proofs.ResetWords.{ports_of_register}
use Rattle.cif_cycle.proofs.SourceWords.{narrow_operands}
use Rattle.cif_register_bits.proofs.SourceWidths.{taints_wide, words_wide}

cell_found : (raw : Raw) (cells : List Cell) (c : ℕ) (x : Cell) → cells ≡ (netlist_of raw).cells → x ≡ get_or cells c x → c < length (netlist_of raw).cells → x ≡ cell_at (netlist_of raw) c
cell_found raw cells c x e h l = h ∙ ap (λ (xs : List Cell). get_or xs c x) e ∙ get_or_default (netlist_of raw).cells c x no_cell l

pub fitted_found : (raw : Raw) (cells : List Cell) (c : ℕ) (x : Cell) → AreFitted cells → cells ≡ (netlist_of raw).cells → x ≡ get_or cells c x → c < length (netlist_of raw).cells → IsFitted x
fitted_found raw cells c x f e h l =
    let inside : c < length cells = (let q : length cells ≡ length (netlist_of raw).cells = ap length e in omega arith) in
    subst (λ (z : Cell). IsFitted z) (sym (h ∙ get_or_default cells c x no_cell inside)) (fitted_at cells f c inside)

pub numbers_found : (raw : Raw) (cells : List Cell) (c : ℕ) (x : Cell) → IsAccepted raw → cells ≡ (netlist_of raw).cells → x ≡ get_or cells c x → c < length (netlist_of raw).cells → role_of x.kind ≡ MemoryBlock → HasMemoryNumbers x
numbers_found raw cells c x a e h l r =
    let same : x ≡ cell_at (netlist_of raw) c = cell_found raw cells c x e h l in
    subst (λ (z : Cell). HasMemoryNumbers z) (sym same) (memory_numbers raw a c l (sym (ap (λ (z : Cell). role_of z.kind) same) ∙ r))

-- ---- combinational cells

no_memory : (k : Kind) → role_of k ≡ Combinational → k ≢ Mem
no_memory k r e = absurd (let q : role_of Mem ≡ Combinational = ap role_of (sym e) ∙ r in cc)

pub narrow_found : (x y : Cell) → x ≡ y → IsFitted x → role_of y.kind ≡ Combinational → AreNarrow x.operands
narrow_found x y e f r = narrow_operands x f (no_memory x.kind (ap (λ (z : Cell). role_of z.kind) e ∙ r))

pub values_found : (v : ℕ → Bool) (x : Cell) (given vs : List Word) → given ≡ vs → vs ≡ operand_words v x → map length given ≡ operand_widths x
values_found v x given vs q h = ap (λ (ws : List Word). map length ws) (q ∙ h) ∙ words_wide v x.operands

pub taints_found : (v : ℕ → Bool) (x : Cell) (given ts : List Word) → given ≡ ts → ts ≡ operand_taints v x → map length given ≡ operand_widths x
taints_found v x given ts q h = ap (λ (ws : List Word). map length ws) (q ∙ h) ∙ taints_wide v x.operands

-- ---- the one output of a register and of a memory

some_output : {A : Type 0} (outs : List (List A)) (n : ℕ) → length (get_or outs 0 []) ≡ n → 1 ≤ n → 0 < length outs
some_output [] n e l = absurd (let z : 0 ≡ n = e in omega arith)
some_output (o ∷ outs) n e l = omega arith

pub register_output : (c : Cell) → role_of c.kind ≡ ResetRegister → IsFitted c → 0 < length c.outputs
register_output c e f = let ports = ports_of_register c (λ b. false) e f in some_output c.outputs (width c) ports.q ports.some

pub memory_output : (c : Cell) → role_of c.kind ≡ MemoryBlock → IsFitted c → 0 < length c.outputs
unfolding outputs_of
memory_output c e f =
    let kind : c.kind ≡ Mem = memory_kind c.kind e in
    let rows : map length c.outputs ≡ map (row_width c) (outputs_of Mem) = f.outputs ∙ ap (λ (k : Kind). map (row_width c) (outputs_of k)) kind in
    let many : length (map length c.outputs) ≡ 1 = ap length rows in
    let same : length (map length c.outputs) ≡ length c.outputs = length-map c.outputs length in
    omega arith

-- the output of a register has a bit for each that it stores
pub register_wide : (c : Cell) (outs : List (Option ℕ)) → role_of c.kind ≡ ResetRegister → IsFitted c → outs ≡ get_or c.outputs 0 [] → length outs ≡ width c
register_wide c outs e f h = ap length h ∙ (ports_of_register c (λ b. false) e f).q

pub register_narrow : (c : Cell) (outs : List (Option ℕ)) → role_of c.kind ≡ ResetRegister → IsFitted c → outs ≡ get_or c.outputs 0 [] → length outs ≤ 4096
register_narrow c outs e f h =
    let wide : length outs ≡ width c = register_wide c outs e f h in
    let limit : width c ≤ 4096 = (ports_of_register c (λ b. false) e f).limit in
    omega arith

-- a register stores WIDTH bits
pub register_state : (c : Cell) → role_of c.kind ≡ ResetRegister → state_bits c ≡ width c
register_state c e = ap (λ (r : Role). state_bits_by r c) e
