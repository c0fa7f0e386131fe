-- Words at the operands of a cell of a netlist, and at those of its raw cell.
use Rattle.std.specs.Prelude.{ℕ, suc, ◌≡◌, Bool, List, [], ◌∷◌, map, Some, refl}
use Rattle.std.proofs.Common.{ap, sym, ◌∙◌, inl, inr}
use Rattle.cif_defs.specs.Words.{Word}
use Rattle.cif_defs.specs.Kinds.{role_of}
use Rattle.cif_defs.specs.Table.{kind_of, operands_of}
use Rattle.cif_defs.specs.RawModule.{net_numbers, port_bits}
use Rattle.cif_defs.specs.Cells.{Cell}
use Rattle.cif_defs.specs.Netlist.{cell_at, no_cell, role_at}
use Rattle.cif_defs.specs.Run.{operand_words, src_bit, src_word, words_under}
use Rattle.cif_defs.specs.TaintRun.{operand_taints, src_taint, taint_word, taints_under}
use Rattle.cif_defs.specs.Accepted.{cell_by, cell_of, netlist_of, place_of, source}
use Rattle.cif_defs.specs.declared.kinds.Kind.{Kind}
use Rattle.cif_defs.specs.declared.kinds.PortRow.{PortRow}
use Rattle.cif_defs.specs.declared.nets.Src.{Src}
use Rattle.cif_defs.specs.declared.raw_module.RawBit.{RawBit}
use Rattle.cif_defs.specs.declared.raw_module.RawBit.TheVariants.{Net, Zero, One, X, Z}
use Rattle.cif_defs.specs.declared.raw_module.RawCell.{RawCell}
use Rattle.cif_defs.specs.declared.raw_module.Raw.{Raw}
use Rattle.cif_nets.proofs.Places.{At, Has, At-has, At-map}
use Rattle.cif_nets.proofs.Driven.{CellIs}
use Rattle.cif_raw_runs.specs.Assigned.{raw_bit, words_read}
use Rattle.cif_raw_runs.specs.Given.{raw_taint, taints_read}
use Rattle.cif_raw_runs.proofs.Numbers.{number_of_operand}

-- ---- words bit by bit

src_word-map : (v : ℕ → Bool) (ss : List Src) → src_word v ss ≡ map (src_bit v) ss
src_word-map v [] = refl
src_word-map v (s ∷ ss) = ap (λ (w : Word). src_bit v s ∷ w) (src_word-map v ss)

words_under-map : (v : ℕ → Bool) (ops : List (List Src)) → words_under v ops ≡ map (λ ss. map (src_bit v) ss) ops
words_under-map v [] = refl
words_under-map v (ss ∷ ops) = ap (λ (w : Word). w ∷ words_under v ops) (src_word-map v ss) ∙ ap (λ (ws : List Word). map (src_bit v) ss ∷ ws) (words_under-map v ops)

taint_word-map : (t : ℕ → Bool) (ss : List Src) → taint_word t ss ≡ map (src_taint t) ss
taint_word-map t [] = refl
taint_word-map t (s ∷ ss) = ap (λ (w : Word). src_taint t s ∷ w) (taint_word-map t ss)

taints_under-map : (t : ℕ → Bool) (ops : List (List Src)) → taints_under t ops ≡ map (λ ss. map (src_taint t) ss) ops
taints_under-map t [] = refl
taints_under-map t (ss ∷ ops) = ap (λ (w : Word). w ∷ taints_under t ops) (taint_word-map t ss) ∙ ap (λ (ws : List Word). map (src_taint t) ss ∷ ws) (taints_under-map t ops)

-- ---- bits of the netlist and of the raw module

same_bits : (ns : List ℕ) (f : Src → Bool) (g : RawBit → Bool) (bits : List RawBit) → ((b : RawBit) → Has bits b → f (source ns b) ≡ g b) → map f (map (source ns) bits) ≡ map g bits
same_bits ns f g [] h = refl
same_bits ns f g (b ∷ bits) h = ap (λ y. y ∷ map f (map (source ns) bits)) (h b (inl refl)) ∙ ap (λ (w : Word). g b ∷ w) (same_bits ns f g bits (λ c k. h c (inr k)))

same_rows : (ns : List ℕ) (f : Src → Bool) (g : RawBit → Bool) (cell : RawCell) (rows : List PortRow) → ((p : ℕ) (r : PortRow) (b : RawBit) → At rows p r → Has (port_bits cell r) b → f (source ns b) ≡ g b)
    → map (λ ss. map f ss) (map (λ (r : PortRow). map (source ns) (port_bits cell r)) rows) ≡ map (λ bits. map g bits) (map (port_bits cell) rows)
same_rows ns f g cell [] h = refl
same_rows ns f g cell (r ∷ rows) h =
    ap (λ (w : Word). w ∷ map (λ ss. map f ss) (map (λ (q : PortRow). map (source ns) (port_bits cell q)) rows)) (same_bits ns f g (port_bits cell r) (λ b k. h 0 r b refl k))
    ∙ ap (λ (ws : List Word). map g (port_bits cell r) ∷ ws) (same_rows ns f g cell rows (λ p q b at k. h (suc p) q b at k))

-- values of the net numbers are those of the net bits
abbrev pub AreSame : Raw → (ℕ → Bool) → (ℕ → Bool) → Type 0
AreSame raw v w = (x : ℕ) → Has (net_numbers raw) x → v x ≡ w (place_of (net_numbers raw) x)

same_bit : (raw : Raw) (v w : ℕ → Bool) (b : RawBit) → AreSame raw v w → ((x : ℕ) → b ≡ Net x → Has (net_numbers raw) x) → src_bit w (source (net_numbers raw) b) ≡ raw_bit v b
same_bit raw v w (Net x) h n = (let e : v x ≡ w (place_of (net_numbers raw) x) = h x (n x refl) in sym e)
same_bit raw v w Zero h n = refl
same_bit raw v w One h n = refl
same_bit raw v w X h n = refl
same_bit raw v w Z h n = refl

same_taint : (raw : Raw) (t w : ℕ → Bool) (b : RawBit) → AreSame raw t w → ((x : ℕ) → b ≡ Net x → Has (net_numbers raw) x) → src_taint w (source (net_numbers raw) b) ≡ raw_taint t b
same_taint raw t w (Net x) h n = (let e : t x ≡ w (place_of (net_numbers raw) x) = h x (n x refl) in sym e)
same_taint raw t w Zero h n = refl
same_taint raw t w One h n = refl
same_taint raw t w X h n = refl
same_taint raw t w Z h n = refl

operand_number : (raw : Raw) (c : ℕ) (cell : RawCell) (k : Kind) (p : ℕ) (r : PortRow) (b : RawBit) (x : ℕ) → CellIs raw c cell k → At (operands_of k) p r → Has (port_bits cell r) b → b ≡ Net x → Has (net_numbers raw) x
operand_number raw c cell k p r b x is row h e = (let at = At-has (port_bits cell r) (Net x) (rw (← e) h) in number_of_operand raw c cell k p at.0 r x is row at.1)

-- ---- operands of a cell

-- the cell of a netlist that a raw cell is
pub cell_at_place : (raw : Raw) (c : ℕ) (cell : RawCell) → At raw.cells c cell → cell_at (netlist_of raw) c ≡ cell_of (net_numbers raw) cell
unfolding netlist_of
cell_at_place raw c cell at = At-map (cell_of (net_numbers raw)) raw.cells c cell no_cell at

by_kind : (ns : List ℕ) (cell : RawCell) (k : Kind) → kind_of cell.kind ≡ Some k → cell_of ns cell ≡ cell_by ns cell (Some k)
unfolding cell_of
by_kind ns cell k e = ap (cell_by ns cell) e

pub role_at_place : (raw : Raw) (c : ℕ) (cell : RawCell) (k : Kind) → CellIs raw c cell k → role_at (netlist_of raw) c ≡ role_of k
role_at_place raw c cell k is = ap (λ (d : Cell). role_of d.kind) (cell_at_place raw c cell is.at_cell ∙ by_kind (net_numbers raw) cell k is.is_kind)

pub operands_read : (raw : Raw) (c : ℕ) (cell : RawCell) (k : Kind) (v w : ℕ → Bool) → CellIs raw c cell k → AreSame raw v w → operand_words w (cell_at (netlist_of raw) c) ≡ words_read v cell k
operands_read raw c cell k v w is h =
    ap (operand_words w) (cell_at_place raw c cell is.at_cell ∙ by_kind (net_numbers raw) cell k is.is_kind)
    ∙ words_under-map w (map (λ (r : PortRow). map (source (net_numbers raw)) (port_bits cell r)) (operands_of k))
    ∙ same_rows (net_numbers raw) (src_bit w) (raw_bit v) cell (operands_of k) (λ p r b row k'. same_bit raw v w b h (λ x e. operand_number raw c cell k p r b x is row k' e))

pub operand_taints_read : (raw : Raw) (c : ℕ) (cell : RawCell) (k : Kind) (t w : ℕ → Bool) → CellIs raw c cell k → AreSame raw t w → operand_taints w (cell_at (netlist_of raw) c) ≡ taints_read t cell k
operand_taints_read raw c cell k t w is h =
    ap (operand_taints w) (cell_at_place raw c cell is.at_cell ∙ by_kind (net_numbers raw) cell k is.is_kind)
    ∙ taints_under-map w (map (λ (r : PortRow). map (source (net_numbers raw)) (port_bits cell r)) (operands_of k))
    ∙ same_rows (net_numbers raw) (src_taint w) (raw_taint t) cell (operands_of k) (λ p r b row k'. same_taint raw t w b h (λ x e. operand_number raw c cell k p r b x is row k' e))
