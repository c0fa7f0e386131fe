-- What a cell that fits the table of kinds says of the widths of its ports, and of the words of its operands.
use Rattle.std.specs.Prelude.{ℕ, zero, suc, ◌≡◌, ◌≢◌, List, [], ◌∷◌, map, length, get_or, refl}
use Rattle.std.proofs.Common.{sym, ap, ◌∙◌, subst}
use Rattle.cif_defs.specs.Words.{Word, operand}
use Rattle.cif_defs.specs.Cells.{Cell}
use Rattle.cif_defs.specs.Fitted.{IsFitted, AllWithin, operand_widths, row_width}
use Rattle.cif_defs.specs.Table.{operands_of, outputs_of}
use Rattle.cif_defs.specs.declared.kinds.Kind.{Kind}
use Rattle.cif_defs.specs.declared.kinds.Kind.TheVariants.{Mem}
use Rattle.cif_defs.specs.declared.kinds.PortRow.{PortRow}

pub operands_within : (c : Cell) (rows : List PortRow) → operands_of c.kind ≡ rows → c.kind ≢ Mem → IsFitted c → AllWithin c rows
operands_within c rows e no_memory f = let P : List PortRow → Type 0 = λ rs. AllWithin c rs in subst P e (f.operands_within no_memory)

pub outputs_within : (c : Cell) (rows : List PortRow) → outputs_of c.kind ≡ rows → c.kind ≢ Mem → IsFitted c → AllWithin c rows
outputs_within c rows e no_memory f = let P : List PortRow → Type 0 = λ rs. AllWithin c rs in subst P e (f.outputs_within no_memory)

-- the words have the widths of the rows
pub widths_are : (c : Cell) (us : List Word) (rows : List PortRow) → operands_of c.kind ≡ rows → IsFitted c → map length us ≡ operand_widths c → map length us ≡ map (row_width c) rows
widths_are c us rows e f h = h ∙ f.operands ∙ ap (map (row_width c)) e

pub map_width : (us : List Word) (i : ℕ) → get_or (map length us) i 0 ≡ length (operand us i)
map_width [] i = refl
map_width (u ∷ us) zero = refl
map_width (u ∷ us) (suc i) = map_width us i

-- the width of an operand, by its row
pub operand_width : (c : Cell) (us : List Word) (k : Kind) (p : ℕ) → k ≡ c.kind → IsFitted c → map length us ≡ operand_widths c
    → length (operand us p) ≡ get_or (map (row_width c) (operands_of k)) p 0
operand_width c us k p e f h =
    sym (map_width us p) ∙ ap (λ ns. get_or ns p 0) (h ∙ f.operands ∙ ap (λ (x : Kind). map (row_width c) (operands_of x)) (sym e))

-- ---- the length of one of some lists

pub length-at : {A : Type 0} (xss : List (List A)) (p : ℕ) → length (get_or xss p []) ≡ get_or (map length xss) p 0
length-at [] p = refl
length-at (xs ∷ xss) zero = refl
length-at (xs ∷ xss) (suc p) = length-at xss p
