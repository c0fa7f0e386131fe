-- Words of the widths of operands, and cells that fit the table of kinds.
use Rattle.std.specs.Prelude.{ℕ, ◌<◌, ◌≡◌, ◌≢◌, List, [], ◌∷◌, map, length, get_or, zero, suc, refl}
use Rattle.std.proofs.Common.{arith, ap, subst, sym, ◌∙◌}
use Rattle.std.proofs.lemmas.List.{ext_get_or, get_or_default, length-map}
use Rattle.cif_defs.specs.Words.{Word}
use Rattle.cif_defs.specs.Cells.{Cell}
use Rattle.cif_defs.specs.Fitted.{IsFitted}
use Rattle.cif_defs.specs.Netlist.{no_cell}
use Rattle.cif_defs.specs.declared.nets.Src.{Src}
use Rattle.cif_cells.specs.NetlistView.{AreFitted}
use Rattle.cif_cells.proofs.FittedCells.{fitted_at}

long_at : {A : Type 0} (lists : List (List A)) (p : ℕ) → get_or (map length lists) p 0 ≡ length (get_or lists p [])
long_at [] p = refl
long_at (x ∷ lists) zero = refl
long_at (x ∷ lists) (suc p) = long_at lists p

-- words with the widths of operands, one by one, and words without
pub widths_same : (words : List Word) (operands : List (List Src)) → length words ≡ length operands → ((p : ℕ) → p < length words → length (get_or words p []) ≡ length (get_or operands p [])) → map length words ≡ map length operands
widths_same words operands e h =
    let first : length (map length words) ≡ length words = length-map words length in
    ext_get_or 0 (map length words) (map length operands) (first ∙ e ∙ sym (length-map operands length))
    (λ p l. long_at words p ∙ h p (omega (arith, first)) ∙ sym (long_at operands p))

widths_differ : (words : List Word) (operands : List (List Src)) (p : ℕ) → length (get_or words p []) ≢ length (get_or operands p []) → map length words ≢ map length operands
widths_differ words operands p n e = n (sym (long_at words p) ∙ ap (λ ns. get_or ns p 0) e ∙ long_at operands p)

-- a word as it was read, and the operand at its place
pub wrong_width : (words : List Word) (operands own : List (List Src)) (p : ℕ) (w bits : Word) (s items : List Src) → operands ≡ own → p < length words → length words ≡ length operands → bits ≡ w → w ≡ get_or words p w → items ≡ s → s ≡ get_or operands p s
    → length bits ≢ length items → map length words ≢ map length own
wrong_width words operands own p w bits s items e l m f g h i n q =
    let word : bits ≡ get_or words p [] = f ∙ g ∙ get_or_default words p w [] l in
    let sources : items ≡ get_or operands p [] = h ∙ i ∙ get_or_default operands p s [] (omega arith) in
    widths_differ words operands p (λ r. n (ap length word ∙ r ∙ sym (ap length sources))) (q ∙ ap (map length) (sym e))

-- the first of the cells of a netlist fits the table of kinds
pub first_fitted : (cells : List Cell) (c : Cell) → AreFitted cells → 0 < length cells → c ≡ get_or cells 0 c → IsFitted c
first_fitted cells c h l e =
    let P : Cell → Type 0 = λ x. IsFitted x in
    subst P (sym (e ∙ get_or_default cells 0 c no_cell l)) (fitted_at cells h 0 l)
