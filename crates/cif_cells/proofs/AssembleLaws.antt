-- Digits and ports of the cells that are put together.
use Rattle.std.specs.Prelude.{ℕ, ◌≡◌, false, List, [], ◌∷◌, length, map, Option, Some, refl}
use Rattle.std.proofs.Common.{arith, ap, ◌∙◌}
use Rattle.cif_defs.specs.Cells.{Cell}
use Rattle.cif_defs.specs.Table.{kind_of, operands_of, outputs_of, parameters_of}
use Rattle.cif_defs.specs.Accepted.{cell_by, numbers_of, source, tables_of, target}
use Rattle.cif_defs.specs.declared.kinds.Param.{Param}
use Rattle.cif_defs.specs.declared.nets.Src.{Src}
use Rattle.cif_defs.specs.RawModule.{port_bits}
use Rattle.cif_defs.specs.declared.kinds.Kind.{Kind}
use Rattle.cif_defs.specs.declared.kinds.PortRow.{PortRow}
use Rattle.cif_defs.specs.declared.raw_module.RawBit.{RawBit}
use Rattle.cif_defs.specs.declared.raw_module.RawCell.{RawCell}
use Rattle.cif_checks.specs.Known.{bits_at}
use Rattle.cif_checks.proofs.KnownCells.{ports_are}
use Rattle.cif_defs.specs.Words.{Word, bit, word}
use Rattle.cif_defs.proofs.WordLaws.{bit-word, length-word, same_words}

pub all_digits : (w : Word) (n : ℕ) (u : Word) → n ≡ length w → u ≡ word n (λ i. bit w i) → u ≡ w
all_digits w n u e h =
    same_words u w (ap length h ∙ length-word n (λ i. bit w i) ∙ e)
    (λ i l. ap (λ v. bit v i) h ∙ bit-word n (λ i. bit w i) i false (let m : length u ≡ n = ap length h ∙ length-word n (λ i. bit w i) in omega arith))

mapped : {A B C : Type 0} (f : B → C) (g : A → B) (xs : List A) → map f (map g xs) ≡ map (λ x. f (g x)) xs
mapped f g [] = refl
mapped f g (x ∷ xs) = ap (λ ys. f (g x) ∷ ys) (mapped f g xs)

-- what is made of the bits at each port of a cell's kind
pub ports_mapped : {B : Type 0} (f : List RawBit → B) (rows : Kind → List PortRow) (c : RawCell) (k : Kind) (ports : List (List RawBit)) → ports ≡ bits_at rows c → kind_of c.kind ≡ Some k
    → map f ports ≡ map (λ (r : PortRow). f (port_bits c r)) (rows k)
ports_mapped f rows c k ports each is = ap (map f) (ports_are rows c k ports each is) ∙ mapped f (port_bits c) (rows k)

abbrev pub made : List ℕ → Kind → List (Param × ℕ) → List (Param × Word) → List (List Src) → List (List (Option ℕ)) → Cell
made name k numbers digits operands outputs = record { name = name; kind = k; numbers = numbers; digits = digits; operands = operands; outputs = outputs }

-- a cell whose parts are those of a raw cell
pub cell_made : (ns : List ℕ) (c : RawCell) (k : Kind) (name : List ℕ) (numbers : List (Param × ℕ)) (digits : List (Param × Word)) (operands : List (List Src)) (outputs : List (List (Option ℕ)))
    → name ≡ c.name → numbers ≡ numbers_of c (parameters_of k) → digits ≡ tables_of c (parameters_of k)
    → operands ≡ map (λ (r : PortRow). map (source ns) (port_bits c r)) (operands_of k) → outputs ≡ map (λ (r : PortRow). map (target ns) (port_bits c r)) (outputs_of k)
    → made name k numbers digits operands outputs ≡ cell_by ns c (Some k)
cell_made ns c k name numbers digits operands outputs n g d r o =
    let by = cell_by ns c (Some k) in
    ap (λ x. made x k numbers digits operands outputs) n ∙ ap (λ x. made c.name k x digits operands outputs) g ∙ ap (λ x. made c.name k by.numbers x operands outputs) d
    ∙ ap (λ x. made c.name k by.numbers by.digits x outputs) r ∙ ap (λ x. made c.name k by.numbers by.digits by.operands x) o
