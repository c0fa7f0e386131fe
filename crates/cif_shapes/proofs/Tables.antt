-- The tables of fitted cells.
use Rattle.std.specs.Prelude.{ℕ, List, refl, ◌*◌, ◌%◌, ◌^◌, ◌<◌, ◌≤◌, ◌≡◌, ◌≢◌, Bool, true, false, not, [], ◌∷◌, length, IsTrue}
use mathlib.Core.Bool.{beq}
use Rattle.std.proofs.Common.{arith, ap, sym, ◌∙◌}
use Rattle.std.proofs.lemmas.Nat.{pow_below}
use Rattle.cif_defs.specs.Words.{Word, bit}
use Rattle.cif_defs.specs.Cells.{Cell, digits_of, number_of}
use Rattle.cif_defs.specs.Fitted.{AllWithin, IsFitted}
use Rattle.cif_defs.specs.Table.{operands_of, row, width_limit}
use Rattle.cif_defs.specs.declared.kinds.CellPort.TheVariants.{A}
use Rattle.cif_defs.specs.declared.kinds.Kind.{Kind}
use Rattle.cif_defs.specs.declared.kinds.Kind.TheVariants.{Mem}
use Rattle.cif_defs.specs.declared.kinds.Kind.TheVariants.{Lut as LutKind}
use Rattle.cif_defs.specs.declared.kinds.Param.TheVariants.{Width}
use Rattle.cif_defs.specs.declared.kinds.Param.TheVariants.{Lut as LutTable}
use Rattle.cif_defs.specs.declared.kinds.PortWidth.TheVariants.{Of}
use Rattle.cif_defs.proofs.WordLaws.{bit-word, length-word, same_words}
use Rattle.cif_kinds.proofs.OperandWidths.{operands_within}
use Rattle.cif_shapes.specs.declared.shape.Shape.{Shape}
use Rattle.cif_shapes.specs.Shapes.{numbers_of, shape_of, table_of, table_size}

other_kind : (c : Cell) → LutKind ≡ c.kind → c.kind ≢ Mem
other_kind c e q = let both : LutKind ≡ Mem = e ∙ q in absurd (cc)

pub lut_width : (c : Cell) → LutKind ≡ c.kind → IsFitted c → number_of c Width ≤ 12
unfolding operands_of width_limit
lut_width c e f =
    let w : AllWithin c (row A (Of Width) ∷ []) = operands_within c (row A (Of Width) ∷ []) (ap operands_of (sym e)) (other_kind c e) f in
    let limit : width_limit c.kind A ≡ 12 = ap (λ (k : Kind). width_limit k A) (sym e) in
    let low : number_of c Width ≤ width_limit c.kind A = w.0.limit in
    omega arith

-- 1, moved up by the width
pub moved_one : (c : Cell) (n : ℕ) → LutKind ≡ c.kind → IsFitted c → n ≡ number_of c Width → 1 * 2 ^ n % 4294967296 ≡ table_size c.kind c
moved_one c n e f h =
    let low : number_of c Width ≤ 12 = lut_width c e f in
    let below : 2 ^ n < 4294967296 = pow_below n 32 (omega arith) in
    let same : 1 * 2 ^ n % 4294967296 ≡ 2 ^ n = omega arith in
    same ∙ ap (λ k. 2 ^ k) h ∙ ap (λ (k : Kind). table_size k c) e

-- digits of another number are no table of the cell
pub other_size : (ds : Word) (c : Cell) (size : ℕ) → size ≡ table_size c.kind c → length ds ≢ size → (IsTrue false → ds ≡ table_of c) × (ds ≡ table_of c → IsTrue false)
other_size ds c size e n = (λ h. absurd (cc), λ q. absurd (n (ap length q ∙ length-word (table_size c.kind c) (λ i. bit (digits_of c LutTable) i) ∙ sym e)))

-- nor are digits of which one is another
pub other_digit : (ds : Word) (c : Cell) (i : ℕ) (own : Bool) → i < length ds → own ≡ bit (digits_of c LutTable) i → bit ds i ≢ own → (IsTrue false → ds ≡ table_of c) × (ds ≡ table_of c → IsTrue false)
other_digit ds c i own l e n = (λ h. absurd (cc), λ q. absurd (n (read q)))
  where
    read : ds ≡ table_of c → bit ds i ≡ own
    read q =
        let f : ℕ → Bool = λ k. bit (digits_of c LutTable) k in
        let size : length ds ≡ table_size c.kind c = ap length q ∙ length-word (table_size c.kind c) f in
        ap (λ (w : Word). bit w i) q ∙ bit-word (table_size c.kind c) f i false (omega arith) ∙ sym e

pub all_digits : (ds : Word) (c : Cell) (size i : ℕ) → size ≡ table_size c.kind c → length ds ≡ size → length ds ≤ i → ((k : ℕ) → k < i → bit ds k ≡ bit (digits_of c LutTable) k)
    → (IsTrue true → ds ≡ table_of c) × (ds ≡ table_of c → IsTrue true)
all_digits ds c size i e n l h = (
  λ t. same_words ds (table_of c) (n ∙ e ∙ sym (length-word (table_size c.kind c) (λ k. bit (digits_of c LutTable) k)))
      (λ k m. h k (omega arith) ∙ sym (bit-word (table_size c.kind c) (λ j. bit (digits_of c LutTable) j) k false (omega arith))),
  λ q. refl,
)

-- what a comparison of two bits answers
pub bits_differ : (a b : Bool) → not (beq a b) ≡ true → a ≢ b
bits_differ true true h q = absurd (cc)
bits_differ true false h q = absurd (cc)
bits_differ false true h q = absurd (cc)
bits_differ false false h q = absurd (cc)

-- ---- shapes by their parts

shape_with : Kind → List ℕ → Word → Shape
shape_with k ns w = record { kind = k; numbers = ns; table = w }

same_parts : (k l : Kind) (ms ns : List ℕ) (v w : Word) → k ≡ l → ms ≡ ns → v ≡ w → shape_with k ms v ≡ shape_with l ns w
same_parts k l ms ns v w e f g = rw (e, f, g) refl

from_parts : (s t : Shape) → s.kind ≡ t.kind → s.numbers ≡ t.numbers → s.table ≡ t.table → s ≡ t
unfolding shape_with
from_parts s t e f g = same_parts s.kind t.kind s.numbers t.numbers s.table t.table e f g

-- the tables decide where the kinds and the numbers are the same
pub by_table : (s : Shape) (c : Cell) (b : Bool) → s.kind ≡ c.kind → s.numbers ≡ numbers_of c → (IsTrue b → s.table ≡ table_of c) × (s.table ≡ table_of c → IsTrue b) → (IsTrue b → s ≡ shape_of c) × (s ≡ shape_of c → IsTrue b)
by_table s c b e f t = (λ h. from_parts s (shape_of c) e f (t.0 h), λ q. t.1 (ap (λ (x : Shape). x.table) q))
