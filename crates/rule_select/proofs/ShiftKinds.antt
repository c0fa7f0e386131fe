-- The taint of $shl, $sshl, $shr and $sshr.
use Rattle.std.specs.Prelude.{ℕ, ◌+◌, ◌-◌, ◌*◌, ◌<◌, ◌≤◌, ◌≡◌, nat_le, nat_lt, min, max, Bool, true, false, ◌&&◌, List, [], ◌∷◌, length, map, refl, if◌then◌else◌}
use Rattle.std.proofs.Common.{arith, sym, ap, ◌∙◌, inl, inr}
use Rattle.std.proofs.lemmas.Bool.Decides.{nat_tests}
use Rattle.std.proofs.lemmas.List.{get_or_default, get_or_past, take_all}
use Rattle.cif_defs.specs.Words.{Word, bit, extended_bit, number, operand, top}
use Rattle.cif_defs.specs.Meanings.{extended_to, shl_word, shr_word, sshr_word}
use Rattle.cif_defs.specs.declared.kinds.Kind.TheVariants.{Shl, Sshl, Shr, Sshr}
use Rattle.cif_defs.specs.declared.kinds.Param.TheVariants.{AWidth, BWidth}
use Rattle.cif_defs.specs.Cells.{Cell, a_signed, meaning, number_of, words_by, y_width}
use Rattle.cif_defs.specs.Taint.{output_bit}
use Rattle.cif_defs.specs.Fitted.{IsFitted}
use Rattle.cif_defs.specs.Weights.{weight, weight_by}
use Rattle.cif_defs.proofs.WordLaws.{bit-word, le_or_lt}
use Rattle.cif_term.specs.CellTaints.{AreTaintsOf}
use Rattle.cif_term.proofs.FormedFormulas.{pieces_narrow}
use Rattle.rule_select.specs.declared.moves.Moves.TheVariants.{Right, Signed}
use Rattle.rule_select.specs.Shifts.{cell_shift, left_moves, right_moves, right_width, signed_moves}
use Rattle.rule_select.proofs.Leaves.{extended_leaf}
use Rattle.rule_select.proofs.MoveTrees.{left_moving, right_moving, signed_moving}
use Rattle.rule_select.proofs.SelectOperands.{operand_by}
use Rattle.rule_select.proofs.PlacedParts.{bit_within}
use Rattle.rule_select.proofs.ShiftBits.{left_bits, moved_by, right_bits, signed_bits}
use Rattle.rule_select.proofs.ShiftCells.{IsShiftCell, shl_cell, shr_cell, sshl_cell, sshr_cell}
use Rattle.rule_select.proofs.ShiftTaints.{shift_bit, shift_taints}

-- all bits of B
all_bits : (us : List Word) (b : ℕ) → length (operand us 1) ≡ b → moved_by us b ≡ number (operand us 1)
all_bits us b e = ap number (take_all b (operand us 1) (omega arith))

-- ---- to the left

left_gives : (c : Cell) (us : List Word) → length (operand us 1) ≡ number_of c BWidth → (i : ℕ) → i < y_width c
    → bit (shl_word (y_width c) (a_signed c) (operand us 0) (operand us 1)) i ≡ shift_bit (left_moves c) (a_signed c) (number_of c BWidth) i us
left_gives c us e i h =
    bit-word (y_width c) (λ k. nat_le (number (operand us 1)) k && extended_bit (a_signed c) (k - number (operand us 1)) (operand us 0)) i false h
    ∙ sym (left_bits (y_width c) (number_of c BWidth) (extended_leaf 0 (a_signed c)) us (omega arith) (number_of c BWidth) (omega arith) i h
    ∙ ap (λ x. nat_le x i && extended_bit (a_signed c) (i - x) (operand us 0)) (all_bits us (number_of c BWidth) e))

left_taints : (c : Cell) → IsShiftCell c 4096 → weight c ≡ 12 * (number_of c BWidth + 1) → ((us : List Word) → meaning c us ≡ shl_word (y_width c) (a_signed c) (operand us 0) (operand us 1) ∷ []) → AreTaintsOf c (cell_shift (left_moves c) c ∷ [])
left_taints c s heavy row =
    let few : y_width c ≤ 4096 = s.y_few in
    shift_taints c 4096 (left_moves c) (a_signed c) 1 s (omega arith) (left_moving (y_width c) (number_of c BWidth) s.y_some (omega arith)) (omega arith) (omega arith) (pieces_narrow (y_width c) few)
    (λ us e i h. ap (λ (ws : List Word). bit (operand ws 0) i) (row us) ∙ left_gives c us (operand_by us _ 1 (number_of c BWidth) e refl).1 i h)
    (omega arith)

pub shl_taints : (c : Cell) → IsFitted c → c.kind ≡ Shl → AreTaintsOf c (cell_shift (left_moves c) c ∷ [])
unfolding words_by weight_by
shl_taints c f e = left_taints c (shl_cell c f e) (ap (λ k. weight_by k c) e) (λ us. ap (λ k. words_by k c us) e)

pub sshl_taints : (c : Cell) → IsFitted c → c.kind ≡ Sshl → AreTaintsOf c (cell_shift (left_moves c) c ∷ [])
unfolding words_by weight_by
sshl_taints c f e = left_taints c (sshl_cell c f e) (ap (λ k. weight_by k c) e) (λ us. ap (λ k. words_by k c us) e)

-- ---- to the right

pub right_gives : (c : Cell) (signed : Bool) (us : List Word) → length (operand us 0) ≡ number_of c AWidth → length (operand us 1) ≡ number_of c BWidth → (i : ℕ) → i < y_width c
    → bit (shr_word (y_width c) signed (operand us 0) (operand us 1)) i ≡ shift_bit (right_moves c) signed (number_of c BWidth) i us
right_gives c signed us d e i h =
    bit-word (y_width c) (λ k. bit (extended_to (y_width c) signed (operand us 0)) (k + number (operand us 1))) i false h
    ∙ bit_within (max (length (operand us 0)) (y_width c)) (λ k. extended_bit signed k (operand us 0)) (i + number (operand us 1))
    ∙ ap (λ x. nat_lt (i + number (operand us 1)) (max x (y_width c)) && extended_bit signed (i + number (operand us 1)) (operand us 0)) d
    ∙ sym (right_bits (right_width c) (number_of c BWidth) (extended_leaf 0 signed) us (omega arith) (number_of c BWidth) (omega arith) i (omega arith)
    ∙ ap (λ x. nat_lt (i + x) (right_width c) && extended_bit signed (i + x) (operand us 0)) (all_bits us (number_of c BWidth) e))

-- what moves to the right has at most so many bits
wide_enough : (c : Cell) → IsShiftCell c 4096 → (1 ≤ right_width c) × (right_width c ≤ 4096)
wide_enough c s =
    let a : number_of c AWidth ≤ 4096 = s.a_few in
    let y : y_width c ≤ 4096 = s.y_few in
    let some : 1 ≤ y_width c = s.y_some in
    (omega arith, omega arith)

right_taints : (c : Cell) → IsShiftCell c 4096 → weight c ≡ 12 * (number_of c BWidth + 1)
    → ((us : List Word) → map length us ≡ number_of c AWidth ∷ number_of c BWidth ∷ [] → (i : ℕ) → i < y_width c → output_bit c 0 i us ≡ shift_bit (right_moves c) (a_signed c) (number_of c BWidth) i us)
    → AreTaintsOf c (cell_shift (right_moves c) c ∷ [])
right_taints c s heavy same =
    let fits = wide_enough c s in
    let narrow : right_width c ≤ 4096 = fits.1 in
    shift_taints c 4096 (right_moves c) (a_signed c) 1 s (omega arith) (right_moving (right_width c) (number_of c BWidth) fits.0 (omega arith)) (omega arith) (omega arith) (pieces_narrow (right_width c) narrow) same (omega arith)

pub shr_taints : (c : Cell) → IsFitted c → c.kind ≡ Shr → AreTaintsOf c (cell_shift (right_moves c) c ∷ [])
unfolding words_by weight_by
shr_taints c f e = right_taints c (shr_cell c f e) (ap (λ k. weight_by k c) e)
    (λ us d i h. ap (λ k. bit (operand (words_by k c us) 0) i) e ∙ right_gives c (a_signed c) us (operand_by us _ 0 (number_of c AWidth) d refl).1 (operand_by us _ 1 (number_of c BWidth) d refl).1 i h)

-- ---- to the right with the sign

-- past its highest bit a signed word goes on with it
pub sign_stays : (w m k : ℕ) (v : Word) → length v ≡ m → 1 ≤ m → m ≤ w → extended_bit true k v ≡ extended_bit true (min k (w - 1)) v
sign_stays w m k v e some h = elim (le_or_lt k w) [
  | inl l ↦ (let same : k ≡ min k (w - 1) = omega arith in ap (λ x. extended_bit true x v) same)
  | inr l ↦ get_or_past v k (top v) (omega arith) ∙ sym (elim (le_or_lt (min k (w - 1)) m) [
    | inl inside ↦ (let last : min k (w - 1) ≡ length v - 1 = omega arith in get_or_default v (min k (w - 1)) (top v) false (omega arith) ∙ ap (bit v) last)
    | inr past ↦ get_or_past v (min k (w - 1)) (top v) (omega arith)
  ])
]

pub zeros_stay : (w m k : ℕ) (v : Word) → length v ≡ m → m ≤ w → extended_bit false k v ≡ (nat_lt k w && extended_bit false k v)
zeros_stay w m k v e h = elim (le_or_lt k w) [
  | inl l ↦ (let t : nat_lt k w ≡ true = grind (arith, nat_tests) in sym (ap (λ b. b && extended_bit false k v) t))
  | inr l ↦ (let t : nat_lt k w ≡ false = grind (arith, nat_tests) in get_or_past v k false (omega arith) ∙ sym (ap (λ b. b && extended_bit false k v) t))
]

signed_gives : (c : Cell) (us : List Word) → 1 ≤ number_of c AWidth → length (operand us 0) ≡ number_of c AWidth → length (operand us 1) ≡ number_of c BWidth → (i : ℕ) → i < y_width c
    → bit (sshr_word (y_width c) true (operand us 0) (operand us 1)) i ≡ shift_bit (Signed (right_width c)) true (number_of c BWidth) i us
signed_gives c us some d e i h =
    bit-word (y_width c) (λ k. extended_bit true (k + number (operand us 1)) (operand us 0)) i false h
    ∙ sign_stays (right_width c) (number_of c AWidth) (i + number (operand us 1)) (operand us 0) d some (omega arith)
    ∙ sym (signed_bits (right_width c) (number_of c BWidth) (extended_leaf 0 true) us (omega arith) (number_of c BWidth) (omega arith) i (omega arith)
    ∙ ap (λ x. extended_bit true (min (i + x) (right_width c - 1)) (operand us 0)) (all_bits us (number_of c BWidth) e))

unsigned_gives : (c : Cell) (us : List Word) → length (operand us 0) ≡ number_of c AWidth → length (operand us 1) ≡ number_of c BWidth → (i : ℕ) → i < y_width c
    → bit (sshr_word (y_width c) false (operand us 0) (operand us 1)) i ≡ shift_bit (right_moves c) false (number_of c BWidth) i us
unsigned_gives c us d e i h =
    bit-word (y_width c) (λ k. extended_bit false (k + number (operand us 1)) (operand us 0)) i false h
    ∙ zeros_stay (right_width c) (number_of c AWidth) (i + number (operand us 1)) (operand us 0) d (omega arith)
    ∙ sym (right_bits (right_width c) (number_of c BWidth) (extended_leaf 0 false) us (omega arith) (number_of c BWidth) (omega arith) i (omega arith)
    ∙ ap (λ x. nat_lt (i + x) (right_width c) && extended_bit false (i + x) (operand us 0)) (all_bits us (number_of c BWidth) e))

signed_taints : (c : Cell) → IsShiftCell c 4096 → weight c ≡ 12 * (number_of c BWidth + 1)
    → ((us : List Word) → map length us ≡ number_of c AWidth ∷ number_of c BWidth ∷ [] → (i : ℕ) → i < y_width c → output_bit c 0 i us ≡ shift_bit (Signed (right_width c)) (a_signed c) (number_of c BWidth) i us)
    → AreTaintsOf c (cell_shift (Signed (right_width c)) c ∷ [])
signed_taints c s heavy same =
    let fits = wide_enough c s in
    let narrow : right_width c ≤ 4096 = fits.1 in
    shift_taints c 4096 (Signed (right_width c)) (a_signed c) 1 s (omega arith) (signed_moving (right_width c) (number_of c BWidth) fits.0 (omega arith)) (omega arith) (omega arith) (pieces_narrow (right_width c) narrow) same (omega arith)

sshr_row : (c : Cell) → c.kind ≡ Sshr → (us : List Word) (i : ℕ) (b : Bool) → a_signed c ≡ b → output_bit c 0 i us ≡ bit (sshr_word (y_width c) b (operand us 0) (operand us 1)) i
unfolding words_by
sshr_row c e us i b q = ap (λ k. bit (operand (words_by k c us) 0) i) e ∙ ap (λ x. bit (sshr_word (y_width c) x (operand us 0) (operand us 1)) i) q

sshr_by : (c : Cell) (b : Bool) → IsFitted c → c.kind ≡ Sshr → weight c ≡ 12 * (number_of c BWidth + 1) → a_signed c ≡ b → AreTaintsOf c (cell_shift (if b then Signed (right_width c) else Right (right_width c)) c ∷ [])
sshr_by c true f e heavy q =
    let s = sshr_cell c f e in
    signed_taints c s heavy (λ us d i h. sshr_row c e us i true q ∙ signed_gives c us s.a_some (operand_by us _ 0 (number_of c AWidth) d refl).1 (operand_by us _ 1 (number_of c BWidth) d refl).1 i h
    ∙ sym (ap (λ x. shift_bit (Signed (right_width c)) x (number_of c BWidth) i us) q))
sshr_by c false f e heavy q =
    right_taints c (sshr_cell c f e) heavy (λ us d i h. sshr_row c e us i false q ∙ unsigned_gives c us (operand_by us _ 0 (number_of c AWidth) d refl).1 (operand_by us _ 1 (number_of c BWidth) d refl).1 i h
    ∙ sym (ap (λ x. shift_bit (right_moves c) x (number_of c BWidth) i us) q))

pub sshr_taints : (c : Cell) → IsFitted c → c.kind ≡ Sshr → AreTaintsOf c (cell_shift (signed_moves c) c ∷ [])
unfolding weight_by
sshr_taints c f e = sshr_by c (a_signed c) f e (ap (λ k. weight_by k c) e) refl
