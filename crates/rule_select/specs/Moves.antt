-- How the stages of trees move words.
use Rattle.std.specs.Prelude.{ℕ, suc, ◌≤◌, ◌+◌, ◌-◌, ◌*◌, ◌^◌, min, Bool, true, false, List, map}
use Rattle.std.specs.List.{range_with_len}
use Rattle.cif_term.specs.Formulas.{Formula, Value, Taint, Pick}
use Rattle.rule_select.specs.Windows.{places_from, window}
use Rattle.rule_select.specs.declared.moves.Moves.{Moves}
use Rattle.rule_select.specs.declared.moves.Moves.TheVariants.{Left, Rising, Right, Signed, Halves, Blocks, Chain}

-- how far select bit k moves a word of n bits: by 2 ^ k, or past its end
abbrev pub step_of : ℕ → ℕ → ℕ
step_of n k = min (2 ^ k) n

-- a word of n bits moved left, and right, with zeros
abbrev pub moved_left : ℕ → ℕ → Formula → Formula
moved_left n k f = window (step_of n k) 0 (n - step_of n k) 0 f

abbrev pub moved_right : ℕ → ℕ → Formula → Formula
moved_right n k f = window 0 (step_of n k) (n - step_of n k) (step_of n k) f

-- the places that n bits show which are moved right with the highest bit
abbrev pub signed_places : ℕ → ℕ → List ℕ
signed_places n d = map (λ i. min (i + d) (n - 1)) (range_with_len 0 n)

abbrev pub moved_signed : ℕ → ℕ → Formula → Formula
moved_signed n k f = Pick f (signed_places n (step_of n k))

-- the lower and the upper half of a word of 2 * n bits
abbrev pub lower_half : ℕ → Formula → Formula
lower_half n f = Pick f (places_from 0 n)

abbrev pub upper_half : ℕ → Formula → Formula
upper_half n f = Pick f (places_from n n)

-- a word of n bits as the lower, and as the upper half of one of 2 * n bits, with zeros
abbrev pub as_lower : ℕ → Formula → Formula
as_lower n f = window 0 0 n n f

abbrev pub as_upper : ℕ → Formula → Formula
as_upper n f = window n 0 n 0 f

-- block k of operand 1, of n bits, and its taint
abbrev pub block_of : ℕ → ℕ → Bool → Formula
block_of n k true = Pick (Taint 1) (places_from (k * n) n)
block_of n k false = Pick (Value 1) (places_from (k * n) n)

-- the part of the word f for select bit k at 0 or at 1
unfoldable pub parts_by : Moves → ℕ → Bool → Bool → Formula → Formula
parts_by (Left n) k true tainted f = moved_left n k f
parts_by (Left n) k false tainted f = f
parts_by (Rising n) k true tainted f = f
parts_by (Rising n) k false tainted f = moved_left n k f
parts_by (Right n) k true tainted f = moved_right n k f
parts_by (Right n) k false tainted f = f
parts_by (Signed n) k true tainted f = moved_signed n k f
parts_by (Signed n) k false tainted f = f
parts_by (Halves n) k true tainted f = upper_half (n * 2 ^ k) f
parts_by (Halves n) k false tainted f = lower_half (n * 2 ^ k) f
parts_by (Blocks n) k true tainted f = as_upper (n * 2 ^ k) f
parts_by (Blocks n) k false tainted f = as_lower (n * 2 ^ k) f
parts_by (Chain n) k true tainted f = block_of n k tainted
parts_by (Chain n) k false tainted f = f

-- the select bit of stage j of m: halves and chains begin with the highest
unfoldable pub order_by : Moves → ℕ → ℕ → ℕ
order_by (Halves n) m j = m - suc j
order_by (Chain n) m j = m - suc j
order_by _ m j = j

-- the width that a shift keeps
abbrev pub wide_by : Moves → ℕ
wide_by (Left n) = n
wide_by (Rising n) = n
wide_by (Right n) = n
wide_by (Signed n) = n
wide_by (Halves n) = n
wide_by (Blocks n) = n
wide_by (Chain n) = n

-- the select bits below k read and give words of at most 65,536 bits
unfoldable pub FitsBy : Moves → ℕ → Type 0
FitsBy (Left n) k = n ≤ 65536
FitsBy (Rising n) k = n ≤ 65536
FitsBy (Right n) k = n ≤ 65536
FitsBy (Signed n) k = n ≤ 65536
FitsBy (Halves n) k = (1 ≤ n) × (n * 2 ^ k ≤ 65536)
FitsBy (Blocks n) k = (1 ≤ n) × (n * 2 ^ k ≤ 65536)
FitsBy (Chain n) k = k * n ≤ 65536
