-- What a cell gives for a parameter, found from front to back.
use Rattle.std.specs.Prelude.{ℕ, zero, suc, ◌+◌, ◌<◌, ◌≡◌, true, false, List, [], ◌∷◌, length, get_or, drop}
use Rattle.std.proofs.Common.{arith, ap, cond, add-one}
use Rattle.cif_defs.specs.Kinds.{is_same_param}
use Rattle.cif_defs.specs.Cells.{number_in, digits_in}
use Rattle.cif_defs.specs.declared.kinds.Param.{Param}
use Rattle.cif_kinds.specs.CellView.{numbers_seen, digits_seen}
use Rattle.cif_kinds.specs.declared.cell.Given.{Given}
use Rattle.cif_kinds.specs.declared.cell.Digits.{Digits}

pub number_at : (gs : List Given) (i : ℕ) (p : Param) (d : Given) → i < length gs → is_same_param (get_or gs i d).param p ≡ true → number_in (numbers_seen (drop i gs)) p ≡ (get_or gs i d).number
number_at [] i p d h e = absurd (omega arith)
number_at (g ∷ gs) zero p d h e = ap (λ b. cond b g.number (number_in (numbers_seen gs) p)) e
number_at (g ∷ gs) (suc i) p d h e = number_at gs i p d (omega arith) e

number_past_suc : (gs : List Given) (i : ℕ) (p : Param) (d : Given) → i < length gs → is_same_param (get_or gs i d).param p ≡ false → number_in (numbers_seen (drop i gs)) p ≡ number_in (numbers_seen (drop (suc i) gs)) p
number_past_suc [] i p d h n = absurd (omega arith)
number_past_suc (g ∷ gs) zero p d h n = ap (λ b. cond b g.number (number_in (numbers_seen gs) p)) n
number_past_suc (g ∷ gs) (suc i) p d h n = number_past_suc gs i p d (omega arith) n

pub digits_at : (gs : List Digits) (i : ℕ) (p : Param) (d : Digits) → i < length gs → is_same_param (get_or gs i d).param p ≡ true → digits_in (digits_seen (drop i gs)) p ≡ (get_or gs i d).bits
digits_at [] i p d h e = absurd (omega arith)
digits_at (g ∷ gs) zero p d h e = ap (λ (b : _). cond b g.bits (digits_in (digits_seen gs) p)) e
digits_at (g ∷ gs) (suc i) p d h e = digits_at gs i p d (omega arith) e

digits_past_suc : (gs : List Digits) (i : ℕ) (p : Param) (d : Digits) → i < length gs → is_same_param (get_or gs i d).param p ≡ false → digits_in (digits_seen (drop i gs)) p ≡ digits_in (digits_seen (drop (suc i) gs)) p
digits_past_suc [] i p d h n = absurd (omega arith)
digits_past_suc (g ∷ gs) zero p d h n = ap (λ (b : _). cond b g.bits (digits_in (digits_seen gs) p)) n
digits_past_suc (g ∷ gs) (suc i) p d h n = digits_past_suc gs i p d (omega arith) n

pub number_past : (gs : List Given) (i : ℕ) (p : Param) (d : Given) → i < length gs → is_same_param (get_or gs i d).param p ≡ false → number_in (numbers_seen (drop i gs)) p ≡ number_in (numbers_seen (drop (i + 1) gs)) p
number_past gs i p d h n = rw add-one (number_past_suc gs i p d h n)

pub digits_past : (gs : List Digits) (i : ℕ) (p : Param) (d : Digits) → i < length gs → is_same_param (get_or gs i d).param p ≡ false → digits_in (digits_seen (drop i gs)) p ≡ digits_in (digits_seen (drop (i + 1) gs)) p
digits_past gs i p d h n = rw add-one (digits_past_suc gs i p d h n)
