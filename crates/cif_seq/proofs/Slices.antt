-- Vectors whose slices are written, and bits that marks clear.
use Rattle.std.specs.Prelude.{ℕ, ◌≡◌, ◌++◌, Bool, true, false, not, ◌&&◌, List, [], length, take, drop, refl}
use Rattle.std.proofs.Common.{arith, ap, ◌∙◌, cond}
use Rattle.std.proofs.lemmas.List.{take_all, drop_all, append-nil}

pub same_function : (f g : ℕ → Bool) → ((b : ℕ) → f b ≡ g b) → f ≡ g
same_function f g h = λ i b. h b i

-- a vector whose slice was written whole
pub whole_slice : {A : Type 0} (n : ℕ) (new old : List A) → length new ≡ length old → n ≡ length old → take n (new ++ drop (length new) old) ≡ new
whole_slice n new old e h =
    let none : drop (length new) old ≡ [] = ap (λ k. drop k old) e ∙ drop_all (length old) old (omega arith) in
    ap (λ (xs : List _). take n (new ++ xs)) none ∙ ap (λ (xs : List _). take n xs) (append-nil new) ∙ take_all n new (omega arith)

-- a bit that a mark clears
pub cleared_by : (m released x y : Bool) → m ≡ released → x ≡ y → (not m && x) ≡ cond released false y
cleared_by m released x y e h = ap (λ z. not z && x) e ∙ by_mark released x y h where
  by_mark : (m x y : Bool) → x ≡ y → (not m && x) ≡ cond m false y
  by_mark true x y h = refl
  by_mark false x y h = h
