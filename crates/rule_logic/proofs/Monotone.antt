-- Exact taint of what grows with its operands: it can differ exactly where its greatest and its least value differ.
use Rattle.std.specs.Prelude.{ℕ, zero, suc, ◌≡◌, Bool, true, false, not, ◌&&◌, ◌||◌, List, [], ◌∷◌, length, refl}
use Rattle.std.proofs.Common.{sym, ap, ◌∙◌, inl, inr}
use Rattle.cif_defs.specs.Coarse.{max_word, min_word}
use Rattle.cif_defs.specs.Completions.{AllComplete, CanDiffer, Completes}
use Rattle.cif_defs.specs.Words.{Word, bit, operand}
use Rattle.cif_defs.proofs.Numbers.{Le}
use Rattle.cif_defs.proofs.Exact.{SameShape, and_both, and_true, bit-max, bit-min, cons_complete, differ_cases, max_completes, min_completes, nil_complete, not_false, not_true, true_false}

-- each operand with its tainted bits set, and with them cleared
abbrev pub maxes : List Word → List Word → List Word
maxes [] ts = []
maxes (v ∷ vs) [] = v ∷ maxes vs []
maxes (v ∷ vs) (t ∷ ts) = max_word v t ∷ maxes vs ts

abbrev pub mins : List Word → List Word → List Word
mins [] ts = []
mins (v ∷ vs) [] = v ∷ mins vs []
mins (v ∷ vs) (t ∷ ts) = min_word v t ∷ mins vs ts

-- us has a 1 only where ws has one
pub record IsBelow (us ws : List Word) : Type 0 where
  pub as_many : length us ≡ length ws
  pub as_long : (p : ℕ) → length (operand us p) ≡ length (operand ws p)
  pub below : (p i : ℕ) → Le (bit (operand us p) i) (bit (operand ws p) i)

abbrev pub Grows : (List Word → Bool) → Type 0
Grows f = (us ws : List Word) → IsBelow us ws → Le (f us) (f ws)

-- ---- completions lie between

pub maxes_complete : (vs ts : List Word) → SameShape vs ts → AllComplete vs ts (maxes vs ts)
maxes_complete [] [] s = nil_complete
maxes_complete [] (t ∷ ts) s = elim s [ ]
maxes_complete (v ∷ vs) [] s = elim s [ ]
maxes_complete (v ∷ vs) (t ∷ ts) s = cons_complete v vs t ts (max_word v t) (maxes vs ts) (max_completes v t s.0) (maxes_complete vs ts s.1)

pub mins_complete : (vs ts : List Word) → SameShape vs ts → AllComplete vs ts (mins vs ts)
mins_complete [] [] s = nil_complete
mins_complete [] (t ∷ ts) s = elim s [ ]
mins_complete (v ∷ vs) [] s = elim s [ ]
mins_complete (v ∷ vs) (t ∷ ts) s = cons_complete v vs t ts (min_word v t) (mins vs ts) (min_completes v t s.0) (mins_complete vs ts s.1)

under_max : (v t u : Bool) → (t ≡ false → u ≡ v) → Le u (v || t)
under_max true t u h e = refl
under_max false true u h e = refl
under_max false false u h e = absurd (let q : u ≡ false = h refl in cc)

over_min : (v t u : Bool) → (t ≡ false → u ≡ v) → Le (v && not t) u
over_min true true u h e = absurd (cc)
over_min true false u h e = h refl
over_min false t u h e = absurd (cc)

below_max : (v t u : Word) → length t ≡ length v → Completes v t u → (i : ℕ) → Le (bit u i) (bit (max_word v t) i)
below_max v t u e c i h = bit-max v t i e ∙ under_max (bit v i) (bit t i) (bit u i) (c.same i) h

above_min : (v t u : Word) → length t ≡ length v → Completes v t u → (i : ℕ) → Le (bit (min_word v t) i) (bit u i)
above_min v t u e c i h = over_min (bit v i) (bit t i) (bit u i) (c.same i) (sym (bit-min v t i e) ∙ h)

pub operand-maxes : (vs ts : List Word) (p : ℕ) → SameShape vs ts → operand (maxes vs ts) p ≡ max_word (operand vs p) (operand ts p)
operand-maxes [] [] p s = refl
operand-maxes [] (t ∷ ts) p s = elim s [ ]
operand-maxes (v ∷ vs) [] p s = elim s [ ]
operand-maxes (v ∷ vs) (t ∷ ts) zero s = refl
operand-maxes (v ∷ vs) (t ∷ ts) (suc p) s = operand-maxes vs ts p s.1

pub operand-mins : (vs ts : List Word) (p : ℕ) → SameShape vs ts → operand (mins vs ts) p ≡ min_word (operand vs p) (operand ts p)
operand-mins [] [] p s = refl
operand-mins [] (t ∷ ts) p s = elim s [ ]
operand-mins (v ∷ vs) [] p s = elim s [ ]
operand-mins (v ∷ vs) (t ∷ ts) zero s = refl
operand-mins (v ∷ vs) (t ∷ ts) (suc p) s = operand-mins vs ts p s.1

same_lengths : (vs ts : List Word) (p : ℕ) → SameShape vs ts → length (operand ts p) ≡ length (operand vs p)
same_lengths [] [] p s = refl
same_lengths [] (t ∷ ts) p s = elim s [ ]
same_lengths (v ∷ vs) [] p s = elim s [ ]
same_lengths (v ∷ vs) (t ∷ ts) zero s = s.0
same_lengths (v ∷ vs) (t ∷ ts) (suc p) s = same_lengths vs ts p s.1

pub completion_below : (vs ts us : List Word) → SameShape vs ts → AllComplete vs ts us → IsBelow us (maxes vs ts)
completion_below vs ts us s c = record {
  as_many = c.as_many ∙ sym (let m = maxes_complete vs ts s in m.as_many);
  as_long = λ p. (let x = c.each p in x.as_long) ∙ sym (let m = maxes_complete vs ts s in let y = m.each p in y.as_long);
  below = λ p i h. ap (λ (w : Word). bit w i) (operand-maxes vs ts p s) ∙ below_max (operand vs p) (operand ts p) (operand us p) (same_lengths vs ts p s) (c.each p) i h;
}

pub completion_above : (vs ts us : List Word) → SameShape vs ts → AllComplete vs ts us → IsBelow (mins vs ts) us
completion_above vs ts us s c = record {
  as_many = (let m = mins_complete vs ts s in m.as_many) ∙ sym c.as_many;
  as_long = λ p. (let m = mins_complete vs ts s in let y = m.each p in y.as_long) ∙ sym (let x = c.each p in x.as_long);
  below = λ p i h. above_min (operand vs p) (operand ts p) (operand us p) (same_lengths vs ts p s) (c.each p) i (sym (ap (λ (w : Word). bit w i) (operand-mins vs ts p s)) ∙ h);
}

-- ---- the law

-- it is 1 at the greatest completion and 0 at the least
abbrev pub spreads : (List Word → Bool) → List Word → List Word → Bool
spreads f vs ts = f (maxes vs ts) && not (f (mins vs ts))

pub spread_differs : (f : List Word → Bool) (vs ts : List Word) → SameShape vs ts → spreads f vs ts ≡ true → CanDiffer f vs ts
spread_differs f vs ts s h =
    let both = and_true (f (maxes vs ts)) (not (f (mins vs ts))) h in
    record { first = maxes vs ts; second = mins vs ts; first_completes = maxes_complete vs ts s; second_completes = mins_complete vs ts s; differ = true_false _ _ both.0 (not_true _ both.1) }

spread_by : (f : List Word → Bool) (vs ts us ws : List Word) → Grows f → SameShape vs ts → AllComplete vs ts us → AllComplete vs ts ws → f us ≡ true → f ws ≡ false → spreads f vs ts ≡ true
spread_by f vs ts us ws g s a b h k =
    and_both _ _ (g us (maxes vs ts) (completion_below vs ts us s a) h) (not_false (f (mins vs ts)) (low (f (mins vs ts)) refl))
  where
    low : (x : Bool) → f (mins vs ts) ≡ x → f (mins vs ts) ≡ false
    low false e = e
    low true e = absurd (let q : f ws ≡ true = g (mins vs ts) ws (completion_above vs ts ws s b) e in cc)

pub differs_spread : (f : List Word → Bool) (vs ts : List Word) → Grows f → SameShape vs ts → CanDiffer f vs ts → spreads f vs ts ≡ true
differs_spread f vs ts g s d = elim (differ_cases (f d.first) (f d.second) d.differ) [
  | inl h ↦ spread_by f vs ts d.first d.second g s d.first_completes d.second_completes h.0 h.1
  | inr h ↦ spread_by f vs ts d.second d.first g s d.second_completes d.first_completes h.0 h.1
]
