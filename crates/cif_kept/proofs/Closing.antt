-- What the events of a closing leave.
use Rattle.std.proofs.Common.{ℕ, zero, suc, ◌+◌, ◌*◌, ◌≡◌, ◌<◌, ◌≤◌, ◌⊎◌, inl, inr, List, [], ◌∷◌, length, Option, Some, None, Bool, true, false, refl, sym, ap, subst, ◌∙◌, arith, set}
use Rattle.std.specs.Prelude.{count_by, position, cond, nat_lt}
use Rattle.std.specs.List.{position_or_len}
use Rattle.std.proofs.Math.Nat.{mul-le-mul_right}
use Rattle.std.proofs.lemmas.List.Sums.{fails_before_first}
use Rattle.std.proofs.lemmas.Grind.{common_steps}
use Rattle.cif_seq.specs.Cases.{CaseOf}
use Rattle.cif_core.specs.Machine.{State, floor_of, lower, want_at, mark_at, is_deposited, is_free, taken, claimed, assembled, given, published}
use Rattle.cif_core.specs.Kept.{IsKept}
use Rattle.cif_core.specs.Replies.{Claims}
use Rattle.cif_core.specs.declared.mark.Mark.{Mark}
use Rattle.cif_core.specs.declared.mark.Mark.TheVariants.{Free, Claimed, Deposited}
use Rattle.cif_core.specs.declared.reply.Claim.TheVariants.{Wait}
use Rattle.cif_core.proofs.Facts.{count-deposited, freed-free, set-apart}
use Rattle.cif_core.proofs.KeptState.{taken-few}
use Rattle.cif_kept.specs.Closing.{IsAlone, IsDeserted, IsInHand, left_of, to_do}

-- ---- a hall that every session has left

pub floor-deserted : (low : ℕ) (ws : List (Option ℕ)) → ((i : ℕ) → want_at ws i ≡ None) → floor_of low ws ≡ low
floor-deserted low [] h = refl
floor-deserted low (w ∷ ws) h = floor-deserted (lower low w) ws (λ i. h (suc i)) ∙ ap (lower low) (h 0)

-- a session that leaves: those that had left stay so
pub left-stays : (ws : List (Option ℕ)) (i j : ℕ) → want_at ws j ≡ None → want_at (set ws i None) j ≡ None
left-stays [] i j e = e
left-stays (w ∷ ws) zero zero e = refl
left-stays (w ∷ ws) zero (suc j) e = e
left-stays (w ∷ ws) (suc i) zero e = e
left-stays (w ∷ ws) (suc i) (suc j) e = left-stays ws i j e

pub left-itself : (ws : List (Option ℕ)) (i : ℕ) → want_at (set ws i None) i ≡ None
left-itself [] i = refl
left-itself (w ∷ ws) zero = refl
left-itself (w ∷ ws) (suc i) = left-itself ws i

pub left-past : (ws : List (Option ℕ)) (i : ℕ) → length ws ≤ i → want_at ws i ≡ None
left-past [] i h = refl
left-past (w ∷ ws) zero h = absurd (omega arith)
left-past (w ∷ ws) (suc i) h = left-past ws i (omega arith)

-- ---- marks

not-free : (m : Mark) → is_free m ≡ false → (m ≡ Claimed → ⊥) → m ≡ Deposited
not-free Free e h = cc
not-free Claimed e h = absurd (h refl)
not-free Deposited e h = refl

none-past : (a b : ℕ) → cond (nat_lt a b) (Some a) None ≡ None → b ≤ a
none-past a b e = grind (arith, common_steps)

none-free : (ms : List Mark) (i : ℕ) → position is_free ms ≡ None → i < length ms → is_free (mark_at ms i) ≡ false
none-free ms i e h = (let past = none-past (position_or_len is_free ms) (length ms) e in fails_before_first is_free ms i Free (omega arith))

every-deposited : (ms : List Mark) → ((i : ℕ) → i < length ms → mark_at ms i ≡ Deposited) → count_by is_deposited ms ≡ length ms
every-deposited [] h = refl
every-deposited (m ∷ ms) h =
    let rest = every-deposited ms (λ i p. h (suc i) (omega arith)) in
    let first : count_by is_deposited (m ∷ ms) ≡ count_by is_deposited (Deposited ∷ ms) = ap (λ x. count_by is_deposited (x ∷ ms)) (h 0 (omega arith)) in
    first ∙ omega (arith, count-deposited ms, rest)

-- a part that is claimed after one was given was claimed before, and is another one
pub given-claimed : (ms : List Mark) (i j : ℕ) → mark_at (set ms i Deposited) j ≡ Claimed → (mark_at ms j ≡ Claimed) × (i ≡ j → ⊥)
given-claimed [] i j e = cc
given-claimed (m ∷ ms) zero zero e = cc
given-claimed (m ∷ ms) zero (suc j) e = (e, λ p. omega arith)
given-claimed (m ∷ ms) (suc i) zero e = (e, λ p. omega arith)
given-claimed (m ∷ ms) (suc i) (suc j) e = let h = given-claimed ms i j e in (h.0, λ p. h.1 (omega arith))

-- ---- one who is alone

-- there is something to do
pub no-wait : (c : CaseOf) (n w q : ℕ) (s t : State) → 2 ≤ w → IsKept c n w q s → IsAlone s → Claims c n w s Wait t → ⊥
no-wait c n w q s t two kept alone h =
    let floor-is = floor-deserted s.done s.wants alone.deserted in
    elim h.1 [
      | inl full ↦ omega (arith, floor-is)
      | inr none ↦ h.2 (every-deposited s.marks (λ i p. not-free _ (none-free s.marks i none p) (alone.unclaimed i)) ∙ kept.parts, alone.resting)
    ]

alone-given : (s : State) (i : ℕ) → IsAlone s → IsAlone (given (claimed s i) i)
alone-given s i h = record {
  deserted = h.deserted;
  unclaimed = λ j e. (let was = given-claimed (set s.marks i Claimed) i j e in h.unclaimed j (sym (set-apart s.marks i j Claimed Free was.1) ∙ was.0));
  resting = h.resting;
}

pub alone-published : (s : State) → IsDeserted s → IsAlone (published s)
alone-published s h = record {
  deserted = h;
  unclaimed = λ j e. (let free = freed-free s.marks j in cc);
  resting = refl;
}

not-failed : (c : CaseOf) (b : Bool) (done : ℕ) → ((done ≡ c.stimulus.cycles) ⊎ (b ≡ true) → ⊥) → b ≡ false
not-failed c true done h = absurd (h (inr refl))
not-failed c false done h = refl

-- unless it has failed, it is as this says
in-hand : (c : CaseOf) (u : State) → (u.failed ≡ false → IsAlone u) → IsInHand c u
in-hand c u h = λ more. h (not-failed c u.failed u.done more)

pub hand-alone : (c : CaseOf) (u v : State) → (u.failed ≡ false → u ≡ v) → IsAlone v → IsInHand c u
hand-alone c u v is h = in-hand c u (λ fine. subst IsAlone (sym (is fine)) h)

pub hand-given : (c : CaseOf) (s t u : State) (i : ℕ) → IsAlone s → t ≡ claimed s i → (u.failed ≡ false → u ≡ given t i) → IsInHand c u
hand-given c s t u i h is next = hand-alone c u (given (claimed s i) i) (λ fine. next fine ∙ ap (λ (x : State). given x i) is) (alone-given s i h)

pub hand-published : (c : CaseOf) (s t u : State) → IsAlone s → t ≡ assembled s → (u.failed ≡ false → u ≡ published t) → IsInHand c u
hand-published c s t u h is next = hand-alone c u (published (assembled s)) (λ fine. next fine ∙ ap published is) (alone-published (assembled s) h.deserted)

pub hand-failed : (c : CaseOf) (u : State) → u.failed ≡ true → IsInHand c u
hand-failed c u e = λ more. absurd (more (inr e))

-- ---- how much is left

-- cycles that aren't done have a row of pieces each
rows : (a b n : ℕ) → a < b → a * n + n ≤ b * n
rows a b n h = omega (arith, mul-le-mul_right {m = suc a} {n = b} n (omega arith))

left-less : (all gone more : ℕ) (a b : Bool) → a ≡ false → gone < all → (b ≡ false → more ≡ gone + 1) → left_of b all more < left_of a all gone
left-less all gone more true b e h next = cc
left-less all gone more false true e h next = omega arith
left-less all gone more false false e h next = omega (arith, next refl)

pub fewer : (c : CaseOf) (n w q : ℕ) (s t : State) → IsKept c n w q s → s.done < c.stimulus.cycles → s.failed ≡ false
    → (t.failed ≡ false → taken n t + t.done ≡ taken n s + s.done + 1) → to_do c n t < to_do c n s
fewer c n w q s t kept more fine next =
    let few = taken-few c n w q s kept in
    let row = rows s.done c.stimulus.cycles n more in
    left-less _ _ _ s.failed t.failed fine (omega arith) next
