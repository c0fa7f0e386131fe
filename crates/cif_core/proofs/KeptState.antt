-- What each event keeps of the state.
use Rattle.std.proofs.Common.{ℕ, ◌+◌, ◌*◌, ◌≡◌, ◌<◌, ◌≤◌, ◌⊎◌, inl, inr, List, length, Option, Some, None, true, refl, sym, ap, ◌∙◌, arith, set, length-set}
use Rattle.std.specs.Prelude.{MatchOption}
use Rattle.cif_seq.specs.Cases.{CaseOf}
use Rattle.cif_core.specs.Machine.{State, taken, floor, floor_of, want_at, mark_at, deposited, claimed, assembled, given, published, wanted, left, broken, IsOpen, IsIdle}
use Rattle.cif_core.specs.Kept.{IsKept}
use Rattle.cif_core.specs.declared.mark.Mark.{Mark}
use Rattle.cif_core.specs.declared.mark.Mark.TheVariants.{Free, Claimed, Deposited}
use Rattle.cif_core.proofs.Facts.{all-deposited, at-end, floor-mono, floor-raise, floor-leave, freed-free, freed-length, freed-count, count-claim, count-le, free-count}

pub keeps-claim : (c : CaseOf) (n w q : ℕ) (s : State) (i : ℕ) → IsKept c n w q s → IsOpen c w s → mark_at s.marks i ≡ Free → IsKept c n w q (claimed s i)
keeps-claim c n w q s i h open' free = record {
  sessions = h.sessions;
  parts = length-set s.marks i Claimed ∙ h.parts;
  within = h.within;
  window = h.window;
  opened = inr open';
  whole = λ a. count-claim s.marks i free ∙ h.whole a;
}

pub keeps-assembly : (c : CaseOf) (n w q : ℕ) (s : State) → IsKept c n w q s → IsOpen c w s → deposited s ≡ n → IsKept c n w q (assembled s)
keeps-assembly c n w q s h open' all = record {
  sessions = h.sessions;
  parts = h.parts;
  within = h.within;
  window = h.window;
  opened = inr open';
  whole = λ a. all;
}

not-both : (m : Mark) → m ≡ Claimed → m ≡ Deposited → ⊥
not-both m p q = cc

not-free : (m : Mark) → m ≡ Claimed → m ≡ Free → ⊥
not-free m p q = cc

-- a part that is claimed lies inside
pub claimed-inside : (ms : List Mark) (i : ℕ) → mark_at ms i ≡ Claimed → i < length ms
claimed-inside ms i e = at-end ms i Claimed e (λ p. cc)

-- where a part is claimed, nothing is under assembly
pub claimed-not-assembling : (c : CaseOf) (n w q : ℕ) (s : State) (i : ℕ) → IsKept c n w q s → mark_at s.marks i ≡ Claimed → s.assembling ≡ true → ⊥
claimed-not-assembling c n w q s i h e a =
    let inside = claimed-inside s.marks i e in
    not-both _ e (all-deposited s.marks i (h.whole a ∙ sym h.parts) inside)

pub open-at-claimed : (c : CaseOf) (n w q : ℕ) (s : State) (i : ℕ) → IsKept c n w q s → mark_at s.marks i ≡ Claimed → IsOpen c w s
open-at-claimed c n w q s i h e = elim h.opened [ inl idle ↦ absurd (not-free _ e (idle.0 i)) | inr o ↦ o ]

pub keeps-deposit : (c : CaseOf) (n w q : ℕ) (s : State) (i : ℕ) → IsKept c n w q s → mark_at s.marks i ≡ Claimed → IsKept c n w q (given s i)
keeps-deposit c n w q s i h e = record {
  sessions = h.sessions;
  parts = length-set s.marks i Deposited ∙ h.parts;
  within = h.within;
  window = h.window;
  opened = inr (open-at-claimed c n w q s i h e);
  whole = λ a. absurd (claimed-not-assembling c n w q s i h e a);
}

pub open-at-assembly : (c : CaseOf) (n w q : ℕ) (s : State) → IsKept c n w q s → s.assembling ≡ true → IsOpen c w s
open-at-assembly c n w q s h a = elim h.opened [ inl idle ↦ (let none = idle.1 in cc) | inr o ↦ o ]

pub keeps-publish : (c : CaseOf) (n w q : ℕ) (s : State) → IsKept c n w q s → s.assembling ≡ true → IsKept c n w q (published s)
keeps-publish c n w q s h a =
    let o = open-at-assembly c n w q s h a in
    let below = o.0 in
    let fits = o.1 in
    let up = floor-mono s.done (s.done + 1) s.wants (omega arith) in
    record {
      sessions = h.sessions;
      parts = freed-length s.marks ∙ h.parts;
      within = omega arith;
      window = omega arith;
      opened = inl (freed-free s.marks, refl);
      whole = λ b. cc;
    }

-- wants under which the floor is no lower
pub keeps-wants : (c : CaseOf) (n w q : ℕ) (s : State) (ws : List (Option ℕ)) → IsKept c n w q s → length ws ≡ length s.wants → floor s ≤ floor_of s.done ws
    → IsKept c n w q (record s { wants = ws })
keeps-wants c n w q s ws h len up =
    let opening : IsIdle s ⊎ ((s.done < c.stimulus.cycles) × (s.done < floor_of s.done ws + w)) = elim h.opened [ inl a ↦ inl a | inr b ↦ (let p = b.0 in let r = b.1 in inr (p, omega arith)) ] in
    record {
      sessions = len ∙ h.sessions;
      parts = h.parts;
      within = h.within;
      window = (let p = h.window in omega arith);
      opened = opening;
      whole = h.whole;
    }

-- a want that is there, and isn't above a cycle
pub want-some : (ws : List (Option ℕ)) (i k low : ℕ) (o : Option ℕ) → want_at ws i ≡ o → MatchOption o ⊥ (λ v. v ≤ k) → floor_of low ws ≤ floor_of low (set ws i (Some k))
want-some ws i k low None is up = absurd up
want-some ws i k low (Some v) is up = floor-raise low ws i v k is up

pub keeps-want : (c : CaseOf) (n w q : ℕ) (s : State) (i k : ℕ) → IsKept c n w q s → MatchOption (want_at s.wants i) ⊥ (λ v. v ≤ k) → IsKept c n w q (wanted s i k)
keeps-want c n w q s i k h may =
    keeps-wants c n w q s (set s.wants i (Some k)) h (length-set s.wants i (Some k)) (want-some s.wants i k s.done (want_at s.wants i) refl may)

pub keeps-leave : (c : CaseOf) (n w q : ℕ) (s : State) (i : ℕ) → IsKept c n w q s → IsKept c n w q (left s i)
keeps-leave c n w q s i h =
    keeps-wants c n w q s (set s.wants i None) h (length-set s.wants i None) (floor-leave s.done s.wants i)

pub keeps-fail : (c : CaseOf) (n w q : ℕ) (s : State) → IsKept c n w q s → IsKept c n w q (broken s)
keeps-fail c n w q s h = record {
  sessions = h.sessions;
  parts = h.parts;
  within = h.within;
  window = h.window;
  opened = h.opened;
  whole = h.whole;
}

-- ---- how many pieces were taken

pub taken-claim : (n : ℕ) (s : State) (i : ℕ) → mark_at s.marks i ≡ Free → taken n (claimed s i) ≡ taken n s
taken-claim n s i e = ap (λ k. s.done * n + k) (count-claim s.marks i e)

pub taken-publish : (n : ℕ) (s : State) → deposited s ≡ n → taken n (published s) ≡ taken n s
taken-publish n s e = omega (arith, e, freed-count s.marks)

pub taken-whole : (c : CaseOf) (n w q : ℕ) (s : State) → IsKept c n w q s → s.done ≡ c.stimulus.cycles → taken n s ≡ c.stimulus.cycles * n
taken-whole c n w q s h e =
    let none : deposited s ≡ 0 = elim h.opened [ inl a ↦ free-count s.marks a.0 | inr b ↦ (let p = b.0 in absurd (omega arith)) ] in
    ap (λ k. k * n + deposited s) e ∙ omega (arith, none)

pub taken-few : (c : CaseOf) (n w q : ℕ) (s : State) → IsKept c n w q s → taken n s ≤ s.done * n + n
taken-few c n w q s h = omega (arith, count-le s.marks, h.parts)
