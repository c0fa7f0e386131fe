-- What each event keeps of the frames and pieces beside the state.
use Rattle.std.proofs.Common.{ℕ, zero, suc, ◌+◌, ◌-◌, ◌≡◌, ◌<◌, ◌≤◌, ◌⊎◌, inl, inr, List, [], ◌∷◌, ◌++◌, length, Option, Some, None, Bool, true, false, refl, sym, ap, subst, ◌∙◌, arith, set, drop, length-set}
use Rattle.std.specs.Prelude.{MatchOption}
use Rattle.cif_seq.specs.Cases.{CaseOf, frame_of}
use Rattle.cif_pieces.specs.Pieces.{PieceOf, piece_of}
use Rattle.cif_pieces.specs.Filled.{place, AllEmpty}
use Rattle.cif_core.specs.Frames.{ShelfOf, frames_of, first_kept}
use Rattle.cif_core.specs.Machine.{State, floor, floor_of, want_at, mark_at, deposited, claimed, assembled, given, published, wanted, left, IsOpen, IsOver, IsDue}
use Rattle.cif_core.specs.Kept.{IsKept, Holds, HoldsSlots, held}
use Rattle.cif_core.specs.Replies.{Claims}
use Rattle.cif_core.specs.declared.mark.Mark.{Mark}
use Rattle.cif_core.specs.declared.mark.Mark.TheVariants.{Free, Claimed, Deposited}
use Rattle.cif_core.specs.declared.reply.Claim.TheVariants.{Assemble}
use Rattle.cif_core.proofs.Facts.{all-deposited, floor-mono, floor-leave, freed-free, set-apart, free-count}
use Rattle.cif_core.proofs.KeptFrames.{frames-cut, frames-push, frames-length, first-raise}
use Rattle.cif_core.proofs.KeptState

-- ---- claims

held-claim : (c : CaseOf) (k n r : ℕ) (ms : List Mark) (i j : ℕ) → mark_at ms i ≡ Free → held c k n r (mark_at (set ms i Claimed) j) ≡ held c k n r (mark_at ms j)
held-claim c k n r [] i j e = refl
held-claim c k n r (m ∷ ms) zero zero e = sym (ap (held c k n r) e)
held-claim c k n r (m ∷ ms) zero (suc j) e = refl
held-claim c k n r (m ∷ ms) (suc i) zero e = refl
held-claim c k n r (m ∷ ms) (suc i) (suc j) e = held-claim c k n r ms i j e

pieces-claim : (c : CaseOf) (n : ℕ) (s : State) (slots : Option (List (Option PieceOf))) (i : ℕ) → mark_at s.marks i ≡ Free → HoldsSlots c n s slots → HoldsSlots c n (claimed s i) slots
pieces-claim c n s None i e h = h
pieces-claim c n s (Some xs) i e h = (h.0, h.1, λ j. h.2 j ∙ sym (held-claim c s.done n j s.marks i j e))

pub holds-claim : (c : CaseOf) (n w q : ℕ) (s : State) (shelf : ShelfOf) (slots : Option (List (Option PieceOf))) (i : ℕ) → Holds c n w q s shelf slots
    → IsOpen c w s → mark_at s.marks i ≡ Free → Holds c n w q (claimed s i) shelf slots
holds-claim c n w q s shelf slots i h open' free = record {
  kept = KeptState.keeps-claim c n w q s i h.kept open' free;
  frames = h.frames;
  room = h.room;
  pieces = pieces-claim c n s slots i free h.pieces;
}

pub holds-assembly : (c : CaseOf) (n w q : ℕ) (s : State) (shelf : ShelfOf) (slots : Option (List (Option PieceOf))) → Holds c n w q s shelf slots
    → IsOpen c w s → deposited s ≡ n → Holds c n w q (assembled s) shelf None
holds-assembly c n w q s shelf slots h open' all = record {
  kept = KeptState.keeps-assembly c n w q s h.kept open' all;
  frames = h.frames;
  room = h.room;
  pieces = refl;
}

-- the reply that hands out the slots
pub assembly-reply : (c : CaseOf) (n w q : ℕ) (s : State) (shelf : ShelfOf) (slots : Option (List (Option PieceOf))) (xs : List (Option PieceOf)) → Holds c n w q s shelf slots
    → slots ≡ Some xs → (IsOver c s → ⊥) → deposited s ≡ n → Claims c n w s (Assemble xs) (assembled s)
assembly-reply c n w q s shelf slots xs h is more all =
    let p : HoldsSlots c n s (Some xs) = subst (HoldsSlots c n s) is h.pieces in (
      more,
      (all, p.0),
      p.1,
      (λ k below. let len = h.kept.parts in p.2 k ∙ ap (held c s.done n k) (all-deposited s.marks k (all ∙ sym len) (omega arith))),
      refl,
    )

away-at : (c : CaseOf) (n : ℕ) (s : State) (slots : Option (List (Option PieceOf))) → HoldsSlots c n s slots → slots ≡ None → s.assembling ≡ true
away-at c n s None h e = h
away-at c n s (Some xs) h e = cc

pub away-assembles : (c : CaseOf) (n w q : ℕ) (s : State) (shelf : ShelfOf) (slots : Option (List (Option PieceOf))) → Holds c n w q s shelf slots → slots ≡ None → s.assembling ≡ true
away-assembles c n w q s shelf slots h e = away-at c n s slots h.pieces e

-- where the window is full, no assembly is due
pub full-not-due : (c : CaseOf) (n w q : ℕ) (s : State) → IsKept c n w q s → 0 < n → floor s + w ≤ s.done → IsDue n s → ⊥
full-not-due c n w q s h some full due =
    let all = due.0 in
    elim h.opened [ inl idle ↦ (let none = free-count s.marks idle.0 in omega arith) | inr o ↦ (let fits = o.1 in omega arith) ]

-- ---- deposits

pub slot-empty : (c : CaseOf) (n : ℕ) (s : State) (slots : List (Option PieceOf)) (i : ℕ) → HoldsSlots c n s (Some slots) → mark_at s.marks i ≡ Claimed → place slots i ≡ None
slot-empty c n s slots i h e = h.2 i ∙ ap (held c s.done n i) e

same-mark : (i j : ℕ) (ms : List Mark) → mark_at ms i ≡ Claimed → i ≡ j → mark_at (set ms i Deposited) j ≡ Deposited
same-mark zero zero [] e h = cc
same-mark (suc i) j [] e h = cc
same-mark zero (suc j) [] e h = cc
same-mark zero zero (m ∷ ms) e h = refl
same-mark zero (suc j) (m ∷ ms) e h = absurd (omega arith)
same-mark (suc i) zero (m ∷ ms) e h = absurd (omega arith)
same-mark (suc i) (suc j) (m ∷ ms) e h = same-mark i j ms e (omega arith)

same-place : (xs : List (Option PieceOf)) (i j : ℕ) (p : PieceOf) → i < length xs → i ≡ j → place (set xs i (Some p)) j ≡ Some p
same-place [] i j p h e = absurd (omega arith)
same-place (x ∷ xs) zero zero p h e = refl
same-place (x ∷ xs) zero (suc j) p h e = absurd (omega arith)
same-place (x ∷ xs) (suc i) zero p h e = absurd (omega arith)
same-place (x ∷ xs) (suc i) (suc j) p h e = same-place xs i j p (omega arith) (omega arith)

nat-apart : (i j : ℕ) → (i ≡ j) ⊎ (i ≡ j → ⊥)
nat-apart zero zero = inl refl
nat-apart zero (suc j) = inr (λ e. omega arith)
nat-apart (suc i) zero = inr (λ e. omega arith)
nat-apart (suc i) (suc j) = elim (nat-apart i j) [ inl e ↦ inl (ap suc e) | inr d ↦ inr (λ e. d (omega arith)) ]

pieces-deposit : (c : CaseOf) (n : ℕ) (s : State) (xs : List (Option PieceOf)) (i : ℕ) → HoldsSlots c n s (Some xs) → mark_at s.marks i ≡ Claimed → i < n
    → (j : ℕ) → place (set xs i (Some (piece_of c s.done i n))) j ≡ held c s.done n j (mark_at (set s.marks i Deposited) j)
pieces-deposit c n s xs i h e inside j = elim (nat-apart i j) [
  | inl same ↦ same-place xs i j _ (let len = h.1 in omega arith) same ∙ ap (λ k. Some (piece_of c s.done k n)) same ∙ sym (ap (held c s.done n j) (same-mark i j s.marks e same))
  | inr apart ↦ set-apart xs i j _ None apart ∙ h.2 j ∙ sym (ap (held c s.done n j) (set-apart s.marks i j Deposited Free apart))
]

pub holds-deposit : (c : CaseOf) (n w q : ℕ) (s : State) (shelf : ShelfOf) (xs : List (Option PieceOf)) (p : PieceOf) → Holds c n w q s shelf (Some xs)
    → mark_at s.marks p.part ≡ Claimed → p.case ≡ c → p.cycle ≡ s.done → p.parts ≡ n
    → Holds c n w q (given s p.part) shelf (Some (set xs p.part (Some p)))
holds-deposit c n w q s shelf xs p h e case cycle parts =
    let inside = KeptState.claimed-inside s.marks p.part e in
    let len = h.kept.parts in
    let is : p ≡ piece_of c s.done p.part n = λ i. record { case = case i; cycle = cycle i; part = p.part; parts = parts i } in
    record {
      kept = KeptState.keeps-deposit c n w q s p.part h.kept e;
      frames = h.frames;
      room = h.room;
      pieces = (h.pieces.0, length-set xs p.part (Some p) ∙ h.pieces.1, λ j. ap (λ r. place (set xs p.part (Some r)) j) is ∙ pieces-deposit c n s xs p.part h.pieces e (omega arith) j);
    }

-- ---- wants

pieces-same : (c : CaseOf) (n : ℕ) (s : State) (ws : List (Option ℕ)) (slots : Option (List (Option PieceOf))) → HoldsSlots c n s slots → HoldsSlots c n (record s { wants = ws }) slots
pieces-same c n s ws None h = h
pieces-same c n s ws (Some xs) h = h

-- the frames that are left once the floor is no lower
holds-wants : (c : CaseOf) (n w q : ℕ) (s : State) (ws : List (Option ℕ)) (shelf shelf' : ShelfOf) (slots : Option (List (Option PieceOf))) → Holds c n w q s shelf slots
    → IsKept c n w q (record s { wants = ws }) → floor s ≤ floor_of s.done ws
    → shelf'.frames ≡ drop (length shelf.frames - (s.done - first_kept s.done (floor_of s.done ws))) shelf.frames → shelf'.room ≡ shelf.room
    → Holds c n w q (record s { wants = ws }) shelf' slots
holds-wants c n w q s ws shelf shelf' slots h kept up cut room = record {
  kept = kept;
  frames = cut ∙ frames-cut c s.done (first_kept s.done (floor s)) (first_kept s.done (floor_of s.done ws)) shelf.frames (first-raise s.done (floor s) (floor_of s.done ws) up) (omega arith) h.frames;
  room = (let p = h.room in omega arith);
  pieces = pieces-same c n s ws slots h.pieces;
}

pub holds-want : (c : CaseOf) (n w q : ℕ) (s : State) (i k : ℕ) (shelf shelf' : ShelfOf) (slots : Option (List (Option PieceOf))) → Holds c n w q s shelf slots
    → MatchOption (want_at s.wants i) ⊥ (λ v. v ≤ k)
    → shelf'.frames ≡ drop (length shelf.frames - (s.done - first_kept s.done (floor (wanted s i k)))) shelf.frames → shelf'.room ≡ shelf.room
    → Holds c n w q (wanted s i k) shelf' slots
holds-want c n w q s i k shelf shelf' slots h may cut room =
    holds-wants c n w q s (set s.wants i (Some k)) shelf shelf' slots h (KeptState.keeps-want c n w q s i k h.kept may)
    (KeptState.want-some s.wants i k s.done (want_at s.wants i) refl may) cut room

pub holds-leave : (c : CaseOf) (n w q : ℕ) (s : State) (i : ℕ) (shelf shelf' : ShelfOf) (slots : Option (List (Option PieceOf))) → Holds c n w q s shelf slots
    → shelf'.frames ≡ drop (length shelf.frames - (s.done - first_kept s.done (floor (left s i)))) shelf.frames → shelf'.room ≡ shelf.room
    → Holds c n w q (left s i) shelf' slots
holds-leave c n w q s i shelf shelf' slots h cut room =
    holds-wants c n w q s (set s.wants i None) shelf shelf' slots h (KeptState.keeps-leave c n w q s i h.kept) (floor-leave s.done s.wants i) cut room

-- ---- publications

-- there is room for one more frame
pub shelf-room : (c : CaseOf) (n w q : ℕ) (s : State) (shelf : ShelfOf) (slots : Option (List (Option PieceOf))) → Holds c n w q s shelf slots → 0 < w → length shelf.frames < shelf.room
shelf-room c n w q s shelf slots h some =
    let a = first_kept s.done (floor s) in
    let len : length shelf.frames ≡ s.done - a = ap length h.frames ∙ frames-length c a (s.done - a) in
    let room = h.room in
    let window = h.kept.window in
    omega arith

pub holds-publish : (c : CaseOf) (n w q : ℕ) (s : State) (shelf pushed shelf' : ShelfOf) (slots : Option (List (Option PieceOf))) (xs : List (Option PieceOf)) → Holds c n w q s shelf slots
    → s.assembling ≡ true → length xs ≡ n → AllEmpty xs
    → pushed.frames ≡ shelf.frames ++ frame_of c s.done ∷ [] → pushed.room ≡ shelf.room
    → shelf'.frames ≡ drop (length pushed.frames - (s.done + 1 - first_kept (s.done + 1) (floor (published s)))) pushed.frames → shelf'.room ≡ pushed.room
    → Holds c n w q (published s) shelf' (Some xs)
holds-publish c n w q s shelf pushed shelf' slots xs h away len empty push room1 cut room =
    let a = first_kept s.done (floor s) in
    let b = first_kept (s.done + 1) (floor (published s)) in
    let up = floor-mono s.done (s.done + 1) s.wants (omega arith) in
    let at : a + (s.done - a) ≡ s.done = omega arith in
    let count : suc (s.done - a) ≡ s.done + 1 - a = omega arith in
    let is : pushed.frames ≡ frames_of c a (s.done + 1 - a) =
    push ∙ (λ i. h.frames i ++ frame_of c (sym at i) ∷ []) ∙ frames-push c a (s.done - a) ∙ ap (frames_of c a) count in
    record {
      kept = KeptState.keeps-publish c n w q s h.kept away;
      frames = cut ∙ frames-cut c (s.done + 1) a b pushed.frames (omega arith) (omega arith) is;
      room = (let p = h.room in omega arith);
      pieces = (refl, len, λ i. empty i ∙ sym (ap (held c (s.done + 1) n i) (freed-free s.marks i)));
    }

-- ---- what the code needs

pub shelf-length : (c : CaseOf) (n w q : ℕ) (s : State) (shelf : ShelfOf) (slots : Option (List (Option PieceOf))) → Holds c n w q s shelf slots
    → length shelf.frames ≡ s.done - first_kept s.done (floor s)
shelf-length c n w q s shelf slots h =
    let a = first_kept s.done (floor s) in
    ap length h.frames ∙ frames-length c a (s.done - a)

pub holds-given : (c : CaseOf) (n w q : ℕ) (s : State) (shelf : ShelfOf) (slots : Option (List (Option PieceOf))) (xs ys : List (Option PieceOf)) (i : ℕ) (p : PieceOf) → Holds c n w q s shelf slots
    → slots ≡ Some xs → ys ≡ set xs i (Some p) → i ≡ p.part → mark_at s.marks i ≡ Claimed → p.case ≡ c → p.cycle ≡ s.done → p.parts ≡ n
    → Holds c n w q (given s i) shelf (Some ys)
holds-given c n w q s shelf slots xs ys i p h is put at e case cycle parts =
    let here : Holds c n w q s shelf (Some xs) = subst (Holds c n w q s shelf) is h in
    let mark : mark_at s.marks p.part ≡ Claimed = ap (mark_at s.marks) (sym at) ∙ e in
    let done = holds-deposit c n w q s shelf xs p here mark case cycle parts in
    let same : set xs p.part (Some p) ≡ ys = ap (λ (j : ℕ). set xs j (Some p)) (sym at) ∙ sym put in
    let moved : Holds c n w q (given s i) shelf (Some (set xs p.part (Some p))) = subst (λ (j : ℕ). Holds c n w q (given s j) shelf (Some (set xs p.part (Some p)))) (sym at) done in
    subst (λ (zs : List (Option PieceOf)). Holds c n w q (given s i) shelf (Some zs)) same moved

-- neither are all cycles done, nor is a failure kept
pub not-over : (cycles done k : ℕ) (failed : Bool) → k ≡ cycles → (done ≡ k → ⊥) → failed ≡ false → (done ≡ cycles) ⊎ (failed ≡ true) → ⊥
not-over cycles done k failed is differs fine (inl e) = differs (e ∙ sym is)
not-over cycles done k failed is differs fine (inr f) = cc

pub slot-free : (c : CaseOf) (n w q : ℕ) (s : State) (shelf : ShelfOf) (slots : Option (List (Option PieceOf))) (xs : List (Option PieceOf)) (i : ℕ) → Holds c n w q s shelf slots
    → slots ≡ Some xs → mark_at s.marks i ≡ Claimed → place xs i ≡ None
slot-free c n w q s shelf slots xs i h is e =
    let here : HoldsSlots c n s (Some xs) = subst (HoldsSlots c n s) is h.pieces in
    slot-empty c n s xs i here e
