-- What holds over every list of events.
use Rattle.std.proofs.Common.{ℕ, ◌+◌, ◌-◌, ◌≡◌, ◌<◌, ◌≤◌, inl, inr, List, [], ◌∷◌, length, Some, None, refl, sym, ap, subst, ◌∙◌, arith, get_or-set_same}
use Rattle.std.proofs.lemmas.List.{length-replicate}
use Rattle.cif_seq.specs.Cases.{CaseOf}
use Rattle.cif_core.specs.Frames.{first_kept, kept_frames}
use Rattle.cif_core.specs.Machine.{State, floor, fresh, wanted, left, broken, claimed, assembled, given, published, deposited, want_at, IsOpen, IsOver, IsFull}
use Rattle.cif_core.specs.Kept.{IsKept}
use Rattle.cif_core.specs.Events.{Event, claim, deposit, publish, want, look, newest, leave, fail, starve, Happens, Happen, IsNotBy, AreNotBy}
use Rattle.cif_core.specs.Replies.{Claims}
use Rattle.cif_core.specs.declared.mark.Mark.TheVariants.{Free}
use Rattle.cif_core.specs.declared.reply.Claim.{Claim}
use Rattle.cif_core.specs.declared.reply.Claim.TheVariants.{Piece as Part, Assemble, Finished, Wait}
use Rattle.cif_core.specs.declared.reply.Deposit.TheVariants.{Taken, Stranger}
use Rattle.cif_core.specs.declared.reply.Publish.TheVariants.{Published, Stranger as Unknown}
use Rattle.cif_core.proofs.Facts.{floor-want, free-count, free-mark, free-marks, set-apart}
use Rattle.cif_core.proofs.KeptFrames.{frames-length}
use Rattle.cif_core.proofs.KeptState

-- ---- one event

-- a state that is the same
moved : (c : CaseOf) (n w q : ℕ) (s t : State) → IsKept c n w q s → t ≡ s → IsKept c n w q t
moved c n w q s t h e = subst (IsKept c n w q) (sym e) h

-- where the run isn't over and the window isn't full, there is a cycle to open
pub open-of : (c : CaseOf) (n w q : ℕ) (s : State) → IsKept c n w q s → (IsOver c s → ⊥) → (IsFull w s → ⊥) → IsOpen c w s
open-of c n w q s h more room =
    let within = h.within in
    let differs : s.done ≡ c.stimulus.cycles → ⊥ = λ e. more (inl e) in
    (omega (arith, differs), omega (arith, room))

-- where every part is deposited, a cycle is open
pub open-of-whole : (c : CaseOf) (n w q : ℕ) (s : State) → IsKept c n w q s → 0 < n → deposited s ≡ n → IsOpen c w s
open-of-whole c n w q s h some all =
    elim h.opened [ inl idle ↦ (let none = free-count s.marks idle.0 in absurd (omega arith)) | inr o ↦ o ]

keeps-reply : (c : CaseOf) (n w q : ℕ) (s : State) (r : Claim) (t : State) → 0 < n → IsKept c n w q s → Claims c n w s r t → IsKept c n w q t
keeps-reply c n w q s Finished t some k h = moved c n w q s t k h.1
keeps-reply c n w q s Wait t some k h = moved c n w q s t k h.3
keeps-reply c n w q s (Part p) t some k h =
    moved c n w q (claimed s p.part) t (KeptState.keeps-claim c n w q s p.part k (open-of c n w q s k h.0 h.1) (free-mark s.marks p.part h.2)) h.7
keeps-reply c n w q s (Assemble slots) t some k h =
    moved c n w q (assembled s) t (KeptState.keeps-assembly c n w q s k (open-of-whole c n w q s k some h.1.0) h.1.0) h.4

keeps-event : (c : CaseOf) (n w q : ℕ) (s : State) (e : Event) (t : State) → 0 < n → IsKept c n w q s → Happens c n w q s e t → IsKept c n w q t
keeps-event c n w q s (claim r) t some k h = keeps-reply c n w q s r t some k h
keeps-event c n w q s (deposit p Taken) t some k h = moved c n w q (given s p.part) t (KeptState.keeps-deposit c n w q s p.part k h.2.0.1) h.2.1
keeps-event c n w q s (deposit p (Stranger r)) t some k h = moved c n w q s t k h.2.2
keeps-event c n w q s (publish f Published) t some k h = moved c n w q (published s) t (KeptState.keeps-publish c n w q s k h.1.0.1) h.1.1
keeps-event c n w q s (publish f (Unknown g slots)) t some k h = moved c n w q s t k h.1.2
keeps-event c n w q s (want i cycle) t some k h = moved c n w q (wanted s i cycle) t (KeptState.keeps-want c n w q s i cycle k h.1.0) h.2
keeps-event c n w q s (look i cycle r) t some k h = moved c n w q s t k h.2
keeps-event c n w q s (newest r) t some k h = moved c n w q s t k h.1
keeps-event c n w q s (leave i) t some k h = moved c n w q (left s i) t (KeptState.keeps-leave c n w q s i k) h.1
keeps-event c n w q s fail t some k h = moved c n w q (broken s) t (KeptState.keeps-fail c n w q s k) h
keeps-event c n w q s starve t some k h = moved c n w q s t k h

-- ---- every list of events

keeps-from : (c : CaseOf) (n w q : ℕ) (events : List Event) (s t : State) → 0 < n → IsKept c n w q s → Happen c n w q s events t → IsKept c n w q t
keeps-from c n w q [] s t some k h = moved c n w q s t k (sym h)
keeps-from c n w q (e ∷ events) s t some k h = keeps-from c n w q events h.0 t some (keeps-event c n w q s e h.0 some k h.1) h.2

pub fresh-kept : (c : CaseOf) (n w q : ℕ) → IsKept c n w q (fresh n q)
fresh-kept c n w q = record {
  sessions = length-replicate q (Some 0);
  parts = length-replicate n Free;
  within = omega arith;
  window = omega arith;
  opened = inl (free-marks n, refl);
  whole = λ a. cc;
}

pub keeps-all : (c : CaseOf) (n w q : ℕ) (events : List Event) (s : State) → 0 < n → Happen c n w q (fresh n q) events s → IsKept c n w q s
keeps-all c n w q events s some h = keeps-from c n w q events (fresh n q) s some (fresh-kept c n w q) h

pub frames-few : (c : CaseOf) (n w q : ℕ) (s : State) → IsKept c n w q s → length (kept_frames c s) ≤ w + 1
frames-few c n w q s h =
    let a = first_kept s.done (floor s) in
    let len = frames-length c a (s.done - a) in
    let window = h.window in
    omega arith

-- ---- what a session wants

stays-wanted : (c : CaseOf) (n w q : ℕ) (s : State) (e : Event) (t : State) (i k : ℕ) → want_at s.wants i ≡ Some k → IsNotBy i e → Happens c n w q s e t → want_at t.wants i ≡ Some k
stays-wanted c n w q s (claim Finished) t i k w0 apart h = ap (λ (x : State). want_at x.wants i) h.1 ∙ w0
stays-wanted c n w q s (claim Wait) t i k w0 apart h = ap (λ (x : State). want_at x.wants i) h.3 ∙ w0
stays-wanted c n w q s (claim (Part p)) t i k w0 apart h = ap (λ (x : State). want_at x.wants i) h.7 ∙ w0
stays-wanted c n w q s (claim (Assemble slots)) t i k w0 apart h = ap (λ (x : State). want_at x.wants i) h.4 ∙ w0
stays-wanted c n w q s (deposit p Taken) t i k w0 apart h = ap (λ (x : State). want_at x.wants i) h.2.1 ∙ w0
stays-wanted c n w q s (deposit p (Stranger r)) t i k w0 apart h = ap (λ (x : State). want_at x.wants i) h.2.2 ∙ w0
stays-wanted c n w q s (publish f Published) t i k w0 apart h = ap (λ (x : State). want_at x.wants i) h.1.1 ∙ w0
stays-wanted c n w q s (publish f (Unknown g slots)) t i k w0 apart h = ap (λ (x : State). want_at x.wants i) h.1.2 ∙ w0
stays-wanted c n w q s (want j cycle) t i k w0 apart h = ap (λ (x : State). want_at x.wants i) h.2 ∙ set-apart s.wants j i (Some cycle) None (λ e. apart (sym e)) ∙ w0
stays-wanted c n w q s (look j cycle r) t i k w0 apart h = ap (λ (x : State). want_at x.wants i) h.2 ∙ w0
stays-wanted c n w q s (newest r) t i k w0 apart h = ap (λ (x : State). want_at x.wants i) h.1 ∙ w0
stays-wanted c n w q s (leave j) t i k w0 apart h = ap (λ (x : State). want_at x.wants i) h.1 ∙ set-apart s.wants j i None None (λ e. apart (sym e)) ∙ w0
stays-wanted c n w q s fail t i k w0 apart h = ap (λ (x : State). want_at x.wants i) h ∙ w0
stays-wanted c n w q s starve t i k w0 apart h = ap (λ (x : State). want_at x.wants i) h ∙ w0

wanted-to : (c : CaseOf) (n w q : ℕ) (events : List Event) (s t : State) (i k : ℕ) → want_at s.wants i ≡ Some k → AreNotBy i events → Happen c n w q s events t → want_at t.wants i ≡ Some k
wanted-to c n w q [] s t i k w0 apart h = ap (λ (x : State). want_at x.wants i) (sym h) ∙ w0
wanted-to c n w q (e ∷ events) s t i k w0 apart h = wanted-to c n w q events h.0 t i k (stays-wanted c n w q s e h.0 i k w0 apart.0 h.1) apart.1 h.2

pub floor-stays : (c : CaseOf) (n w q i k : ℕ) (events : List Event) (s t : State) → i < length s.wants → AreNotBy i events → Happen c n w q (wanted s i k) events t → floor t ≤ k
floor-stays c n w q i k events s t inside apart h =
    floor-want t.done t.wants i k (wanted-to c n w q events (wanted s i k) t i k (get_or-set_same s.wants i (Some k) None inside) apart h)
