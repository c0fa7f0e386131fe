-- The frames that are kept.
use Rattle.std.proofs.Common.{ℕ, zero, suc, ◌+◌, ◌-◌, ◌≡◌, ◌<◌, ◌≤◌, List, [], ◌∷◌, ◌++◌, length, refl, sym, ap, ◌∙◌, arith, get_or, drop, add-zero}
use Rattle.cif_seq.specs.Cases.{CaseOf, FrameOf, frame_of}
use Rattle.cif_core.specs.Frames.{frames_of, first_kept}

pub frame-is : (f : FrameOf) (c : CaseOf) (k : ℕ) → f.case ≡ c → f.cycle ≡ k → f ≡ frame_of c k
frame-is f c k p q = λ i. record { case = p i; cycle = q i }

pub frames-length : (c : CaseOf) (k n : ℕ) → length (frames_of c k n) ≡ n
frames-length c k zero = refl
frames-length c k (suc n) = ap suc (frames-length c (k + 1) n)

pub frames-push : (c : CaseOf) (k n : ℕ) → frames_of c k n ++ frame_of c (k + n) ∷ [] ≡ frames_of c k (suc n)
frames-push c k zero = ap (λ (j : ℕ). frame_of c j ∷ []) (add-zero k)
frames-push c k (suc n) =
    let same : k + suc n ≡ k + 1 + n = omega arith in
    ap (λ t. frame_of c k ∷ t) (ap (λ (j : ℕ). frames_of c (k + 1) n ++ frame_of c j ∷ []) same ∙ frames-push c (k + 1) n)

pub frames-at : (c : CaseOf) (k n i : ℕ) (d : FrameOf) → i < n → get_or (frames_of c k n) i d ≡ frame_of c (k + i)
frames-at c k zero i d h = absurd (omega arith)
frames-at c k (suc n) zero d h = ap (frame_of c) (sym (add-zero k))
frames-at c k (suc n) (suc i) d h =
    let same : k + 1 + i ≡ k + suc i = omega arith in
    frames-at c (k + 1) n i d (omega arith) ∙ ap (frame_of c) same

pub frames-drop : (c : CaseOf) (k n m : ℕ) → drop m (frames_of c k n) ≡ frames_of c (k + m) (n - m)
frames-drop c k n zero =
    let p : k ≡ k + zero = omega arith in let q : n ≡ n - zero = omega arith in
    (λ i. frames_of c (p i) (q i))
frames-drop c k zero (suc m) = let q : 0 ≡ 0 - suc m = omega arith in ap (frames_of c (k + suc m)) q
frames-drop c k (suc n) (suc m) =
    let p : k + 1 + m ≡ k + suc m = omega arith in let q : n - m ≡ suc n - suc m = omega arith in
    frames-drop c (k + 1) n m ∙ (λ i. frames_of c (p i) (q i))

-- the frames from cycle a up to the end, cut to those from cycle b on
pub frames-cut : (c : CaseOf) (end a b : ℕ) (xs : List FrameOf) → a ≤ b → b ≤ end → xs ≡ frames_of c a (end - a)
    → drop (length xs - (end - b)) xs ≡ frames_of c b (end - b)
frames-cut c end a b xs ab within is =
    let n = end - a in
    let m = n - (end - b) in
    let len : length xs ≡ n = ap length is ∙ frames-length c a n in
    let p : a + m ≡ b = omega arith in
    let q : n - m ≡ end - b = omega arith in
    (λ i. drop (len i - (end - b)) (is i)) ∙ frames-drop c a n m ∙ (λ i. frames_of c (p i) (q i))

-- the first cycle whose frame is kept
pub first-le : (done low : ℕ) → low ≤ done → first_kept done low ≤ low
first-le done low h = omega arith

pub first-raise : (done low high : ℕ) → low ≤ high → first_kept done low ≤ first_kept done high
first-raise done low high h = omega arith

-- the frame of a cycle on the shelf
pub shelf-at : (c : CaseOf) (done low k : ℕ) (xs : List FrameOf) (d : FrameOf) → xs ≡ frames_of c (first_kept done low) (done - first_kept done low)
    → low ≤ k → k < done → get_or xs (k - (done - length xs)) d ≡ frame_of c k
shelf-at c done low k xs d is from below =
    let a = first_kept done low in
    let len : length xs ≡ done - a = ap length is ∙ frames-length c a (done - a) in
    let first : done - length xs ≡ a = omega arith in
    let at : a + (k - a) ≡ k = omega arith in
    (λ i. get_or (is i) (k - first i) d) ∙ frames-at c a (done - a) (k - a) d (omega arith) ∙ ap (frame_of c) at

pub last-at : (c : CaseOf) (done low : ℕ) (xs : List FrameOf) (d : FrameOf) → xs ≡ frames_of c (first_kept done low) (done - first_kept done low)
    → 0 < done → get_or xs (length xs - 1) d ≡ frame_of c (done - 1)
last-at c done low xs d is some =
    let a = first_kept done low in
    let len : length xs ≡ done - a = ap length is ∙ frames-length c a (done - a) in
    let at : a + (done - a - 1) ≡ done - 1 = omega arith in
    (λ i. get_or (is i) (len i - 1) d) ∙ frames-at c a (done - a) (done - a - 1) d (omega arith) ∙ ap (frame_of c) at
