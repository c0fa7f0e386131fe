-- How lists are cut into pages.
use Rattle.std.proofs.Common.{◌≡◌, ℕ, zero, suc, ◌+◌, ◌*◌, ◌/◌, ◌%◌, ◌<◌, ◌≤◌, min, List, [], ◌∷◌, ◌++◌, length, replicate, sym, ap, ◌∙◌, arith, append_assoc}
use Rattle.std.proofs.lemmas.List.{append-nil, length-append, length-replicate, replicate-append-replicate}
use Rattle.std.proofs.lemmas.List.Concat.{flat_map-append}
use Rattle.std.proofs.lemmas.Nat.{div-add-mod', mod_below}
use Rattle.cif_pages.specs.Pages.{joined, ArePages, AreFullPages}

module _ {A : Type 0} (n : ℕ) where
  -- one page more behind full ones
  pub ArePages-push : (pages : List (List A)) (x : List A) → AreFullPages n pages → length x ≤ n → ArePages n (pages ++ x ∷ [])
  ArePages-push [] x h s = (s, (λ more. absurd (omega arith)), tt)
  ArePages-push (y ∷ ys) x h s = (omega (arith, h.0), (λ _. h.0), ArePages-push ys x h.1 s)

  pub AreFullPages-push : (pages : List (List A)) (x : List A) → AreFullPages n pages → length x ≡ n → AreFullPages n (pages ++ x ∷ [])
  AreFullPages-push [] x h s = (s, tt)
  AreFullPages-push (y ∷ ys) x h s = (h.0, AreFullPages-push ys x h.1 s)

  pub ArePages-from_full : (pages : List (List A)) → AreFullPages n pages → ArePages n pages
  ArePages-from_full [] h = tt
  ArePages-from_full (x ∷ xs) h = (omega (arith, h.0), (λ _. h.0), ArePages-from_full xs h.1)

  -- `count` pages that are all one page
  pub AreFullPages-replicate : (count : ℕ) (page : List A) → length page ≡ n → AreFullPages n (replicate count page)
  AreFullPages-replicate zero page e = tt
  AreFullPages-replicate (suc count) page e = (e, AreFullPages-replicate count page e)

-- a page put behind others
pub joined-push : {A : Type 0} (pages : List (List A)) (x : List A) → joined (pages ++ x ∷ []) ≡ joined pages ++ x
joined-push pages x = flat_map-append (λ page. page) pages (x ∷ []) ∙ ap (λ last. joined pages ++ last) (append-nil x)

-- `count` pages of `n` items that are all one item
pub joined-replicate : {A : Type 0} (n count : ℕ) (a : A) → joined (replicate count (replicate n a)) ≡ replicate (count * n) a
joined-replicate n zero a = let none : 0 ≡ 0 * n = omega arith in ap (λ k. replicate k a) none
joined-replicate n (suc count) a =
    let more : n + count * n ≡ suc count * n = omega arith in
    ap (λ rest. replicate n a ++ rest) (joined-replicate n count a)
    ∙ replicate-append-replicate n (count * n) a
    ∙ ap (λ k. replicate k a) more

-- what pages that are all one page have, where it has `n` items that are all one item
pub equal_words : {A : Type 0} (n count : ℕ) (a : A) (page : List A) (pages : List (List A)) → page ≡ replicate n a → pages ≡ replicate count page
    → joined pages ≡ replicate (count * n) a
equal_words n count a page pages filled copies =
    ap joined copies ∙ ap (λ y. joined (replicate count y)) filled ∙ joined-replicate n count a

pub equal_full : {A : Type 0} (n count : ℕ) (a : A) (page : List A) (pages : List (List A)) → page ≡ replicate n a → pages ≡ replicate count page
    → AreFullPages n pages
equal_full n count a page pages filled copies =
    rw copies (AreFullPages-replicate n count page (ap length filled ∙ length-replicate n a))

-- full pages of one item, with no rest
pub filled_whole : {A : Type 0} (n long : ℕ) (pages : List (List A)) (a : A) → joined pages ≡ replicate (long / n * n) a → long % n ≤ 0
    → joined pages ≡ replicate long a
filled_whole n long pages a e none =
    let all = div-add-mod' long n in
    let same : long / n * n ≡ long = omega arith in
    e ∙ ap (λ k. replicate k a) same

-- full pages of one item, and a page of the rest behind them
pub filled_rest : {A : Type 0} (n long : ℕ) (pages after : List (List A)) (last : List A) (a : A) → joined pages ≡ replicate (long / n * n) a
    → after ≡ pages ++ last ∷ [] → last ≡ replicate (long % n) a → joined after ≡ replicate long a
filled_rest n long pages after last a e pushed rest =
    ap joined pushed ∙ joined-push pages last
    ∙ ap (λ front. front ++ last) e
    ∙ ap (λ back. replicate (long / n * n) a ++ back) rest
    ∙ replicate-append-replicate (long / n * n) (long % n) a
    ∙ ap (λ k. replicate k a) (div-add-mod' long n)

-- the list is filled, and cut right, with the page of the rest behind
pub filled_pages : {A : Type 0} (n long : ℕ) (pages after : List (List A)) (last : List A) (a : A) → 0 < n → AreFullPages n pages
    → after ≡ pages ++ last ∷ [] → last ≡ replicate (long % n) a → ArePages n after
filled_pages n long pages after last a p full pushed rest =
    let count = ap length rest ∙ length-replicate (long % n) a in
    let below = mod_below long n p in
    rw pushed (ArePages-push n pages last full (omega arith))

-- a piece cut off the front of the rest, and put as a page behind the others
pub next_words : {A : Type 0} (pages after : List (List A)) (piece rest left words : List A) → after ≡ pages ++ piece ∷ [] → rest ≡ piece ++ left
    → joined pages ++ rest ≡ words → joined after ++ left ≡ words
next_words pages after piece rest left words pushed cut so_far =
    ap (λ y. joined y ++ left) pushed
    ∙ ap (λ front. front ++ left) (joined-push pages piece)
    ∙ append_assoc (joined pages) piece left
    ∙ ap (λ back. joined pages ++ back) (sym cut)
    ∙ so_far

-- a piece of up to `n` items cut off the front of the rest, and put as a page behind full ones
pub next_piece : {A : Type 0} (n size : ℕ) (pages after : List (List A)) (page piece rest left words : List A) → size ≡ n → after ≡ pages ++ page ∷ []
    → page ≡ piece → rest ≡ piece ++ left → length piece ≡ min size (length rest) → AreFullPages n pages → joined pages ++ rest ≡ words
    → (joined after ++ left ≡ words) × ArePages n after × (0 < length left → AreFullPages n after)
next_piece n size pages after page piece rest left words is pushed copied cut long full so_far =
    let behind : after ≡ pages ++ piece ∷ [] = pushed ∙ ap (λ y. pages ++ y ∷ []) copied in
    let parts : length rest ≡ length piece + length left = ap length cut ∙ length-append piece left in (
      next_words pages after piece rest left words behind cut so_far,
      rw behind (ArePages-push n pages piece full (omega arith)),
      (λ more. rw behind (AreFullPages-push n pages piece full (omega arith))),
    )
