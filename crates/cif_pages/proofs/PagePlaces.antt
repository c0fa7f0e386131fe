-- Where an item of a list stands among its pages.
use Rattle.std.proofs.Common.{◌≡◌, ℕ, zero, suc, ◌+◌, ◌*◌, ◌/◌, ◌%◌, ◌<◌, ◌≤◌, List, [], ◌∷◌, ◌++◌, length, get_or, set, sym, ap, subst, ◌∙◌, arith, length-set}
use Rattle.std.proofs.lemmas.List.{append-nil, length-append, get_or_append_left, get_or-append_right, set-append_left, set-append_right}
use Rattle.std.proofs.lemmas.Nat.{div-add-mod', mod_below}
use Rattle.std.proofs.lemmas.Result.{on_ok_weaker}
use Rattle.std.specs.Prelude.{Result, Ok, Err, OnOk, OnErr}
use Rattle.cif_pages.specs.Pages.{joined, ArePages}

module _ {A : Type 0} (n : ℕ) where
  -- an item past the first page stands among the others, and the first page is full
  past : (x : List A) (xs : List (List A)) (q r : ℕ) → ArePages n (x ∷ xs) → suc q * n + r < length (x ++ joined xs)
      → (length x ≡ n) × (q * n + r < length (joined xs))
  past x [] q r h l =
      let short : length x ≤ n = h.0 in
      let long = length-append x [] in
      absurd (omega arith)
  past x (y ∷ ys) q r h l =
      let whole : length x ≡ n = h.1 (omega arith) in
      let long = length-append x (joined (y ∷ ys)) in
      (whole, omega arith)

  -- item `r` of page `q` is there
  pub page_below : (pages : List (List A)) (q r : ℕ) → ArePages n pages → q * n + r < length (joined pages) → q < length pages
  page_below [] q r h l = absurd (omega arith)
  page_below (x ∷ xs) zero r h l = omega arith
  page_below (x ∷ xs) (suc q) r h l =
      let more : q < length xs = page_below xs q r h.2 (past x xs q r h l).1 in
      omega arith

  pub item_below : (pages : List (List A)) (q r : ℕ) (d : List A) → ArePages n pages → r < n → q * n + r < length (joined pages) → r < length (get_or pages q d)
  item_below [] q r d h s l = absurd (omega arith)
  item_below (x ∷ []) zero r d h s l = let all : 0 * n + r < length x = simp append-nil at l in omega arith
  item_below (x ∷ y ∷ ys) zero r d h s l = let whole : length x ≡ n = h.1 (omega arith) in omega arith
  item_below (x ∷ xs) (suc q) r d h s l = item_below xs q r d h.2 s (past x xs q r h l).1

  pub item_of_page : (pages : List (List A)) (q r : ℕ) (d : List A) (e : A) → ArePages n pages → r < n → q * n + r < length (joined pages)
      → get_or (joined pages) (q * n + r) e ≡ get_or (get_or pages q d) r e
  item_of_page [] q r d e h s l = absurd (omega arith)
  item_of_page (x ∷ xs) zero r d e h s l =
      let there : r < length x = item_below (x ∷ xs) zero r d h s l in
      ap (λ i. get_or (x ++ joined xs) i e) (omega arith) ∙ get_or_append_left x (joined xs) e r there
  item_of_page (x ∷ xs) (suc q) r d e h s l =
      let on = past x xs q r h l in
      get_or-append_right x (joined xs) n (suc q * n + r) e on.0 (omega arith)
      ∙ ap (λ i. get_or (joined xs) i e) (omega arith)
      ∙ item_of_page xs q r d e h.2 s on.1

  pub set_of_page : (pages : List (List A)) (q r : ℕ) (d : List A) (a : A) → ArePages n pages → r < n → q * n + r < length (joined pages)
      → joined (set pages q (set (get_or pages q d) r a)) ≡ set (joined pages) (q * n + r) a
  set_of_page [] q r d a h s l = absurd (omega arith)
  set_of_page (x ∷ xs) zero r d a h s l =
      let there : r < length x = item_below (x ∷ xs) zero r d h s l in
      sym (ap (λ i. set (x ++ joined xs) i a) (omega arith) ∙ set-append_left x (joined xs) r a there)
  set_of_page (x ∷ xs) (suc q) r d a h s l =
      let on = past x xs q r h l in
      ap (λ rest. x ++ rest) (set_of_page xs q r d a h.2 s on.1)
      ∙ sym (set-append_right x (joined xs) n (suc q * n + r) a on.0 (omega arith)
      ∙ ap (λ i. x ++ set (joined xs) i a) (omega arith))

  pub ArePages-set : (pages : List (List A)) (q : ℕ) (d y : List A) → ArePages n pages → length y ≡ length (get_or pages q d) → ArePages n (set pages q y)
  ArePages-set [] q d y h e = tt
  ArePages-set (x ∷ xs) zero d y h e = (omega (arith, h.0), (λ more. e ∙ h.1 more), h.2)
  ArePages-set (x ∷ xs) (suc q) d y h e =
      let same = length-set xs q y in
      (h.0, (λ more. h.1 (omega arith)), ArePages-set xs q d y h.2 e)

  -- the same by the item's place in the list
  pub page_of : (pages : List (List A)) (i : ℕ) → ArePages n pages → i < length (joined pages) → i / n < length pages
  page_of pages i h l = page_below pages (i / n) (i % n) h (rw div-add-mod' l)

  pub place_of : (pages : List (List A)) (i : ℕ) (d : List A) → 0 < n → ArePages n pages → i < length (joined pages) → i % n < length (get_or pages (i / n) d)
  place_of pages i d p h l = item_below pages (i / n) (i % n) d h (mod_below i n p) (rw div-add-mod' l)

  pub item_of : (pages : List (List A)) (i : ℕ) (d : List A) (e : A) → 0 < n → ArePages n pages → i < length (joined pages)
      → get_or (joined pages) i e ≡ get_or (get_or pages (i / n) d) (i % n) e
  item_of pages i d e p h l =
      ap (λ k. get_or (joined pages) k e) (sym (div-add-mod' i n))
      ∙ item_of_page pages (i / n) (i % n) d e h (mod_below i n p) (rw div-add-mod' l)

  pub set_of : (pages : List (List A)) (i : ℕ) (d : List A) (a : A) → 0 < n → ArePages n pages → i < length (joined pages)
      → joined (set pages (i / n) (set (get_or pages (i / n) d) (i % n) a)) ≡ set (joined pages) i a
  set_of pages i d a p h l =
      set_of_page pages (i / n) (i % n) d a h (mod_below i n p) (rw div-add-mod' l)
      ∙ ap (λ k. set (joined pages) k a) (div-add-mod' i n)

  -- what a write into a page makes of the list, and of the pages
  pub written : {U E : Type 0} (r : Result U E) (pages : List (List A)) (i : ℕ) (d after : List A) (a : A) → 0 < n → ArePages n pages → i < length (joined pages)
      → OnOk r (after ≡ set (get_or pages (i / n) d) (i % n) a) → OnOk r (joined (set pages (i / n) after) ≡ set (joined pages) i a)
  written r pages i d after a p h l =
      on_ok_weaker r (λ done. ap (λ y. joined (set pages (i / n) y)) done ∙ set_of pages i d a p h l)

  pub written_pages : {U E : Type 0} (r : Result U E) (pages : List (List A)) (i : ℕ) (d after : List A) (a : A) → ArePages n pages
      → OnOk r (after ≡ set (get_or pages (i / n) d) (i % n) a) → OnErr r (after ≡ get_or pages (i / n) d) → ArePages n (set pages (i / n) after)
  written_pages (Ok u) pages i d after a h done failed =
      ArePages-set pages (i / n) d after h (ap length done ∙ length-set (get_or pages (i / n) d) (i % n) a)
  written_pages (Err e) pages i d after a h done failed = ArePages-set pages (i / n) d after h (ap length failed)

  -- the same for a page that was read
  pub place_in : (pages : List (List A)) (i : ℕ) (page : List A) → 0 < n → ArePages n pages → i < length (joined pages)
      → page ≡ get_or pages (i / n) page → i % n < length page
  place_in pages i page p h l here = let P : List A → Type 0 = λ y. i % n < length y in subst P (sym here) (place_of pages i page p h l)

  pub item_in : (pages : List (List A)) (i : ℕ) (page : List A) (e : A) → 0 < n → ArePages n pages → i < length (joined pages)
      → page ≡ get_or pages (i / n) page → get_or (joined pages) i e ≡ get_or page (i % n) e
  item_in pages i page e p h l here = item_of pages i page e p h l ∙ ap (λ y. get_or y (i % n) e) (sym here)
