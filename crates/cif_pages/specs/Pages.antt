-- Lists that are kept in pages.
use Rattle.std.specs.Prelude.{ℕ, ◌≡◌, ◌<◌, ◌≤◌, List, [], ◌∷◌, length}
use Rattle.std.specs.List.{flat_map}

-- the pages, one after another
abbrev pub joined : {A : Type 0} → List (List A) → List A
joined pages = flat_map (λ page. page) pages

-- a page has at most `size` items, and just as many where another page follows
abbrev pub ArePages : {A : Type 0} → ℕ → List (List A) → Type 0
ArePages size [] = Unit {0}
ArePages size (page ∷ pages) = (length page ≤ size) × (0 < length pages → length page ≡ size) × ArePages size pages

-- each page has `size` items
abbrev pub AreFullPages : {A : Type 0} → ℕ → List (List A) → Type 0
AreFullPages size [] = Unit {0}
AreFullPages size (page ∷ pages) = (length page ≡ size) × AreFullPages size pages
