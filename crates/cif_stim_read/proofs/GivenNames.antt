-- Sets of names and of rows.
use Rattle.std.specs.Prelude.{ℕ, ◌≡◌, ◌==◌, Bool, true, false, ◌&&◌, ◌||◌, List, bytes_eq, refl}
use Rattle.std.specs.Borrow.{Bor}
use Rattle.std.specs.BTreeSet as sorted
use Rattle.std.specs.Cmp.Lexicographic.{slice_cmp}
use Rattle.std.specs.Ordering.{is_eq, nat_cmp, ordering_then}
use Rattle.std.specs.declared.cmp.Ordering.{Ordering}
use Rattle.std.specs.declared.cmp.Ordering.TheVariants.{Less, Equal, Greater}
use Rattle.std.proofs.Common.{ap, ◌∙◌, cond, arith}
use Rattle.std.proofs.lemmas.Bool.Decides.{nat_tests}
use Rattle.std.proofs.lemmas.Map.Text.{is_eq-slice_cmp}
use Rattle.cif_stim_read.specs.Given.{has, has_row}
use Rattle.cif_stim_read.specs.declared.given.NameSet.{NameSet}
use Rattle.cif_stim_read.specs.declared.given.RowSet.{RowSet}

or_cond : (a b : Bool) → cond a true b ≡ (a || b)
or_cond true b = refl
or_cond false b = refl

-- a name that some bytes are
abbrev named_by : List ℕ → Bor (List ℕ)
named_by name = record { ref_ptr = (0, 0); now = name }

pub names_added : (old new : NameSet) (key : Bor (List ℕ)) → sorted.Updates (λ (x y : Bor (List ℕ)). slice_cmp nat_cmp x.now y.now) old.names new.names key true → (other : List ℕ) → has new other ≡ (bytes_eq key.now other || has old other)
names_added old new key h other =
    h.0 (named_by other)
    ∙ ap (λ b. cond b true (has old other)) (is_eq-slice_cmp key.now other)
    ∙ or_cond (bytes_eq key.now other) (has old other)

and_then : (o p : Ordering) → is_eq (ordering_then o p) ≡ (is_eq o && is_eq p)
and_then Less p = refl
and_then Equal p = refl
and_then Greater p = refl

same_number : (a b : ℕ) → is_eq (nat_cmp a b) ≡ (a == b)
same_number a b = grind (arith, nat_tests)

abbrev row_cmp : Bor (List ℕ) × ℕ → Bor (List ℕ) × ℕ → Ordering
row_cmp x y = ordering_then (slice_cmp nat_cmp x.0.now y.0.now) (nat_cmp x.1 y.1)

pub rows_added : (old new : RowSet) (key : Bor (List ℕ)) (address : ℕ) → sorted.Updates row_cmp old.rows new.rows (key, address) true → (other : List ℕ) (place : ℕ) → has_row new other place ≡ (bytes_eq key.now other && address == place || has_row old other place)
rows_added old new key address h other place =
    h.0 (named_by other, place)
    ∙ ap (λ b. cond b true (has_row old other place)) (and_then (slice_cmp nat_cmp key.now other) (nat_cmp address place))
    ∙ ap (λ b. cond (b && is_eq (nat_cmp address place)) true (has_row old other place)) (is_eq-slice_cmp key.now other)
    ∙ ap (λ b. cond (bytes_eq key.now other && b) true (has_row old other place)) (same_number address place)
    ∙ or_cond (bytes_eq key.now other && address == place) (has_row old other place)
