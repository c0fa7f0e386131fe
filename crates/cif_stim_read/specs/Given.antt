-- Sets of names, and of the rows of memories.
use Rattle.std.specs.Prelude.{ℕ, Bool, List}
use Rattle.std.specs.BTreeSet.{contains_by}
use Rattle.std.specs.Cmp.Lexicographic.{slice_cmp}
use Rattle.std.specs.Ordering.{nat_cmp, ordering_then}
use Rattle.cif_stim_read.specs.declared.given.NameSet.{NameSet}
use Rattle.cif_stim_read.specs.declared.given.RowSet.{RowSet}

-- whether a name is in a set
abbrev pub has : NameSet → List ℕ → Bool
has s name = contains_by (λ k. slice_cmp nat_cmp name k.now) s.names

-- whether the row of a memory at an address is in a set
abbrev pub has_row : RowSet → List ℕ → ℕ → Bool
has_row s name address = contains_by (λ k. ordering_then (slice_cmp nat_cmp name k.0.now) (nat_cmp address k.1)) s.rows
