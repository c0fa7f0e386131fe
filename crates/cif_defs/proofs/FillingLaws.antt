-- The test for exact taint says whether two fillings give different bits.
use Rattle.std.specs.Prelude.{ℕ, ◌≡◌, ◌↔◌, Bool, true, false, List}
use Rattle.cif_defs.specs.Words.{Word}
use Rattle.cif_defs.specs.Kinds.{is_coarse}
use Rattle.cif_defs.specs.Cells.{Cell}
use Rattle.cif_defs.specs.Completions.{CanDiffer, can_differ}
use Rattle.cif_defs.specs.Taint.{output_bit, output_taint}
use Rattle.cif_defs.proofs.Differ.{CanDiffer-from_test, test_from-CanDiffer}

pub test_is_fillings : (f : List Word → Bool) (vs ts : List Word) → (can_differ f vs ts ≡ true) ↔ CanDiffer f vs ts
test_is_fillings f vs ts = (CanDiffer-from_test f vs ts, test_from-CanDiffer f vs ts)

pub output_is_fillings : (c : Cell) (p i : ℕ) (vs ts : List Word) → is_coarse c.kind ≡ false → (output_taint c p i vs ts ≡ true) ↔ CanDiffer (output_bit c p i) vs ts
output_is_fillings c p i vs ts exact = rw exact (test_is_fillings (output_bit c p i) vs ts)
