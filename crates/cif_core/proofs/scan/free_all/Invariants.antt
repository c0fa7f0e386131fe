use Rattle.std.proofs.Common.{◌≡◌, ◌<◌, ℕ, get_or, length}
use Rattle.cif_core.specs.declared.mark.Mark.TheVariants.{Free}
use Rattle.cif_core.proofs.scan.free_all.Given as goal

abbrev pub invariant-loop-i : goal.invariant-loop-i
invariant-loop-i l = (length l.marks.items ≡ length l.initial.marks.items) × ((k : ℕ) → k < l.i → get_or l.marks.items k Free ≡ Free)
