use Rattle.std.proofs.Common.{◌≡◌, ◌<◌, ℕ, false}
use Rattle.cif_core.specs.Machine.{mark_at}
use Rattle.cif_core.specs.declared.mark.Mark.TheVariants.{Claimed}
use Rattle.cif_hall.proofs.finish.take_parts.Given as goal

abbrev pub invariant-loop-part : goal.invariant-loop-part
invariant-loop-part g l =
    (l.kept.core.wants ≡ l.initial.kept.core.wants) × (l.kept.core.done ≡ l.initial.kept.core.done)
    × (l.kept.core.failed ≡ false) × (l.kept.core.assembling ≡ false)
    × ((i : ℕ) → i < l.part → mark_at l.kept.core.marks i ≡ Claimed → ⊥)
