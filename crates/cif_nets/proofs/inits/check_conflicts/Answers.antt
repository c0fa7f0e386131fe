use Rattle.std.proofs.Common.{false, sym, ◌∙◌}
use Rattle.cif_nets.specs.declared.inits.InitBit.TheVariants.{Nothing}
use Rattle.cif_nets.proofs.InitLaws.{conflict_step, not_conflict, not_marked}
use Rattle.cif_nets.proofs.inits.check_conflicts.Goals as goal
use Rattle.cif_nets.proofs.inits.check_conflicts.Goals.{else-marks-place-via-then-marks-place+else-is_conflict, else-marks-place-via-else-marks-place}

pub loop-place-preserved : goal.loop-place-preserved
loop-place-preserved c = elim c.else-marks-place.branch [
  | else-marks-place-via-then-marks-place+else-is_conflict w ↦
      conflict_step c.args.numbers.now c.args.marks.now c.args.inits.now c.loop-place.place false _ c.loop-place-test.true c.requires.marks c.requires.inits
      (not_conflict _ _ (sym w.is_conflict.ensures ∙ w.if-is_conflict.false)) ∙ c.loop-place.invariant
  | else-marks-place-via-else-marks-place w ↦
      conflict_step c.args.numbers.now c.args.marks.now c.args.inits.now c.loop-place.place _ Nothing c.loop-place-test.true c.requires.marks c.requires.inits
      (not_marked _ _ w.if-marks-place.false) ∙ c.loop-place.invariant
]
