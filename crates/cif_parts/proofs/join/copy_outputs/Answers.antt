use Rattle.std.proofs.Common.{◌∙◌, []}
use Rattle.std.proofs.lemmas.List.{get_or_default}
use Rattle.cif_parts.proofs.Copying.{more_outputs}
use Rattle.cif_parts.proofs.join.copy_outputs.Goals as goal

pub loop-targets-preserved : goal.loop-targets-preserved
loop-targets-preserved c = more_outputs c.args.from.now c.args.to.now c.loop-targets.to c.copy_output.new.to c.args.outputs.now c.loop-targets.targets-index c.items.result.now
    (c.items.ensures ∙ c.targets-item.is ∙ get_or_default c.args.outputs.now c.loop-targets.targets-index _ [] c.loop-targets-test.true) c.loop-targets.invariant c.copy_output.ensures
