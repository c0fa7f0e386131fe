use Rattle.std.proofs.Common.{ap, sym, ◌∙◌, ℕ, List, length}
use Rattle.std.specs.Prelude.{Option}
use Rattle.cif_shadows.specs.Tables.{AreTargets}
use Rattle.cif_shadows.proofs.Targets.{joined, same_limit}
use Rattle.cif_shadows.proofs.SetLaws.{output_more, room, targets_at}
use Rattle.cif_shadows.proofs.table.Shadows.set_outputs.Goals as goal

pub split_at-requires : goal.split_at-requires
split_at-requires c =
    room c.outputs-outputs.result.now c.args.bits.now _ c.loop-output.output-index _ _ (c.requires.as_many ∙ ap (λ (outputs : List (List (Option ℕ))). length (joined outputs)) (sym c.outputs-outputs.ensures))
    c.loop-output-test.true (c.items-targets.ensures ∙ c.output-item.is) c.loop-output.invariant.left

pub set_each-requires-clause-targets : goal.set_each-requires-clause-targets
set_each-requires-clause-targets c =
    let all : AreTargets (length c.args.self.now.bits) (joined c.outputs-outputs.result.now) = rw c.outputs-outputs.ensures c.requires.targets in
    same_limit _ _ _ (sym c.loop-output.invariant.set.as_many) (targets_at _ c.loop-output.output-index c.outputs-outputs.result.now _ _ c.loop-output-test.true (c.items-targets.ensures ∙ c.output-item.is) all)

pub loop-output-preserved : goal.loop-output-preserved
loop-output-preserved c =
    let all : AreTargets (length c.args.self.now.bits) (joined c.outputs-outputs.result.now) = rw c.outputs-outputs.ensures c.requires.targets in
    output_more _ c.loop-output.output-index c.outputs-outputs.result.now c.args.bits.now _ _ _ _ _ _ _ _ all (c.requires.as_many ∙ ap (λ (outputs : List (List (Option ℕ))). length (joined outputs)) (sym c.outputs-outputs.ensures))
    c.loop-output-test.true (c.items-targets.ensures ∙ c.output-item.is) c.split_at.ensures.front c.split_at.ensures.back c.loop-output.invariant c.set_each.ensures
