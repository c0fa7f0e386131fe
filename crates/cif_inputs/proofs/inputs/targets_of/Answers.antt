use Rattle.std.proofs.Common.{arith, ◌≡◌, length}
use Rattle.cif_inputs.proofs.Cursors.{targets_more, targets_all, as_many_read}
use Rattle.cif_inputs.proofs.inputs.targets_of.Goals as goal

pub target-requires : goal.target-requires
target-requires c =
    let count : length c.lines-count.result.now ≡ length c.args.stimulus.now.lines = as_many_read _ c.args.stimulus.now c.lines-count.ensures.value in
    omega arith

pub loop-number-preserved : goal.loop-number-preserved
loop-number-preserved c =
    let count : length c.lines-count.result.now ≡ length c.args.stimulus.now.lines = as_many_read _ c.args.stimulus.now c.lines-count.ensures.value in
    targets_more _ _ _ _ _ _ (omega arith) c.loop-number.invariant c.target.ensures c.in_ok-push.ensures.items

pub returns : goal.returns
returns c =
    let count : length c.lines-count.result.now ≡ length c.args.stimulus.now.lines = as_many_read _ c.args.stimulus.now c.lines-count.ensures.value in
    targets_all _ _ _ _ (omega arith) c.loop-number.invariant
