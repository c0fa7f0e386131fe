use Rattle.std.proofs.Common.{arith, ap, ◌∙◌, ◌+◌, if◌then◌else◌, slice_set}
use Rattle.cif_defs.specs.Words.{bit}
use Rattle.cif_cycle.specs.Memories.{row_written}
use Rattle.cif_cycle.proofs.PutRows.{put_more, put_all, put_ahead}
use Rattle.cif_cycle.proofs.memory.write_value.Goals as goal

pub set-requires : goal.set-requires
set-requires c = (let h = c.loop-i.invariant.as_long in let e = c.width-i-end.ensures.value in let q = c.from.ensures in omega arith)

pub loop-i-preserved : goal.loop-i-preserved
loop-i-preserved c =
    put_more c.args.at c.loop-i.i (λ i. if bit c.args.port.now.enable i then bit c.args.port.now.word i else bit c.args.stored.now (c.args.at + i)) c.args.stored.now c.loop-i.stored c.set.new.self c.bit_after-bit.result
    c.loop-i.invariant (let h = c.loop-i.invariant.as_long in let e = c.width-i-end.ensures.value in omega arith)
    (c.in_ok-set.ensures.ok ∙ ap (λ k. slice_set c.loop-i.stored (c.args.at + k) c.bit_after-bit.result) c.from.ensures)
    (c.bit_after-bit.ensures ∙ ap (λ b. if bit c.args.port.now.enable c.loop-i.i then bit c.args.port.now.word c.loop-i.i else b) (c.bit.ensures ∙ put_ahead _ _ _ _ _ _ c.loop-i.invariant c.from.ensures))

pub returns : goal.returns
returns c = put_all c.args.at c.loop-i.i _ (λ k. row_written k c.args.port.now (λ i. bit c.args.stored.now (c.args.at + i))) c.args.stored.now c.loop-i.stored c.loop-i.invariant (let e = c.width-i-end.ensures.value in omega arith)
