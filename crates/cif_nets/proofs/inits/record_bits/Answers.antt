use Rattle.std.proofs.Common.{refl, ◌∙◌}
use Rattle.cif_nets.specs.Inits.{init_more, told_bits}
use Rattle.cif_nets.proofs.InitLaws.{bit_step, told_last}
use Rattle.cif_nets.proofs.inits.record_bits.Goals as goal

pub loop-index-preserved : goal.loop-index-preserved
loop-index-preserved c = bit_step c.args.value.now c.args.bits.now c.loop-index.index _ c.args.numbers.now c.loop-index.inits c.record_bit.new.inits c.loop-index-test.true c.record_bit.ensures ∙ c.loop-index.invariant

pub returns : goal.returns
returns c = told_last init_more (told_bits c.args.value.now) (λ _. refl) c.args.numbers.now c.loop-index.inits _ c.args.bits.now c.loop-index.index c.loop-index-test.false (c.loop-index.auto.inits ∙ c.requires.same) c.loop-index.invariant
