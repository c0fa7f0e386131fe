use Rattle.std.proofs.Common.{ap, ◌∙◌, drop, ◌+◌}
use Rattle.cif_defs.specs.Accepted.{driven_from}
use Rattle.cif_nets.specs.Told.{told_all}
use Rattle.cif_nets.specs.Drives.{driven_more, driver_at}
use Rattle.cif_nets.proofs.DriveLaws.{bit_recorded, bit_skipped, bits_recorded}
use Rattle.cif_nets.proofs.drives.record_bits.Goals as goal
use Rattle.cif_nets.proofs.drives.record_bits.Goals.{in-Net, in_default}

pub loop-index-preserved : goal.loop-index-preserved
loop-index-preserved c = elim c.match-bit.branch [
  | in-Net w ↦ bit_recorded driven_more (driver_at c.args.origin) c.args.bits.now c.loop-index.index w.in-Net.number _ c.args.numbers.now c.loop-index.drives c.match-bit.drives w.driver.result
      c.loop-index-test.true w.in-Net.is w.driver.ensures (w.drives-is ∙ w.record.ensures) ∙ c.loop-index.invariant
  | in_default w ↦
      ap (λ ss. told_all driven_more c.args.numbers.now ss (driven_from (driver_at c.args.origin) (c.loop-index.index + 1) (drop (c.loop-index.index + 1) c.args.bits.now))) w.drives-is
      ∙ ap (told_all driven_more c.args.numbers.now c.loop-index.drives) (bit_skipped (driver_at c.args.origin) c.args.bits.now c.loop-index.index _ c.loop-index-test.true w.in_default.not-Net) ∙ c.loop-index.invariant
]

pub returns : goal.returns
returns c = bits_recorded driven_more (driver_at c.args.origin) c.args.bits.now c.loop-index.index c.args.numbers.now c.loop-index.drives _ c.loop-index-test.false (c.loop-index.auto.drives ∙ c.requires.same) c.loop-index.invariant
