use Rattle.std.proofs.Common.{arith, ◌<◌, length, get_or}
use Rattle.std.proofs.lemmas.List.Elements.{Contains-get_or}
use Rattle.cif_shadows.proofs.table.bar.Goals as goal

pub bounds-barred-bit : goal.bounds-barred-bit
bounds-barred-bit c =
    let below : get_or c.args.released.now c.loop-bit.bit-index 0 < length c.args.barred.now = c.requires _ (Contains-get_or c.args.released.now c.loop-bit.bit-index 0 c.loop-bit-test.true) in
    omega (arith, c.loop-bit.auto.barred)
