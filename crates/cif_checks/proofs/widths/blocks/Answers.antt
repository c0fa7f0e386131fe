use Rattle.std.proofs.Common.{arith}
use Rattle.cif_checks.proofs.RawLaws.{blocks_past}
use Rattle.cif_checks.proofs.widths.blocks.Goals as goal

pub returns-then-power-ge64 : goal.returns-then-power-ge64
returns-then-power-ge64 c = λ h. omega (arith, blocks_past c.args.count c.args.power (omega arith) c.if-power-ge64.true)
