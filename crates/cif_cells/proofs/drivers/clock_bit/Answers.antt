use Rattle.std.proofs.Common.{refl}
use Rattle.cif_cells.proofs.ClockBitLaws.{clock_place_is, no_clock_is}
use Rattle.cif_nets.proofs.NetLaws.{numbers_increase}
use Rattle.cif_cells.proofs.drivers.clock_bit.Goals as goal

pub net_bit-requires-clause-rising : goal.net_bit-requires-clause-rising
net_bit-requires-clause-rising c = numbers_increase c.args.nets.now c.numbers.result.now c.numbers.ensures.is

pub returns-in-Some : goal.returns-in-Some
returns-in-Some c = clock_place_is c.args.nets.now c.args.nets.now c.numbers.result.now c.in-Some.number c.net_bit.result c.requires refl c.numbers.ensures.is c.in-Some.ensures c.net_bit.ensures

pub returns-in-None : goal.returns-in-None
returns-in-None c = no_clock_is c.args.nets.now c.args.nets.now c.requires refl c.in-None.ensures
