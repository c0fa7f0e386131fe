use Rattle.std.proofs.Common.{inl, inr}
use Rattle.cif_arith.proofs.Integers.{floor_rem-next, floor_rem-same}
use Rattle.cif_arith.proofs.integer.Integer.floor_remainder.Goals as goal
use Rattle.cif_arith.proofs.integer.Integer.floor_remainder.Goals.{else-remainder-ne0-via-then-remainder-ne0+else-self-divisor, else-remainder-ne0-via-else-remainder-ne0}

pub returns-then-self-divisor : goal.returns-then-self-divisor
returns-then-self-divisor c =
    floor_rem-next c.self.inside.negative c.divisor.inside.negative c.self.inside.magnitude c.divisor.inside.magnitude
    c.args.self.now c.args.divisor.now c.self.view_is c.divisor.view_is c.requires c.if-self-divisor.true c.if-remainder-ne0.true

pub returns-else-remainder-ne0 : goal.returns-else-remainder-ne0
returns-else-remainder-ne0 c =
    floor_rem-same c.self.inside.negative c.divisor.inside.negative c.self.inside.magnitude c.divisor.inside.magnitude
    c.args.self.now c.args.divisor.now c.self.view_is c.divisor.view_is c.requires
    (elim c.else-remainder-ne0.branch [ else-remainder-ne0-via-then-remainder-ne0+else-self-divisor w ↦ inr w.if-self-divisor.false | else-remainder-ne0-via-else-remainder-ne0 w ↦ inl w.if-remainder-ne0.false ])
