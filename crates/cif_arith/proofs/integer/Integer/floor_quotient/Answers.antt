use Rattle.std.proofs.Common.{ap, sym, not, ◌∙◌, ◌≡◌}
use Rattle.std.proofs.Math.Bool.{beq}
use Rattle.cif_arith.proofs.Integers.{floor_div-magnitudes, floor_magnitude}
use Rattle.cif_arith.proofs.integer.Integer.floor_quotient.Goals as goal
use Rattle.cif_arith.proofs.integer.Integer.floor_quotient.Goals.{then-negative, else-negative}

magnitude : (c : goal.Joined-negative) → c.if-negative.magnitude ≡ floor_magnitude (not (beq c.self.inside.negative c.divisor.inside.negative)) c.self.inside.magnitude c.divisor.inside.magnitude
magnitude c = elim c.if-negative.branch [
  | then-negative w ↦ w.magnitude-is ∙ w.div_ceil-magnitude.ensures ∙ sym (ap (λ b. floor_magnitude b c.self.inside.magnitude c.divisor.inside.magnitude) w.if-negative.true)
  | else-negative w ↦ w.magnitude-is ∙ sym (ap (λ b. floor_magnitude b c.self.inside.magnitude c.divisor.inside.magnitude) w.if-negative.false)
]

pub returns : goal.returns
returns c =
    floor_div-magnitudes c.self.inside.negative c.divisor.inside.negative c.self.inside.magnitude c.divisor.inside.magnitude c.if-negative.magnitude
    c.args.self.now c.args.divisor.now c.self.view_is c.divisor.view_is c.requires (magnitude c)
