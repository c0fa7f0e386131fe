use Rattle.std.proofs.Common.{ap, ◌∙◌, ◌+◌, ◌≡◌, ◌%◌, ◌^◌}
use Rattle.cif_defs.specs.Words.{bit_value}
use Rattle.cif_arith.specs.NumbersOfBits.{carries}
use Rattle.cif_arith.proofs.Carries.{carries-bitwise}
use Rattle.cif_arith.proofs.Residues.{carrying-sum}
use Rattle.cif_arith.proofs.sums.alu.Goals as goal

sum : (c : goal.After-lowest-y) → c.lowest-y.result ≡ (c.args.a + c.inverted-operand.result + bit_value c.args.carry) % 2 ^ c.args.width
sum c = c.lowest-y.ensures ∙ carrying-sum 128 c.args.width c.args.a c.inverted-operand.result c.args.carry c.requires.limit

pub returns-clause-y : goal.returns-clause-y
returns-clause-y c = sum c ∙ ap (λ b. (c.args.a + b + bit_value c.args.carry) % 2 ^ c.args.width) c.inverted-operand.ensures.value

pub returns-clause-co : goal.returns-clause-co
returns-clause-co c =
    carries-bitwise c.args.width c.args.a c.inverted-operand.result c.lowest-y.result c.args.carry
    c.requires.limit c.requires.a_fits c.inverted-operand.ensures.fits c.lowest-y.type_inv (sum c)
    ∙ ap (λ b. carries c.args.width c.args.a b c.args.carry) c.inverted-operand.ensures.value
