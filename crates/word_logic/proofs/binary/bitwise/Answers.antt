use Rattle.std.proofs.lemmas.Nat.{or_lt, xor_lt}
use Rattle.word_logic.proofs.Bitwise.{bitwise-and, bitwise-or, bitwise-xnor, bitwise-xor}
use Rattle.word_logic.proofs.binary.bitwise.Goals as goal

pub returns-in-And-clause-word : goal.returns-in-And-clause-word
returns-in-And-clause-word c = bitwise-and c.args.kind c.args.width c.args.x c.args.y c.in-And.is

pub returns-in-Or-clause-word : goal.returns-in-Or-clause-word
returns-in-Or-clause-word c = bitwise-or c.args.kind c.args.width c.args.x c.args.y c.in-Or.is

pub returns-in-Or-clause-fits : goal.returns-in-Or-clause-fits
returns-in-Or-clause-fits c = or_lt c.args.width c.args.x c.args.y c.requires.x_fits c.requires.y_fits

pub returns-in-Xor-clause-word : goal.returns-in-Xor-clause-word
returns-in-Xor-clause-word c = bitwise-xor c.args.kind c.args.width c.args.x c.args.y c.in-Xor.is

pub returns-in-Xor-clause-fits : goal.returns-in-Xor-clause-fits
returns-in-Xor-clause-fits c = xor_lt c.args.width c.args.x c.args.y c.requires.x_fits c.requires.y_fits

pub returns-in-Xnor-clause-word : goal.returns-in-Xnor-clause-word
returns-in-Xnor-clause-word c = bitwise-xnor c.args.kind c.args.width c.args.x c.args.y c.complement.result c.in-Xnor.is c.complement.ensures.word
