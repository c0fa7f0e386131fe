use Rattle.std.proofs.Common.{arith, rules, ◌≡◌, true}
use Rattle.std.proofs.lemmas.Nat.{or_lt}
use Rattle.word_logic.proofs.BitwiseTaints.{is_exclusive, shown-fits, taint-and, taint-exclusive, taint-or}
use Rattle.word_logic.proofs.binary.bitwise_taint.Goals as goal

pub returns-in-And-clause-word : goal.returns-in-And-clause-word
returns-in-And-clause-word c = taint-and c.args.kind c.args.width c.args.x c.args.tx c.args.y c.args.ty c.in-And.is

pub returns-in-And-clause-fits : goal.returns-in-And-clause-fits
returns-in-And-clause-fits c = shown-fits c.args.width c.args.x c.args.tx c.args.y c.args.ty c.requires.tx_fits c.requires.ty_fits

pub returns-in-Or-clause-word : goal.returns-in-Or-clause-word
returns-in-Or-clause-word c = taint-or c.args.kind c.args.width c.args.x c.args.tx c.args.y c.args.ty c.in-Or.is c.requires.limit (omega arith) (omega arith)

pub returns-in-Or-clause-fits : goal.returns-in-Or-clause-fits
returns-in-Or-clause-fits c = shown-fits c.args.width _ c.args.tx _ c.args.ty c.requires.tx_fits c.requires.ty_fits

pub returns-in-Xor-clause-word : goal.returns-in-Xor-clause-word
returns-in-Xor-clause-word c =
    let exclusive : is_exclusive c.args.kind ≡ true = search rules in
    taint-exclusive c.args.kind c.args.width c.args.x c.args.tx c.args.y c.args.ty exclusive

pub returns-in-Xor-clause-fits : goal.returns-in-Xor-clause-fits
returns-in-Xor-clause-fits c = or_lt c.args.width c.args.tx c.args.ty c.requires.tx_fits c.requires.ty_fits
