use Rattle.std.proofs.lemmas.Nat.{or_lt}
use Rattle.word_sums.proofs.CoarseLaws.{divides_is}
use Rattle.word_sums.proofs.coarse.divides.Goals as goal

pub returns : goal.returns
returns c =
    divides_is c.args.shape c.args.values c.args.taints c.has_one.result c.has_one-2.result c.has_one-3.result
    (c.has_one.ensures c.args.shape.a c.requires.taints.a) (c.has_one-2.ensures c.args.shape.b c.requires.taints.b)
    (c.has_one-3.ensures c.args.shape.b (or_lt c.args.shape.b c.args.values.b c.args.taints.b c.requires.values.b c.requires.taints.b))
