use Rattle.word_sums.proofs.OrderLaws.{can_meet_is}
use Rattle.word_sums.proofs.orders.can_meet.Goals as goal

pub returns : goal.returns
returns c =
    can_meet_is c.args.width c.args.first c.args.second c.args.first_sign c.args.second_sign c.bound.result c.bound-2.result c.bound-3.result c.bound-4.result c.complement.result c.has_one.result
    c.bound.ensures.value c.bound-2.ensures.value c.bound-3.ensures.value c.bound-4.ensures.value c.complement.ensures.fits c.complement.ensures.word c.has_one.ensures
