-- The places of a slice lie inside its operand.
use Rattle.std.proofs.Common.{arith}
use Rattle.rule_logic.proofs.LogicRest.{is_slice}
use Rattle.rule_logic.proofs.shadow.slice_term.Goals as goal

pub overflow_cast-offset : goal.overflow_cast-offset
overflow_cast-offset c = let u = is_slice c.args.cell.now c.requires.kind c.requires.fitted in let i = u.inside in let a = u.a in let l = a.limit in omega (arith, c.number-offset.ensures, i, l)

pub overflow_cast-width : goal.overflow_cast-width
overflow_cast-width c = let u = is_slice c.args.cell.now c.requires.kind c.requires.fitted in let i = u.inside in let a = u.a in let l = a.limit in omega (arith, c.number-width.ensures, i, l)

pub places_from-requires : goal.places_from-requires
places_from-requires c = let u = is_slice c.args.cell.now c.requires.kind c.requires.fitted in let i = u.inside in let a = u.a in let l = a.limit in omega (arith, c.number-offset.ensures, c.number-width.ensures, i, l)
