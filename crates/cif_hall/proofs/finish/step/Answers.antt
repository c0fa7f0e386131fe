use Rattle.std.proofs.Common.{rules, arith, ◌≡◌, ap, subst}
use Rattle.cif_core.specs.Kept.{IsKept}
use Rattle.cif_core.specs.Machine.{State, assembled, claimed}
use Rattle.cif_core.specs.Replies.{Claims}
use Rattle.cif_core.specs.declared.reply.Claim.TheVariants.{Wait}
use Rattle.cif_kept.proofs.Closing.{fewer, hand-given, hand-published, no-wait}
use Rattle.cif_hall.proofs.finish.step.Goals as goal

pub unreachable-requires-in-Ok-Blocked : goal.unreachable-requires-in-Ok-Blocked
unreachable-requires-in-Ok-Blocked g c =
    let kept = subst (IsKept g.N.Run.case g.N.Run.plan.parts g.N.Run.window g.N.Run.sessions) c.core-2.ensures c.done-done.ensures.kept in
    let waits : Claims g.N.Run.case g.N.Run.plan.parts g.N.Run.window c.args.kept.now.core Wait c.ask.new.kept.core = search rules in
    let is = c.window-window.ensures.is in
    let least = c.window-window.ensures.least in
    no-wait _ _ _ _ _ _ (omega arith) kept c.requires.alone waits

pub returns-in-Ok-Work-Piece-clause-hand : goal.returns-in-Ok-Work-Piece-clause-hand
returns-in-Ok-Work-Piece-clause-hand g c =
    let part : c.ask.new.kept.core ≡ claimed c.args.kept.now.core c.in-Ok-Work-Piece.piece.part = search rules in
    hand-given g.N.Run.case c.args.kept.now.core c.ask.new.kept.core _ c.in-Ok-Work-Piece.piece.part c.requires.alone part c.do_part.ensures.given

pub returns-in-Ok-Work-Assemble-clause-hand : goal.returns-in-Ok-Work-Assemble-clause-hand
returns-in-Ok-Work-Assemble-clause-hand g c =
    let frame : c.ask.new.kept.core ≡ assembled c.args.kept.now.core = search rules in
    hand-published g.N.Run.case c.args.kept.now.core c.ask.new.kept.core _ c.requires.alone frame c.do_frame.ensures.published

pub returns-in-Ok-Work-Assemble-clause-fewer : goal.returns-in-Ok-Work-Assemble-clause-fewer
returns-in-Ok-Work-Assemble-clause-fewer g c =
    let kept = subst (IsKept g.N.Run.case g.N.Run.plan.parts g.N.Run.window g.N.Run.sessions) c.core-2.ensures c.done-done.ensures.kept in
    let frame : c.ask.new.kept.core ≡ assembled c.args.kept.now.core = search rules in
    let before = ap (λ (x : State). x.done) frame in
    let same = c.ask.ensures.taken in
    fewer _ _ _ _ c.args.kept.now.core c.do_frame.new.kept.core kept c.requires.more c.requires.fine (λ fine.
    let one = ap (λ (x : State). x.done) (c.do_frame.ensures.published fine) in
    let none = c.do_frame.ensures.taken fine in
    omega arith)
