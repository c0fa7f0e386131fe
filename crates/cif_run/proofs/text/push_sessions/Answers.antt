use Rattle.std.proofs.Common.{◌≡◌, ◌<◌, get_or, length, rules}
use Rattle.cif_run.proofs.Texts.{text_more}
use Rattle.cif_run.proofs.text.push_sessions.Goals as goal

pub loop-i-preserved : goal.loop-i-preserved
loop-i-preserved c =
    let here = c.index-sessions-i.result in
    let low : c.loop-i.i < length c.args.sessions.now = search rules in
    let is : here ≡ get_or c.args.sessions.now c.loop-i.i here = search rules in
    text_more c.args.text.now.items c.loop-i.text.items _ c.args.sessions.now c.args.transcripts.now c.loop-i.i here _ low is c.answers_at.ensures c.loop-i.invariant c.in_ok-push_session.ensures
