use Rattle.cif_run.proofs.Reading.{goes_number, replies_if, stays_if}
use Rattle.cif_run.proofs.reader.reply.Goals as goal
use Rattle.std.proofs.Common.{◌<◌, rules}

pub returns : goal.returns
returns g c =
    let some : 0 < g.N.Run.case.stimulus.cycles = search rules in
    record {
      steps = replies_if _ g.N.Run.case.stimulus _ c.args.line c.args.session.now c.go-told.new.session c.go-told.result c.reply_to.result some c.go-told.ensures c.reply_to.ensures.ok;
      err = stays_if g.N.Run.case.stimulus.cycles c.args.line c.args.session.now c.go-told.new.session c.go-told.result c.reply_to.result c.go-told.ensures c.reply_to.ensures.err;
      number = goes_number g.N.Run.case.stimulus.cycles c.args.line c.args.session.now c.go-told.new.session c.go-told.result c.go-told.ensures;
    }
