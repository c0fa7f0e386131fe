use Rattle.cif_text.proofs.Decoding.{onto_more}
use Rattle.cif_text.proofs.names.read_name.Goals as goal

pub loop-rest-preserved : goal.loop-rest-preserved
loop-rest-preserved c =
    onto_more c.loop-rest.name.items c.push.new.self.items c.in-Some.first.byte c.loop-rest.rest.now c.in-Some.first.rest.now c.args.word.now
    c.loop-rest.invariant c.in-Some.ensures.some c.in_ok-push.ensures.items
