use Rattle.std.proofs.Common.{ap, rules, ◌∙◌}
use Rattle.std.proofs.Math.Seq.{map-set_same}
use Rattle.cif_run.specs.Readers.{number_of}
use Rattle.cif_run.proofs.round.turn_readers.Goals as goal

pub loop-i-preserved : goal.loop-i-preserved
loop-i-preserved g c =
    let here = c.index_mut.result.now in
    (search rules, map-set_same number_of c.loop-i.readers.items c.loop-i.i c.turn.new.self here (c.turn.ensures ∙ ap number_of c.index_mut.ensures.value) ∙ c.loop-i.invariant.1)
