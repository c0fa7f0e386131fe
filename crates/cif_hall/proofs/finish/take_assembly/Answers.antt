use Rattle.std.proofs.Common.{rules, ◌≡◌}
use Rattle.cif_core.specs.Machine.{published}
use Rattle.cif_kept.proofs.Closing.{alone-published, hand-alone}
use Rattle.cif_hall.proofs.finish.take_assembly.Goals as goal

pub returns : goal.returns
returns g c =
    let is : c.give_frame.new.kept.core ≡ published c.args.kept.now.core = search rules in
    hand-alone g.N.Run.case c.give_frame.new.kept.core (published c.args.kept.now.core) (λ fine. is) (alone-published c.args.kept.now.core c.requires.deserted)
