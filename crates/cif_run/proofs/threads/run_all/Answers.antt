use Rattle.std.proofs.Common.{rules, ◌∙◌}
use Rattle.cif_run.proofs.Listing.{same_number}
use Rattle.cif_run.proofs.threads.run_all.Goals as goal

pub all_readers-requires-clause-home : goal.all_readers-requires-clause-home
all_readers-requires-clause-home g c =
    let home = c.in_ok-reading.reading.home in
    λ i d below. same_number home.items c.rotate-home.result.readers.items c.rotate-home.ensures.numbers i d (search rules) ∙ c.in_ok-reading.ensures.home i d (search rules)
