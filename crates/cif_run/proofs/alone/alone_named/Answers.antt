use Rattle.std.proofs.Common.{rules, ◌∙◌}
use Rattle.cif_run.proofs.Listing.{same_number}
use Rattle.cif_run.proofs.alone.alone_named.Goals as goal

pub finish-requires-clause-numbers : goal.finish-requires-clause-numbers
finish-requires-clause-numbers g c =
    λ i d below. same_number c.in_ok-hall.field-0.roles.readers.items c.in-Some.roles.readers.items c.in-Some.ensures.numbers i d below ∙ c.in_ok-hall.ensures.numbers i d (search rules)
