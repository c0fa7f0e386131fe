use Rattle.std.proofs.Common.{rules, ◌≡◌, is_lt}
use Rattle.std.proofs.lemmas.List.Sorted.{answers_always}
use Rattle.cif_augment.proofs.FirstNames.{before, order}
use Rattle.cif_augment.proofs.wanted.sort_names.Goals as goal

pub returns-clause-sorted : goal.returns-clause-sorted
returns-clause-sorted c = c.sort_unstable_by.ensures.sorted before order (answers_always _ (λ a r. is_lt r ≡ before a.0.now a.1.0.now) _ (λ f a r f' k. search rules))
