use Rattle.std.proofs.Common.{◌∙◌}
use Rattle.cif_enumerate.proofs.Filling.{found_completion, listed_within}
use Rattle.cif_enumerate.proofs.differ.some_completion_gives.Goals as goal

pub gives_by-requires-clause-within : goal.gives_by-requires-clause-within
gives_by-requires-clause-within g c = listed_within _ _ _ _ c.requires.shape (c.deref_mut.ensures.value ∙ c.in_ok-words.ensures) (c.deref.ensures.value ∙ c.in_ok-places.ensures)

pub returns : goal.returns
returns g c = found_completion _ _ _ _ _ _ c.requires.shape (c.deref_mut.ensures.value ∙ c.in_ok-words.ensures) (c.deref.ensures.value ∙ c.in_ok-places.ensures) c.in_ok-found.ensures.found
