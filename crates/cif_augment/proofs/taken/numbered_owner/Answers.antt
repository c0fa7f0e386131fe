use Rattle.std.specs.Prelude.{codes}
use Rattle.std.proofs.Common.{refl}
use Rattle.std.proofs.lemmas.Bool.Decides.{Decides-eqb}
use Rattle.std.proofs.lemmas.Slice.Eq.{strip_suffix_is}
use Rattle.cif_augment.proofs.Digits.{owner_found, no_owner_found}
use Rattle.cif_augment.proofs.taken.numbered_owner.Goals as goal

pub returns-clause-some : goal.returns-clause-some
returns-clause-some c = owner_found c.args.name.now _ c.digits_place-place.result c.strip_suffix.result c.digits_place-place.ensures c.if-place-name.false refl (strip_suffix_is Decides-eqb _ (codes "__t") c.strip_suffix.result c.strip_suffix.ensures.cases)

pub returns-clause-none : goal.returns-clause-none
returns-clause-none c = no_owner_found c.args.name.now _ c.digits_place-place.result c.strip_suffix.result c.digits_place-place.ensures refl (strip_suffix_is Decides-eqb _ (codes "__t") c.strip_suffix.result c.strip_suffix.ensures.cases)
