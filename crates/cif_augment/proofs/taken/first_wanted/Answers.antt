use Rattle.std.specs.Prelude.{Some}
use Rattle.std.proofs.Common.{arith, ap, sym, ◌∙◌, ◌<◌, List, ℕ, [], length}
use Rattle.std.proofs.lemmas.List.{get_or_default}
use Rattle.cif_augment.proofs.Doubles.{first_taken, none_taken}
use Rattle.cif_augment.proofs.taken.first_wanted.Goals as goal

pub returns-then-is_taken_at : goal.returns-then-is_taken_at
returns-then-is_taken_at c =
    let inside : c.loop-place.place < length c.args.wanted.now = c.loop-place-test.true in
    let here = c.items.ensures ∙ c.index-wanted-place.is ∙ get_or_default c.args.wanted.now c.loop-place.place c.index-wanted-place.result [] inside in
    ap (λ (n : List ℕ). Some n) here
    ∙ sym (first_taken c.args.raw.now c.args.wanted.now c.loop-place.place c.requires.sorted inside (sym c.is_taken_at.ensures ∙ c.if-is_taken_at.true) c.loop-place.invariant)

pub returns : goal.returns
returns c = sym (none_taken c.args.raw.now c.args.wanted.now c.requires.sorted (λ i l. c.loop-place.invariant i (omega (arith, c.loop-place-test.false))))
