use Rattle.std.proofs.Common.{arith, ap, ◌∙◌, ◌+◌, length, List, ℕ, Option}
use Rattle.std.proofs.lemmas.List.{with_items_is}
use Rattle.cif_inputs.proofs.Cursors.{places_lent, so_far_moved, stops_seen, lines_as_many, is_at}
use Rattle.cif_inputs.proofs.inputs.Inputs.advance.Goals as goal

pub pass-self-requires-clause-places : goal.pass-self-requires-clause-places
pass-self-requires-clause-places c = places_lent _ _ c.args.names.now _ _ _ c.requires.at.looked_up c.deref.ensures.value c.deref_mut.ensures.value c.requires.at.as_many

pub returns-clause-at : goal.returns-clause-at
returns-clause-at c =
    let so_far = so_far_moved _ c.args.stimulus.now c.args.names.now c.lines.result.now c.deref.result.now c.args.self.now.cycle (c.args.self.now.cycle + 1) c.args.self.now.passed c.pass-self.result c.args.self.now.setters.items c.deref_mut.result.now c.pass-self.new.setters
    c.requires.at.looked_up c.lines.ensures.value c.deref.ensures.value c.deref_mut.ensures.value (omega arith) c.requires.at.so_far c.pass-self.ensures.passes in
    is_at _ c.args.stimulus.now c.args.names.now _ c.pass-self.new.setters
    (with_items_is c.args.self.now.setters c.pass-self.new.setters (c.pass-self.auto.setters ∙ c.deref_mut.ensures.len))
    c.requires.at.looked_up
    (c.pass-self.auto.setters ∙ ap (λ (ss : List (Option ℕ)). length ss) c.deref_mut.ensures.value ∙ c.requires.at.as_many)
    (lines_as_many _ c.args.stimulus.now _ c.lines.ensures.value c.pass-self.ensures.inside)
    so_far
    (stops_seen c.args.stimulus.now _ _ _ c.lines.ensures.value c.pass-self.ensures.stops)
