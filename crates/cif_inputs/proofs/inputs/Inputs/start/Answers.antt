use Rattle.std.proofs.Common.{arith, ap, ◌∙◌, length, List, ℕ, Option}
use Rattle.std.proofs.lemmas.List.{length-replicate, with_items_is}
use Rattle.cif_defs.specs.Accepted.{netlist_of}
use Rattle.cif_defs.specs.declared.nets.Wire.{Wire}
use Rattle.cif_inputs.proofs.Cursors.{places_lent, so_far_none, so_far_moved, stops_seen, lines_as_many, is_at}
use Rattle.cif_inputs.proofs.inputs.Inputs.start.Goals as goal

pub pass-passed-requires-clause-places : goal.pass-passed-requires-clause-places
pass-passed-requires-clause-places c =
    places_lent (netlist_of c.args.netlist.now) c.args.stimulus.now c.args.names.now _ _ _ c.requires c.deref.ensures.value (c.deref_mut.ensures.value ∙ c.in_ok-setters.ensures)
    (length-replicate (length c.inputs.result.now) _ ∙ ap (λ (ws : List Wire). length ws) c.inputs.ensures.are)

pub returns-clause-at : goal.returns-clause-at
returns-clause-at c =
    let as_many = c.pass-passed.auto.setters ∙ ap (λ (ss : List (Option ℕ)). length ss) (c.deref_mut.ensures.value ∙ c.in_ok-setters.ensures) ∙ length-replicate (length c.inputs.result.now) _ ∙ ap (λ (ws : List Wire). length ws) c.inputs.ensures.are in
    let so_far = so_far_moved (netlist_of c.args.netlist.now) c.args.stimulus.now c.args.names.now c.lines.result.now c.deref.result.now 0 0 0 c.pass-passed.result _ c.deref_mut.result.now c.pass-passed.new.setters
    c.requires c.lines.ensures.value c.deref.ensures.value (c.deref_mut.ensures.value ∙ c.in_ok-setters.ensures) (omega arith) (so_far_none (netlist_of c.args.netlist.now) c.args.stimulus.now (length c.inputs.result.now)) c.pass-passed.ensures.passes in
    is_at (netlist_of c.args.netlist.now) c.args.stimulus.now c.args.names.now _ c.pass-passed.new.setters
    (with_items_is c.in_ok-setters.setters c.pass-passed.new.setters (c.pass-passed.auto.setters ∙ c.deref_mut.ensures.len))
    c.requires
    as_many
    (lines_as_many _ c.args.stimulus.now _ c.lines.ensures.value c.pass-passed.ensures.inside)
    so_far
    (stops_seen c.args.stimulus.now _ _ _ c.lines.ensures.value c.pass-passed.ensures.stops)
