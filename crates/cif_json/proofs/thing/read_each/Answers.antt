use Rattle.std.proofs.Common.{◌≡◌, ◌∙◌, List, ap, sym, Ok, string_bytes}
use Rattle.serde_json.specs.View.{view, members_view}
use Rattle.cif_json.specs.WrongPlace.{within, each}
use Rattle.cif_json.proofs.Folds.{Entry, more_things, thing_step}
use Rattle.cif_json.proofs.thing.read_each.Goals as goal

pub loop-name-preserved : goal.loop-name-preserved
loop-name-preserved g c =
    let read = g.T.FromMember.reading in
    let name = string_bytes c.in-Some.name in
    let is : within name (read name (view c.in-Some.value)) ≡ Ok c.in_ok-thing.thing = rw (← c.as_str-name.ensures.value) (c.in_ok-thing.ensures _ c.from_member.ensures) in
    c.loop-name.invariant
    ∙ ap (λ (es : List Entry). more_things c.loop-name.things.items (each read (members_view es))) c.in-Some.ensures.steps
    ∙ thing_step read (c.in-Some.name, c.in-Some.value) c.next.new.self c.loop-name.things.items c.in_ok-thing.thing is
    ∙ ap (λ (xs : List g.row.T.Denot). more_things xs (each read (members_view c.next.new.self))) (sym c.in_ok-push.ensures.items)
