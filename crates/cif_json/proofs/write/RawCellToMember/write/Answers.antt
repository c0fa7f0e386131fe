use Rattle.std.proofs.Common.{ap, ap₂, refl, ◌∙◌}
use Rattle.serde_json.specs.Data.{string, object}
use Rattle.cif_json.specs.WrittenNetlist.{cell_data, params_data, connections_data, directions}
use Rattle.cif_json.proofs.WriterSteps.{members_in, opened, member_done, closed}
use Rattle.std.proofs.lemmas.Result.{on_ok_weaker}
use Rattle.cif_json.proofs.write.RawCellToMember.write.Goals as goal

pub returns : goal.returns
returns c =
    let begun = opened c.args.out.now c.begin_object.new.self (members_in (cell_data c.args.self.now)) c.begin_object.ensures.room.0 c.in_ok-begin_object.ensures.ok in
    let attributes = member_done begun c.key.new.self c.write_each.new.out c.key.ensures.room.0 c.in_ok-key.ensures.ok (ap params_data c.items.ensures) c.in_ok-write_each.ensures in
    let connections = member_done attributes c.key-2.new.self c.write_each-2.new.out c.key-2.ensures.room.0 c.in_ok-key-2.ensures.ok (ap connections_data c.items-2.ensures) c.in_ok-write_each-2.ensures in
    let hide = member_done connections c.key-3.new.self c.write_flag.new.out c.key-3.ensures.room.0 c.in_ok-key-3.ensures.ok refl c.in_ok-write_flag.ensures in
    let parameters = member_done hide c.key-4.new.self c.write_each-3.new.out c.key-4.ensures.room.0 c.in_ok-key-4.ensures.ok (ap params_data c.items-3.ensures) c.in_ok-write_each-3.ensures in
    let port_directions = member_done parameters c.key-5.new.self c.write_directions.new.out c.key-5.ensures.room.0 c.in_ok-key-5.ensures.ok (ap₂ (λ kind xs. object (directions kind xs)) c.items-4.ensures c.items-5.ensures) c.in_ok-write_directions.ensures in
    let kind = member_done port_directions c.key-6.new.self c.string.new.self c.key-6.ensures.room.0 c.in_ok-key-6.ensures.ok (ap string (c.utf8-2.ensures ∙ c.items-6.ensures)) (c.string.ensures.room.0, c.in_ok-string.ensures.ok) in
    on_ok_weaker c.end_object.result (closed kind c.end_object.new.self c.end_object.ensures.room.0) c.end_object.ensures.ok
