use Rattle.std.proofs.Common.{ap}
use Rattle.cif_json.specs.WrittenNetlist.{module_data, params_data, cells_data, nets_data, ports_data}
use Rattle.cif_json.proofs.WriterSteps.{members_in, opened, member_done, closed}
use Rattle.std.proofs.lemmas.Result.{on_ok_weaker}
use Rattle.cif_json.proofs.write.write_module.Goals as goal

pub returns : goal.returns
returns c =
    let begun = opened c.args.out.now c.begin_object.new.self (members_in (module_data c.args.raw.now)) c.begin_object.ensures.room.0 c.in_ok-begin_object.ensures.ok in
    let attributes = member_done begun c.key.new.self c.write_each.new.out c.key.ensures.room.0 c.in_ok-key.ensures.ok (ap params_data c.items.ensures) c.in_ok-write_each.ensures in
    let cells = member_done attributes c.key-2.new.self c.write_each-2.new.out c.key-2.ensures.room.0 c.in_ok-key-2.ensures.ok (ap cells_data c.items-2.ensures) c.in_ok-write_each-2.ensures in
    let nets = member_done cells c.key-3.new.self c.write_each-3.new.out c.key-3.ensures.room.0 c.in_ok-key-3.ensures.ok (ap nets_data c.items-3.ensures) c.in_ok-write_each-3.ensures in
    let ports = member_done nets c.key-4.new.self c.write_each-4.new.out c.key-4.ensures.room.0 c.in_ok-key-4.ensures.ok (ap ports_data c.items-4.ensures) c.in_ok-write_each-4.ensures in
    on_ok_weaker c.end_object.result (closed ports c.end_object.new.self c.end_object.ensures.room.0) c.end_object.ensures.ok
