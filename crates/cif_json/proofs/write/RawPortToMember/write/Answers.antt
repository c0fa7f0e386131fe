use Rattle.std.proofs.Common.{ap, refl}
use Rattle.cif_json.specs.WrittenNetlist.{port_data, bits_data}
use Rattle.cif_json.proofs.WriterSteps.{members_in, opened, member_done, closed}
use Rattle.std.proofs.lemmas.Result.{on_ok_weaker}
use Rattle.cif_json.proofs.write.RawPortToMember.write.Goals as goal

pub returns : goal.returns
returns c =
    let begun = opened c.args.out.now c.begin_object.new.self (members_in (port_data c.args.self.now)) c.begin_object.ensures.room.0 c.in_ok-begin_object.ensures.ok in
    let bits = member_done begun c.key.new.self c.write_bits.new.out c.key.ensures.room.0 c.in_ok-key.ensures.ok (ap bits_data c.items.ensures) c.in_ok-write_bits.ensures in
    let direction = member_done bits c.key-2.new.self c.write_direction.new.out c.key-2.ensures.room.0 c.in_ok-key-2.ensures.ok refl c.in_ok-write_direction.ensures in
    on_ok_weaker c.end_object.result (closed direction c.end_object.new.self c.end_object.ensures.room.0) c.end_object.ensures.ok
