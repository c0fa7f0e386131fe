use Rattle.std.proofs.Common.{ap, refl}
use Rattle.cif_json.specs.WrittenNetlist.{net_data, bits_data, params_data}
use Rattle.cif_json.proofs.WriterSteps.{members_in, opened, member_done, closed}
use Rattle.std.proofs.lemmas.Result.{on_ok_weaker}
use Rattle.cif_json.proofs.write.RawNameToMember.write.Goals as goal

pub returns : goal.returns
returns c =
    let begun = opened c.args.out.now c.begin_object.new.self (members_in (net_data c.args.self.now)) c.begin_object.ensures.room.0 c.in_ok-begin_object.ensures.ok in
    let attributes = member_done begun c.key.new.self c.write_each.new.out c.key.ensures.room.0 c.in_ok-key.ensures.ok (ap params_data c.items.ensures) c.in_ok-write_each.ensures in
    let bits = member_done attributes c.key-2.new.self c.write_bits.new.out c.key-2.ensures.room.0 c.in_ok-key-2.ensures.ok (ap bits_data c.items-2.ensures) c.in_ok-write_bits.ensures in
    let hide = member_done bits c.key-3.new.self c.write_flag.new.out c.key-3.ensures.room.0 c.in_ok-key-3.ensures.ok refl c.in_ok-write_flag.ensures in
    on_ok_weaker c.end_object.result (closed hide c.end_object.new.self c.end_object.ensures.room.0) c.end_object.ensures.ok
