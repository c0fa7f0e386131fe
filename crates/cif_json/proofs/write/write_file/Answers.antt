use Rattle.std.proofs.Common.{refl}
use Rattle.cif_json.specs.WrittenNetlist.{file_data}
use Rattle.cif_json.proofs.WriterSteps.{members_in, opened, member_done, closed}
use Rattle.std.proofs.lemmas.Result.{on_ok_weaker}
use Rattle.cif_json.proofs.write.write_file.Goals as goal

pub returns : goal.returns
returns c =
    let begun = opened c.args.out.now c.begin_object.new.self (members_in (file_data c.args.raw.now)) c.begin_object.ensures.room.0 c.in_ok-begin_object.ensures.ok in
    let creator = member_done begun c.key.new.self c.string.new.self c.key.ensures.room.0 c.in_ok-key.ensures.ok refl (c.string.ensures.room.0, c.in_ok-string.ensures.ok) in
    let modules = member_done creator c.key-2.new.self c.write_modules.new.out c.key-2.ensures.room.0 c.in_ok-key-2.ensures.ok refl c.in_ok-write_modules.ensures in
    on_ok_weaker c.end_object.result (closed modules c.end_object.new.self c.end_object.ensures.room.0) c.end_object.ensures.ok
