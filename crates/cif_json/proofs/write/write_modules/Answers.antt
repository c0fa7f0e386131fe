use Rattle.std.proofs.Common.{ap, refl, [], ◌∷◌, ◌++◌, ◌∙◌}
use Rattle.json.specs.Token.{key}
use Rattle.cif_json.specs.WrittenNetlist.{modules_data}
use Rattle.cif_json.proofs.WriterSteps.{members_in, opened, member_done, closed}
use Rattle.std.proofs.lemmas.Result.{on_ok_weaker}
use Rattle.cif_json.proofs.write.write_modules.Goals as goal

pub returns : goal.returns
returns c =
    let begun = opened c.args.out.now c.begin_object.new.self (members_in (modules_data c.args.raw.now)) c.begin_object.ensures.room.0 c.in_ok-begin_object.ensures.ok in
    let one = member_done begun c.key.new.self c.write_module.new.out c.key.ensures.room.0 (c.in_ok-key.ensures.ok ∙ ap (λ k. c.begin_object.new.self.tokens ++ key k ∷ []) (c.utf8-2.ensures ∙ c.items.ensures)) refl c.in_ok-write_module.ensures in
    on_ok_weaker c.end_object.result (closed one c.end_object.new.self c.end_object.ensures.room.0) c.end_object.ensures.ok
