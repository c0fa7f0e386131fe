use Rattle.std.proofs.Common.{◌≡◌, ◌∙◌, Option, Some, OnOk, map, string_bytes, sym, ap, subst, refl, arith, Global}
use Rattle.cif_desk.specs.Commands.{Command as CommandData, check, eval, augstim}
use Rattle.cif_desk.specs.CommandView.{command_seen, run_seen, asked_by}
use Rattle.cif_desk.specs.Ends.{WritesApart}
use Rattle.cif_desk.specs.declared.command.Command.{Command}
use Rattle.cif_desk.proofs.AnswerLaws.{out_nothing}
use Rattle.cif_desk.proofs.CommandLaws.{never_check, never_eval, never_augstim}
use Rattle.cif_desk.proofs.live.answer_live.Goals as goal

pub returns-in-Some-Run-clause-noninterference : goal.returns-in-Some-Run-clause-noninterference
returns-in-Some-Run-clause-noninterference g c =
    let is : asked_by c.args.words.now ≡ Some (run_seen c.in-Some-Run.files c.in-Some-Run.size) =
    sym c.in-Some-Run.ensures.value ∙ ap (λ (x : Command). Some (command_seen x)) c.in-Some-Run.field-0-is in
    let P : Option CommandData → Type 0 = λ asked. OnOk c.run.result (WritesApart (g.S.Store.told c.args.store.now) asked (g.W.Sink.taken c.args.out.now) (g.W.Sink.taken c.run.new.out)) in
    subst P (sym is) c.run.ensures.noninterference

pub unreachable-requires : goal.unreachable-requires
unreachable-requires g c =
    let is : asked_by c.args.words.now ≡ Some (check c.in-Some-Check.field-0-0.now) =
    sym c.in-Some-Check.ensures.value ∙ ap (λ (x : Command). Some (command_seen x)) c.in-Some-Check.field-0-is in
    never_check (map (string_bytes {Z = Global}) c.args.words.now) c.in-Some-Check.field-0-0.now c.requires is

pub unreachable-requires-in-Some-Eval : goal.unreachable-requires-in-Some-Eval
unreachable-requires-in-Some-Eval g c =
    let is : asked_by c.args.words.now ≡ Some (eval c.in-Some-Eval.field-0-0.now c.in-Some-Eval.field-0-1.now) =
    sym c.in-Some-Eval.ensures.value ∙ ap (λ (x : Command). Some (command_seen x)) c.in-Some-Eval.field-0-is in
    never_eval (map (string_bytes {Z = Global}) c.args.words.now) c.in-Some-Eval.field-0-0.now c.in-Some-Eval.field-0-1.now c.requires is

pub unreachable-requires-in-Some-AugStim : goal.unreachable-requires-in-Some-AugStim
unreachable-requires-in-Some-AugStim g c =
    let is : asked_by c.args.words.now ≡ Some (augstim c.in-Some-AugStim.field-0-0.now c.in-Some-AugStim.field-0-1.now) =
    sym c.in-Some-AugStim.ensures.value ∙ ap (λ (x : Command). Some (command_seen x)) c.in-Some-AugStim.field-0-is in
    never_augstim (map (string_bytes {Z = Global}) c.args.words.now) c.in-Some-AugStim.field-0-0.now c.in-Some-AugStim.field-0-1.now c.requires is

pub returns-in-None-clause-out : goal.returns-in-None-clause-out
returns-in-None-clause-out g c = out_nothing _ _ 1 _ _ (omega arith) refl
