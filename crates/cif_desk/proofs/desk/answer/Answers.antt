use Rattle.std.proofs.Common.{◌≡◌, ◌∙◌, Option, Some, OnOk, map, string_bytes, sym, ap, subst, refl, arith, Global}
use Rattle.cif_desk.specs.Commands.{Command as CommandData, check, eval, augstim}
use Rattle.cif_desk.specs.CommandView.{command_seen, run_seen, asked_by}
use Rattle.cif_desk.specs.Ends.{WritesApart}
use Rattle.cif_desk.specs.declared.command.Command.{Command}
use Rattle.cif_desk.proofs.AnswerLaws.{out_nothing, check_apart, augstim_apart}
use Rattle.cif_desk.proofs.CommandLaws.{never_run}
use Rattle.cif_desk.proofs.desk.answer.Goals as goal

pub returns-in-Some-Check-clause-noninterference : goal.returns-in-Some-Check-clause-noninterference
returns-in-Some-Check-clause-noninterference g c =
    let is : asked_by c.args.words.now ≡ Some (check c.in-Some-Check.net.now) =
    sym c.in-Some-Check.ensures.value ∙ ap (λ (x : Command). Some (command_seen x)) c.in-Some-Check.field-0-is in
    let P : Option CommandData → Type 0 = λ asked. OnOk c.check.result (WritesApart (g.S.Store.told c.args.store.now) asked (g.W.Sink.taken c.args.out.now) (g.W.Sink.taken c.check.new.out)) in
    subst P (sym is) (check_apart (g.S.Store.told c.args.store.now) c.in-Some-Check.net.now (g.W.Sink.taken c.args.out.now) (g.W.Sink.taken c.check.new.out) c.check.result)

pub returns-in-Some-Eval-clause-noninterference : goal.returns-in-Some-Eval-clause-noninterference
returns-in-Some-Eval-clause-noninterference g c =
    let is : asked_by c.args.words.now ≡ Some (eval c.in-Some-Eval.net.now c.in-Some-Eval.stim.now) =
    sym c.in-Some-Eval.ensures.value ∙ ap (λ (x : Command). Some (command_seen x)) c.in-Some-Eval.field-0-is in
    let P : Option CommandData → Type 0 = λ asked. OnOk c.eval.result (WritesApart (g.S.Store.told c.args.store.now) asked (g.W.Sink.taken c.args.out.now) (g.W.Sink.taken c.eval.new.out)) in
    subst P (sym is) c.eval.ensures.noninterference

pub returns-in-Some-AugStim-clause-noninterference : goal.returns-in-Some-AugStim-clause-noninterference
returns-in-Some-AugStim-clause-noninterference g c =
    let is : asked_by c.args.words.now ≡ Some (augstim c.in-Some-AugStim.net.now c.in-Some-AugStim.stim.now) =
    sym c.in-Some-AugStim.ensures.value ∙ ap (λ (x : Command). Some (command_seen x)) c.in-Some-AugStim.field-0-is in
    let P : Option CommandData → Type 0 = λ asked. OnOk c.augstim.result (WritesApart (g.S.Store.told c.args.store.now) asked (g.W.Sink.taken c.args.out.now) (g.W.Sink.taken c.augstim.new.out)) in
    subst P (sym is) (augstim_apart (g.S.Store.told c.args.store.now) c.in-Some-AugStim.net.now c.in-Some-AugStim.stim.now (g.W.Sink.taken c.args.out.now) (g.W.Sink.taken c.augstim.new.out) c.augstim.result)

pub unreachable-requires : goal.unreachable-requires
unreachable-requires g c =
    let is : asked_by c.args.words.now ≡ Some (run_seen c.in-Some-Run.field-0-0 c.in-Some-Run.field-0-1) =
    sym c.in-Some-Run.ensures.value ∙ ap (λ (x : Command). Some (command_seen x)) c.in-Some-Run.field-0-is in
    never_run (map (string_bytes {Z = Global}) c.args.words.now) c.in-Some-Run.field-0-0.net.now c.in-Some-Run.field-0-0.stim.now c.in-Some-Run.field-0-0.sessions.now c.in-Some-Run.field-0-1 c.requires is

pub returns-in-None-clause-out : goal.returns-in-None-clause-out
returns-in-None-clause-out g c = out_nothing _ _ 1 _ _ (omega arith) refl
