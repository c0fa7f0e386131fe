use Rattle.std.proofs.Common.{◌+◌, ◌<◌, ◌≡◌, ◌∙◌, ap, refl, arith}
use Rattle.std.proofs.lemmas.Result.{err_from_is_err_and, IfErr-weaker, on_ok_weaker}
use Rattle.cif_io.proofs.OutsideLaws.{AppendsPrefix-nothing, Appends-nothing, Appends-same, AppendsPrefix-same}
use Rattle.cif_defs.specs.EvalText.{done_line}
use Rattle.cif_seq.specs.Cases.{CaseOf, FrameOf, frame_of, net_of}
use Rattle.cif_desk.proofs.CycleLaws.{StopsWriting-later, after, Rose-since, frame_written, frame_broken, cycles_stopped, text_written, last_broken}
use Rattle.cif_desk.proofs.evaluation.write_cycles.Goals as goal

pub returns-in_err-frame-clause-err : goal.returns-in_err-frame-clause-err
returns-in_err-frame-clause-err g c =
    let p = err_from_is_err_and c.from_residual.result c.from_residual.ensures.1 in
    rw (p.1, p.2) (AppendsPrefix-nothing _ refl)

pub returns-in_err-write_cycle-clause-err : goal.returns-in_err-write_cycle-clause-err
returns-in_err-write_cycle-clause-err g c =
    let p = err_from_is_err_and c.from_residual-in_err-write_cycle.result c.from_residual-in_err-write_cycle.ensures.1 in
    let first : c.in_ok-frame.frame ≡ frame_of c.args.case.now.value 0 = c.in_ok-frame.ensures in
    rw (p.1, p.2) (StopsWriting-later _ _ _ _ _ _ _ c.in_err-write_cycle.field-0.0 (λ rose. rose) (frame_broken c.in_ok-frame.frame c.args.case.now.value 0 first c.requires (Appends-nothing refl)) c.in_err-write_cycle.ensures.err)

pub returns-in_err-frame-2-clause-err : goal.returns-in_err-frame-2-clause-err
returns-in_err-frame-2-clause-err g c =
    let p = err_from_is_err_and c.from_residual-in_err-frame-2.result c.from_residual-in_err-frame-2.ensures.1 in
    let end : c.cycles-cycle-end.result ≡ c.args.case.now.value.stimulus.cycles = c.cycles-cycle-end.ensures ∙ ap (λ (v : CaseOf). v.stimulus.cycles) c.deref.ensures in
    rw (p.1, p.2) (cycles_stopped (net_of c.args.case.now.value) c.args.case.now.value.stimulus c.loop-cycle.cycle (omega arith) c.loop-cycle.invariant.written)

pub returns-in_err-write_cycle-2-clause-err : goal.returns-in_err-write_cycle-2-clause-err
returns-in_err-write_cycle-2-clause-err g c =
    let p = err_from_is_err_and c.from_residual-in_err-write_cycle-2.result c.from_residual-in_err-write_cycle-2.ensures.1 in
    let end : c.cycles-cycle-end.result ≡ c.args.case.now.value.stimulus.cycles = c.cycles-cycle-end.ensures ∙ ap (λ (v : CaseOf). v.stimulus.cycles) c.deref.ensures in
    let next = after c.loop-cycle.frame c.in_ok-frame-2.frame c.args.case.now.value c.loop-cycle.cycle c.loop-cycle.invariant.same_case c.loop-cycle.invariant.next c.in_ok-frame-2.ensures in
    let below : c.loop-cycle.cycle < c.args.case.now.value.stimulus.cycles = omega arith in
    rw (p.1, p.2) (StopsWriting-later _ _ _ _ _ _ _ c.in_err-write_cycle-2.field-0.0
    (Rose-since _ _ _ c.loop-cycle.invariant.sound)
    (frame_broken c.in_ok-frame-2.frame c.args.case.now.value c.loop-cycle.cycle next below c.loop-cycle.invariant.written)
    c.in_err-write_cycle-2.ensures.err)

pub loop-cycle-preserved : goal.loop-cycle-preserved
loop-cycle-preserved g c =
    let next = after c.loop-cycle.frame c.in_ok-frame-2.frame c.args.case.now.value c.loop-cycle.cycle c.loop-cycle.invariant.same_case c.loop-cycle.invariant.next c.in_ok-frame-2.ensures in
    record {
      same_case = ap (λ (f : FrameOf). f.case) next;
      next = ap (λ (f : FrameOf). f.cycle + 1) next;
      written = frame_written c.in_ok-frame-2.frame c.args.case.now.value c.loop-cycle.cycle next c.loop-cycle.invariant.written c.in_ok-write_cycle-2.ensures.all;
      sound = c.in_ok-write_cycle-2.ensures.kept ∙ c.loop-cycle.invariant.sound;
    }

pub returns-in_err-last-clause-err : goal.returns-in_err-last-clause-err
returns-in_err-last-clause-err g c =
    let p = err_from_is_err_and c.from_residual-in_err-last.result c.from_residual-in_err-last.ensures.1 in
    let end : c.cycles-cycle-end.result ≡ c.args.case.now.value.stimulus.cycles = c.cycles-cycle-end.ensures ∙ ap (λ (v : CaseOf). v.stimulus.cycles) c.deref.ensures in
    rw (p.1, p.2) (cycles_stopped (net_of c.args.case.now.value) c.args.case.now.value.stimulus c.loop-cycle.cycle (omega (arith, c.requires)) c.loop-cycle.invariant.written)

pub returns-clause-all : goal.returns-clause-all
returns-clause-all g c =
    let end : c.cycles-cycle-end.result ≡ c.args.case.now.value.stimulus.cycles = c.cycles-cycle-end.ensures ∙ ap (λ (v : CaseOf). v.stimulus.cycles) c.deref.ensures in
    let all : c.loop-cycle.cycle ≡ c.args.case.now.value.stimulus.cycles = omega (arith, c.requires) in
    let last : c.deref-3.result.now ≡ done_line c.args.case.now.value.stimulus.cycles =
    c.deref-3.ensures.value ∙ c.in_ok-last.ensures ∙ ap done_line (c.cycles.ensures ∙ ap (λ (v : CaseOf). v.stimulus.cycles) c.deref-2.ensures) in
    on_ok_weaker c.write.result (λ h. text_written (net_of c.args.case.now.value) c.args.case.now.value.stimulus c.loop-cycle.cycle all c.loop-cycle.invariant.written (Appends-same h last)) c.write.ensures.all

pub returns-clause-err : goal.returns-clause-err
returns-clause-err g c =
    let end : c.cycles-cycle-end.result ≡ c.args.case.now.value.stimulus.cycles = c.cycles-cycle-end.ensures ∙ ap (λ (v : CaseOf). v.stimulus.cycles) c.deref.ensures in
    let all : c.loop-cycle.cycle ≡ c.args.case.now.value.stimulus.cycles = omega (arith, c.requires) in
    let last : c.deref-3.result.now ≡ done_line c.args.case.now.value.stimulus.cycles =
    c.deref-3.ensures.value ∙ c.in_ok-last.ensures ∙ ap done_line (c.cycles.ensures ∙ ap (λ (v : CaseOf). v.stimulus.cycles) c.deref-2.ensures) in
    IfErr-weaker c.write.result _ _ (λ stop h. StopsWriting-later _ _ _ _ _ _ _ stop
    (Rose-since _ _ _ c.loop-cycle.invariant.sound)
    (λ part. last_broken (net_of c.args.case.now.value) c.args.case.now.value.stimulus c.loop-cycle.cycle all c.loop-cycle.invariant.written (AppendsPrefix-same part last)) h) c.write.ensures.err
