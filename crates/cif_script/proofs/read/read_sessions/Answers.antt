use Rattle.std.proofs.Common.{sym, ap, subst, ◌∙◌, refl, Ok}
use Rattle.std.specs.List.{All}
use Rattle.std.proofs.lemmas.Result.{err_from_is_err_and}
use Rattle.cif_script.specs.Scripts.{ScriptData}
use Rattle.cif_script.specs.ShownWires.{IsWireOf, AreApart}
use Rattle.cif_script.proofs.Kept.{read_sound}
use Rattle.cif_script.proofs.Readings.{all_skipped, untitled, stopped, too_large, all_read}
use Rattle.cif_script.proofs.read.read_sessions.Goals as goal

pub returns-in_default-clause-err : goal.returns-in_default-clause-err
returns-in_default-clause-err c = all_skipped c.args.netlist.now c.args.bytes.now (c.in_default.ensures.none refl)

pub returns-then-not-is_title-clause-err : goal.returns-then-not-is_title-clause-err
returns-then-not-is_title-clause-err c =
    untitled c.args.netlist.now c.args.bytes.now _ _ c.in-Some.ensures.some (sym c.is_title.ensures ∙ c.if-not-is_title.true)

pub returns-in_err-reader-clause-err : goal.returns-in_err-reader-clause-err
returns-in_err-reader-clause-err c =
    let p = err_from_is_err_and c.from_residual.result c.from_residual.ensures.1 in
    rw (p.1, p.2) (stopped c.args.netlist.now c.args.bytes.now _ _ _ c.in-Some.ensures.some (sym c.is_title.ensures ∙ c.if-not-is_title.false) c.in_err-reader.ensures.err)

pub finish-script-requires : goal.finish-script-requires
finish-script-requires c = (read_sound c.args.netlist.now _ _ c.in_ok-reader.ensures.ok).kept

pub returns-then-is_too_large-clause-err : goal.returns-then-is_too_large-clause-err
returns-then-is_too_large-clause-err c =
    too_large c.args.netlist.now c.args.bytes.now _ _ c.finish-script.result c.in-Some.ensures.some (sym c.is_title.ensures ∙ c.if-not-is_title.false)
    (c.in_ok-reader.ensures.ok ∙ ap Ok (sym c.finish-script.ensures)) (sym c.is_too_large.ensures ∙ c.if-is_too_large.true)

pub returns-clause-ok : goal.returns-clause-ok
returns-clause-ok c =
    all_read c.args.netlist.now c.args.bytes.now _ _ c.finish-script.result c.in-Some.ensures.some (sym c.is_title.ensures ∙ c.if-not-is_title.false)
    (c.in_ok-reader.ensures.ok ∙ ap Ok (sym c.finish-script.ensures)) (sym c.is_too_large.ensures ∙ c.if-is_too_large.false)

pub returns-clause-wires : goal.returns-clause-wires
returns-clause-wires c =
    subst (λ (script : ScriptData). All (IsWireOf c.args.netlist.now) script.wires) (sym c.finish-script.ensures) (read_sound c.args.netlist.now _ _ c.in_ok-reader.ensures.ok).found

pub returns-clause-apart : goal.returns-clause-apart
returns-clause-apart c =
    subst (λ (script : ScriptData). AreApart script.wires) (sym c.finish-script.ensures) (read_sound c.args.netlist.now _ _ c.in_ok-reader.ensures.ok).apart
