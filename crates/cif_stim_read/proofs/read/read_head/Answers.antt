use Rattle.std.proofs.Common.{refl}
use Rattle.std.proofs.lemmas.Result.{err_from_is_err_and}
use Rattle.cif_text.proofs.Pieces.{empty, not_empty}
use Rattle.cif_stim_read.proofs.Heads.{empty_text, all_skipped, wrong_version, no_second, wrong_cycles, both_lines}
use Rattle.cif_stim_read.proofs.read.read_head.Goals as goal

pub returns-then-is_empty-clause-err : goal.returns-then-is_empty-clause-err
returns-then-is_empty-clause-err c = λ raw. empty_text raw c.args.bytes.now (empty c.args.bytes.now c.if-is_empty.ensures)

pub returns-in_default-clause-err : goal.returns-in_default-clause-err
returns-in_default-clause-err c = λ raw. all_skipped raw c.args.bytes.now (not_empty c.args.bytes.now c.if-is_empty.ensures) (c.in_default.ensures.none refl)

pub returns-in_err-version-clause-err : goal.returns-in_err-version-clause-err
returns-in_err-version-clause-err c =
    let p = err_from_is_err_and c.from_residual.result c.from_residual.ensures.1 in
    rw (p.1, p.2) (λ raw. wrong_version raw c.args.bytes.now _ _ _ (not_empty c.args.bytes.now c.if-is_empty.ensures) c.in-Some.ensures.some c.in_err-version.ensures.err)

pub returns-in_default-next_line-clause-err : goal.returns-in_default-next_line-clause-err
returns-in_default-next_line-clause-err c = λ raw. no_second raw c.args.bytes.now _ _ _ (not_empty c.args.bytes.now c.if-is_empty.ensures) c.in-Some.ensures.some c.in_ok-version.ensures.ok (c.in_default-next_line.ensures.none refl)

pub returns-in_err-cycles-clause-err : goal.returns-in_err-cycles-clause-err
returns-in_err-cycles-clause-err c =
    let p = err_from_is_err_and c.from_residual-in_err-cycles.result c.from_residual-in_err-cycles.ensures.1 in
    rw (p.1, p.2) (λ raw. wrong_cycles raw c.args.bytes.now _ _ _ _ _ _ (not_empty c.args.bytes.now c.if-is_empty.ensures) c.in-Some.ensures.some c.in_ok-version.ensures.ok c.in-Some-next_line.ensures.some c.in_err-cycles.ensures.err)

pub returns-clause-ok : goal.returns-clause-ok
returns-clause-ok c = λ raw. both_lines raw c.args.bytes.now _ _ _ _ _ _ (not_empty c.args.bytes.now c.if-is_empty.ensures) c.in-Some.ensures.some c.in_ok-version.ensures.ok c.in-Some-next_line.ensures.some c.in_ok-cycles.ensures.ok
