use Rattle.std.proofs.Common.{arith, ap, ◌∙◌, ◌≡◌, ◌+◌, length}
use Rattle.cif_defs.specs.Words.{Word, bit, word}
use Rattle.cif_defs.specs.Cells.{width}
use Rattle.cif_defs.proofs.WordLaws.{length-word}
use Rattle.rule_state.specs.MemoryTaints.{taint_after_port}
use Rattle.cif_cycle.proofs.PutRows.{put_same}
use Rattle.cif_cycle.proofs.memory.write_row_taint.Goals as goal

pub of-row-requires : goal.of-row-requires
of-row-requires c =
    let size : length c.in_ok-word.field-0.items ≡ c.number-width.result = ap length c.in_ok-word.ensures ∙ length-word _ _ in
    let same : c.number-width.result ≡ width c.args.cell.now = c.number-width.ensures in
    let limit = c.requires.numbers.width_limit in
    omega arith

pub write_taint-requires-clause-stored : goal.write_taint-requires-clause-stored
write_taint-requires-clause-stored c = ap length c.of-row.ensures ∙ ap length c.in_ok-word.ensures ∙ length-word _ _ ∙ c.number-width.ensures

pub put_row-requires : goal.put_row-requires
put_row-requires c =
    let size : length c.bits.result.now ≡ width c.args.cell.now = ap length (c.bits.ensures.value ∙ c.write_taint.ensures.is) ∙ length-word _ _ in
    omega (arith, c.requires.inside)

pub returns : goal.returns
returns c = put_same _ _ _ _ _
    (c.bits.ensures.value ∙ c.write_taint.ensures.is
    ∙ ap (λ (x : Word). taint_after_port (width c.args.cell.now) c.args.port.now c.args.address x) (c.of-row.ensures ∙ c.in_ok-word.ensures ∙ ap (λ n. word n (λ i. bit c.args.stored.now (c.args.at + i))) c.number-width.ensures))
    c.in_ok-put_row.ensures
