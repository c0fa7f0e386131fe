use Rattle.std.proofs.Common.{◌-◌, ap, ◌∙◌, length}
use Rattle.cif_defs.specs.Words.{Word, bit, word}
use Rattle.cif_defs.specs.Stimulus.{with_row}
use Rattle.cif_stimulus.specs.StimulusView.{line_seen}
use Rattle.cif_cycle.proofs.PutRows.{put_whole}
use Rattle.cif_starts.proofs.StartLaws.{reg_taken, mem_taken}
use Rattle.cif_starts.proofs.starts.take_line.Goals as goal

pub returns-in-Reg : goal.returns-in-Reg
returns-in-Reg c =
    reg_taken c.args.cell.now (line_seen c.args.line.now) c.in-Reg.cell c.in-Reg.given c.in-Reg.given_taint c.args.value.now c.args.taint.now c.put_at.new.bits c.put_at-in-Reg.new.bits
    (ap line_seen c.in-Reg.is) c.requires.named c.requires.value c.requires.taint
    (put_whole (bit c.bits.result.now) c.args.value.now c.put_at.new.bits c.put_at.ensures ∙ ap (λ (u : Word). word (length c.args.value.now) (λ i. bit u i)) c.bits.ensures.value)
    (put_whole (bit c.bits-in-Reg.result.now) c.args.taint.now c.put_at-in-Reg.new.bits c.put_at-in-Reg.ensures ∙ ap (λ (u : Word). word (length c.args.taint.now) (λ i. bit u i)) c.bits-in-Reg.ensures.value)

pub returns-in-Mem : goal.returns-in-Mem
returns-in-Mem c =
    mem_taken c.args.cell.now (line_seen c.args.line.now) c.in-Mem.cell c.in-Mem.address c.number-width.result c.saturating_sub-row.result c.in-Mem.given c.in-Mem.given_taint c.args.value.now c.args.taint.now c.put_row.new.bits c.put_row-in-Mem.new.bits
    (ap line_seen c.in-Mem.is) c.requires.named c.number-width.ensures (c.saturating_sub-row.ensures ∙ ap (λ x. c.in-Mem.address - x) c.number.ensures) c.requires.value c.requires.taint
    (c.put_row.ensures ∙ ap (λ (u : Word). with_row (length c.args.value.now) c.number-width.result c.saturating_sub-row.result u c.args.value.now) c.bits-in-Mem.ensures.value)
    (c.put_row-in-Mem.ensures ∙ ap (λ (u : Word). with_row (length c.args.taint.now) c.number-width.result c.saturating_sub-row.result u c.args.taint.now) c.bits-in-Mem-2.ensures.value)
