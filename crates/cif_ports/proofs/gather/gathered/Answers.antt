use Rattle.std.proofs.Common.{◌<◌, ◌+◌, ◌*◌, ◌%◌, ◌^◌, ◌≡◌, arith, length}
use Rattle.cif_defs.specs.Words.{bit}
use Rattle.cif_bits.proofs.WordForms.{digit_fits, one_added, none_added}
use Rattle.cif_ports.specs.ReadBits.{read_word}
use Rattle.cif_ports.proofs.ReadWords.{all_read, bit-read, fits_all, length-read}
use Rattle.cif_ports.proofs.gather.gathered.Goals as goal
use Rattle.cif_ports.proofs.gather.gathered.Goals.{then-source_bit, else-source_bit}

pub overflow_add-total : goal.overflow_add-total
overflow_add-total c =
    let fits : c.loop-i.total + 1 * 2 ^ c.loop-i.i % 2 ^ 128 < 2 ^ 128 = digit_fits c.loop-i.i 128 c.loop-i.total (omega arith) c.loop-i.invariant.below in
    omega arith

pub loop-i-preserved : goal.loop-i-preserved
loop-i-preserved c =
    let size : length (read_word c.args.one (bit c.args.bits.now) c.args.sources.now) ≡ length c.args.sources.now = length-read _ _ _ in
    elim c.if-source_bit.branch [
      | then-source_bit w ↦ one_added _ _ 128 _ _ (omega arith) (omega arith) c.loop-i.invariant (bit-read c.args.one (bit c.args.bits.now) c.args.sources.now c.loop-i.i _ _ _ c.loop-i-test.true c.source_bit.ensures w.if-source_bit.true) w.total-is
      | else-source_bit w ↦ none_added _ _ _ _ (omega arith) c.loop-i.invariant (bit-read c.args.one (bit c.args.bits.now) c.args.sources.now c.loop-i.i _ _ _ c.loop-i-test.true c.source_bit.ensures w.if-source_bit.false) w.total-is
    ]

pub returns-clause-word : goal.returns-clause-word
returns-clause-word c = all_read c.args.one (bit c.args.bits.now) c.args.sources.now c.loop-i.i c.loop-i.total c.loop-i-test.false (omega arith) c.loop-i.invariant

pub returns-clause-fits : goal.returns-clause-fits
returns-clause-fits c = fits_all c.args.one (bit c.args.bits.now) c.args.sources.now c.loop-i.i c.loop-i.total c.loop-i-test.false (omega arith) c.loop-i.invariant
