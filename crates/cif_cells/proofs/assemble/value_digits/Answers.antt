use Rattle.std.proofs.Common.{arith}
use Rattle.cif_defs.specs.Words.{bit}
use Rattle.cif_defs.specs.RawModule.{digits_read}
use Rattle.cif_defs.proofs.WordLaws.{word_push}
use Rattle.cif_cells.proofs.AssembleLaws.{all_digits}
use Rattle.cif_cells.proofs.assemble.value_digits.Goals as goal

pub loop-index-preserved : goal.loop-index-preserved
loop-index-preserved c = word_push (λ i. bit (digits_read c.args.value.now) i) c.loop-index.index c.loop-index.digits.items _ c.value_digit.result c.loop-index.invariant c.in_ok-push.ensures.items c.value_digit.ensures

pub returns : goal.returns
returns c = all_digits (digits_read c.args.value.now) c.loop-index.index _ (omega (arith, c.digit_count-index-end.ensures)) c.loop-index.invariant
