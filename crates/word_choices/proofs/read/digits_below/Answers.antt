use Rattle.std.proofs.Common.{◌<◌, ◌+◌, ◌*◌, ◌%◌, ◌^◌, ◌≡◌, arith, sym, ◌∙◌, length, false}
use Rattle.cif_defs.specs.Cells.{digits_of}
use Rattle.cif_defs.specs.Words.{bit, word}
use Rattle.cif_defs.specs.declared.kinds.Param.TheVariants.{Lut}
use Rattle.cif_defs.proofs.WordLaws.{bit-word, length-word}
use Rattle.cif_bits.proofs.WordForms.{digit_fits, none_added, one_added}
use Rattle.word_choices.proofs.TableLaws.{all_digits, all_fit}
use Rattle.word_choices.proofs.read.digits_below.Goals as goal
use Rattle.word_choices.proofs.read.digits_below.Goals.{then-digit, else-digit}

pub overflow_add-digits : goal.overflow_add-digits
overflow_add-digits c =
    let fits : c.loop-place.digits + 1 * 2 ^ c.loop-place.place % 2 ^ 128 < 2 ^ 128 = digit_fits c.loop-place.place 128 c.loop-place.digits (omega arith) c.loop-place.invariant.below in
    omega arith

pub loop-place-preserved : goal.loop-place-preserved
loop-place-preserved c =
    let size : length (word c.args.count (bit (digits_of c.args.cell.now Lut))) ≡ c.args.count = length-word c.args.count (bit (digits_of c.args.cell.now Lut)) in
    let at = bit-word c.args.count (bit (digits_of c.args.cell.now Lut)) c.loop-place.place false c.loop-place-test.true in
    elim c.if-digit.branch [
      | then-digit w ↦ one_added _ _ 128 _ _ (omega arith) (omega arith) c.loop-place.invariant (at ∙ sym c.digit.ensures ∙ w.if-digit.true) w.digits-is
      | else-digit w ↦ none_added _ _ _ _ (omega arith) c.loop-place.invariant (at ∙ sym c.digit.ensures ∙ w.if-digit.false) w.digits-is
    ]

pub returns-clause-word : goal.returns-clause-word
returns-clause-word c = all_digits c.args.count c.loop-place.digits c.loop-place.place (bit (digits_of c.args.cell.now Lut)) (omega (arith, c.loop-place-test.false, c.loop-place.auto.place-end)) c.loop-place.invariant

pub returns-clause-fits : goal.returns-clause-fits
returns-clause-fits c = all_fit c.args.count c.loop-place.digits c.loop-place.place (bit (digits_of c.args.cell.now Lut)) (omega (arith, c.loop-place-test.false, c.loop-place.auto.place-end)) c.loop-place.invariant
