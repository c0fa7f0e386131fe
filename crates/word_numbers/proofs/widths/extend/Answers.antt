use Rattle.std.proofs.Common.{arith, sym, ap, ◌∙◌, ◌&&◌, ◌≡◌, false}
use Rattle.cif_defs.specs.Words.{top, word_of}
use Rattle.word_numbers.proofs.MoveLaws.{extended_with_ones, extended_with_zeros}
use Rattle.word_numbers.proofs.widths.extend.Goals as goal
use Rattle.word_numbers.proofs.widths.extend.Goals.{else-signed-via-then-signed+else-top, else-signed-via-else-signed}

pub returns-then-top-clause-word : goal.returns-then-top-clause-word
returns-then-top-clause-word c = c.lowest.ensures.word
    ∙ extended_with_ones c.args.from c.args.to c.args.number c.mask.result c.args.signed c.requires.shown_limit c.requires.fits (omega arith)
    c.mask.ensures.value c.if-signed.true (sym c.top.ensures ∙ c.if-top.true)

pub returns-else-signed-clause-word : goal.returns-else-signed-clause-word
returns-else-signed-clause-word c =
    let fill : (c.args.signed && top (word_of c.args.from c.args.number)) ≡ false = elim c.else-signed.branch [
      | else-signed-via-then-signed+else-top w ↦ ap (λ b. b && top (word_of c.args.from c.args.number)) w.if-signed.true ∙ sym w.top.ensures ∙ w.if-top.false
      | else-signed-via-else-signed w ↦ ap (λ b. b && top (word_of c.args.from c.args.number)) w.if-signed.false
    ] in
    c.lowest-else-signed.ensures.word ∙ extended_with_zeros c.args.from c.args.to c.args.number c.args.signed c.requires.fits fill
