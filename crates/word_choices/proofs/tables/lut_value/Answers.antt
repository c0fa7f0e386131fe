use Rattle.std.proofs.Common.{ap, ◌==◌, ◌&&◌, ◌∙◌}
use Rattle.cif_defs.specs.Words.{word}
use Rattle.word_choices.proofs.TableLaws.{lut_by}
use Rattle.word_choices.proofs.tables.lut_value.Goals as goal

pub returns-clause-word : goal.returns-clause-word
returns-clause-word c =
    lut_by c.args.table.address c.args.table.digits c.args.values.a c.flag.result c.args.table.fits c.requires.a_fits (λ n h. c.flag.ensures.word n h ∙ ap (λ b. word n (λ i. i == 0 && b)) c.bit.ensures)
