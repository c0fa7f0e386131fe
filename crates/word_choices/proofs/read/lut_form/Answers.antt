use Rattle.std.proofs.Common.{◌≤◌, subst}
use Rattle.word_choices.proofs.CellForms.{lut_stands}
use Rattle.word_choices.proofs.read.lut_form.Goals as goal

pub returns-then-address-le7 : goal.returns-then-address-le7
returns-then-address-le7 c =
    lut_stands c.args.cell.now c.table_of.result c.requires.fitted c.requires.kind c.table_of.ensures (subst (λ n. n ≤ 7) c.number-address.ensures c.if-address-le7.true)
