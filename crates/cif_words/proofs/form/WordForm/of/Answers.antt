use Rattle.std.proofs.Common.{ap, sym, ◌∙◌}
use Rattle.word_sums.specs.Covered.{covers_numbers}
use Rattle.cif_words.specs.declared.form.WordForm.TheVariants.{Number, Adder}
use Rattle.cif_words.proofs.HasForms.{adder_form, number_form}
use Rattle.cif_words.proofs.form.WordForm.of.Goals as goal

pub returns-then-covers-2 : goal.returns-then-covers-2
returns-then-covers-2 c =
    number_form (Number c.of-then-covers-2.result) c.args.cell.now c.requires (c.narrow.ensures.0 c.if-not-narrow.false) (sym (c.covers-2.ensures ∙ ap covers_numbers c.kind-kind.ensures) ∙ c.if-covers-2.true) c.of-then-covers-2.ensures

pub returns-in-Alu : goal.returns-in-Alu
returns-in-Alu c = adder_form (Adder c.of-in-Alu.result) c.args.cell.now c.requires (c.narrow.ensures.0 c.if-not-narrow.false) (sym c.kind-kind.ensures ∙ c.in-Alu.is) c.of-in-Alu.ensures
