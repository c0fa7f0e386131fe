use Rattle.std.proofs.lemmas.Nat.{pow_pos}
use Rattle.word_choices.specs.SelectForms.{form_operands, form_output, form_word}
use Rattle.word_choices.proofs.Untainted.{untainted_exact}
use Rattle.word_choices.proofs.form.output_taint.Goals as goal

pub returns-then-are_untainted-clause-word : goal.returns-then-are_untainted-clause-word
returns-then-are_untainted-clause-word c = untainted_exact (form_output c.args.form) (form_word c.args.form) (form_operands c.args.form) c.args.values c.args.taints (c.are_untainted.ensures.0 c.if-are_untainted.true)

pub returns-then-are_untainted-clause-fits : goal.returns-then-are_untainted-clause-fits
returns-then-are_untainted-clause-fits c = pow_pos (form_output c.args.form)
