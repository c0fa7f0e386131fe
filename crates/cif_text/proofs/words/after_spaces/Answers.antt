use Rattle.std.proofs.Common.{sym, ap, ◌∙◌, ◌==◌, get_or, List, ℕ}
use Rattle.std.proofs.lemmas.List.{take_rest}
use Rattle.cif_defs.specs.Text.{words_of}
use Rattle.cif_text.proofs.Pieces.{begins_at, begins_other, no_words, no_words_end}
use Rattle.cif_text.proofs.words.after_spaces.Goals as goal

pub returns-in-Some-clause-words : goal.returns-in-Some-clause-words
returns-in-Some-clause-words c = ap words_of (take_rest c.args.text.now c.in-Some.begin) ∙ (begins_at c.args.text.now c.in-Some.begin (sym c.in-Some.ensures)).0

pub returns-in-Some-clause-begins : goal.returns-in-Some-clause-begins
returns-in-Some-clause-begins c = λ _. ap (λ (us : List ℕ). get_or us 0 0 == 32) (take_rest c.args.text.now c.in-Some.begin) ∙ begins_other c.args.text.now c.in-Some.begin (sym c.in-Some.ensures)

pub returns-in-None-clause-words : goal.returns-in-None-clause-words
returns-in-None-clause-words c = no_words_end ∙ sym (no_words c.args.text.now (sym c.in-None.ensures))
