use Rattle.std.proofs.Common.{sym, ap, ◌∙◌, ◌+◌, ◌∷◌, take}
use Rattle.std.proofs.lemmas.List.{take_rest}
use Rattle.cif_defs.specs.Text.{words_of}
use Rattle.cif_text.proofs.Pieces.{words-Some, words-None, no_words_end, empty, not_empty}
use Rattle.cif_text.proofs.words.first_word.Goals as goal

pub returns-then-is_empty-clause-none : goal.returns-then-is_empty-clause-none
returns-then-is_empty-clause-none c = λ _. sym c.after_spaces-text.ensures.words ∙ ap words_of (empty c.after_spaces-text.result.now c.if-is_empty.ensures) ∙ no_words_end

pub returns-in-Some-clause-some : goal.returns-in-Some-clause-some
returns-in-Some-clause-some c =
    let text = c.after_spaces-text.result.now in
    let some = not_empty text c.if-is_empty.ensures in
    sym c.after_spaces-text.ensures.words
    ∙ words-Some text c.in-Some.end some (c.after_spaces-text.ensures.begins some) (sym c.in-Some.ensures)
    ∙ ap (λ rest. take c.in-Some.end text ∷ words_of rest) (sym (take_rest text (c.in-Some.end + 1)))

pub returns-in-None-clause-some : goal.returns-in-None-clause-some
returns-in-None-clause-some c =
    let text = c.after_spaces-text.result.now in
    let some = not_empty text c.if-is_empty.ensures in
    sym c.after_spaces-text.ensures.words
    ∙ words-None text some (c.after_spaces-text.ensures.begins some) (sym c.in-None.ensures)
    ∙ ap (λ rest. text ∷ rest) (sym no_words_end)
