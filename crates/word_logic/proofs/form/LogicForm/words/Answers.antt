use Rattle.word_logic.proofs.WiringForms.{join_room, joined_words, sliced_words}
use Rattle.word_logic.proofs.form.LogicForm.words.Goals as goal

pub join-requires-clause-high_fits : goal.join-requires-clause-high_fits
join-requires-clause-high_fits c = join_room c.args.self.now c.args.values.now c.in-Joined.a_width c.in-Joined.field-1 c.in-Joined.is c.requires.sound c.requires.values

pub returns-in-Joined-clause-words : goal.returns-in-Joined-clause-words
returns-in-Joined-clause-words c =
    joined_words c.args.self.now c.args.values.now c.one-in-Joined.result c.in-Joined.a_width c.in-Joined.field-1 c.join.result c.in-Joined.is c.requires.values c.one-in-Joined.ensures c.join.ensures.word

pub returns-in-Sliced-clause-words : goal.returns-in-Sliced-clause-words
returns-in-Sliced-clause-words c =
    sliced_words c.args.self.now c.args.values.now c.one-in-Sliced.result c.in-Sliced.field-0 c.in-Sliced.offset c.in-Sliced.width c.slice.result c.in-Sliced.is c.requires.values c.one-in-Sliced.ensures c.slice.ensures.word
