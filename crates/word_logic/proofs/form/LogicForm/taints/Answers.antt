use Rattle.word_logic.proofs.WiringForms.{adder_taints, join_room, joined_taints, sliced_taints}
use Rattle.word_logic.proofs.form.LogicForm.taints.Goals as goal

pub join-requires-clause-high_fits : goal.join-requires-clause-high_fits
join-requires-clause-high_fits c = join_room c.args.self.now c.args.taints.now c.in-Joined.a_width c.in-Joined.field-1 c.in-Joined.is c.requires.sound c.requires.taints

pub returns-in-Joined-clause-words : goal.returns-in-Joined-clause-words
returns-in-Joined-clause-words c =
    joined_taints c.args.self.now c.args.values.now c.args.taints.now c.one-in-Joined.result c.in-Joined.a_width c.in-Joined.field-1 c.join.result c.in-Joined.is c.requires.taints c.one-in-Joined.ensures c.join.ensures.word

pub returns-in-Sliced-clause-words : goal.returns-in-Sliced-clause-words
returns-in-Sliced-clause-words c =
    sliced_taints c.args.self.now c.args.values.now c.args.taints.now c.one-in-Sliced.result c.in-Sliced.field-0 c.in-Sliced.offset c.in-Sliced.width c.slice.result c.in-Sliced.is c.requires.taints c.one-in-Sliced.ensures c.slice.ensures.word

pub returns-in-Adder-clause-words : goal.returns-in-Adder-clause-words
returns-in-Adder-clause-words c =
    adder_taints c.args.self.now c.args.values.now c.args.taints.now c.two.result c.in-Adder.width c.carry_taint.result c.sum_taint.result c.in-Adder.is c.two.ensures
    c.carry_taint.ensures.word (c.sum_taint.ensures.word c.in-Adder.width)
