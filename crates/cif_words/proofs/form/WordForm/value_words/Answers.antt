use Rattle.cif_words.proofs.SumForms.{held_adder, held_number}
use Rattle.cif_words.proofs.form.WordForm.value_words.Goals as goal

pub value-requires-in-Number : goal.value-requires-in-Number
value-requires-in-Number c = held_number c.args.self.now c.in-Number.form c.args.cell.now c.args.values.now c.in-Number.is c.requires.stands.says c.requires.values

pub value-requires-in-Adder : goal.value-requires-in-Adder
value-requires-in-Adder c = held_adder c.args.self.now c.in-Adder.form c.args.cell.now c.args.values.now c.in-Adder.is c.requires.stands.says c.requires.values
