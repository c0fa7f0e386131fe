use Rattle.cif_words.proofs.SumForms.{held_adder, held_number}
use Rattle.cif_words.proofs.form.WordForm.taint_words.Goals as goal

pub taint-requires-in-Number-clause-values : goal.taint-requires-in-Number-clause-values
taint-requires-in-Number-clause-values c = held_number c.args.self.now c.in-Number.form c.args.cell.now c.args.values.now c.in-Number.is c.requires.stands.says c.requires.values

pub taint-requires-in-Number-clause-taints : goal.taint-requires-in-Number-clause-taints
taint-requires-in-Number-clause-taints c = held_number c.args.self.now c.in-Number.form c.args.cell.now c.args.taints.now c.in-Number.is c.requires.stands.says c.requires.taints

pub taint-requires-in-Adder-clause-values : goal.taint-requires-in-Adder-clause-values
taint-requires-in-Adder-clause-values c = held_adder c.args.self.now c.in-Adder.form c.args.cell.now c.args.values.now c.in-Adder.is c.requires.stands.says c.requires.values

pub taint-requires-in-Adder-clause-taints : goal.taint-requires-in-Adder-clause-taints
taint-requires-in-Adder-clause-taints c = held_adder c.args.self.now c.in-Adder.form c.args.cell.now c.args.taints.now c.in-Adder.is c.requires.stands.says c.requires.taints
