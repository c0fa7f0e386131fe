use Rattle.std.proofs.Common.{sym, ◌∙◌, refl}
use Rattle.cif_starts.proofs.StartTable.{noted_none, noted_some}
use Rattle.cif_starts.proofs.starts.StartLines.note.Goals as goal

pub returns-in-Some : goal.returns-in-Some
returns-in-Some c = λ cells lines order h e known. noted_some cells lines c.args.place c.in-Some.cell _ c.args.self.now _ order h (sym e ∙ c.in-Some.is) known c.index.ensures refl refl

pub returns-in_default : goal.returns-in_default
returns-in_default c = λ cells lines order h e known. noted_none cells lines c.args.place c.args.self.now order h (sym e ∙ c.in_default.is) known
