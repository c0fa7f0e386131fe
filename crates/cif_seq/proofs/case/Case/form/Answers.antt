use Rattle.std.proofs.Common.{arith, ◌<◌, length, subst}
use Rattle.std.specs.Prelude.{MatchOption, ⊤}
use Rattle.cif_defs.specs.Accepted.{netlist_of}
use Rattle.cif_defs.specs.Netlist.{cell_at}
use Rattle.cif_words.specs.Forms.{StandsFor}
use Rattle.cif_seq.specs.Cases.{CaseOf, net_of}
use Rattle.cif_seq.proofs.Forms.{form_read}
use Rattle.cif_seq.proofs.case.Case.form.Goals as goal

pub returns-then-place-len : goal.returns-then-place-len
returns-then-place-len c =
    let inside : c.args.number < length c.self.inside.forms.items = omega (arith, c.len.ensures, c.if-place-len.true) in
    subst (λ (x : CaseOf). MatchOption c.index.result.now ⊤ (λ f. StandsFor f (cell_at (net_of x) c.args.number))) c.self.view_is
    (form_read (netlist_of c.self.inside.netlist) c.self.inside.forms.items c.args.number c.index.result.now c.self.invariant.forms inside c.index.ensures)
