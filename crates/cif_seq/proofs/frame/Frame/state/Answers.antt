-- An untainted bit is the same under each stimulus that agrees.
use Rattle.std.proofs.Common.{◌∙◌, ◌≡◌, List, ap, subst}
use Rattle.cif_defs.specs.Words.{Word, bit, operand}
use Rattle.cif_defs.specs.TaintRun.{state_value}
use Rattle.cif_defs.specs.Loop.{IsLevelled}
use Rattle.cif_defs.specs.Netlist.{IsWired}
use Rattle.cif_seq.specs.Cases.{CaseOf, FrameOf, net_of}
use Rattle.cif_seq.proofs.FrameLaws.{state_independent}
use Rattle.cif_seq.proofs.frame.Frame.state.Goals as goal

pub returns-clause-independent : goal.returns-clause-independent
returns-clause-independent c = λ other agrees clear.
    let same : c.deref.result.now ≡ c.args.self.now.case = c.deref.ensures ∙ ap (λ (f : FrameOf). f.case) c.self.view_is in
    state_independent (net_of c.args.self.now.case) c.args.self.now.case.order c.args.self.now.case.stimulus other c.args.self.now.cycle c.args.cell c.args.index c.state_bit.result _
    (subst (λ (x : CaseOf). IsWired (net_of x)) same c.levels-levels.ensures.wired) (subst (λ (x : CaseOf). IsLevelled (net_of x) x.order) same c.levels-levels.ensures.levelled)
    (c.state_bit.ensures ∙ ap (λ (ws : List Word). bit (operand ws c.args.cell) c.args.index) (c.deref-2.ensures.value ∙ c.self.invariant.shown.state_values)
    ∙ ap (λ (f : FrameOf). state_value (net_of f.case) f.case.stimulus f.cycle c.args.cell c.args.index) c.self.view_is)
    (cc (c.stored.ensures, c.flag.ensures)) agrees clear
