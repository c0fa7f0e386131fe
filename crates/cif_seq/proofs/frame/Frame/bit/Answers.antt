-- An untainted bit is the same under each stimulus that agrees.
use Rattle.std.proofs.Common.{◌∙◌, ◌≡◌, Bool, List, ap, subst}
use Rattle.cif_defs.specs.Words.{bit}
use Rattle.cif_defs.specs.Run.{value}
use Rattle.cif_defs.specs.TaintRun.{taint}
use Rattle.cif_defs.specs.Loop.{IsLevelled}
use Rattle.cif_defs.specs.Netlist.{IsWired}
use Rattle.cif_seq.specs.Cases.{CaseOf, FrameOf, net_of}
use Rattle.cif_seq.proofs.FrameLaws.{bit_independent}
use Rattle.cif_seq.proofs.frame.Frame.bit.Goals as goal

pub returns-clause-independent : goal.returns-clause-independent
returns-clause-independent c = λ other agrees clear.
    let same : c.deref.result.now ≡ c.args.self.now.case = c.deref.ensures ∙ ap (λ (f : FrameOf). f.case) c.self.view_is in
    bit_independent (net_of c.args.self.now.case) c.args.self.now.case.order c.args.self.now.case.stimulus other c.args.self.now.cycle c.args.net c.bit_of.result c.bit_of-2.result
    (subst (λ (x : CaseOf). IsWired (net_of x)) same c.levels-levels.ensures.wired) (subst (λ (x : CaseOf). IsLevelled (net_of x) x.order) same c.levels-levels.ensures.levelled)
    (c.bit_of.ensures ∙ ap (λ (bits : List Bool). bit bits c.args.net) c.deref-2.ensures.value ∙ c.self.invariant.shown.net_values c.args.net ∙ ap (λ (f : FrameOf). value (net_of f.case) f.case.stimulus f.cycle c.args.net) c.self.view_is)
    (c.bit_of-2.ensures ∙ ap (λ (bits : List Bool). bit bits c.args.net) c.deref-3.ensures.value ∙ c.self.invariant.shown.net_taints c.args.net ∙ ap (λ (f : FrameOf). taint (net_of f.case) f.case.stimulus f.cycle c.args.net) c.self.view_is) agrees clear
