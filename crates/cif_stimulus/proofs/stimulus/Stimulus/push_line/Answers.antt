use Rattle.std.proofs.Common.{arith, sym, ◌∙◌}
use Rattle.cif_stimulus.proofs.LineOrder.{kept_start, kept_other}
use Rattle.cif_stimulus.proofs.stimulus.Stimulus.push_line.Goals as goal

pub invariant_of-self-then-is_start : goal.invariant_of-self-then-is_start
invariant_of-self-then-is_start c = kept_start c.self.inside c.args.self.now c.push-2.new.self c.push.new.self c.args.line c.len-self-inside.result c.self.invariant c.self.view_is c.in_ok-push-2.ensures.items (omega (arith, c.push-2.new.self.ok.0)) c.requires.place c.requires.written

pub invariant_of-self-else-is_start : goal.invariant_of-self-else-is_start
invariant_of-self-else-is_start c = kept_other c.self.inside c.args.self.now c.push-2.new.self c.push.new.self c.args.line c.self.invariant c.self.view_is c.in_ok-push-2.ensures.items (sym c.is_start-is_start.ensures ∙ c.if-is_start.false) c.requires.place c.requires.written
