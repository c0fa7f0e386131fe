use Rattle.std.proofs.Common.{◌≡◌, ◌<◌, ◌++◌, ◌∷◌, [], length, rules, subst, sym, true}
use Rattle.std.specs.List.{list_all}
use Rattle.cif_script.specs.Scripts.{ScriptData, is_line_inside}
use Rattle.cif_script.specs.declared.session.Line.TheVariants.{At}
use Rattle.cif_run.proofs.Reading.{at_each, reads_more}
use Rattle.cif_run.proofs.reader.Reader.step.Goals as goal

pub reply-requires-clause-inside : goal.reply-requires-clause-inside
reply-requires-clause-inside g c =
    let lines = c.lines-lines.result.now in
    let low : c.len-next.result < length lines = search rules in
    let inside : list_all (is_line_inside (length c.self.inside.script.now.wires)) lines ≡ true =
    subst (λ (s : ScriptData). list_all (is_line_inside (length s.wires)) lines ≡ true) (sym c.self.invariant.0) c.lines-lines.ensures.inside in
    at_each (is_line_inside (length c.self.inside.script.now.wires)) lines c.len-next.result (At 0) low inside

pub invariant_of-self-in-Some : goal.invariant_of-self-in-Some
invariant_of-self-in-Some g c =
    let h = c.self.invariant in
    let lines = c.lines-lines.result.now in
    let low : c.len-next.result < length lines = search rules in
    let place : c.len-next.result ≡ length c.self.inside.answers.items = search rules in
    let longer : c.push.new.self.items ≡ c.self.inside.answers.items ++ c.in-Some.answer ∷ [] = search rules in
    let number : c.reply.new.session.number ≡ c.self.inside.session.number = c.reply.ensures.number in (
      h.0,
      reads_more g.N.Run.case g.N.Scripted.script c.self.inside.script.now c.self.inside.session.number c.reply.new.session.number c.self.inside.session.pin c.reply.new.session.pin c.self.inside.answers.items c.push.new.self.items lines c.len-next.result (At 0) c.in_ok-answer.field-0 c.in-Some.answer
          h.0 h.1 number (search rules) place low c.in-Some.is longer c.in_ok-answer.ensures.steps,
    )
