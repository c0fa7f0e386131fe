use Rattle.std.proofs.Common.{sym, ap, ◌∙◌, ◌++◌, ◌∷◌, [], List}
use Rattle.cif_script.specs.ScriptText.{with_line}
use Rattle.cif_script.specs.declared.session.Line.{Line}
use Rattle.cif_script.proofs.Sessions.{line_to_last}
use Rattle.cif_script.proofs.session.push_line.Goals as goal

pub returns : goal.returns
returns c =
    c.in_ok-push-2.ensures.items
    ∙ ap (λ (ls : List Line). c.pop.new.self.items ++ record { name = c.in-Some.session.name; lines = ls } ∷ []) c.in_ok-push.ensures.ok
    ∙ sym (line_to_last c.pop.new.self.items c.in-Some.session c.args.line)
    ∙ ap (with_line c.args.line) (sym c.in-Some.ensures.items)
