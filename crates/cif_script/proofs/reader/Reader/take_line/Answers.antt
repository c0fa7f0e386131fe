use Rattle.std.proofs.Common.{◌≡◌, sym, subst, ◌∙◌, Ok, OnOk, IfErr, Result}
use Rattle.cif_defs.specs.Text.{words_of}
use Rattle.cif_script.specs.Scripts.{ScriptData}
use Rattle.cif_script.specs.Seen.{IsFirst, so_far}
use Rattle.cif_script.specs.declared.fault.ScriptFault.{ScriptFault}
use Rattle.cif_script.proofs.Readings.{unsaid, misplaced, stands}
use Rattle.cif_script.proofs.reader.Reader.take_line.Goals as goal

pub returns-in_default-clause-err : goal.returns-in_default-clause-err
returns-in_default-clause-err c =
    unsaid c.args.netlist.now (so_far c.args.self.now) c.args.line.now.number (words_of c.args.line.now.text.now) c.in_ok-said.field-0 c.in_ok-said.ensures c.in_default.is

pub returns-then-not-may_stand-clause-err : goal.returns-then-not-may_stand-clause-err
returns-then-not-may_stand-clause-err c =
    misplaced c.args.netlist.now (so_far c.args.self.now) c.args.line.now.number (words_of c.args.line.now.text.now) c.in_ok-said.field-0 c.in-Some.said c.in_ok-said.ensures c.in-Some.is
    (sym c.may_stand.ensures ∙ c.if-not-may_stand.true)

pub returns-clause-ok : goal.returns-clause-ok
returns-clause-ok c =
    subst (λ (r : Result ScriptData ScriptFault). OnOk c.take_said.result (r ≡ Ok (so_far c.take_said.new.self)))
    (stands c.args.netlist.now (so_far c.args.self.now) c.args.line.now.number (words_of c.args.line.now.text.now) c.in_ok-said.field-0 c.in-Some.said c.in_ok-said.ensures c.in-Some.is
    (sym c.may_stand.ensures ∙ c.if-not-may_stand.false))
    c.take_said.ensures.ok

pub returns-clause-err : goal.returns-clause-err
returns-clause-err c =
    subst (λ (r : Result ScriptData ScriptFault). IfErr c.take_said.result (IsFirst r))
    (stands c.args.netlist.now (so_far c.args.self.now) c.args.line.now.number (words_of c.args.line.now.text.now) c.in_ok-said.field-0 c.in-Some.said c.in_ok-said.ensures c.in-Some.is
    (sym c.may_stand.ensures ∙ c.if-not-may_stand.false))
    c.take_said.ensures.err
