use Rattle.std.proofs.Common.{reverse}
use Rattle.std.proofs.lemmas.Result.{err_from_is_err_and}
use Rattle.cif_defs.specs.Text.{words_of}
use Rattle.cif_stimulus.specs.StimulusText.{Head}
use Rattle.cif_stimulus.specs.Versions.{version_number}
use Rattle.cif_stim_read.proofs.LineSteps.{said_is, not_said, reads_said, reads_none, takes_same, first_same, can_say}
use Rattle.cif_stim_read.proofs.reader.Reader.take_line.Goals as goal

pub returns-in_default-clause-err : goal.returns-in_default-clause-err
returns-in_default-clause-err c =
    let head : Head = record { version = version_number c.args.version; cycles = c.args.self.now.stimulus.cycles } in
    reads_none c.args.netlist.now head (reverse c.args.self.now.stimulus.lines) c.args.line.now.number (words_of c.args.line.now.text.now)
    (not_said c.args.netlist.now _ c.in_ok-said.field-0 (c.in_ok-said.ensures c.args.netlist.now) c.in_default.is)

pub take_said-requires-clause-sayable : goal.take_said-requires-clause-sayable
take_said-requires-clause-sayable c =
    can_say c.args.netlist.now (version_number c.args.version) c.args.line.now.text.now _
    (said_is c.args.netlist.now c.in-Some.said _ c.in_ok-said.field-0 (c.in_ok-said.ensures c.args.netlist.now) c.in-Some.is)

pub returns-in_err-take_said-clause-err : goal.returns-in_err-take_said-clause-err
returns-in_err-take_said-clause-err c =
    let head : Head = record { version = version_number c.args.version; cycles = c.args.self.now.stimulus.cycles } in
    let p = err_from_is_err_and c.from_residual-in_err-take_said.result c.from_residual-in_err-take_said.ensures.1 in
    rw (p.1, p.2) (first_same _ _ _
    (reads_said c.args.netlist.now head (reverse c.args.self.now.stimulus.lines) c.args.line.now.number (words_of c.args.line.now.text.now) c.in-Some.said
    (said_is c.args.netlist.now c.in-Some.said _ c.in_ok-said.field-0 (c.in_ok-said.ensures c.args.netlist.now) c.in-Some.is))
    c.in_err-take_said.ensures.err)

pub returns-clause-ok : goal.returns-clause-ok
returns-clause-ok c =
    let head : Head = record { version = version_number c.args.version; cycles = c.args.self.now.stimulus.cycles } in
    takes_same _ _ _ _
    (reads_said c.args.netlist.now head (reverse c.args.self.now.stimulus.lines) c.args.line.now.number (words_of c.args.line.now.text.now) c.in-Some.said
    (said_is c.args.netlist.now c.in-Some.said _ c.in_ok-said.field-0 (c.in_ok-said.ensures c.args.netlist.now) c.in-Some.is))
    c.in_ok-take_said.ensures.ok
