use Rattle.std.proofs.Common.{sym, ap, subst, ◌∙◌, refl, reverse, bytes_eq, is_some, ◌||◌, List, length}
use Rattle.cif_defs.specs.declared.nets.Src.{Src}
use Rattle.cif_defs.specs.Accepted.{netlist_of}
use Rattle.cif_defs.specs.Stimulus.{TaintedWord, set_line}
use Rattle.cif_stimulus.specs.Fitting.{settable, is_held_by}
use Rattle.cif_stim_read.specs.Forms.{word_seen}
use Rattle.cif_stim_read.specs.Given.{has}
use Rattle.cif_stimulus.specs.StimulusView.{Adds}
use Rattle.cif_stim_read.proofs.Narrow.{port_small, port_name_is}
use Rattle.cif_stim_read.proofs.LineSteps.{given_again, good, read_set, may_set, fits_width, value_fits, taint_fits, is_given}
use Rattle.cif_stim_read.proofs.reader.Reader.take_set.Goals as goal

pub returns-then-not-branch-clause-err : goal.returns-then-not-branch-clause-err
returns-then-not-branch-clause-err c =
    let raw = c.args.netlist.now in
    let word = word_seen c.args.word.now in
    let found = c.in-Some.ensures.is ∙ ap (settable (netlist_of raw)) c.items-name.ensures in
    let key = c.items-2.ensures ∙ c.name.ensures ∙ port_name_is raw c.args.port c.in-Some.wire.now found in
    given_again raw c.args.self.now.stimulus.cycles (reverse c.args.self.now.stimulus.lines) c.args.number (set_line c.args.port word)
    (may_set c.args.self.now c.is_none.result _ c.requires.state c.is_none.ensures c.if-is_none.false)
    (sym (ap is_some found)) refl
    (sym (ap (is_held_by word) found) ∙ fits_width word _ _ _ _ c.has_width.ensures (ap (λ (us : List Src). length us) c.items.ensures) c.if-not-has_width.false)
    (c.requires.state.given_ports c.args.port ∙ ap (has c.args.self.now.ports) (sym key) ∙ is_given _ _ _ c.in_ok-add.ensures.is_new c.if-not-branch.true)

pub read-requires-clause-value : goal.read-requires-clause-value
read-requires-clause-value c =
    let raw = c.args.netlist.now in
    let word = word_seen c.args.word.now in
    let found = c.in-Some.ensures.is ∙ ap (settable (netlist_of raw)) c.items-name.ensures in
    value_fits word _ (fits_width word _ _ _ _ c.has_width.ensures (ap (λ (us : List Src). length us) c.items.ensures) c.if-not-has_width.false) (port_small raw c.args.port c.in-Some.wire.now c.in-Some.ensures.accepted found)

pub read-requires-clause-taint : goal.read-requires-clause-taint
read-requires-clause-taint c =
    let raw = c.args.netlist.now in
    let word = word_seen c.args.word.now in
    let found = c.in-Some.ensures.is ∙ ap (settable (netlist_of raw)) c.items-name.ensures in
    taint_fits word _ (fits_width word _ _ _ _ c.has_width.ensures (ap (λ (us : List Src). length us) c.items.ensures) c.if-not-has_width.false) (port_small raw c.args.port c.in-Some.wire.now c.in-Some.ensures.accepted found)

pub returns-clause-state : goal.returns-clause-state
returns-clause-state c =
    let raw = c.args.netlist.now in
    let word = word_seen c.args.word.now in
    let found = c.in-Some.ensures.is ∙ ap (settable (netlist_of raw)) c.items-name.ensures in
    let key = c.items-2.ensures ∙ c.name.ensures ∙ port_name_is raw c.args.port c.in-Some.wire.now found in
    let P : TaintedWord → Type 0 = λ w. Adds c.args.self.now.stimulus c.push_line.new.self (set_line c.args.port w) in
    let added = subst P c.in_ok-bits.ensures c.in_ok-push_line.ensures.ok in
    read_set c.args.self.now (record { stimulus = c.push_line.new.self; opened = c.args.self.now.opened; registers = c.args.self.now.registers; rows = c.args.self.now.rows; released = c.args.self.now.released; ports = c.add.new.self }) c.args.port word c.requires.state added refl refl refl refl (λ other. c.in_ok-add.ensures.added other ∙ ap (λ name. bytes_eq name other || has c.args.self.now.ports other) key)

pub returns-clause-ok : goal.returns-clause-ok
returns-clause-ok c =
    let raw = c.args.netlist.now in
    let word = word_seen c.args.word.now in
    let found = c.in-Some.ensures.is ∙ ap (settable (netlist_of raw)) c.items-name.ensures in
    let key = c.items-2.ensures ∙ c.name.ensures ∙ port_name_is raw c.args.port c.in-Some.wire.now found in
    let P : TaintedWord → Type 0 = λ w. Adds c.args.self.now.stimulus c.push_line.new.self (set_line c.args.port w) in
    let added = subst P c.in_ok-bits.ensures c.in_ok-push_line.ensures.ok in
    record {
      line = set_line c.args.port word;
      read = good raw c.args.self.now.stimulus.cycles (reverse c.args.self.now.stimulus.lines) c.args.number (set_line c.args.port word)
          (may_set c.args.self.now c.is_none.result _ c.requires.state c.is_none.ensures c.if-is_none.false)
          (sym (ap is_some found)) refl
          (sym (ap (is_held_by word) found) ∙ fits_width word _ _ _ _ c.has_width.ensures (ap (λ (us : List Src). length us) c.items.ensures) c.if-not-has_width.false)
          (c.requires.state.given_ports c.args.port ∙ ap (has c.args.self.now.ports) (sym key) ∙ is_given _ _ _ c.in_ok-add.ensures.is_new c.if-not-branch.false);
      added = added;
    }
