use Rattle.std.proofs.Common.{sym, ap, subst, ◌∙◌, refl, reverse, bytes_eq, is_some, ◌==◌, ◌&&◌, ◌||◌}
use Rattle.cif_defs.specs.Accepted.{netlist_of}
use Rattle.cif_defs.specs.Stimulus.{TaintedWord, mem_line}
use Rattle.cif_stimulus.specs.Fitting.{memory_named, is_stored_by, is_address}
use Rattle.cif_stim_read.specs.Forms.{word_seen}
use Rattle.cif_stim_read.specs.Given.{has_row}
use Rattle.cif_stimulus.specs.StimulusView.{Adds}
use Rattle.cif_stim_read.proofs.Narrow.{memory_small, memory_name}
use Rattle.cif_stim_read.proofs.LineSteps.{given_again, good, read_mem, may_start, fits_width, value_fits, taint_fits, is_given}
use Rattle.cif_stim_read.proofs.reader.Reader.take_mem.Goals as goal

pub returns-then-not-branch-clause-err : goal.returns-then-not-branch-clause-err
returns-then-not-branch-clause-err c =
    let raw = c.args.netlist.now in
    let word = word_seen c.args.word.now in
    let found = c.in-Some.ensures.is ∙ ap (memory_named (netlist_of raw)) c.items-name.ensures in
    let key = c.items.ensures ∙ c.name.ensures ∙ memory_name raw c.args.cell c.in-Some.memory.now found in
    given_again raw c.args.self.now.stimulus.cycles (reverse c.args.self.now.stimulus.lines) c.args.number (mem_line c.args.cell c.args.address word)
    (may_start c.args.self.now c.is_some.result _ c.requires.state c.is_some.ensures c.if-is_some.false)
    (sym (ap is_some found)) (sym (ap (is_address c.args.address) found) ∙ sym c.has_address.ensures ∙ c.if-not-has_address.false)
    (sym (ap (is_stored_by word) found) ∙ fits_width word _ _ _ _ c.has_width.ensures c.number.ensures c.if-not-has_width.false)
    (c.requires.state.given_rows c.args.cell c.args.address ∙ ap (λ name. has_row c.args.self.now.rows name c.args.address) (sym key) ∙ is_given _ _ _ c.in_ok-add.ensures.is_new c.if-not-branch.true)

pub read-requires-clause-value : goal.read-requires-clause-value
read-requires-clause-value c =
    let raw = c.args.netlist.now in
    let word = word_seen c.args.word.now in
    let found = c.in-Some.ensures.is ∙ ap (memory_named (netlist_of raw)) c.items-name.ensures in
    value_fits word _ (fits_width word _ _ _ _ c.has_width.ensures c.number.ensures c.if-not-has_width.false) (memory_small raw c.args.cell c.in-Some.memory.now c.in-Some.ensures.accepted found)

pub read-requires-clause-taint : goal.read-requires-clause-taint
read-requires-clause-taint c =
    let raw = c.args.netlist.now in
    let word = word_seen c.args.word.now in
    let found = c.in-Some.ensures.is ∙ ap (memory_named (netlist_of raw)) c.items-name.ensures in
    taint_fits word _ (fits_width word _ _ _ _ c.has_width.ensures c.number.ensures c.if-not-has_width.false) (memory_small raw c.args.cell c.in-Some.memory.now c.in-Some.ensures.accepted found)

pub returns-clause-state : goal.returns-clause-state
returns-clause-state c =
    let raw = c.args.netlist.now in
    let word = word_seen c.args.word.now in
    let found = c.in-Some.ensures.is ∙ ap (memory_named (netlist_of raw)) c.items-name.ensures in
    let key = c.items.ensures ∙ c.name.ensures ∙ memory_name raw c.args.cell c.in-Some.memory.now found in
    let P : TaintedWord → Type 0 = λ w. Adds c.args.self.now.stimulus c.push_line.new.self (mem_line c.args.cell c.args.address w) in
    let added = subst P c.in_ok-bits.ensures c.in_ok-push_line.ensures.ok in
    read_mem c.args.self.now (record { stimulus = c.push_line.new.self; opened = c.args.self.now.opened; registers = c.args.self.now.registers; rows = c.add.new.self; released = c.args.self.now.released; ports = c.args.self.now.ports }) c.args.cell c.args.address word c.requires.state added refl refl (λ other place. c.in_ok-add.ensures.added other place ∙ ap (λ name. bytes_eq name other && c.args.address == place || has_row c.args.self.now.rows other place) key) refl refl

pub returns-clause-ok : goal.returns-clause-ok
returns-clause-ok c =
    let raw = c.args.netlist.now in
    let word = word_seen c.args.word.now in
    let found = c.in-Some.ensures.is ∙ ap (memory_named (netlist_of raw)) c.items-name.ensures in
    let key = c.items.ensures ∙ c.name.ensures ∙ memory_name raw c.args.cell c.in-Some.memory.now found in
    let P : TaintedWord → Type 0 = λ w. Adds c.args.self.now.stimulus c.push_line.new.self (mem_line c.args.cell c.args.address w) in
    let added = subst P c.in_ok-bits.ensures c.in_ok-push_line.ensures.ok in
    record {
      line = mem_line c.args.cell c.args.address word;
      read = good raw c.args.self.now.stimulus.cycles (reverse c.args.self.now.stimulus.lines) c.args.number (mem_line c.args.cell c.args.address word)
          (may_start c.args.self.now c.is_some.result _ c.requires.state c.is_some.ensures c.if-is_some.false)
          (sym (ap is_some found)) (sym (ap (is_address c.args.address) found) ∙ sym c.has_address.ensures ∙ c.if-not-has_address.false)
          (sym (ap (is_stored_by word) found) ∙ fits_width word _ _ _ _ c.has_width.ensures c.number.ensures c.if-not-has_width.false)
          (c.requires.state.given_rows c.args.cell c.args.address ∙ ap (λ name. has_row c.args.self.now.rows name c.args.address) (sym key) ∙ is_given _ _ _ c.in_ok-add.ensures.is_new c.if-not-branch.false);
      added = added;
    }
