use Rattle.std.proofs.Common.{sym, ap, subst, ◌∙◌, refl, reverse, bytes_eq, ◌||◌, List}
use Rattle.cif_defs.specs.Stimulus.{release_line}
use Rattle.cif_defs.specs.declared.nets.Src.{Src}
use Rattle.cif_cells.specs.Finding.{found_of}
use Rattle.cif_stimulus.specs.Fitting.{is_release_of}
use Rattle.cif_stim_read.specs.Given.{has}
use Rattle.cif_stimulus.specs.StimulusText.{found_bits}
use Rattle.cif_stimulus.specs.StimulusView.{Adds}
use Rattle.cif_stimulus.proofs.Fits.{any_reversed}
use Rattle.cif_stim_read.proofs.Narrow.{wire_name}
use Rattle.cif_stim_read.proofs.LineSteps.{given_again, good, read_release, wire_found, may_start, is_given}
use Rattle.cif_stim_read.proofs.reader.Reader.take_release.Goals as goal

pub returns-then-not-branch-clause-err : goal.returns-then-not-branch-clause-err
returns-then-not-branch-clause-err c =
    let raw = c.args.netlist.now in
    let found = c.in-Wire.ensures ∙ ap (found_of raw) c.items.ensures in
    let key = c.items-2.ensures ∙ c.name-2.ensures ∙ wire_name raw c.args.name c.in-Wire.wire.now found in
    given_again raw c.args.self.now.stimulus.cycles (reverse c.args.self.now.stimulus.lines) c.args.number (release_line c.args.name (found_bits (found_of raw c.args.name)))
    (may_start c.args.self.now c.is_some.result _ c.requires.state c.is_some.ensures c.if-is_some.false)
    (wire_found c.in-Wire.wire.now (found_of raw c.args.name) found) refl refl
    (c.requires.state.given_names c.args.name ∙ ap (has c.args.self.now.released) (sym key) ∙ is_given _ _ _ c.in_ok-add.ensures.is_new c.if-not-branch.true)

pub push_release-requires-clause-fresh : goal.push_release-requires-clause-fresh
push_release-requires-clause-fresh c =
    let raw = c.args.netlist.now in
    let found = c.in-Wire.ensures ∙ ap (found_of raw) c.items.ensures in
    let key = c.items-2.ensures ∙ c.name-2.ensures ∙ wire_name raw c.args.name c.in-Wire.wire.now found in
    sym (any_reversed (is_release_of c.args.name) c.args.self.now.stimulus.lines)
    ∙ c.requires.state.given_names c.args.name ∙ ap (has c.args.self.now.released) (sym key) ∙ is_given _ _ _ c.in_ok-add.ensures.is_new c.if-not-branch.false

pub returns-clause-state : goal.returns-clause-state
returns-clause-state c =
    let raw = c.args.netlist.now in
    let found = c.in-Wire.ensures ∙ ap (found_of raw) c.items.ensures in
    let key = c.items-2.ensures ∙ c.name-2.ensures ∙ wire_name raw c.args.name c.in-Wire.wire.now found in
    read_release c.args.self.now (record { stimulus = c.push_release.new.self; opened = c.args.self.now.opened; registers = c.args.self.now.registers; rows = c.args.self.now.rows; released = c.add.new.self; ports = c.args.self.now.ports }) c.args.name c.in-Wire.wire.now.bits c.requires.state c.in_ok-push_release.ensures.ok refl refl refl
    (λ other. c.in_ok-add.ensures.added other ∙ ap (λ name. bytes_eq name other || has c.args.self.now.released other) key) refl

pub returns-clause-ok : goal.returns-clause-ok
returns-clause-ok c =
    let raw = c.args.netlist.now in
    let found = c.in-Wire.ensures ∙ ap (found_of raw) c.items.ensures in
    let key = c.items-2.ensures ∙ c.name-2.ensures ∙ wire_name raw c.args.name c.in-Wire.wire.now found in
    let P : List Src → Type 0 = λ bits. Adds c.args.self.now.stimulus c.push_release.new.self (release_line c.args.name bits) in
    record {
      line = release_line c.args.name (found_bits (found_of raw c.args.name));
      read = good raw c.args.self.now.stimulus.cycles (reverse c.args.self.now.stimulus.lines) c.args.number (release_line c.args.name (found_bits (found_of raw c.args.name)))
          (may_start c.args.self.now c.is_some.result _ c.requires.state c.is_some.ensures c.if-is_some.false)
          (wire_found c.in-Wire.wire.now (found_of raw c.args.name) found) refl refl
          (c.requires.state.given_names c.args.name ∙ ap (has c.args.self.now.released) (sym key) ∙ is_given _ _ _ c.in_ok-add.ensures.is_new c.if-not-branch.false);
      added = subst P (ap found_bits found) c.in_ok-push_release.ensures.ok;
    }
