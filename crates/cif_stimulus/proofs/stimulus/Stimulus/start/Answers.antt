use Rattle.std.proofs.Common.{ap, sym, ◌∙◌, refl, arith, drop, map, List}
use Rattle.std.specs.List.{list_any}
use Rattle.cif_defs.specs.Accepted.{netlist_of}
use Rattle.cif_stimulus.specs.StimulusView.{line_seen, is_start}
use Rattle.cif_stimulus.specs.declared.line.StimLine.{StimLine}
use Rattle.cif_defs.specs.Stimulus.{Stimulus}
use Rattle.cif_stimulus.proofs.Starts.{owner_is, starts_out, starts_in, length-initial}
use Rattle.cif_stimulus.proofs.stimulus.Stimulus.start.Goals as goal

pub returns-then-not-stores-clause-value : goal.returns-then-not-stores-clause-value
returns-then-not-stores-clause-value c =
    let out = starts_out (netlist_of c.args.netlist.now) c.args.self.now c.args.cell c.args.index c.index-cells-cell.result c.stores.result (owner_is (netlist_of c.args.netlist.now) _ _ _ c.requires c.cells.ensures.are c.index-cells-cell.is) c.stores.ensures c.if-not-stores.true in
    sym out.value

pub returns-then-not-stores-clause-taint : goal.returns-then-not-stores-clause-taint
returns-then-not-stores-clause-taint c =
    let out = starts_out (netlist_of c.args.netlist.now) c.args.self.now c.args.cell c.args.index c.index-cells-cell.result c.stores.result (owner_is (netlist_of c.args.netlist.now) _ _ _ c.requires c.cells.ensures.are c.index-cells-cell.is) c.stores.ensures c.if-not-stores.true in
    sym out.taint

pub initial-requires : goal.initial-requires
initial-requires c = omega (arith, length-initial c.args.netlist.now)

pub returns-clause-value : goal.returns-clause-value
returns-clause-value c =
    let n = netlist_of c.args.netlist.now in
    let got = starts_in n c.args.self.now c.args.cell c.args.index c.self.inside.starts c.index-cells-cell.result c.stores.result c.deref.result.now _ _
    (owner_is n _ _ _ c.requires c.cells.ensures.are c.index-cells-cell.is) c.stores.ensures c.if-not-stores.false
    (ap (λ (s : Stimulus). s.lines) (sym c.self.view_is) ∙ ap (map line_seen) (sym c.deref.ensures.value))
    (ap (λ (ls : List StimLine). list_any is_start (drop c.self.inside.starts ls)) c.deref.ensures.value ∙ c.self.invariant.starts.later)
    (sym c.initial.ensures) refl c.started_pair.ensures in
    sym got.value

pub returns-clause-taint : goal.returns-clause-taint
returns-clause-taint c =
    let n = netlist_of c.args.netlist.now in
    let got = starts_in n c.args.self.now c.args.cell c.args.index c.self.inside.starts c.index-cells-cell.result c.stores.result c.deref.result.now _ _
    (owner_is n _ _ _ c.requires c.cells.ensures.are c.index-cells-cell.is) c.stores.ensures c.if-not-stores.false
    (ap (λ (s : Stimulus). s.lines) (sym c.self.view_is) ∙ ap (map line_seen) (sym c.deref.ensures.value))
    (ap (λ (ls : List StimLine). list_any is_start (drop c.self.inside.starts ls)) c.deref.ensures.value ∙ c.self.invariant.starts.later)
    (sym c.initial.ensures) refl c.started_pair.ensures in
    sym got.taint
