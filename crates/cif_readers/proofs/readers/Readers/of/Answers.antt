use Rattle.std.proofs.Common.{◌∙◌, arith, subst, sym, length, List, ℕ}
use Rattle.cif_defs.specs.Accepted.{netlist_of}
use Rattle.cif_readers.specs.Counts.{AreCounts}
use Rattle.cif_readers.proofs.TableLaws.{sum_few, starts_lent, table_made_of}
use Rattle.cif_readers.proofs.readers.Readers.of.Goals as goal

pub sums_of-requires : goal.sums_of-requires
sums_of-requires c =
    let few = sum_few c.deref.result.now c.deref-2.result.now (subst (λ (xs : List ℕ). AreCounts c.deref.result.now xs (length c.deref.result.now)) (sym c.deref-2.ensures.value) c.in_ok-counts.ensures) in
    omega arith

pub cells_in_order-requires : goal.cells_in_order-requires
cells_in_order-requires c =
    starts_lent _ _ _ _ _ _ (c.deref.ensures.value ∙ sym c.deref-3.ensures.value) c.deref-2.ensures.value c.deref-4.ensures.value c.in_ok-counts.ensures c.in_ok-starts.ensures.length c.in_ok-starts.ensures.sums

pub returns : goal.returns
returns c =
    table_made_of (netlist_of c.args.netlist.now) _ _ _ _ _ c.cells.ensures.are c.deref-3.ensures.value c.deref-4.ensures.value c.in_ok-readings.ensures
    (starts_lent _ _ _ _ _ _ (c.deref.ensures.value ∙ sym c.deref-3.ensures.value) c.deref-2.ensures.value c.deref-4.ensures.value c.in_ok-counts.ensures c.in_ok-starts.ensures.length c.in_ok-starts.ensures.sums)
    c.in_ok-cells.ensures
