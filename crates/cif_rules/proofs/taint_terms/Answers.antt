-- A kind whose terms are in none of the first three crates is one that selects.
use Rattle.cif_rules.proofs.KindCovers.{selects_else}
use Rattle.cif_rules.proofs.taint_terms.Goals as goal

pub taint_terms-requires-else-covers-3-clause-covered : goal.taint_terms-requires-else-covers-3-clause-covered
taint_terms-requires-else-covers-3-clause-covered c =
    selects_else c.args.cell.now.kind c.kind-kind.result c.covers.result c.covers-else-covers.result c.covers-else-covers-2.result c.requires.role c.kind-kind.ensures c.covers.ensures c.if-covers.false
    c.covers-else-covers.ensures c.if-covers-2.false c.covers-else-covers-2.ensures c.if-covers-3.false
