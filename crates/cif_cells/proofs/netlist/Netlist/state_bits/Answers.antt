use Rattle.std.proofs.Common.{arith, ap, subst, sym, ◌∙◌, ◌<◌, ◌≡◌, ◌^◌, List}
use Rattle.std.specs.List.{sum_by}
use Rattle.cif_defs.specs.Accepted.{netlist_of}
use Rattle.cif_defs.specs.Cells.{Cell, state_bits}
use Rattle.cif_cells.proofs.StateLaws.{cells_small}
use Rattle.cif_cells.proofs.netlist.Netlist.state_bits.Goals as goal

pub total_bits-requires : goal.total_bits-requires
total_bits-requires c =
    let P : List Cell → Type 0 = λ cs. sum_by state_bits cs < 2 ^ 64 in
    let few = cells_small c.self.inside.raw c.self.invariant.accepted c.self.invariant.few_cells in
    subst P (sym (c.deref.ensures.value ∙ c.self.invariant.same_cells)) (omega arith)

pub returns-clause-few : goal.returns-clause-few
returns-clause-few c =
    let few = cells_small c.self.inside.raw c.self.invariant.accepted c.self.invariant.few_cells in
    let all : c.total_bits.result ≡ sum_by state_bits (netlist_of c.self.inside.raw).cells = c.total_bits.ensures ∙ ap (sum_by state_bits) (c.deref.ensures.value ∙ c.self.invariant.same_cells) in
    omega arith
