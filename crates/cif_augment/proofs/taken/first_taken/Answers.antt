use Rattle.std.specs.Prelude.{Option, option_map}
use Rattle.std.proofs.Common.{ap, ◌∙◌, List, ℕ, Bor}
use Rattle.cif_defs.specs.Order.{port_names, cell_names, net_names}
use Rattle.cif_augment.specs.Taken.{earliest}
use Rattle.cif_augment.proofs.TakenNames.{found_in, joined}
use Rattle.cif_augment.proofs.taken.first_taken.Goals as goal

abbrev seen : Option (Bor (List ℕ)) → Option (List ℕ)
seen o = option_map (λ (n : Bor (List ℕ)). n.now) o

pub returns : goal.returns
returns c =
    c.earliest.ensures
    ∙ ap (earliest (seen c.first_wanted.result)) (c.earliest-numbered.ensures ∙ ap (λ (o : Option (List ℕ)). earliest o (seen c.first_numbered-3.result)) c.earliest-ports_or_cells.ensures)
    ∙ joined c.args.raw.now c.args.wanted.now (seen c.first_wanted.result) (seen c.first_numbered.result) (seen c.first_numbered-2.result) (seen c.first_numbered-3.result) c.first_wanted.ensures
    (found_in c.args.raw.now c.items-cells.result.now _ (port_names c.args.raw.now.ports) _ c.items-cells.ensures (ap port_names c.items.ensures) c.first_numbered.ensures)
    (found_in c.args.raw.now c.items-cells.result.now _ (cell_names c.args.raw.now.cells) _ c.items-cells.ensures (ap cell_names c.items-cells.ensures) c.first_numbered-2.ensures)
    (found_in c.args.raw.now c.items-cells.result.now _ (net_names c.args.raw.now.names) _ c.items-cells.ensures (ap net_names c.items-2.ensures) c.first_numbered-3.ensures)
