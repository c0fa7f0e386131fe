use Rattle.std.proofs.Common.{ap, ◌∙◌}
use Rattle.cif_defs.specs.Order.{port_names, cell_names, net_names}
use Rattle.cif_augment.specs.Refusals.{is_among}
use Rattle.cif_augment.proofs.Places.{stands}
use Rattle.cif_augment.proofs.taken.is_standing.Goals as goal

pub returns : goal.returns
returns c = stands c.args.raw.now c.args.name.now c.is_borne-is_port.result c.is_borne-is_cell.result c.is_borne-is_net.result
    (c.is_borne-is_port.ensures ∙ ap (λ ports. is_among (port_names ports) c.args.name.now) c.items.ensures)
    (c.is_borne-is_cell.ensures ∙ ap (λ cells. is_among (cell_names cells) c.args.name.now) c.items-2.ensures)
    (c.is_borne-is_net.ensures ∙ ap (λ nets. is_among (net_names nets) c.args.name.now) c.items-3.ensures)
