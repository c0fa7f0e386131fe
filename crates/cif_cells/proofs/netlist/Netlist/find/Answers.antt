use Rattle.std.proofs.Common.{◌∙◌, ap}
use Rattle.cif_defs.specs.declared.raw_module.Raw.{Raw}
use Rattle.cif_cells.specs.Finding.{found_of}
use Rattle.cif_cells.proofs.netlist.Netlist.find.Goals as goal

pub returns : goal.returns
returns c = c.found_in.ensures ∙ ap (λ (r : Raw). found_of r c.args.name.now) c.self.view_is
