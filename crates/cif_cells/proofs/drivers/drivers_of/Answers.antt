use Rattle.std.proofs.Common.{subst, ◌≡◌, List, IfOk}
use Rattle.cif_defs.specs.declared.nets.Driver.{Driver}
use Rattle.cif_cells.proofs.BuildLaws.{drivers_are_read}
use Rattle.cif_cells.proofs.drivers.drivers_of.Goals as goal

pub returns : goal.returns
returns c =
    let P : List Driver → Type 0 = λ l. IfOk c.drivers_read.result (λ v. v.items ≡ l) in
    subst P (drivers_are_read c.args.nets.now c.requires) c.drivers_read.ensures
