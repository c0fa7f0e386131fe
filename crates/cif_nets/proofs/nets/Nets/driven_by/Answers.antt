use Rattle.std.proofs.Common.{ap, ◌∙◌}
use Rattle.cif_defs.specs.declared.raw_module.Raw.{Raw}
use Rattle.cif_nets.specs.Drives.{driven_by}
use Rattle.cif_nets.proofs.NetLaws.{drive_found, numbers_increase}
use Rattle.cif_nets.proofs.nets.Nets.driven_by.Goals as goal

pub drive_of-requires-clause-rising : goal.drive_of-requires-clause-rising
drive_of-requires-clause-rising c = numbers_increase c.self.inside.known c.deref.result.now (c.deref.ensures.value ∙ c.self.invariant.same_numbers)

pub returns : goal.returns
returns c = c.drive_of.ensures ∙ drive_found c.self.inside.known c.args.number c.deref.result.now c.deref-2.result.now (c.deref.ensures.value ∙ c.self.invariant.same_numbers) (c.deref-2.ensures.value ∙ c.self.invariant.same_drives) ∙ ap (λ (r : Raw). driven_by r c.args.number) c.self.view_is
