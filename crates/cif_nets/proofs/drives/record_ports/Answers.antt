use Rattle.std.proofs.Common.{ap, refl, ◌∙◌, List}
use Rattle.cif_defs.specs.Accepted.{driven_by_outputs, driven_from}
use Rattle.cif_defs.specs.declared.nets.Driver.TheVariants.{Output}
use Rattle.cif_defs.specs.declared.raw_module.RawBit.{RawBit}
use Rattle.cif_nets.specs.Told.{told_all}
use Rattle.cif_nets.specs.Drives.{driven_more}
use Rattle.cif_nets.proofs.DriveLaws.{told_done, told_step}
use Rattle.cif_nets.proofs.drives.record_ports.Goals as goal

pub loop-port-preserved : goal.loop-port-preserved
loop-port-preserved c =
    told_step driven_more (λ p (ps : List (List RawBit)). driven_by_outputs c.args.index p ps) (λ p (bits : List RawBit). driven_from (Output c.args.index p) 0 bits) (λ _ _ _. refl)
    c.args.numbers.now c.loop-port.drives c.record_bits.new.drives c.args.ports.now c.loop-port.port _ _ c.loop-port-test.true c.index-ports-port.is
    (c.record_bits.ensures ∙ ap (λ bits. told_all driven_more c.args.numbers.now c.loop-port.drives (driven_from (Output c.args.index c.loop-port.port) 0 bits)) c.items.ensures) ∙ c.loop-port.invariant

pub returns : goal.returns
returns c = told_done driven_more (λ p (ps : List (List RawBit)). driven_by_outputs c.args.index p ps) (λ _. refl) c.args.numbers.now c.loop-port.drives _ c.args.ports.now c.loop-port.port c.loop-port-test.false (c.loop-port.auto.drives ∙ c.requires.same) c.loop-port.invariant
