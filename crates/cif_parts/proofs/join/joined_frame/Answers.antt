use Rattle.std.proofs.Common.{subst}
use Rattle.cif_defs.specs.Loop.{IsLevelled}
use Rattle.cif_defs.specs.Netlist.{IsWired}
use Rattle.cif_pieces.specs.Filled.{cycle_here}
use Rattle.cif_seq.specs.Cases.{CaseOf, net_of}
use Rattle.cif_parts.proofs.Slotting.{frame_joined}
use Rattle.cif_parts.proofs.join.joined_frame.Goals as goal

pub of-requires : goal.of-requires
of-requires c = frame_joined c.deref-2.result.now c.args.case.value (cycle_here c.args.slots.now) c.args.plan.now.parts c.first_cycle-cycle.result c.joined_pieces-joined.result c.deref-2.ensures c.first_cycle-cycle.ensures
    (subst (λ (x : CaseOf). IsWired (net_of x)) c.deref.ensures c.levels-levels.ensures.wired) (subst (λ (x : CaseOf). IsLevelled (net_of x) x.order) c.deref.ensures c.levels-levels.ensures.levelled)
    c.joined_pieces-joined.ensures.some c.joined_pieces-joined.ensures.holds
