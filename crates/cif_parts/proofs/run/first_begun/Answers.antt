-- The needed cells are put, the others that the part uses store nothing, and with nothing else cycle 0 begins.
use Rattle.cif_seq.specs.Cases.{net_of}
use Rattle.cif_parts.specs.Running.{used_cells}
use Rattle.cif_parts.proofs.Beginning.{begins_first}
use Rattle.cif_parts.proofs.Covered.{plan_storing, plan_uses, used_inside}
use Rattle.cif_parts.proofs.StoringNothing.{used_in}
use Rattle.cif_parts.proofs.run.first_begun.Goals as goal

pub first_words-requires : goal.first_words-requires
first_words-requires c = plan_storing c.args.case.now c.args.plan.now c.args.part c.needed.result.now c.requires.plan c.requires.part c.needed.ensures

pub returns : goal.returns
returns c =
    begins_first c.args.case.now c.netlist.result.now (used_cells c.args.plan.now c.args.part) c.in_ok-first_words.field-0 c.in_ok-first_inputs.field-0 c.in_ok-clear_bits.field-0 c.levels-levels.ensures.wired c.netlist.ensures
    c.in_ok-clear_bits.ensures.values c.in_ok-clear_bits.ensures.taints c.in_ok-clear_bits.ensures.marks
    (λ i l. used_inside (net_of c.args.case.now) c.args.plan.now.parts c.args.part (used_cells c.args.plan.now c.args.part) i (plan_uses c.args.case.now c.args.plan.now c.args.part c.requires.plan c.requires.part) l)
    c.in_ok-first_words.ensures.places
    (used_in c.args.case.now 0 c.args.plan.now c.args.part c.needed.result.now c.in_ok-first_words.field-0 c.requires.plan c.requires.part c.needed.ensures c.in_ok-first_words.ensures.clear c.in_ok-first_words.ensures.words)
    c.in_ok-first_inputs.ensures
