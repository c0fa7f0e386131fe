use Rattle.std.proofs.Common.{ℕ, Bool, [], ◌∷◌, ◌++◌, ap, ◌≤◌, ◌-◌, ◌∙◌, length, arith}
use Rattle.std.proofs.lemmas.List.{get_or_default}
use Rattle.cif_defs.specs.TaintRun.{taint}
use Rattle.cif_defs.specs.declared.nets.Src.TheVariants.{Bit, Zero}
use Rattle.cif_seq.specs.Cases.{net_of}
use Rattle.cif_desk.proofs.ShownBits.{taint_push, taints_done}
use Rattle.cif_desk.proofs.evaluation.push_taints.Goals as goal

pub pair_of-pair-requires : goal.pair_of-pair-requires
pair_of-pair-requires c = λ b e.
    c.requires.inside (length c.args.bits.now - 1 - c.loop-i.i) b (get_or_default c.args.bits.now (length c.args.bits.now - 1 - c.loop-i.i) Zero (Bit 0) (omega arith) ∙ e)

pub loop-i-preserved : goal.loop-i-preserved
loop-i-preserved c =
    let shown : ℕ → Bool = taint (net_of c.args.frame.now.case) c.args.frame.now.case.stimulus c.args.frame.now.cycle in
    taint_push shown c.args.bits.now c.loop-i.i (Bit 0) c.pair_of-pair.result.taint c.args.text.now.items c.loop-i.text.items c.push.new.self.items
    (omega arith) c.loop-i.invariant c.pair_of-pair.ensures.taint (c.in_ok-push.ensures.items ∙ ap (λ (b : ℕ). c.loop-i.text.items ++ b ∷ []) c.digit.ensures)

pub returns : goal.returns
returns c =
    let done : length c.args.bits.now ≤ c.loop-i.i = omega arith in
    taints_done _ c.args.bits.now c.loop-i.i c.args.text.now.items c.loop-i.text.items done c.loop-i.invariant
