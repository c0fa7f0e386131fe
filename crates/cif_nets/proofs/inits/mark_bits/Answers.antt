use Rattle.std.proofs.Common.{ℕ, ◌+◌, List, refl, ap, ◌∙◌, drop}
use Rattle.cif_defs.specs.RawModule.{nets_in}
use Rattle.cif_defs.specs.declared.raw_module.RawBit.{RawBit}
use Rattle.cif_nets.specs.Told.{told_all}
use Rattle.cif_nets.specs.Inits.{marked, named}
use Rattle.cif_checks.proofs.InputLaws.{no_net}
use Rattle.cif_nets.proofs.InitLaws.{net_marked, told_last}
use Rattle.cif_nets.proofs.inits.mark_bits.Goals as goal
use Rattle.cif_nets.proofs.inits.mark_bits.Goals.{in-Net, in_default}

pub loop-bit-preserved : goal.loop-bit-preserved
loop-bit-preserved c = elim c.match-bit.branch [
  | in-Net w ↦ net_marked c.args.bits.now c.loop-bit.bit-index w.in-Net.number _ c.args.numbers.now c.loop-bit.marks c.match-bit.marks c.loop-bit-test.true w.in-Net.is (w.marks-is ∙ w.mark.ensures) ∙ c.loop-bit.invariant
  | in_default w ↦
      ap (λ ms. told_all marked c.args.numbers.now ms (named (nets_in (drop (c.loop-bit.bit-index + 1) c.args.bits.now)))) w.marks-is
      ∙ ap (λ (xs : List ℕ). told_all marked c.args.numbers.now c.loop-bit.marks (named xs)) (no_net _ _ _ c.loop-bit-test.true w.in_default.not-Net) ∙ c.loop-bit.invariant
]

pub returns : goal.returns
returns c =
    told_last marked (λ _ (bs : List RawBit). named (nets_in bs)) (λ _. refl) c.args.numbers.now c.loop-bit.marks _ c.args.bits.now c.loop-bit.bit-index c.loop-bit-test.false (c.loop-bit.auto.marks ∙ c.requires.same) c.loop-bit.invariant
