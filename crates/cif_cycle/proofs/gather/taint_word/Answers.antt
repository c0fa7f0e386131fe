use Rattle.std.proofs.Common.{◌∙◌, ◌≡◌, ap, arith, length}
use Rattle.cif_register_bits.proofs.SourceWidths.{length-taint}
use Rattle.cif_cycle.proofs.gather.taint_word.Goals as goal

pub of-requires : goal.of-requires
of-requires c = let e : length c.in_ok-bits.bits.items ≡ length c.args.sources.now = ap length c.in_ok-bits.ensures ∙ length-taint _ _ in omega arith
