use Rattle.std.proofs.Common.{◌∙◌, ◌≡◌, ap, arith, length}
use Rattle.cif_register_bits.proofs.SourceWidths.{length-source}
use Rattle.cif_cycle.proofs.gather.value_word.Goals as goal

pub of-requires : goal.of-requires
of-requires c = let e : length c.in_ok-bits.bits.items ≡ length c.args.sources.now = ap length c.in_ok-bits.ensures ∙ length-source _ _ in omega arith
