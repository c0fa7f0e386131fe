use Rattle.std.proofs.Common.{◌≡◌, ◌++◌, drop}
use Rattle.json.specs.Tree.{items_tokens}
use Rattle.serde_json.specs.Written.{items_outline}
use Rattle.cif_json.specs.WrittenNetlist.{bit_items, bits_data, data_tokens}
use Rattle.cif_json.proofs.write.write_bits.Given as goal

abbrev pub invariant-loop-bit : goal.invariant-loop-bit
invariant-loop-bit l = (l.out.before ≡ l.fn.out.before) × (l.out.tokens ++ items_tokens (items_outline (bit_items (drop l.bit-index l.bits))) ≡ l.fn.out.tokens ++ data_tokens (bits_data l.bits))
