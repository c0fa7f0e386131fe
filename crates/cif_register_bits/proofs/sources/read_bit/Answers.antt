use Rattle.std.proofs.Common.{◌∙◌, sym, ap}
use Rattle.cif_defs.specs.Words.{bit}
use Rattle.cif_register_bits.specs.declared.tainted_bit.TaintedBit.{TaintedBit}
use Rattle.cif_register_bits.proofs.SourceBits.{bit-source, bit-source_past, bit-taint, bit-taint_past}
use Rattle.cif_register_bits.proofs.sources.read_bit.Goals as goal

pub returns-then-index-sources-clause-value : goal.returns-then-index-sources-clause-value
returns-then-index-sources-clause-value c = c.source_bit.ensures.value ∙ sym (bit-source (bit c.args.values.now) c.args.sources.now c.args.index _ c.if-index-sources.true)

pub returns-then-index-sources-clause-taint : goal.returns-then-index-sources-clause-taint
returns-then-index-sources-clause-taint c = c.source_bit.ensures.taint ∙ sym (bit-taint (bit c.args.taints.now) c.args.sources.now c.args.index _ c.if-index-sources.true)

pub returns-else-index-sources-clause-value : goal.returns-else-index-sources-clause-value
returns-else-index-sources-clause-value c = ap (λ (x : TaintedBit). x.value) c.untainted.ensures ∙ sym (bit-source_past (bit c.args.values.now) c.args.sources.now c.args.index c.if-index-sources.false)

pub returns-else-index-sources-clause-taint : goal.returns-else-index-sources-clause-taint
returns-else-index-sources-clause-taint c = ap (λ (x : TaintedBit). x.taint) c.untainted.ensures ∙ sym (bit-taint_past (bit c.args.taints.now) c.args.sources.now c.args.index c.if-index-sources.false)
