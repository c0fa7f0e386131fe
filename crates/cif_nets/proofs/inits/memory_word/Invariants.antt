use Rattle.std.proofs.Common.{◌≡◌}
use Rattle.cif_defs.specs.Words.{bit, word}
use Rattle.cif_defs.specs.RawModule.{digits_given}
use Rattle.cif_defs.specs.declared.kinds.Param.TheVariants.{Init}
use Rattle.cif_nets.proofs.inits.memory_word.Given as goal

abbrev pub invariant-loop-index : goal.invariant-loop-index
invariant-loop-index l = l.started.items ≡ word l.index (λ i. bit (digits_given l.fn.cell Init) i)
