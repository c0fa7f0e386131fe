-- The flag is that of the memory's own recursion over its ports.
use Rattle.std.proofs.Common.{arith}
use Rattle.std.proofs.lemmas.Grind.{common_steps}
use Rattle.rule_state.proofs.MemoryLaws.{flag_defined}
use Rattle.rule_state.proofs.memory.write_flag.Goals as goal

pub returns-then-reduce_or-2-clause-defined : goal.returns-then-reduce_or-2-clause-defined
returns-then-reduce_or-2-clause-defined c = flag_defined c.args.port.now _ (grind (arith, common_steps))

pub returns-else-reduce_or-2-clause-defined : goal.returns-else-reduce_or-2-clause-defined
returns-else-reduce_or-2-clause-defined c = flag_defined c.args.port.now _ (grind (arith, common_steps))
