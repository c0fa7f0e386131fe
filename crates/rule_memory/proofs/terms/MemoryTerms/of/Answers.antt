-- The formulas of a memory are right.
use Rattle.std.proofs.Common.{rules}
use Rattle.rule_memory.proofs.TermLaws.{right_of}
use Rattle.rule_memory.proofs.terms.MemoryTerms.of.Goals as goal

pub returns-clause-defined : goal.returns-clause-defined
returns-clause-defined c = right_of c.args.cell.now _ c.requires.role c.requires.numbers (search rules)
