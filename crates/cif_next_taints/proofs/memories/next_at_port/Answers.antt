-- The cells of a memory's terms compute what a port writes.
use Rattle.rule_memory.specs.MemoryTermView.{formulas_of}
use Rattle.cif_next_taints.proofs.PortLaws.{port_emitted}
use Rattle.cif_next_taints.proofs.memories.next_at_port.Goals as goal

pub returns-clause-ok : goal.returns-clause-ok
returns-clause-ok c =
    port_emitted (formulas_of c.args.terms.now) c.args.operands.now c.items.result.now c.args.flag (record { enables = c.in_ok-enables.enables; words = c.in_ok-words.words; flag = c.in_ok-flag.flag }) c.requires.formed
    c.in_ok-enables.ensures.ok c.in_ok-words.ensures.ok c.items.ensures c.in_ok-flag.ensures.ok
