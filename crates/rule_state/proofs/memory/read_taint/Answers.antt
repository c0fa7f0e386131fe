-- All ones where the address is tainted or the flag is set, and else the stored taint.
use Rattle.std.proofs.Common.{true, ◌||◌, ap, sym, ◌∙◌}
use Rattle.cif_defs.specs.Words.{word}
use Rattle.rule_state.proofs.MemoryLaws.{read_defined}
use Rattle.rule_state.proofs.StoredTaintWords.{plain_read, tainted_read}
use Rattle.rule_state.proofs.memory.read_taint.Goals as goal

pub returns-in_ok-ones-clause-is : goal.returns-in_ok-ones-clause-is
returns-in_ok-ones-clause-is c = tainted_read c.args.addr_taint.now c.args.flag c.args.stored.now _
    (ap (λ x. c.args.flag || x) (sym c.reduce_or.ensures) ∙ c.if-tainted.true) (c.in_ok-ones.ensures ∙ ap (λ n. word n (λ i. true)) c.width.ensures.value)

pub returns-in_ok-ones-clause-defined : goal.returns-in_ok-ones-clause-defined
returns-in_ok-ones-clause-defined c = read_defined c.args.addr_taint.now c.args.flag c.args.stored.now _ (tainted_read c.args.addr_taint.now c.args.flag c.args.stored.now _
    (ap (λ x. c.args.flag || x) (sym c.reduce_or.ensures) ∙ c.if-tainted.true) (c.in_ok-ones.ensures ∙ ap (λ n. word n (λ i. true)) c.width.ensures.value))

pub returns-in_ok-copy-clause-is : goal.returns-in_ok-copy-clause-is
returns-in_ok-copy-clause-is c = plain_read c.args.addr_taint.now c.args.flag c.args.stored.now _
    (ap (λ x. c.args.flag || x) (sym c.reduce_or.ensures) ∙ c.if-tainted.false) c.in_ok-copy.ensures

pub returns-in_ok-copy-clause-defined : goal.returns-in_ok-copy-clause-defined
returns-in_ok-copy-clause-defined c = read_defined c.args.addr_taint.now c.args.flag c.args.stored.now _ (plain_read c.args.addr_taint.now c.args.flag c.args.stored.now _
    (ap (λ x. c.args.flag || x) (sym c.reduce_or.ensures) ∙ c.if-tainted.false) c.in_ok-copy.ensures)
