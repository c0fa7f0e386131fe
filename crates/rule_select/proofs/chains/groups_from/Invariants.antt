-- The groups so far are the last ones.
use Rattle.std.specs.Prelude.{◌+◌, ◌-◌, ◌*◌, ◌≡◌}
use Rattle.cif_term.specs.TermView.{formula_of}
use Rattle.rule_select.specs.Chains.{chain_groups, group_size}
use Rattle.rule_select.proofs.chains.groups_from.Given as goal

abbrev pub invariant-loop-done : goal.invariant-loop-done
invariant-loop-done l = formula_of l.term ≡ chain_groups l.width l.count group_size l.done (l.from + (l.groups - l.done) * group_size)
