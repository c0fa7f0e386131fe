-- The stages so far are the last ones.
use Rattle.std.specs.Prelude.{◌+◌, ◌-◌, ◌≡◌}
use Rattle.cif_term.specs.TermView.{formula_of}
use Rattle.rule_select.specs.Trees.{staged}
use Rattle.rule_select.specs.Moves.{parts_by, order_by}
use Rattle.rule_select.proofs.tree.staged_term.Given as goal

abbrev pub invariant-loop-done : goal.invariant-loop-done
invariant-loop-done l = formula_of l.term ≡ staged l.operand (order_by l.moves l.count) (parts_by l.moves) (formula_of l.fn.body) l.done (l.from + (l.len - l.done))
