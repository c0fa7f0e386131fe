-- In how many of the rule crates a kind has its terms.
use Rattle.std.specs.Prelude.{ℕ, ◌+◌}
use Rattle.cif_defs.specs.Words.{bit_value}
use Rattle.cif_defs.specs.declared.kinds.Kind.{Kind}
use Rattle.rule_logic.specs.LogicFormulas.{covers_logic}
use Rattle.rule_arith.specs.ArithFormulas.{covers_arith}
use Rattle.rule_select.specs.Selects.{is_select}
use Rattle.rule_coarse.specs.CoarseFormulas.{covers_coarse}

abbrev pub crates_of : Kind → ℕ
crates_of k = bit_value (covers_logic k) + bit_value (covers_arith k) + bit_value (is_select k) + bit_value (covers_coarse k)
