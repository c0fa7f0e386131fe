-- Trees of choices: a word and its taint go through stages, each of which chooses by one select bit between two parts of the word.
use Rattle.std.specs.Prelude.{ℕ, zero, suc, Bool, true, false, [], ◌∷◌}
use Rattle.cif_term.specs.Formulas.{Formula, Value, Taint, Bound, Pick, Choose, Let}
use Rattle.rule_select.specs.Choices.{taint_choice}

-- bit k of operand q, and its taint
abbrev pub select_bit : ℕ → ℕ → Formula
select_bit q k = Pick (Value q) (k ∷ [])

abbrev pub select_taint : ℕ → ℕ → Formula
select_taint q k = Pick (Taint q) (k ∷ [])

-- parts k one tainted f is the part of the word f, or of the taint f, for select bit k at 0 or at 1
abbrev pub Parts : Type 0
Parts = ℕ → Bool → Bool → Formula → Formula

-- a choice by bit k of operand q between the parts of the word f
abbrev pub stage_value : ℕ → ℕ → Parts → Formula → Formula
stage_value q k parts f = Choose (select_bit q k) (parts k false false f) (parts k true false f)

-- its taint, where the word f has the taint t
abbrev pub stage_taint : ℕ → ℕ → Parts → Formula → Formula → Formula
stage_taint q k parts f t = taint_choice (select_bit q k) (select_taint q k) (parts k false false f) (parts k false true t) (parts k true false f) (parts k true true t)

-- a stage, and then body: Bound 1 is the word as it stands, and Bound 0 its taint, before the stage and in body
abbrev pub stage : ℕ → ℕ → Parts → Formula → Formula
stage q k parts body = Let (stage_value q k parts (Bound 1)) (Let (stage_taint q k parts (Bound 2) (Bound 1)) body)

-- the stages j, j + 1, .., as many as r, and then body: stage j is a choice by bit order j of operand q
abbrev pub staged : ℕ → (ℕ → ℕ) → Parts → Formula → ℕ → ℕ → Formula
staged q order parts body zero j = body
staged q order parts body (suc r) j = stage q (order j) parts (staged q order parts body r (suc j))

-- a word and its taint through m stages, and then body
abbrev pub tree : ℕ → (ℕ → ℕ) → Parts → Formula → Formula → ℕ → Formula → Formula
tree q order parts value taint m body = Let value (Let taint (staged q order parts body m 0))
