-- Plans: the cells of each part.
use Rattle.std.specs.Prelude.{ℕ, ◌<◌, ◌≤◌, ◌≡◌, ◌==◌, List, [], length, get_or, position, Option, Some, None}
use Rattle.cif_seq.specs.Cases.{CaseOf, net_of}
use Rattle.cif_pieces.specs.Parts.{OwnsCell, Evaluates, EvaluatesInTurn, Needs}

-- a plan: how many parts, and for each part the cells that it owns, those that it evaluates, the passing ones among these, and
-- those of which it needs what they store
pub record PlanOf : Type 0 where
  pub parts : ℕ
  pub owned : List (List ℕ)
  pub evaluated : List (List ℕ)
  pub passing : List (List ℕ)
  pub needed : List (List ℕ)

-- what the type of a plan keeps: 1 to 64 parts, and four lists for each
pub record IsCounted (p : PlanOf) : Type 0 where
  pub some : 0 < p.parts
  pub few : p.parts ≤ 64
  pub owned : length p.owned ≡ p.parts
  pub evaluated : length p.evaluated ≡ p.parts
  pub passing : length p.passing ≡ p.parts
  pub needed : length p.needed ≡ p.parts

-- cell a stands before cell b, by their places in an order: cells of the order come first, the others rise
abbrev pub ComesBefore : ℕ → ℕ → Option ℕ → Option ℕ → Type 0
ComesBefore a b (Some i) (Some j) = i < j
ComesBefore a b (Some i) None = Unit {0}
ComesBefore a b None (Some j) = ⊥
ComesBefore a b None None = a < b

abbrev pub place_in : List ℕ → ℕ → Option ℕ
place_in order c = position (λ x. x == c) order

-- a list has the cells of a kind, each once: first those of an order, as they stand there, then the others, rising
pub record Lists (order : List ℕ) (P : ℕ → Type 0) (cells : List ℕ) : Type 0 where
  pub has_each : (c : ℕ) → P c → (i : ℕ) × (i < length cells) × (get_or cells i 0 ≡ c)
  pub only : (i : ℕ) → i < length cells → P (get_or cells i 0)
  pub ordered : (i j : ℕ) → i < j → j < length cells → ComesBefore (get_or cells i 0) (get_or cells j 0) (place_in order (get_or cells i 0)) (place_in order (get_or cells j 0))

-- a plan is that of a case
pub record IsPlanOf (c : CaseOf) (p : PlanOf) : Type 0 where
  pub owned : (i : ℕ) → i < p.parts → Lists c.order (OwnsCell (net_of c) p.parts i) (get_or p.owned i [])
  pub evaluated : (i : ℕ) → i < p.parts → Lists c.order (Evaluates (net_of c) p.parts i) (get_or p.evaluated i [])
  pub passing : (i : ℕ) → i < p.parts → Lists c.order (EvaluatesInTurn (net_of c) p.parts i) (get_or p.passing i [])
  pub needed : (i : ℕ) → i < p.parts → Lists c.order (Needs (net_of c) p.parts i) (get_or p.needed i [])
