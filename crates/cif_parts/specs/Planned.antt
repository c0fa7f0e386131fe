-- The cells of the first parts of a plan.
use Rattle.std.specs.Prelude.{ℕ, ◌<◌, ◌≡◌, List, [], length, get_or, map}
use Rattle.cif_seq.specs.Cases.{CaseOf, net_of}
use Rattle.cif_pieces.specs.Parts.{Evaluates, EvaluatesInTurn, Needs, OwnsCell}
use Rattle.cif_pieces.specs.Plans.{Lists}
use Rattle.cif_pieces.specs.PlanView.{evaluated_by, needed_by, owned_by, passing_by}
use Rattle.cif_pieces.specs.declared.plan.PartCells.{PartCells}

-- the lists of a part, among so many
pub record IsPart (c : CaseOf) (parts part : ℕ) (own evaluate pass need : List ℕ) : Type 0 where
  pub owned : Lists c.order (OwnsCell (net_of c) parts part) own
  pub evaluated : Lists c.order (Evaluates (net_of c) parts part) evaluate
  pub passing : Lists c.order (EvaluatesInTurn (net_of c) parts part) pass
  pub needed : Lists c.order (Needs (net_of c) parts part) need

-- those of each of the first parts
pub record ArePlanned (c : CaseOf) (parts : ℕ) (cells : List PartCells) (end : ℕ) : Type 0 where
  pub as_many : length cells ≡ end
  pub each : (i : ℕ) → i < end → IsPart c parts i (get_or (map owned_by cells) i []) (get_or (map evaluated_by cells) i []) (get_or (map passing_by cells) i []) (get_or (map needed_by cells) i [])
