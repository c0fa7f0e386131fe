-- What the fields of a `Plan` hold.
use Rattle.std.specs.Prelude.{ℕ, ◌<◌, ◌≤◌, List, length, map}
use Rattle.cif_pieces.specs.Plans.{PlanOf}
use Rattle.cif_pieces.specs.declared.plan.PartCells.{PartCells}
use Rattle.cif_pieces.specs.declared.plan.Plan.TheInside.{Inside}

abbrev pub owned_by : PartCells → List ℕ
owned_by p = p.owned.items

abbrev pub evaluated_by : PartCells → List ℕ
evaluated_by p = p.evaluated.items

abbrev pub passing_by : PartCells → List ℕ
passing_by p = p.passing.items

abbrev pub needed_by : PartCells → List ℕ
needed_by p = p.needed.items

abbrev pub plan_seen : Inside → PlanOf
plan_seen p = record {
  parts = length p.parts.items;
  owned = map owned_by p.parts.items;
  evaluated = map evaluated_by p.parts.items;
  passing = map passing_by p.parts.items;
  needed = map needed_by p.parts.items;
}

-- there are 1 to 64 parts
pub record HoldsPlan (p : Inside) : Type 0 where
  pub some : 0 < length p.parts.items
  pub few : length p.parts.items ≤ 64
