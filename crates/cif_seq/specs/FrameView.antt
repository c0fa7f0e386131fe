-- What the fields of a `Frame` hold.
use Rattle.std.specs.Prelude.{ℕ, ◌≡◌, Bool, List, length}
use Rattle.cif_defs.specs.Words.{Word}
use Rattle.cif_defs.specs.Run.{input_value}
use Rattle.cif_defs.specs.TaintRun.{IsFrame, input_taint}
use Rattle.cif_inputs.specs.declared.inputs.Inputs.{Inputs}
use Rattle.cif_seq.specs.Cases.{CaseOf, net_of}
use Rattle.cif_seq.specs.GivenAt.{given_by}
use Rattle.cif_seq.specs.Inputs.{StandsAt}
use Rattle.cif_seq.specs.Stored.{given_words}
use Rattle.cif_shown.specs.Shown.{AreResting, Shows}

-- they hold what the cycle has by definition, the cursor stands at the cycle, each net bit shows what its driver gives, and a cell
-- that isn't due stores next what it stores
pub record HoldsFrame (c : CaseOf) (k : ℕ) (values taints : List Bool) (stored stored_taints : List Word) (flags due : List Bool) (inputs : Inputs) : Type 0 where
  pub shown : IsFrame (net_of c) c.stimulus k values taints stored stored_taints flags
  pub at : StandsAt (net_of c) c.stimulus k inputs
  pub as_many_values : length values ≡ length (net_of c).drivers
  pub as_many_taints : length taints ≡ length (net_of c).drivers
  pub as_many_due : length due ≡ length (net_of c).cells
  pub shows : (b : ℕ) → Shows (net_of c) (given_by c stored stored_taints flags (input_value (net_of c) c.stimulus k) (input_taint (net_of c) c.stimulus k)) values taints b
  pub resting : AreResting (net_of c) (given_words stored stored_taints flags) values taints due
