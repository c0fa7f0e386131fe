-- The steps of the pinning calls.
use Rattle.std.specs.Prelude.{ℕ, ◌≡◌, ◌<◌, ◌≤◌, Bool, true, false, Some, Result, Ok, Err}
use Rattle.cif_hall.specs.Sessions.{IsAhead, SessionOf, pinned}
use Rattle.cif_hall.specs.declared.told.Step.{Step}
use Rattle.cif_hall.specs.declared.told.Step.TheVariants.{Pinned, Again}
use Rattle.cif_hall.specs.declared.told.AskFault.{AskFault}

-- a cycle that isn't refused: it is the pinned one, or is to be asked for
abbrev pub IsChecked : ℕ → SessionOf → ℕ → Bool → Type 0
IsChecked total x k true = (x.pin ≡ Some k) × (k < total)
IsChecked total x k false = IsAhead x k × (k < total) × (x.starved ≡ false)

-- what a question leaves of a session, whatever lay under the lock
abbrev pub AsksOnce : SessionOf → ℕ → Result Step AskFault → SessionOf → Type 0
AsksOnce x k (Ok Pinned) y = y ≡ pinned x k
AsksOnce x k (Ok (Again done)) y = (done ≤ k) × (y ≡ x)
AsksOnce x k (Err fault) y = y ≡ x
