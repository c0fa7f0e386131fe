-- What sessions pin, and what they are told.
use Rattle.std.specs.Prelude.{ℕ, ◌-◌, ◌≡◌, ◌<◌, ◌≤◌, ◌⊎◌, max, Bool, true, false, Option, Some, None, MatchOption, Result, Ok, Err}
use Rattle.std.specs.declared.sync.Arc.{Arc}
use Rattle.cif_seq.specs.Cases.{CaseOf, FrameOf}
use Rattle.cif_core.specs.Machine.{want_at}
use Rattle.cif_kept.specs.Kept.{KeptOf, failing, wanting}
use Rattle.cif_kept.specs.Pins.{next_of}
use Rattle.cif_hall.specs.declared.told.Step.{Step}
use Rattle.cif_hall.specs.declared.told.Step.TheVariants.{Pinned, Again}
use Rattle.cif_hall.specs.declared.told.AskFault.{AskFault}
use Rattle.cif_hall.specs.declared.told.AskFault.TheVariants.{Apart, Memory as NoRoom}
use Rattle.cif_hall.specs.declared.told.AtFault.{AtFault}
use Rattle.cif_hall.specs.declared.told.AtFault.TheVariants.{Back, Past, Memory}

-- a session: its number, the pinned cycle, and whether a pinning call of it found no memory
pub record SessionOf : Type 0 where
  pub number : ℕ
  pub pin : Option ℕ
  pub starved : Bool

-- it has pinned nothing yet
abbrev pub new_session : ℕ → SessionOf
new_session i = record { number = i; pin = None; starved = false }

abbrev pub pinned : SessionOf → ℕ → SessionOf
pinned x k = record x { pin = Some k }

abbrev pub starving : SessionOf → SessionOf
starving x = record x { starved = true }

-- ---- the pinned frame

-- it is one of the case
abbrev pub IsOurs : {Z : Type 0} → CaseOf → Option (Arc FrameOf Z) → Type 0
IsOurs c None = Unit {0}
IsOurs c (Some f) = (f.value.case ≡ c) × (f.value.cycle < c.stimulus.cycles)

-- ---- cycles beside the pinned one

-- above it, or none is pinned
abbrev pub IsAhead : SessionOf → ℕ → Type 0
IsAhead x k = MatchOption x.pin (Unit {0}) (λ own. own < k)

-- not below it
abbrev pub IsNotBack : SessionOf → ℕ → Type 0
IsNotBack x k = MatchOption x.pin (Unit {0}) (λ own. own ≤ k)

-- the later of it and the last of so many cycles that are done
abbrev pub later : Option ℕ → ℕ → ℕ
later None done = done - 1
later (Some own) done = max own (done - 1)

-- ---- questions under the lock: session and kept before, answer, session and kept after

-- the want that is kept is above the cycle, or the session has left
abbrev pub IsApart : Option ℕ → ℕ → Type 0
IsApart want k = MatchOption want (Unit {0}) (λ w. k < w)

-- what `ask_at` answers of a cycle
abbrev pub AsksAt : SessionOf → KeptOf → ℕ → Result Step AskFault → SessionOf → KeptOf → Type 0
AsksAt x k cycle (Ok Pinned) y t =
    (IsApart (want_at k.core.wants x.number) cycle → ⊥) × (cycle < k.core.done)
    × (y ≡ pinned x cycle) × (t ≡ wanting k x.number cycle)
AsksAt x k cycle (Ok (Again done)) y t =
    (IsApart (want_at k.core.wants x.number) cycle → ⊥) × (k.core.done ≤ cycle) × (k.core.failed ≡ false)
    × (done ≡ k.core.done) × (y ≡ x) × (t ≡ wanting k x.number cycle)
AsksAt x k cycle (Err (Apart want)) y t =
    IsApart (want_at k.core.wants x.number) cycle × (want ≡ want_at k.core.wants x.number) × (y ≡ x) × (t ≡ k)
AsksAt x k cycle (Err NoRoom) y t =
    (IsApart (want_at k.core.wants x.number) cycle → ⊥) × (y ≡ x)
    -- the core has failed already, or now, as the handle on its frame was refused
    × (((k.core.done ≤ cycle) × (k.core.failed ≡ true) × (t ≡ wanting k x.number cycle))
    ⊎ ((cycle < k.core.done) × (t ≡ failing (wanting k x.number cycle))))

-- what `ask_newest` answers
abbrev pub AsksNewest : SessionOf → KeptOf → Result Step AtFault → SessionOf → KeptOf → Type 0
AsksNewest x k (Ok Pinned) y t =
    (x.pin ≡ None → 0 < k.core.done) × (y ≡ pinned x (later x.pin k.core.done)) × (t ≡ k)
AsksNewest x k (Ok (Again done)) y t =
    (x.pin ≡ None) × (k.core.done ≡ 0) × (k.core.failed ≡ false) × (done ≡ 0) × (y ≡ x) × (t ≡ k)
AsksNewest x k (Err (Back own)) y t = ⊥
AsksNewest x k (Err (Past total)) y t = ⊥
AsksNewest x k (Err Memory) y t =
    (y ≡ x) × (((x.pin ≡ None) × (k.core.done ≡ 0) × (k.core.failed ≡ true) × (t ≡ k))
    ⊎ ((0 < k.core.done) × (t ≡ failing k)))

-- ---- pinning calls, for a total of cycles: session before, answer, session after

-- `at` a cycle
abbrev pub PinsAt : ℕ → SessionOf → ℕ → Result (Unit {0}) AtFault → SessionOf → Type 0
PinsAt total x k (Ok _) y = IsNotBack x k × (k < total) × (x.starved ≡ true → x.pin ≡ Some k) × (y ≡ pinned x k)
PinsAt total x k (Err (Back own)) y = (x.pin ≡ Some own) × (k < own) × (y ≡ x)
PinsAt total x k (Err (Past n)) y = IsNotBack x k × (n ≡ total) × (total ≤ k) × (y ≡ x)
PinsAt total x k (Err Memory) y = IsAhead x k × (k < total) × (y ≡ starving x)

-- `try_at` a cycle
abbrev pub TriesAt : ℕ → SessionOf → ℕ → Result Step AtFault → SessionOf → Type 0
TriesAt total x k (Ok Pinned) y = PinsAt total x k (Ok tt) y
TriesAt total x k (Ok (Again done)) y = IsAhead x k × (k < total) × (x.starved ≡ false) × (done ≤ k) × (y ≡ x)
TriesAt total x k (Err fault) y = PinsAt total x k (Err fault) y

-- `next`
abbrev pub PinsNext : ℕ → SessionOf → Result (Unit {0}) AtFault → SessionOf → Type 0
PinsNext total x (Ok _) y = (next_of x.pin < total) × (x.starved ≡ false) × (y ≡ pinned x (next_of x.pin))
PinsNext total x (Err (Back own)) y = ⊥
PinsNext total x (Err (Past n)) y = (n ≡ total) × (x.pin ≡ Some (total - 1)) × (y ≡ x)
PinsNext total x (Err Memory) y = (next_of x.pin < total) × (y ≡ starving x)

-- `try_next`
abbrev pub TriesNext : ℕ → SessionOf → Result Step AtFault → SessionOf → Type 0
TriesNext total x (Ok Pinned) y = PinsNext total x (Ok tt) y
TriesNext total x (Ok (Again done)) y = (next_of x.pin < total) × (x.starved ≡ false) × (done ≤ next_of x.pin) × (y ≡ x)
TriesNext total x (Err fault) y = PinsNext total x (Err fault) y

-- `newest`: some cycle that isn't below the pinned one
abbrev pub PinsNewest : ℕ → SessionOf → Result (Unit {0}) AtFault → SessionOf → Type 0
PinsNewest total x (Ok _) y = (k : ℕ) × IsNotBack x k × (k < total) × (y ≡ pinned x k)
PinsNewest total x (Err (Back own)) y = ⊥
PinsNewest total x (Err (Past n)) y = ⊥
PinsNewest total x (Err Memory) y = y ≡ starving x

-- `try_newest`
abbrev pub TriesNewest : ℕ → SessionOf → Result Step AtFault → SessionOf → Type 0
TriesNewest total x (Ok Pinned) y = PinsNewest total x (Ok tt) y
TriesNewest total x (Ok (Again done)) y = (x.pin ≡ None) × (done ≡ 0) × (y ≡ x)
TriesNewest total x (Err fault) y = PinsNewest total x (Err fault) y
