-- A frame that is held, or none.
use Rattle.std.specs.Prelude.{ℕ, ◌+◌, Option, Some, None}
use Rattle.std.specs.declared.sync.Arc.{Arc}
use Rattle.cif_seq.specs.Cases.{FrameOf}

-- its cycle
abbrev pub pin_of : {Z : Type 0} → Option (Arc FrameOf Z) → Option ℕ
pin_of None = None
pin_of (Some f) = Some f.value.cycle

-- the cycle after it, or 0
abbrev pub next_of : Option ℕ → ℕ
next_of None = 0
next_of (Some own) = own + 1
