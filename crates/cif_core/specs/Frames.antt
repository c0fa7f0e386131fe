-- The frames that the core keeps.
use Rattle.std.specs.Prelude.{ℕ, zero, suc, ◌+◌, ◌-◌, min, List, [], ◌∷◌}
use Rattle.cif_seq.specs.Cases.{CaseOf, FrameOf, frame_of}
use Rattle.cif_core.specs.Machine.{State, floor}

-- so many frames of a case, from a cycle on
abbrev pub frames_of : CaseOf → ℕ → ℕ → List FrameOf
frames_of c k zero = []
frames_of c k (suc n) = frame_of c k ∷ frames_of c (k + 1) n

-- the first cycle whose frame is kept: the floor, or the last one that is done where that is earlier
abbrev pub first_kept : ℕ → ℕ → ℕ
first_kept done low = min low (done - 1)

-- the frames from the floor on, and the last completed one
abbrev pub kept_frames : CaseOf → State → List FrameOf
kept_frames c s = frames_of c (first_kept s.done (floor s)) (s.done - first_kept s.done (floor s))

-- frames in order, and for how many there is room
pub record ShelfOf : Type 0 where
  pub frames : List FrameOf
  pub room : ℕ
