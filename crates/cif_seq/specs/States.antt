-- What the first cells start with, and how a cell moves on to what it stores next.
use Rattle.std.specs.Prelude.{ℕ, ◌≡◌, ◌≢◌, Bool, false, List, map}
use Rattle.std.specs.List.{range_with_len}
use Rattle.cif_defs.specs.Words.{Word, bit}
use Rattle.cif_defs.specs.Netlist.{Netlist}
use Rattle.cif_defs.specs.Stimulus.{Stimulus, start_at}
use Rattle.cif_shown.specs.Shown.{Follows, Given, KeepsAt}

-- ---- the first i cells at the start

abbrev pub start_values : Netlist → Stimulus → ℕ → List Word
start_values n s i = map (λ c. (start_at n s c).value) (range_with_len 0 i)

abbrev pub start_taints : Netlist → Stimulus → ℕ → List Word
start_taints n s i = map (λ c. (start_at n s c).taint) (range_with_len 0 i)

abbrev pub start_flags : ℕ → List Bool
start_flags i = map (λ c. false) (range_with_len 0 i)

-- ---- one cell moves on

-- after a cycle with these values and taints of the net bits cell c stores what it then stores next, and no other cell moved;
-- the mark of c says whether it may store something else than before
pub record MovesCell (n : Netlist) (before after : Given) (values taints marks new_marks : List Bool) (c : ℕ) : Type 0 where
  pub follows : Follows n before after values taints c
  pub kept : bit new_marks c ≡ false → KeepsAt before after c
  pub others : (d : ℕ) → d ≢ c → KeepsAt before after d
  pub other_marks : (d : ℕ) → d ≢ c → bit new_marks d ≡ bit marks d
