-- Where the lines of a stimulus may stand: what cells start with and what is released comes first, then groups of sets, each
-- begun by a cycle that is later than the one before.
use Rattle.std.specs.Prelude.{ℕ, ◌≡◌, nat_le, nat_lt, Bool, true, not, ◌&&◌, ◌==◌, List, [], ◌∷◌, length, reverse, Option, Some, None, is_some}
use Rattle.cif_defs.specs.Stimulus.{Stimulus as StimulusData, StimLine as LineData, TaintedWord, reg_line, mem_line, release_line, cycle_line, set_line}

abbrev pub cycle_limit : ℕ
cycle_limit = 1000000

-- the cycle of the group that lines end in, where one is open; the nearest line comes first
abbrev pub open_cycle : List LineData → Option ℕ
open_cycle [] = None
open_cycle (cycle_line k ∷ before) = Some k
open_cycle (set_line name w ∷ before) = open_cycle before
open_cycle (reg_line name w ∷ before) = open_cycle before
open_cycle (mem_line name address w ∷ before) = open_cycle before
open_cycle (release_line name bits ∷ before) = open_cycle before

abbrev pub is_later : Option ℕ → ℕ → Bool
is_later None k = true
is_later (Some j) k = nat_lt j k

-- a line may stand after those before it, in a stimulus of so many cycles
abbrev pub may_follow : ℕ → List LineData → LineData → Bool
may_follow cycles before (cycle_line k) = nat_lt k cycles && is_later (open_cycle before) k
may_follow cycles before (set_line name w) = is_some (open_cycle before)
may_follow cycles before (reg_line name w) = not (is_some (open_cycle before))
may_follow cycles before (mem_line name address w) = not (is_some (open_cycle before))
may_follow cycles before (release_line name bits) = not (is_some (open_cycle before))

-- a line may stand after the lines of a stimulus
abbrev pub may_add : StimulusData → LineData → Bool
may_add s line = may_follow s.cycles (reverse s.lines) line

-- a word has at least one bit, and its taint as many
abbrev pub is_word : TaintedWord → Bool
is_word w = nat_lt 0 (length w.value) && length w.taint == length w.value

-- a line can be written: its name isn't empty, and its word is one
abbrev pub is_written : LineData → Bool
is_written (reg_line name w) = nat_lt 0 (length name) && is_word w
is_written (mem_line name address w) = nat_lt 0 (length name) && is_word w
is_written (release_line name bits) = nat_lt 0 (length name)
is_written (cycle_line k) = true
is_written (set_line name w) = nat_lt 0 (length name) && is_word w

abbrev pub are_ordered : ℕ → List LineData → List LineData → Bool
are_ordered cycles before [] = true
are_ordered cycles before (line ∷ lines) = may_follow cycles before line && is_written line && are_ordered cycles (line ∷ before) lines

abbrev pub is_cycle_count : ℕ → Bool
is_cycle_count n = nat_le 1 n && nat_le n cycle_limit

-- each line stands where it may
pub record IsOrdered (s : StimulusData) : Type 0 where
  pub cycles : is_cycle_count s.cycles ≡ true
  pub lines : are_ordered s.cycles [] s.lines ≡ true
