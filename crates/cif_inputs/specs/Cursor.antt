-- What a cursor over the lines of a stimulus keeps, from cycle to cycle.
use Rattle.std.specs.Prelude.{ℕ, ◌≤◌, ◌≡◌, nat_lt, Bool, false, List, map, length, get_or, slice_set, drop, Option, Some, None}
use Rattle.cif_defs.specs.Netlist.{Netlist}
use Rattle.cif_defs.specs.Order.{AreWiresInOrder}
use Rattle.cif_defs.specs.declared.nets.Wire.{Wire}
use Rattle.cif_defs.specs.Stimulus.{Stimulus as StimulusData, StimLine as LineData, TaintedWord, unset, held_by, reg_line, mem_line, release_line, cycle_line, set_line}
use Rattle.cif_stimulus.specs.Names.{place_named, target_of}
use Rattle.cif_inputs.specs.declared.inputs.InputMap.{InputMap}
use Rattle.cif_inputs.specs.declared.inputs.Inputs.{Inputs}

-- the names of a stimulus, looked up among the ports of a netlist
pub record IsMapOf (n : Netlist) (s : StimulusData) (names : InputMap) : Type 0 where
  pub in_order : AreWiresInOrder n.inputs
  pub targets : names.targets.items ≡ map (target_of n.inputs) s.lines

-- the word of a line
abbrev pub word_of : LineData → TaintedWord
word_of (set_line name w) = w
word_of (reg_line name w) = unset
word_of (mem_line name address w) = unset
word_of (release_line name bits) = unset
word_of (cycle_line k) = unset

-- the word that line number i sets
abbrev pub word_by : List LineData → Option ℕ → TaintedWord
word_by lines None = unset
word_by lines (Some i) = word_of (get_or lines i (cycle_line 0))

-- whether a line begins a group that is later than cycle k
abbrev pub is_later_line : ℕ → LineData → Bool
is_later_line k (cycle_line j) = nat_lt k j
is_later_line k (set_line name w) = false
is_later_line k (reg_line name w) = false
is_later_line k (mem_line name address w) = false
is_later_line k (release_line name bits) = false

abbrev pub setter_at : List (Option ℕ) → ℕ → Option ℕ
setter_at setters h = get_or setters h None

-- line number i sets the port at a place, if it sets one
abbrev pub setters_after : List (Option ℕ) → Option ℕ → ℕ → List (Option ℕ)
setters_after setters None i = setters
setters_after setters (Some h) i = slice_set setters h (Some i)

-- from one place of the lines to another: what a port holds at a cycle from k on is the same, by the line that sets its name last
abbrev pub Passes : List Wire → List LineData → ℕ → ℕ → List (Option ℕ) → ℕ → List (Option ℕ) → Type 0
Passes ports lines k from before to after = (q : List ℕ) (h m : ℕ) → place_named ports q ≡ Some h → k ≤ m
    → held_by (drop from lines) q m (word_by lines (setter_at before h)) ≡ held_by (drop to lines) q m (word_by lines (setter_at after h))

-- no line from a place on counts at cycle k
abbrev pub Stops : List LineData → ℕ → ℕ → Type 0
Stops lines k from = (q : List ℕ) (w : TaintedWord) → held_by (drop from lines) q k w ≡ w

-- a cursor stands at its cycle: what each port holds is set by the line that it keeps for the port's name
pub record IsAt (n : Netlist) (s : StimulusData) (names : InputMap) (i : Inputs) : Type 0 where
  pub looked_up : IsMapOf n s names
  pub as_many : length i.setters.items ≡ length n.inputs
  pub inside : i.passed ≤ length s.lines
  pub so_far : (q : List ℕ) (h m : ℕ) → place_named n.inputs q ≡ Some h → i.cycle ≤ m → held_by s.lines q m unset ≡ held_by (drop i.passed s.lines) q m (word_by s.lines (setter_at i.setters.items h))
  pub stops : Stops s.lines i.cycle i.passed

-- the cycle at which a cursor stands
abbrev pub cycle_of : Inputs → ℕ
cycle_of i = i.cycle
