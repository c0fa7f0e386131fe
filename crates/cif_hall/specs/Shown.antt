-- What a pinned frame shows.
use Rattle.std.specs.Prelude.{ℕ, ◌≡◌, Option, None}
use Rattle.cif_defs.specs.Run.{src_word, value}
use Rattle.cif_defs.specs.TaintRun.{taint, taint_word}
use Rattle.cif_defs.specs.declared.nets.Wire.{Wire}
use Rattle.cif_stimulus.specs.declared.line.Pair.{Pair}
use Rattle.cif_seq.specs.Cases.{CaseOf, net_of}
use Rattle.cif_hall.specs.declared.told.Shown.{Shown}
use Rattle.cif_hall.specs.declared.told.ShowFault.{ShowFault}
use Rattle.cif_hall.specs.declared.told.ShowFault.TheVariants.{NotPinned, Memory}

-- the value and the taint of a net bit at cycle k
abbrev pub pair_at : CaseOf → ℕ → ℕ → Pair
pair_at c k b = record { value = value (net_of c) c.stimulus k b; taint = taint (net_of c) c.stimulus k b }

-- the word of a wire and its taint at cycle k
abbrev pub shown_at : CaseOf → ℕ → Wire → Shown
shown_at c k wire = record { value = src_word (value (net_of c) c.stimulus k) wire.bits; taint = taint_word (taint (net_of c) c.stimulus k) wire.bits }

-- why nothing is shown of a session with this pinned cycle
abbrev pub IsShowFault : Option ℕ → ShowFault → Type 0
IsShowFault pin NotPinned = pin ≡ None
IsShowFault pin Memory = pin ≡ None → ⊥
