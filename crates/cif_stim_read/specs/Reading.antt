-- Reading, line by line.
use Rattle.std.specs.Prelude.{ℕ, ◌≡◌, List, [], reverse, Result, Ok, Err}
use Rattle.std.specs.List.{list_any}
use Rattle.cif_defs.specs.Stimulus.{Stimulus as StimulusData, StimLine as LineData}
use Rattle.cif_defs.specs.Text.{lines_of}
use Rattle.cif_defs.specs.declared.raw_module.Raw.{Raw}
use Rattle.cif_stimulus.specs.Fitting.{is_reg_of, is_mem_of, is_release_of, is_set_among}
use Rattle.cif_stim_read.specs.Given.{has, has_row}
use Rattle.cif_stimulus.specs.Places.{open_cycle}
use Rattle.cif_stimulus.specs.StimulusText.{numbered, lines_read, stimulus_read, ◌and_then◌}
use Rattle.cif_stimulus.specs.StimulusView.{Adds}
use Rattle.cif_stimulus.specs.Versions.{version_number}
use Rattle.cif_stimulus.specs.declared.fault.StimFault.{StimFault}
use Rattle.cif_stimulus.specs.declared.fault.StimFault.TheVariants.{BadLine, NoSuchName, WrongWidth, NoCycles, TooManyCycles, SetTwice, BadAddress, Memory}
use Rattle.cif_stim_read.specs.declared.read.Head.{Head}
use Rattle.cif_stim_read.specs.declared.reader.Reader.{Reader}

-- a fault is the one that is meant; nothing is said of want of memory
abbrev pub IsFirst : {A : Type 0} → Result A StimFault → StimFault → Type 0
IsFirst found (BadLine n) = found ≡ Err (BadLine n)
IsFirst found (NoSuchName n) = found ≡ Err (NoSuchName n)
IsFirst found (WrongWidth n) = found ≡ Err (WrongWidth n)
IsFirst found NoCycles = found ≡ Err NoCycles
IsFirst found TooManyCycles = found ≡ Err TooManyCycles
IsFirst found (SetTwice n) = found ≡ Err (SetTwice n)
IsFirst found (BadAddress n) = found ≡ Err (BadAddress n)
IsFirst found Memory = Unit {0}

-- a stimulus with one more line, which is that of a step
pub record Takes (old new : StimulusData) (step : Result LineData StimFault) : Type 0 where
  pub line : LineData
  pub read : step ≡ Ok line
  pub added : Adds old new line

-- what a reader keeps is what the lines that are read gave
pub record IsReading (reader : Reader) : Type 0 where
  pub open_group : open_cycle (reverse reader.stimulus.lines) ≡ reader.opened
  pub given_registers : (name : List ℕ) → list_any (is_reg_of name) (reverse reader.stimulus.lines) ≡ has reader.registers name
  pub given_rows : (name : List ℕ) (address : ℕ) → list_any (is_mem_of name address) (reverse reader.stimulus.lines) ≡ has_row reader.rows name address
  pub given_names : (name : List ℕ) → list_any (is_release_of name) (reverse reader.stimulus.lines) ≡ has reader.released name
  pub given_ports : (name : List ℕ) → is_set_among name (reverse reader.stimulus.lines) ≡ has reader.ports name

-- the first two lines are read, and the rest decides what the text gives
abbrev pub IsHead : List ℕ → Head → Type 0
IsHead bytes h = (raw : Raw) → stimulus_read raw bytes
    ≡ lines_read raw (record { version = version_number h.version; cycles = h.cycles }) [] (numbered h.number (lines_of h.rest.now)) and_then (λ lines. Ok (record { cycles = h.cycles; lines = lines }))
