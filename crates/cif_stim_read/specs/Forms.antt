-- What the form of a line says of its words.
use Rattle.std.specs.Prelude.{ℕ, nat_lt, Bool, true, ◌&&◌, List, length, Option, Some, None}
use Rattle.std.specs.Borrow.{Bor}
use Rattle.cif_defs.specs.Words.{Word, zeros}
use Rattle.cif_defs.specs.WordText.{word_of_text}
use Rattle.cif_defs.specs.Stimulus.{TaintedWord, StimLine as LineData, reg_line, mem_line, release_line, cycle_line, set_line}
use Rattle.cif_defs.specs.declared.raw_module.Raw.{Raw}
use Rattle.cif_cells.specs.Finding.{found_of}
use Rattle.cif_stimulus.specs.StimulusText.{found_bits}
use Rattle.cif_stim_read.specs.declared.form.WordText.{WordText}
use Rattle.cif_stim_read.specs.declared.form.Said.{Said}
use Rattle.cif_stim_read.specs.declared.form.Said.TheVariants.{Reg, Mem, Release, Cycle, Set}

-- the taint that is given for a word of n bits, which is untainted where none is
abbrev pub taint_seen : ℕ → Option (Bor (List ℕ)) → Word
taint_seen n None = zeros n
taint_seen n (Some taint) = word_of_text taint.now

abbrev pub word_seen : WordText → TaintedWord
word_seen w = record { value = word_of_text w.value.now; taint = taint_seen (length w.value.now) w.taint }

-- a line that is said, with the bits of a released wire
abbrev pub said_line : Raw → Said → LineData
said_line raw (Reg cell word) = reg_line cell (word_seen word)
said_line raw (Mem cell address word) = mem_line cell address (word_seen word)
said_line raw (Release name) = release_line name (found_bits (found_of raw name))
said_line raw (Cycle k) = cycle_line k
said_line raw (Set port word) = set_line port (word_seen word)

-- a line has a name, and its word a bit
abbrev pub is_sayable : LineData → Bool
is_sayable (reg_line name w) = nat_lt 0 (length name) && nat_lt 0 (length w.value)
is_sayable (mem_line name address w) = nat_lt 0 (length name) && nat_lt 0 (length w.value)
is_sayable (release_line name bits) = nat_lt 0 (length name)
is_sayable (cycle_line k) = true
is_sayable (set_line name w) = nat_lt 0 (length name) && nat_lt 0 (length w.value)
