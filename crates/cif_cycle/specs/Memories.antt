-- What a memory stores after some of its write ports.
use Rattle.std.specs.Prelude.{ℕ, ◌≡◌, Bool, true, false, List, Option, MatchOption, if◌then◌else◌}
use Rattle.cif_defs.specs.Words.{Word, bit, word}
use Rattle.cif_defs.specs.Memory.{MemoryShape, memory_bits, is_inside, row_at, written_bit, written_taint_bit}
use Rattle.rule_state.specs.declared.memory.WritePort.{WritePort}

-- the stored word after the write ports below a number
abbrev pub values_after : MemoryShape → List Word → Word → ℕ → Word
values_after m us stored port = word (memory_bits m) (λ k. written_bit m us port stored k)

-- its taint
abbrev pub taints_after : MemoryShape → List Word → List Word → Word → ℕ → Word
taints_after m vs ts taint port = word (memory_bits m) (λ k. written_taint_bit m vs ts port taint k)

-- the row of n bits that a port leaves: each bit whose enable is 1 takes its data
abbrev pub row_written : ℕ → WritePort → (ℕ → Bool) → Word
row_written n port row = word n (λ i. if bit port.enable i then bit port.word i else row i)

-- the row at an address, where that lies inside
abbrev pub IsRowAt : MemoryShape → Word → Option ℕ → Type 0
IsRowAt m address found = MatchOption found (is_inside m address ≡ false) (λ r. (is_inside m address ≡ true) × (r ≡ row_at m address))
