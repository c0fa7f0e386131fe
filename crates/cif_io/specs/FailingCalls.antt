-- Which calls of a store and of a sink in memory fail, and how much of a piece the sink takes.
use Rattle.std.specs.Prelude.{ℕ, ◌<◌, ◌≡◌, ◌⊎◌, min, List, length, Contains, None}
use Rattle.cif_io.specs.Counts.{counted}
use Rattle.cif_io.specs.Outside.{file_named}
use Rattle.cif_io.specs.declared.memory.MemStore.{MemStore}
use Rattle.cif_io.specs.declared.memory.MemSink.{MemSink}

-- the number of a call is listed as one that fails
abbrev pub IsListed : List ℕ → ℕ → Type 0
IsListed fail_at calls = Contains fail_at (counted calls)

-- a fetch fails where its number is listed or the name is missing
abbrev pub FailsFetch : MemStore → List ℕ → Type 0
FailsFetch s name = IsListed s.fail_at s.calls ⊎ (file_named s.files name ≡ None)

-- a write fails where its number is listed, or there is no room for any of its bytes
abbrev pub FailsWrite : MemSink → List ℕ → Type 0
FailsWrite s bytes = IsListed s.fail_at s.calls ⊎ ((0 < length bytes) × (s.bytes.room ≡ 0))

-- how many bytes of a piece a sink takes
abbrev pub taken_size : MemSink → List ℕ → ℕ
taken_size s bytes = min (length bytes) (min s.most s.bytes.room)
