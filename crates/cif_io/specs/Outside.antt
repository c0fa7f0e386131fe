-- What a store and a sink tell of themselves, and what a call of them does to it.
use Rattle.std.specs.Prelude.{ℕ, ◌-◌, ◌^◌, ◌<◌, ◌≡◌, ◌⊎◌, List, [], ◌∷◌, ◌++◌, length, Option, Some, None, bytes_eq, if◌then◌else◌}

pub record File : Type 0 where
  pub name : List ℕ
  pub bytes : List ℕ

abbrev pub Files : Type 0
Files = List File

-- what the first file of that name holds
abbrev pub file_named : Files → List ℕ → Option (List ℕ)
file_named [] name = None
file_named (f ∷ files) name = if bytes_eq f.name name then Some f.bytes else file_named files name

-- the most bytes that a fetched file has
abbrev pub file_limit : ℕ
file_limit = 67108864

-- a count of faults rose, or it stands at its last value
abbrev pub Rose : ℕ → ℕ → Type 0
Rose old new = (old < new) ⊎ (new ≡ 2 ^ 64 - 1)

-- where the store tells its files, the file of that name holds these bytes
abbrev pub IsTold : Option Files → List ℕ → List ℕ → Type 0
IsTold told name bytes = (files : Files) → told ≡ Some files → file_named files name ≡ Some bytes

-- where the store tells its files, the file of that name is longer than a fetched file
abbrev pub IsToldLong : Option Files → List ℕ → Type 0
IsToldLong told name = (files : Files) → told ≡ Some files
    → (bytes : List ℕ) × (file_named files name ≡ Some bytes) × (file_limit < length bytes)

-- what a sink tells that it took, with these bytes after it; one that tells nothing goes on so
unfoldable pub taken_with : Option (List ℕ) → List ℕ → Option (List ℕ)
taken_with None bytes = None
taken_with (Some taken) bytes = Some (taken ++ bytes)

-- the sink took these bytes
pub record Appends (old new : Option (List ℕ)) (bytes : List ℕ) : Type 0 where
  pub taken : new ≡ taken_with old bytes

-- the sink took a beginning of these bytes, maybe none or all of them
pub record AppendsPrefix (old new : Option (List ℕ)) (bytes : List ℕ) : Type 0 where
  pub first : List ℕ
  pub rest : List ℕ
  pub is_beginning : first ++ rest ≡ bytes
  pub appended : Appends old new first
