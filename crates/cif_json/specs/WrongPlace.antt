-- Readings that may find a wrong place: one after another, the first wrong place counts.
use Rattle.std.specs.Prelude.{ℕ, List, [], ◌∷◌, ◌++◌, Option, Some, None, Result, Ok, Err}
use Rattle.serde_json.specs.Data.{Data, Members, no_members, member}
use Rattle.serde_json.specs.Find.{as_object}

-- a place under the value that is read: the names that lead there, a slash before each
abbrev pub Place : Type 0
Place = List ℕ

abbrev pub slash : ℕ
slash = 47

-- goes on with what was read
infixr 20 ◌and_then◌
abbrev pub ◌and_then◌ : {A B E : Type 0} → Result A E → (A → Result B E) → Result B E
Ok x and_then next = next x
Err fault and_then next = Err fault

-- what was read under a name, where each wrong place lies one name further down
abbrev pub within : {A : Type 0} → List ℕ → Result A Place → Result A Place
within name (Ok x) = Ok x
within name (Err place) = Err (slash ∷ name ++ place)

-- what is there, or else this very place is wrong
abbrev pub needed : {A : Type 0} → Option A → Result A Place
needed None = Err []
needed (Some x) = Ok x

-- the members of a value, which must be an object
abbrev pub members_of : Data → Result Members Place
members_of d = needed (as_object d)

-- the same, where a missing value has none
abbrev pub members_if_any : Option Data → Result Members Place
members_if_any None = Ok no_members
members_if_any (Some d) = members_of d

-- what each member stands for, in order
abbrev pub each : {A : Type 0} → (List ℕ → Data → Result A Place) → Members → Result (List A) Place
each read no_members = Ok []
each read (member name d ms) = within name (read name d) and_then (λ x. each read ms and_then (λ xs. Ok (x ∷ xs)))
