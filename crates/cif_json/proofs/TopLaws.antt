-- The choice of a module, as code makes it.
use Rattle.std.specs.Prelude.{ℕ, ◌≡◌, ◌≢◌, Bool, true, false, IsTrue, List, [], ◌∷◌, length, Option, Some, None, string_bytes, refl}
use Rattle.std.proofs.Common.{arith}
use Rattle.serde_json.specs.Data.{Data}
use Rattle.serde_json.specs.View.{view, members_view}
use Rattle.cif_json.proofs.Folds.{Entry}
use Rattle.cif_json.specs.Top.{some_members, tops_of, only_one, chosen}

pub members_there : (es : List Entry) (b : Bool) → (length es ≡ 0 → IsTrue b) → b ≡ false → some_members (members_view es) ≡ Some (members_view es)
members_there [] b h e = absurd (let on : b ≡ true = h refl in (cc))
members_there (m ∷ es) b h e = refl

pub no_members_there : (es : List Entry) (b : Bool) → (IsTrue b → length es ≡ 0) → b ≡ true → some_members (members_view es) ≡ None
no_members_there [] b h e = refl
no_members_there (m ∷ es) b h e = absurd (let none : length (m ∷ es) ≡ 0 = h e in omega arith)

abbrev pub module_seen : Entry → List ℕ × Data
module_seen m = (string_bytes m.0, view m.1)

-- the top module that was found so far
abbrev pub found_before : Option Entry → List (List ℕ × Data) → List (List ℕ × Data)
found_before None tops = tops
found_before (Some m) tops = module_seen m ∷ tops

pub chosen_one : (m : Entry) (es : List Entry) → length (m ∷ es) ≡ 1 → Some (module_seen m) ≡ chosen (members_view (m ∷ es))
chosen_one m [] h = refl
chosen_one m (n ∷ es) h = absurd (omega arith)

pub chosen_of_many : (es : List Entry) → length es ≢ 1 → only_one (tops_of (members_view es)) ≡ chosen (members_view es)
chosen_of_many [] h = refl
chosen_of_many (m ∷ []) h = absurd (h refl)
chosen_of_many (m ∷ n ∷ es) h = refl
