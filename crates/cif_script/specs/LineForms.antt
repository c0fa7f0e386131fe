-- What a line of a script says, by its form.
use Rattle.std.specs.Prelude.{ℕ, nat_le, List, [], ◌∷◌, length, codes, bytes_eq, Option, Some, None, option_map, if◌then◌else◌}
use Rattle.std.specs.List.{list_all}
use Rattle.cif_defs.specs.Text.{number_read, decoded, is_visible}
use Rattle.cif_script.specs.declared.form.Said.{Said}
use Rattle.cif_script.specs.declared.form.Said.TheVariants.{Session, At, Next, Newest, Show}

-- the most bytes of the word that codes the name of a session
abbrev pub name_limit : ℕ
name_limit = 64

-- `session NAME`
abbrev pub session_said : List (List ℕ) → Option Said
session_said (name ∷ []) = if nat_le (length name) name_limit then option_map (λ n. Session n) (decoded name) else None
session_said _ = None

-- `at K`
abbrev pub at_said : List (List ℕ) → Option Said
at_said (k ∷ []) = option_map (λ j. At j) (number_read k)
at_said _ = None

-- `show NAME`
abbrev pub show_said : List (List ℕ) → Option Said
show_said (name ∷ []) = option_map (λ n. Show n) (decoded name)
show_said _ = None

-- a verb that stands alone
abbrev pub alone : Said → List (List ℕ) → Option Said
alone said [] = Some said
alone said _ = None

-- what a verb and the words after it say
abbrev pub said_by : List ℕ → List (List ℕ) → Option Said
said_by verb rest =
    if bytes_eq verb (codes "session") then session_said rest else
    if bytes_eq verb (codes "at") then at_said rest else
    if bytes_eq verb (codes "next") then alone Next rest else
    if bytes_eq verb (codes "newest") then alone Newest rest else
    if bytes_eq verb (codes "show") then show_said rest else None

-- what some words say; a word has bytes from 33 to 126 alone
unfoldable pub line_said : List (List ℕ) → Option Said
line_said [] = None
line_said (verb ∷ rest) = if list_all (list_all is_visible) (verb ∷ rest) then said_by verb rest else None
