-- What a list of things that are told of numbers says of each number.
use Rattle.std.specs.Prelude.{ℕ, ◌==◌, List, [], ◌∷◌, if◌then◌else◌}

-- what is known of a number, in order: more says what one thing adds
abbrev pub told : {S V : Type 0} → (S → V → S) → S → List (ℕ × V) → ℕ → S
told more s [] x = s
told more s (t ∷ ts) x = told more (if t.0 == x then more s t.1 else s) ts x

-- the same for each of some numbers, of which so much is known already
abbrev pub told_all : {S V : Type 0} → (S → V → S) → List ℕ → List S → List (ℕ × V) → List S
told_all more [] ss ts = ss
told_all more (n ∷ ns) [] ts = []
told_all more (n ∷ ns) (s ∷ ss) ts = told more s ts n ∷ told_all more ns ss ts
