-- Which commands may wait.
use Rattle.std.specs.Prelude.{ℕ, ◌≡◌, Bool, true, false, List, [], ◌∷◌, codes, bytes_eq, Option, Some, None, option_map, refl, if◌then◌else◌}
use Rattle.std.proofs.Common.{ap, ◌∙◌}
use Rattle.std.proofs.lemmas.Slice.Eq.{bytes_eq-Decides}
use Rattle.cif_run.specs.declared.size.RunSize.{RunSize}
use Rattle.cif_desk.specs.Commands.{Command, check, eval, augstim, run, size_of, command_of, command_if, may_wait}

abbrev is_run : Command → Bool
is_run (check net) = false
is_run (eval net stim) = false
is_run (augstim net stim) = false
is_run (run net stim sessions size) = true

of_verb : (verb word : List ℕ) (rest : List (List ℕ)) → bytes_eq verb word ≡ true → may_wait (verb ∷ rest) ≡ may_wait (word ∷ rest)
of_verb verb word rest e = ap (λ v. may_wait (v ∷ rest)) ((bytes_eq-Decides verb word).0 e)

if_fits : (fits : Bool) (a c : Command) → command_if fits a ≡ Some c → (fits ≡ true) × (a ≡ c)
if_fits true a c e = (refl, cc)
if_fits false a c e = absurd (cc)

by_verb : (verb word : List ℕ) (rest : List (List ℕ)) (a c : Command) → command_if (bytes_eq verb word) a ≡ Some c → may_wait (word ∷ rest) ≡ is_run a → may_wait (verb ∷ rest) ≡ is_run c
by_verb verb word rest a c e h = let f = if_fits (bytes_eq verb word) a c e in of_verb verb word rest f.0 ∙ h ∙ ap is_run f.1

-- the first of two verbs that fits
by_first : (verb one other : List ℕ) (rest : List (List ℕ)) (a b c : Command) (fits : Bool) → bytes_eq verb one ≡ fits → (if fits then Some a else command_if (bytes_eq verb other) b) ≡ Some c
    → may_wait (one ∷ rest) ≡ is_run a → may_wait (other ∷ rest) ≡ is_run b → may_wait (verb ∷ rest) ≡ is_run c
by_first verb one other rest a b c true is e h k = of_verb verb one rest is ∙ h ∙ (let same : a ≡ c = cc in ap is_run same)
by_first verb one other rest a b c false is e h k = by_verb verb other rest b c e k

if_run : (fits : Bool) (net stim sessions : List ℕ) (size : Option RunSize) (c : Command) → (if fits then option_map (run net stim sessions) size else None) ≡ Some c → (fits ≡ true) × (true ≡ is_run c)
if_run false net stim sessions size c e = absurd (cc)
if_run true net stim sessions None c e = absurd (cc)
if_run true net stim sessions (Some size) c e = (refl, (let same : run net stim sessions size ≡ c = cc in ap is_run same))

by_run : (verb : List ℕ) (rest : List (List ℕ)) (c : Command) → (bytes_eq verb (codes "run") ≡ true) × (true ≡ is_run c) → may_wait (verb ∷ rest) ≡ is_run c
by_run verb rest c h = of_verb verb (codes "run") rest h.0 ∙ h.1

-- words that ask for a command may wait where it is a run
command_waits : (words : List (List ℕ)) (c : Command) → command_of words ≡ Some c → may_wait words ≡ is_run c
unfolding command_of
command_waits [] c e = absurd (cc)
command_waits (verb ∷ []) c e = absurd (cc)
command_waits (verb ∷ net ∷ []) c e = by_verb verb (codes "check") (net ∷ []) (check net) c e refl
command_waits (verb ∷ net ∷ stim ∷ []) c e =
    by_first verb (codes "eval") (codes "augstim") (net ∷ stim ∷ []) (eval net stim) (augstim net stim) c (bytes_eq verb (codes "eval")) refl e refl refl
command_waits (verb ∷ net ∷ stim ∷ x ∷ []) c e = absurd (cc)
command_waits (verb ∷ net ∷ stim ∷ x ∷ y ∷ []) c e = absurd (cc)
command_waits (verb ∷ net ∷ stim ∷ x ∷ y ∷ z ∷ []) c e = absurd (cc)
command_waits (verb ∷ net ∷ stim ∷ sessions ∷ workers ∷ parts ∷ window ∷ []) c e =
    by_run verb (net ∷ stim ∷ sessions ∷ workers ∷ parts ∷ window ∷ []) c (if_run (bytes_eq verb (codes "run")) net stim sessions (size_of workers parts window) c e)
command_waits (verb ∷ net ∷ stim ∷ x ∷ y ∷ z ∷ u ∷ v ∷ rest) c e = absurd (cc)

-- a run may wait
pub never_run : (words : List (List ℕ)) (net stim sessions : List ℕ) (size : RunSize) → may_wait words ≡ false → ¬ (command_of words ≡ Some (run net stim sessions size))
never_run words net stim sessions size quiet e = let waits = command_waits words (run net stim sessions size) e in absurd (cc)

-- the others never wait
pub never_check : (words : List (List ℕ)) (net : List ℕ) → may_wait words ≡ true → ¬ (command_of words ≡ Some (check net))
never_check words net live e = let waits = command_waits words (check net) e in absurd (cc)

pub never_eval : (words : List (List ℕ)) (net stim : List ℕ) → may_wait words ≡ true → ¬ (command_of words ≡ Some (eval net stim))
never_eval words net stim live e = let waits = command_waits words (eval net stim) e in absurd (cc)

pub never_augstim : (words : List (List ℕ)) (net stim : List ℕ) → may_wait words ≡ true → ¬ (command_of words ≡ Some (augstim net stim))
never_augstim words net stim live e = let waits = command_waits words (augstim net stim) e in absurd (cc)
