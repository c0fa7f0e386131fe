-- The test whether a function of operands can differ, as a value.
use Rattle.std.specs.Prelude.{◌≡◌, ◌≢◌, Bool, true, false, List, refl}
use Rattle.std.proofs.Common.{sym, ◌∙◌}
use Rattle.cif_defs.specs.Words.{Word}
use Rattle.cif_defs.specs.Completions.{AllComplete, can_differ}
use Rattle.cif_defs.proofs.Differ.{CanDiffer-from_test, test_from-CanDiffer, clear_agree}
use Rattle.cif_defs.proofs.Agree.{self_complete}

pub same_tests : (a b : Bool) → (a ≡ true → b ≡ true) → (b ≡ true → a ≡ true) → a ≡ b
same_tests true b h k = sym (h refl)
same_tests false true h k = k refl
same_tests false false h k = refl

-- functions that are the same at every completion can differ alike
differs_too : (f g : List Word → Bool) (vs ts : List Word) → ((us : List Word) → AllComplete vs ts us → f us ≡ g us) → can_differ f vs ts ≡ true → can_differ g vs ts ≡ true
differs_too f g vs ts e h =
    let d = CanDiffer-from_test f vs ts h in
    test_from-CanDiffer g vs ts (record {
      first = d.first;
      second = d.second;
      first_completes = d.first_completes;
      second_completes = d.second_completes;
      differ = λ q. d.differ (e d.first d.first_completes ∙ q ∙ sym (e d.second d.second_completes));
    })

pub same_differ : (f g : List Word → Bool) (vs ts : List Word) → ((us : List Word) → AllComplete vs ts us → f us ≡ g us) → can_differ f vs ts ≡ can_differ g vs ts
same_differ f g vs ts e = same_tests _ _ (differs_too f g vs ts e) (differs_too g f vs ts (λ us c. sym (e us c)))

-- what is the same at every completion can't differ
pub never_differs : (f : List Word → Bool) (vs ts : List Word) (b : Bool) → ((us : List Word) → AllComplete vs ts us → f us ≡ b) → can_differ f vs ts ≡ false
never_differs f vs ts b e = same_tests _ _ (λ h. absurd (let d = CanDiffer-from_test f vs ts h in d.differ (e d.first d.first_completes ∙ sym (e d.second d.second_completes)))) (λ h. absurd (cc))

-- what can't differ is at every completion what it is at the values
pub clear_value : (f : List Word → Bool) (vs ts us : List Word) → can_differ f vs ts ≡ false → AllComplete vs ts us → f us ≡ f vs
clear_value f vs ts us h c = clear_agree f vs ts us vs h c (self_complete vs ts)

pub differ_at : (f : List Word → Bool) (vs ts us ws : List Word) → AllComplete vs ts us → AllComplete vs ts ws → f us ≢ f ws → can_differ f vs ts ≡ true
differ_at f vs ts us ws c d n = test_from-CanDiffer f vs ts (record { first = us; second = ws; first_completes = c; second_completes = d; differ = n })
