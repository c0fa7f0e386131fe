-- Whole lines, by their words.
use Rattle.std.specs.Prelude.{ℕ, ◌≡◌, true, false, List, [], ◌∷◌, None, refl}
use Rattle.std.proofs.Common.{sym, ap, ◌∙◌, if◌then◌else◌}
use Rattle.std.specs.List.{list_all}
use Rattle.cif_defs.specs.Text.{is_visible}
use Rattle.cif_script.specs.LineForms.{said_by, line_said}

pub not_visible : (words : List (List ℕ)) → list_all (list_all is_visible) words ≡ false → None ≡ line_said words
unfolding line_said
not_visible [] h = refl
not_visible (verb ∷ rest) h = sym (ap (λ b. if b then said_by verb rest else None) h)

pub no_verb : (words : List (List ℕ)) → words ≡ [] → None ≡ line_said words
unfolding line_said
no_verb words h = sym (ap line_said h)

pub by_verb : (words : List (List ℕ)) (verb : List ℕ) (rest : List (List ℕ)) → words ≡ verb ∷ rest → list_all (list_all is_visible) words ≡ true → said_by verb rest ≡ line_said words
unfolding line_said
by_verb words verb rest is h =
    sym (ap (λ b. if b then said_by verb rest else None) (ap (list_all (list_all is_visible)) (sym is) ∙ h)) ∙ sym (ap line_said is)
