-- Lists of lines as they are seen.
use Rattle.std.specs.Prelude.{ℕ, ◌≤◌, ◌≡◌, Bool, true, ◌||◌, List, [], ◌∷◌, ◌++◌, length, map, refl, if◌then◌else◌}
use Rattle.std.specs.List.{list_all, list_any, flat_map}
use Rattle.std.proofs.Common.{sym, ap, ◌∙◌, take}
use Rattle.std.proofs.lemmas.List.{take_all}
use Rattle.std.proofs.lemmas.List.Folds.{list_all-map, flat_map-map}
use Rattle.cif_stim_write.specs.Ranges.{is_in_range}
use Rattle.cif_stimulus.specs.StimulusText.{line_text, is_release}
use Rattle.cif_stimulus.specs.StimulusView.{line_seen}
use Rattle.cif_stimulus.specs.declared.line.StimLine.{StimLine}

some_released : (lines : List StimLine) → list_any is_release (map line_seen lines) ≡ list_any (λ line. is_release (line_seen line)) lines
some_released [] = refl
some_released (line ∷ lines) = ap (λ s. is_release (line_seen line) || s) (some_released lines)

abbrev version_by : Bool → ℕ
version_by s = if s then 2 else 1

pub version_as : (lines : List StimLine) (s : Bool) → list_any (λ line. is_release (line_seen line)) lines ≡ s → ◌≡◌ {A = ℕ} (if list_any is_release (map line_seen lines) then 2 else 1) (if s then 2 else 1)
version_as lines s h = ap version_by (some_released lines ∙ h)

-- all lines were written
pub all_written : (before text : List ℕ) (lines : List StimLine) (i : ℕ) → length lines ≤ i → text ≡ before ++ flat_map (λ line. line_text (line_seen line)) (take i lines) → text ≡ before ++ flat_map line_text (map line_seen lines)
all_written before text lines i done h =
    h ∙ ap (λ ls. before ++ flat_map (λ line. line_text (line_seen line)) ls) (take_all i lines done)
    ∙ ap (λ t. before ++ t) (sym (flat_map-map line_text line_seen lines))

pub all_in_range : (lines : List StimLine) (i : ℕ) → length lines ≤ i → list_all (λ line. is_in_range (line_seen line)) (take i lines) ≡ true → list_all is_in_range (map line_seen lines) ≡ true
all_in_range lines i done h =
    list_all-map is_in_range line_seen lines
    ∙ ap (list_all (λ line. is_in_range (line_seen line))) (sym (take_all i lines done)) ∙ h
