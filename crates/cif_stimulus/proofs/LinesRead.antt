-- A line that is read at its number.
use Rattle.std.specs.Prelude.{ℕ, ◌<◌, ◌≡◌, List, map, length, get_or}
use Rattle.std.proofs.Common.{arith, sym, ap, ◌∙◌}
use Rattle.std.proofs.lemmas.List.{get_or-map, length-map}
use Rattle.cif_defs.specs.Stimulus.{StimLine as LineData, cycle_line}
use Rattle.cif_stimulus.specs.Names.{line_at}
use Rattle.cif_stimulus.specs.StimulusView.{line_seen}
use Rattle.cif_stimulus.specs.declared.line.StimLine.{StimLine}

pub line_inside : (lines : List StimLine) (seen : List LineData) (i : ℕ) → map line_seen lines ≡ seen → i < length seen → i < length lines
line_inside lines seen i is h = (let e : length seen ≡ length lines = ap (λ (ls : List LineData). length ls) (sym is) ∙ length-map lines line_seen in omega arith)

pub line_read : (lines : List StimLine) (seen : List LineData) (i : ℕ) (x : StimLine) → map line_seen lines ≡ seen → i < length seen → x ≡ get_or lines i x → line_seen x ≡ line_at seen i
line_read lines seen i x is h read =
    ap line_seen read
    ∙ sym (get_or-map line_seen lines i x (cycle_line 0) (line_inside lines seen i is h))
    ∙ ap (λ (ls : List LineData). get_or ls i (cycle_line 0)) is
