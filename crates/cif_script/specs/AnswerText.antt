-- The lines of a transcript.
use Rattle.std.specs.Prelude.{ℕ, List, [], ◌∷◌, ◌++◌, codes}
use Rattle.std.specs.List.{flat_map}
use Rattle.std.specs.Fmt.{decimal}
use Rattle.cif_defs.specs.EvalText.{cycle_head, pair_text}
use Rattle.cif_defs.specs.Text.{coded, line_end}
use Rattle.cif_script.specs.declared.answer.Answer.{Answer}
use Rattle.cif_script.specs.declared.answer.Answer.TheVariants.{Cycle, Back, Past, Shown, Unpinned}

-- `cycle K`, `back OWN`, `past TOTAL`, `show NAME VALUE/TAINT` or `unpinned`, and the end of the line
abbrev pub answer_text : Answer → List ℕ
answer_text (Cycle k) = cycle_head k
answer_text (Back own) = codes "back " ++ decimal own ++ line_end ∷ []
answer_text (Past total) = codes "past " ++ decimal total ++ line_end ∷ []
answer_text (Shown name value taint) = codes "show " ++ coded name ++ codes " " ++ pair_text value taint ++ line_end ∷ []
answer_text Unpinned = codes "unpinned" ++ line_end ∷ []

-- the lines of a session
abbrev pub answers_text : List Answer → List ℕ
answers_text answers = flat_map answer_text answers
