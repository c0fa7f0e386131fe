-- One line more of the last session.
use Rattle.std.specs.Prelude.{◌≡◌, List, [], ◌∷◌, ◌++◌, refl}
use Rattle.std.proofs.Common.{ap}
use Rattle.cif_script.specs.ScriptText.{with_line}
use Rattle.cif_script.specs.declared.session.Line.{Line}
use Rattle.cif_script.specs.declared.session.SessionScript.{SessionScript}

pub line_to_last : (sessions : List SessionScript) (s : SessionScript) (line : Line) → with_line line (sessions ++ s ∷ []) ≡ sessions ++ record { name = s.name; lines = s.lines ++ line ∷ [] } ∷ []
line_to_last [] s line = refl
line_to_last (a ∷ []) s line = refl
line_to_last (a ∷ b ∷ rest) s line = ap (λ (ss : List SessionScript). a ∷ ss) (line_to_last (b ∷ rest) s line)
