-- What a name has before anything is picked for it.
use Rattle.std.specs.Prelude.{[], ◌∷◌}
use Rattle.cif_defs.specs.declared.raw_module.Raw.{Raw}
use Rattle.cif_seq.specs.Cases.{CaseOf}
use Rattle.cif_pieces.specs.Plans.{PlanOf}

abbrev pub no_module : Raw
no_module = record { «module» = []; attributes = []; ports = []; cells = []; names = [] }

abbrev pub no_case : CaseOf
no_case = record { raw = no_module; order = []; stimulus = record { cycles = 0; lines = [] } }

abbrev pub no_plan : PlanOf
no_plan = record { parts = 1; owned = [] ∷ []; evaluated = [] ∷ []; passing = [] ∷ []; needed = [] ∷ [] }
