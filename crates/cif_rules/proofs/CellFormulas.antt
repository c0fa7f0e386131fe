-- Each fitted combinational cell has formulas of its taint.
use Rattle.std.specs.Prelude.{◌≡◌, Bool, true, false, List, [], ◌∷◌, refl}
use Rattle.cif_defs.specs.Kinds.{role_of}
use Rattle.cif_defs.specs.Cells.{Cell}
use Rattle.cif_defs.specs.Fitted.{IsFitted}
use Rattle.cif_defs.specs.declared.kinds.Role.TheVariants.{Combinational}
use Rattle.cif_term.specs.Formulas.{Formula}
use Rattle.cif_term.specs.CellTaints.{AreTaintsOf}
use Rattle.rule_logic.specs.LogicFormulas.{covers_logic}
use Rattle.rule_logic.proofs.LogicRest.{logic_formulas, logic_taints}
use Rattle.rule_arith.specs.ArithFormulas.{covers_arith, formulas_by}
use Rattle.rule_arith.proofs.ArithTaints.{arith_taints}
use Rattle.rule_coarse.specs.CoarseFormulas.{coarse_formula, covers_coarse}
use Rattle.rule_coarse.proofs.CoarseKinds.{coarse_taints}
use Rattle.rule_select.specs.Selects.{select_formula}
use Rattle.rule_select.proofs.SelectLaws.{select_taints}
use Rattle.cif_rules.proofs.KindCovers.{selects}

abbrev HasFormulas : Cell → Type 0
HasFormulas c = (fs : List Formula) × AreTaintsOf c fs

by_crate : (c : Cell) (l a o : Bool) → role_of c.kind ≡ Combinational → IsFitted c → covers_logic c.kind ≡ l → covers_arith c.kind ≡ a → covers_coarse c.kind ≡ o → HasFormulas c
by_crate c true a o r f e g h = (logic_formulas c, logic_taints c e f)
by_crate c false true o r f e g h = (formulas_by c.kind c, arith_taints c g f)
by_crate c false false true r f e g h = (coarse_formula c ∷ [], coarse_taints c h f)
by_crate c false false false r f e g h = (select_formula c ∷ [], select_taints c f (selects c.kind r e g h))

pub cell_formulas : (c : Cell) → role_of c.kind ≡ Combinational → IsFitted c → (fs : List Formula) × AreTaintsOf c fs
cell_formulas c r f = by_crate c (covers_logic c.kind) (covers_arith c.kind) (covers_coarse c.kind) r f refl refl refl
