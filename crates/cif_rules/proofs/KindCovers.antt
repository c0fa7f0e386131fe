-- Each combinational kind has its terms in one rule crate.
use Rattle.std.specs.Prelude.{◌≡◌, Bool, true, false, refl}
use Rattle.std.proofs.Common.{ap, sym, ◌∙◌}
use Rattle.cif_defs.specs.Kinds.{is_coarse, role_of}
use Rattle.cif_defs.specs.declared.kinds.Kind.{Kind}
use Rattle.cif_defs.specs.declared.kinds.Kind.TheVariants.{Mul, Div, Mod, DivFloor, ModFloor, Shl, Sshl, Shr, Sshr, Shift, Shiftx, Pmux, Bmux, Demux, Lut, Mux, Dff, Dffe, Sdff, Sdffe, Sdffce, Adff, Adffe, Mem, ScopeInfo}
use Rattle.cif_defs.specs.declared.kinds.Role.TheVariants.{Combinational}
use Rattle.rule_logic.specs.LogicFormulas.{covers_logic}
use Rattle.rule_arith.specs.ArithFormulas.{covers_arith}
use Rattle.rule_coarse.specs.CoarseFormulas.{covers_coarse}
use Rattle.rule_select.specs.Selects.{is_select}
use Rattle.cif_rules.specs.Covering.{crates_of}

-- a kind that the first three crates leave selects
pub selects : (k : Kind) → role_of k ≡ Combinational → covers_logic k ≡ false → covers_arith k ≡ false → covers_coarse k ≡ false → is_select k ≡ true
selects Shl r h a c = refl
selects Sshl r h a c = refl
selects Shr r h a c = refl
selects Sshr r h a c = refl
selects Shift r h a c = refl
selects Shiftx r h a c = refl
selects Pmux r h a c = refl
selects Bmux r h a c = refl
selects Demux r h a c = refl
selects Lut r h a c = refl
selects Mux r h a c = refl
selects _ r h a c = absurd (cc)

-- the same of what calls answer
pub selects_else : (k q : Kind) (t u v : Bool) → role_of k ≡ Combinational → q ≡ k → t ≡ covers_logic q → t ≡ false → u ≡ covers_arith q → u ≡ false → v ≡ covers_coarse q → v ≡ false → is_select k ≡ true
selects_else k q t u v r f e h g i l m = selects k r (sym (e ∙ ap covers_logic f) ∙ h) (sym (g ∙ ap covers_arith f) ∙ i) (sym (l ∙ ap covers_coarse f) ∙ m)

pub once : (k : Kind) → role_of k ≡ Combinational → crates_of k ≡ 1
once Dff r = absurd (cc)
once Dffe r = absurd (cc)
once Sdff r = absurd (cc)
once Sdffe r = absurd (cc)
once Sdffce r = absurd (cc)
once Adff r = absurd (cc)
once Adffe r = absurd (cc)
once Mem r = absurd (cc)
once ScopeInfo r = absurd (cc)
once _ r = refl

-- the kinds of coarse taint are those of one crate
pub coarse_is_covered : (k : Kind) → is_coarse k ≡ covers_coarse k
coarse_is_covered Mul = refl
coarse_is_covered Div = refl
coarse_is_covered Mod = refl
coarse_is_covered DivFloor = refl
coarse_is_covered ModFloor = refl
coarse_is_covered _ = refl
