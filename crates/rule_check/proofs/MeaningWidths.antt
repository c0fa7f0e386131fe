-- The widths of the words that combinational cells give are those that the table of kinds says.
use Rattle.std.specs.Prelude.{ℕ, ◌≡◌, Bool, List, [], ◌∷◌, map, length, refl}
use Rattle.std.proofs.Common.{ap, ◌∙◌}
use Rattle.cif_defs.specs.Words.{Word, word}
use Rattle.cif_defs.specs.Kinds.{role_of}
use Rattle.cif_defs.specs.Cells.{Cell, words_by}
use Rattle.cif_defs.specs.Table.{outputs_of}
use Rattle.cif_defs.specs.Fitted.{row_width}
use Rattle.cif_defs.specs.declared.kinds.Role.TheVariants.{Combinational}
use Rattle.cif_defs.specs.declared.kinds.Kind.{Kind}
use Rattle.cif_defs.specs.declared.kinds.Kind.TheVariants.{Not, Pos, Neg, And, Or, Xor, Xnor, Add, Sub, Mul, Div, Mod, DivFloor, ModFloor, Eq, Ne, Eqx, Nex, Lt, Le, Ge, Gt, ReduceAnd, ReduceOr, ReduceXor, ReduceXnor, ReduceBool, LogicNot, LogicAnd, LogicOr, Shl, Sshl, Shr, Sshr, Shift, Shiftx, Mux, Pmux, Bmux, Demux, Concat, Slice, Lut, Fa, Alu}
use Rattle.cif_defs.proofs.WordLaws.{length-word}

one : (n : ℕ) (f : ℕ → Bool) → map length (word n f ∷ []) ≡ n ∷ []
one n f = ap (λ k. k ∷ []) (length-word n f)

two : (n : ℕ) (f g : ℕ → Bool) → map length (word n f ∷ word n g ∷ []) ≡ n ∷ n ∷ []
two n f g = ap (λ k. k ∷ length (word n g) ∷ []) (length-word n f) ∙ ap (λ k. n ∷ k ∷ []) (length-word n g)

three : (n : ℕ) (f g h : ℕ → Bool) → map length (word n f ∷ word n g ∷ word n h ∷ []) ≡ n ∷ n ∷ n ∷ []
three n f g h = ap (λ k. k ∷ map length (word n g ∷ word n h ∷ [])) (length-word n f) ∙ ap (λ ks. n ∷ ks) (two n g h)

pub widths_by : (k : Kind) (c : Cell) (us : List Word) → role_of k ≡ Combinational → map length (words_by k c us) ≡ map (row_width c) (outputs_of k)
unfolding words_by outputs_of
widths_by Not c us r = one _ _
widths_by Pos c us r = one _ _
widths_by Neg c us r = one _ _
widths_by And c us r = one _ _
widths_by Or c us r = one _ _
widths_by Xor c us r = one _ _
widths_by Xnor c us r = one _ _
widths_by Add c us r = one _ _
widths_by Sub c us r = one _ _
widths_by Mul c us r = one _ _
widths_by Div c us r = one _ _
widths_by Mod c us r = one _ _
widths_by DivFloor c us r = one _ _
widths_by ModFloor c us r = one _ _
widths_by Eq c us r = one _ _
widths_by Ne c us r = one _ _
widths_by Eqx c us r = one _ _
widths_by Nex c us r = one _ _
widths_by Lt c us r = one _ _
widths_by Le c us r = one _ _
widths_by Ge c us r = one _ _
widths_by Gt c us r = one _ _
widths_by ReduceAnd c us r = one _ _
widths_by ReduceOr c us r = one _ _
widths_by ReduceXor c us r = one _ _
widths_by ReduceXnor c us r = one _ _
widths_by ReduceBool c us r = one _ _
widths_by LogicNot c us r = one _ _
widths_by LogicAnd c us r = one _ _
widths_by LogicOr c us r = one _ _
widths_by Shl c us r = one _ _
widths_by Sshl c us r = one _ _
widths_by Shr c us r = one _ _
widths_by Sshr c us r = one _ _
widths_by Shift c us r = one _ _
widths_by Shiftx c us r = one _ _
widths_by Mux c us r = one _ _
widths_by Pmux c us r = one _ _
widths_by Bmux c us r = one _ _
widths_by Demux c us r = one _ _
widths_by Concat c us r = one _ _
widths_by Slice c us r = one _ _
widths_by Lut c us r = refl
widths_by Fa c us r = two _ _ _
widths_by Alu c us r = three _ _ _ _
widths_by _ c us r = absurd (cc)
