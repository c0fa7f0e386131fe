-- The operands of cells that fit the table of kinds, and what makes a formula the taint of such a cell.
use Rattle.std.specs.Prelude.{ℕ, ◌≤◌, ◌≡◌, ◌≢◌, Bool, false, List, [], ◌∷◌, map, length, Some}
use Rattle.std.proofs.Common.{arith, sym, ap, subst, ◌∙◌}
use Rattle.cif_defs.specs.Words.{Word}
use Rattle.cif_defs.specs.Kinds.{is_coarse}
use Rattle.cif_defs.specs.Cells.{Cell}
use Rattle.cif_defs.specs.Completions.{IsExact}
use Rattle.cif_defs.specs.Table.{operands_of, outputs_of, width_limit}
use Rattle.cif_defs.specs.Taint.{output_bit}
use Rattle.cif_defs.specs.Fitted.{AllWithin, IsFitted, IsWithin, operand_widths, row_width}
use Rattle.cif_defs.specs.declared.kinds.Kind.{Kind}
use Rattle.cif_defs.specs.declared.kinds.Kind.TheVariants.{Mem}
use Rattle.cif_defs.specs.declared.kinds.PortRow.{PortRow}
use Rattle.cif_term.specs.Formulas.{Formula, IsFormed, value_of, width_of}
use Rattle.cif_term.specs.CellTaints.{IsTaintOf, output_width}
use Rattle.cif_term.proofs.ExactTaintWords.{exact_taint}

-- ---- ports

-- the rows of a cell's ports, and their widths
pub record HasRows (c : Cell) (operands outputs : List PortRow) : Type 0 where
  pub widths : operand_widths c ≡ map (row_width c) operands
  pub within : AllWithin c operands
  pub outputs_within : AllWithin c outputs
  pub output_rows : outputs_of c.kind ≡ outputs

other_than_memory : (c : Cell) (k : Kind) → c.kind ≡ k → k ≢ Mem → c.kind ≢ Mem
other_than_memory c k e h q = h (sym e ∙ q)

pub has_rows : (c : Cell) (k : Kind) (operands outputs : List PortRow) → c.kind ≡ k → k ≢ Mem → operands_of k ≡ operands → outputs_of k ≡ outputs → IsFitted c → HasRows c operands outputs
has_rows c k operands outputs e h a b f =
    let o : operands_of c.kind ≡ operands = ap operands_of e ∙ a in
    let u : outputs_of c.kind ≡ outputs = ap outputs_of e ∙ b in
    record {
      widths = f.operands ∙ ap (map (row_width c)) o;
      within = subst (λ rows. AllWithin c rows) o (f.operands_within (other_than_memory c k e h));
      outputs_within = subst (λ rows. AllWithin c rows) u (f.outputs_within (other_than_memory c k e h));
      output_rows = u;
    }

-- a width from 1 to 4,096
pub record IsPlain (n : ℕ) : Type 0 where
  pub some : 1 ≤ n
  pub limit : n ≤ 4096

pub plain : (c : Cell) (k : Kind) (r : PortRow) → c.kind ≡ k → width_limit k r.port ≡ 4096 → IsWithin c r → IsPlain (row_width c r)
plain c k r e l w =
    let same : width_limit c.kind r.port ≡ 4096 = ap (λ x. width_limit x r.port) e ∙ l in
    let bound : row_width c r ≤ width_limit c.kind r.port = w.limit in
    record { some = w.some; limit = omega (arith, same, bound) }

-- ---- words of given widths

pub one_word : (P : List Word → Type 0) (n : ℕ) → ((v : Word) → length v ≡ n → P (v ∷ [])) → (vs : List Word) → map length vs ≡ n ∷ [] → P vs
one_word P n h [] e = absurd (cc)
one_word P n h (v ∷ []) e = h v (cc)
one_word P n h (v ∷ w ∷ vs) e = absurd (cc)

pub two_words : (P : List Word → Type 0) (m n : ℕ) → ((v w : Word) → length v ≡ m → length w ≡ n → P (v ∷ w ∷ [])) → (vs : List Word) → map length vs ≡ m ∷ n ∷ [] → P vs
two_words P m n h [] e = absurd (cc)
two_words P m n h (v ∷ []) e = absurd (cc)
two_words P m n h (v ∷ w ∷ []) e = h v w (cc) (cc)
two_words P m n h (v ∷ w ∷ x ∷ vs) e = absurd (cc)

pub three_words : (P : List Word → Type 0) (m n k : ℕ) → ((v w x : Word) → length v ≡ m → length w ≡ n → length x ≡ k → P (v ∷ w ∷ x ∷ [])) → (vs : List Word) → map length vs ≡ m ∷ n ∷ k ∷ [] → P vs
three_words P m n k h [] e = absurd (cc)
three_words P m n k h (v ∷ []) e = absurd (cc)
three_words P m n k h (v ∷ w ∷ []) e = absurd (cc)
three_words P m n k h (v ∷ w ∷ x ∷ []) e = h v w x (cc) (cc) (cc)
three_words P m n k h (v ∷ w ∷ x ∷ y ∷ vs) e = absurd (cc)

-- ---- a formula whose value is exact is the taint of an output

pub is_taint : (c : Cell) (p : ℕ) (f : Formula) (n k : ℕ) (ws : List ℕ) (h : ℕ → List Word → Bool) → operand_widths c ≡ ws → output_width c p ≡ n → IsFormed f ws [] n k → is_coarse c.kind ≡ false
    → ((i : ℕ) (us : List Word) → output_bit c p i us ≡ h i us)
    → ((vs ts : List Word) → map length vs ≡ ws → map length ts ≡ ws → IsExact n h vs ts (value_of f vs ts [])) → IsTaintOf c p f
is_taint c p f n k ws h e o formed fine row exact = record {
  formed = ap (λ x. width_of f x []) e ∙ formed.width ∙ ap (λ x. Some x) (sym o);
  means = λ vs ts a b. exact_taint c p h vs ts (value_of f vs ts []) fine row
      (subst (λ x. IsExact x h vs ts (value_of f vs ts [])) (sym o) (exact vs ts (a ∙ e) (b ∙ e)));
}
