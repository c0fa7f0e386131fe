-- What marked words stand for, and how their formulas are formed.
use Rattle.std.specs.Prelude.{ℕ, zero, suc, ◌+◌, ◌≤◌, ◌≡◌, ◌==◌, nat_le, Bool, true, false, not, ◌&&◌, ◌||◌, List, ◌∷◌, length, slice_get, Some, refl, if◌then◌else◌}
use Rattle.std.proofs.Common.{arith, sym, ap, subst, ◌∙◌}
use Rattle.std.proofs.lemmas.Bool.Decides.{nat_tests}
use Rattle.cif_defs.specs.Registers.{is_active}
use Rattle.cif_defs.specs.Words.{Word, bit, operand, word, xor, zeros}
use Rattle.cif_defs.proofs.WordLaws.{bit-word, length-word}
use Rattle.cif_term.specs.declared.ops.Op1.TheVariants.{Not}
use Rattle.cif_term.specs.declared.ops.Op2.TheVariants.{Or, Xor}
use Rattle.cif_term.specs.Formulas.{Formula, Value, Taint, Const, Bound, One, Two, Choose, IsFormed, pieces, value_of}
use Rattle.cif_term.proofs.FormedFormulas.{formed_bound, formed_choose, formed_const, formed_let, formed_one, formed_taint, formed_two, formed_value, pieces_narrow, raised}
use Rattle.cif_term.proofs.Values.{value-choose, value-or, value-xor}
use Rattle.rule_state.proofs.BitWords.{word_of_bits}
use Rattle.rule_state.specs.Marks.{Marked, chosen_mark, control_mark, fixed_mark, operand_mark}
use Rattle.rule_state.proofs.BitChoices.{choice_taint, depends}

-- ---- words of n bits, with their bits and the taints of these

pub record Stands (m : Marked) (n : ℕ) (vs ts : List Word) (x tx : ℕ → Bool) : Type 0 where
  pub value : (named : List Word) → value_of m.value vs ts named ≡ word n x
  pub taint : (named : List Word) → value_of m.taint vs ts named ≡ word n tx

pub stands_operand : (p n : ℕ) (vs ts : List Word) → length (operand vs p) ≡ n → length (operand ts p) ≡ n → Stands (operand_mark p) n vs ts (bit (operand vs p)) (bit (operand ts p))
stands_operand p n vs ts e d = record { value = λ named. word_of_bits (operand vs p) n e; taint = λ named. word_of_bits (operand ts p) n d }

pub stands_fixed : (n : ℕ) (w : Word) (vs ts : List Word) → Stands (fixed_mark n w) n vs ts (bit w) (λ i. false)
stands_fixed n w vs ts = record { value = λ named. refl; taint = λ named. refl }

-- ---- controls

pub record StandsControl (m : Marked) (vs ts : List Word) (b tb : Bool) : Type 0 where
  pub value : (named : List Word) → bit (value_of m.value vs ts named) 0 ≡ b
  pub taint : (named : List Word) → bit (value_of m.taint vs ts named) 0 ≡ tb

active_bit_zero : (b : Bool) → not b ≡ is_active 0 b
active_bit_zero true = refl
active_bit_zero false = refl

active_bit_one : (b : Bool) → b ≡ is_active 1 b
active_bit_one true = refl
active_bit_one false = refl

active_never : (k : ℕ) (b : Bool) → false ≡ is_active (suc (suc k)) b
active_never k true = let no : (1 == suc (suc k)) ≡ false = grind (arith, nat_tests) in sym no
active_never k false = let no : (0 == suc (suc k)) ≡ false = grind (arith, nat_tests) in sym no

-- by any other polarity a control is 0, and untainted
no_polarity : (k : ℕ) (f g h : Formula) → (if suc (suc k) == 1 then f else (if suc (suc k) == 0 then g else h)) ≡ h
no_polarity k f g h =
    let one_not : (suc (suc k) == 1) ≡ false = grind (arith, nat_tests) in
    let zero_not : (suc (suc k) == 0) ≡ false = grind (arith, nat_tests) in
    ap (λ x. if x then f else (if suc (suc k) == 0 then g else h)) one_not ∙ ap (λ x. if x then g else h) zero_not

no_dependence : (k : ℕ) (f g : Formula) → (if nat_le (suc (suc k)) 1 then f else g) ≡ g
no_dependence k f g = let more : nat_le (suc (suc k)) 1 ≡ false = grind (arith, nat_tests) in ap (λ x. if x then f else g) more

active_value : (polarity p : ℕ) (vs ts named : List Word) → length (operand vs p) ≡ 1 → bit (value_of (control_mark polarity p).value vs ts named) 0 ≡ is_active polarity (bit (operand vs p) 0)
active_value zero p vs ts named e = bit-word (length (operand vs p)) (λ i. not (bit (operand vs p) i)) 0 false (omega arith) ∙ active_bit_zero (bit (operand vs p) 0)
active_value (suc zero) p vs ts named e = active_bit_one (bit (operand vs p) 0)
active_value (suc (suc k)) p vs ts named e =
    ap (λ (f : Formula). bit (value_of f vs ts named) 0) (no_polarity k (Value p) (One Not (Value p)) (Const (zeros 1))) ∙ active_never k (bit (operand vs p) 0)

and_true : (b : Bool) → b ≡ (b && true)
and_true true = refl
and_true false = refl

and_false : (b : Bool) → false ≡ (b && false)
and_false true = refl
and_false false = refl

depends_never : (k : ℕ) → depends (is_active (suc (suc k))) ≡ false
depends_never k = ap (λ x. xor x (is_active (suc (suc k)) true)) (sym (active_never k false)) ∙ sym (active_never k true)

active_taint : (polarity p : ℕ) (vs ts named : List Word) → bit (value_of (control_mark polarity p).taint vs ts named) 0 ≡ (bit (operand ts p) 0 && depends (is_active polarity))
active_taint zero p vs ts named = and_true (bit (operand ts p) 0)
active_taint (suc zero) p vs ts named = and_true (bit (operand ts p) 0)
active_taint (suc (suc k)) p vs ts named =
    ap (λ (f : Formula). bit (value_of f vs ts named) 0) (no_dependence k (Taint p) (Const (zeros 1)))
    ∙ and_false (bit (operand ts p) 0) ∙ ap (λ x. bit (operand ts p) 0 && x) (sym (depends_never k))

pub stands_control : (polarity p : ℕ) (vs ts : List Word) → length (operand vs p) ≡ 1
    → StandsControl (control_mark polarity p) vs ts (is_active polarity (bit (operand vs p) 0)) (bit (operand ts p) 0 && depends (is_active polarity))
stands_control polarity p vs ts e = record { value = λ named. active_value polarity p vs ts named e; taint = λ named. active_taint polarity p vs ts named }

-- ---- choices

pub stands_chosen : (n : ℕ) (b tb : Bool) (x tx y ty : ℕ → Bool) (c u w : Marked) (vs ts : List Word) → StandsControl c vs ts b tb → Stands u n vs ts x tx → Stands w n vs ts y ty
    → Stands (chosen_mark c u w) n vs ts (λ i. if b then y i else x i) (λ i. choice_taint (x i) (tx i) (y i) (ty i) b tb)
stands_chosen n b tb x tx y ty c u w vs ts hc hu hw = record {
  value = λ named. value-choose n b x y c.value u.value w.value vs ts named (hc.value named) (hu.value named) (hw.value named);
  taint = λ named. in_scope (value_of w.taint vs ts (value_of u.taint vs ts named ∷ named) ∷ value_of u.taint vs ts named ∷ named) (hw.taint (value_of u.taint vs ts named ∷ named)) (hu.taint named);
}
  where
    in_scope : (named : List Word) → operand named 0 ≡ word n ty → operand named 1 ≡ word n tx
        → value_of (Choose c.taint (Choose c.value (Bound 1) (Bound 0)) (Two Or (Two Or (Bound 1) (Bound 0)) (Two Xor u.value w.value))) vs ts named ≡ word n (λ i. choice_taint (x i) (tx i) (y i) (ty i) b tb)
    in_scope named e1 e0 =
        value-choose n tb (λ i. if b then ty i else tx i) (λ i. tx i || ty i || xor (x i) (y i)) c.taint (Choose c.value (Bound 1) (Bound 0)) (Two Or (Two Or (Bound 1) (Bound 0)) (Two Xor u.value w.value)) vs ts named (hc.taint named)
        (value-choose n b tx ty c.value (Bound 1) (Bound 0) vs ts named (hc.value named) e0 e1)
        (value-or n (λ i. tx i || ty i) (λ i. xor (x i) (y i)) (Two Or (Bound 1) (Bound 0)) (Two Xor u.value w.value) vs ts named
        (value-or n tx ty (Bound 1) (Bound 0) vs ts named e0 e1) (value-xor n x y u.value w.value vs ts named (hu.value named) (hw.value named)))

-- ---- forms: over operands of the widths ws, words of n bits of which the value costs at most k, and the taint at most j

pub record AreFormed (m : Marked) (ws : List ℕ) (n k j : ℕ) : Type 0 where
  pub value : (named : List ℕ) → IsFormed m.value ws named n k
  pub taint : (named : List ℕ) → IsFormed m.taint ws named n j

-- how many bits a word of a register has
pub record IsPlain (n : ℕ) : Type 0 where
  pub some : 1 ≤ n
  pub limit : n ≤ 4096

pub formed_operand : (ws : List ℕ) (p n : ℕ) → slice_get ws p ≡ Some n → IsPlain n → AreFormed (operand_mark p) ws n 0 0
formed_operand ws p n e plain = let limit : n ≤ 4096 = plain.limit in record {
  value = λ named. formed_value ws named p n e plain.some (omega arith);
  taint = λ named. formed_taint ws named p n e plain.some (omega arith);
}

pub formed_fixed : (ws : List ℕ) (n : ℕ) (w : Word) → IsPlain n → AreFormed (fixed_mark n w) ws n 0 0
formed_fixed ws n w plain = let limit : n ≤ 4096 = plain.limit in record {
  value = λ named. formed_const (word n (λ i. bit w i)) ws named n (length-word n (λ i. bit w i)) plain.some (omega arith);
  taint = λ named. formed_const (zeros n) ws named n (length-word n (λ i. false)) plain.some (omega arith);
}

formed_active : (polarity p : ℕ) (ws named : List ℕ) → slice_get ws p ≡ Some 1 → IsFormed (control_mark polarity p).value ws named 1 1
formed_active zero p ws named e = formed_one Not (formed_value ws named p 1 e (omega arith) (omega arith))
formed_active (suc zero) p ws named e = raised 1 (formed_value ws named p 1 e (omega arith) (omega arith)) (omega arith)
formed_active (suc (suc k)) p ws named e = subst (λ (x : Formula). IsFormed x ws named 1 1) (sym (no_polarity k (Value p) (One Not (Value p)) (Const (zeros 1))))
    (raised 1 (formed_const (zeros 1) ws named 1 refl (omega arith) (omega arith)) (omega arith))

formed_dependence : (polarity p : ℕ) (ws named : List ℕ) → slice_get ws p ≡ Some 1 → IsFormed (control_mark polarity p).taint ws named 1 0
formed_dependence zero p ws named e = formed_taint ws named p 1 e (omega arith) (omega arith)
formed_dependence (suc zero) p ws named e = formed_taint ws named p 1 e (omega arith) (omega arith)
formed_dependence (suc (suc k)) p ws named e = subst (λ (x : Formula). IsFormed x ws named 1 0) (sym (no_dependence k (Taint p) (Const (zeros 1)))) (formed_const (zeros 1) ws named 1 refl (omega arith) (omega arith))

pub formed_control : (ws : List ℕ) (polarity p : ℕ) → slice_get ws p ≡ Some 1 → AreFormed (control_mark polarity p) ws 1 1 0
formed_control ws polarity p e = record { value = λ named. formed_active polarity p ws named e; taint = λ named. formed_dependence polarity p ws named e }

pub formed_chosen : {c u w : Marked} {ws : List ℕ} {n j k i l : ℕ} → IsPlain n → AreFormed c ws 1 1 0 → AreFormed u ws n j k → AreFormed w ws n i l
    → AreFormed (chosen_mark c u w) ws n (j + i + 2) (j + k + i + l + 6)
formed_chosen {c} {u} {w} {ws} {n} {j} {k} {i} {l} plain hc hu hw =
    let some : 1 ≤ n = plain.some in
    let limit : n ≤ 4096 = plain.limit in
    let narrow : pieces n ≤ 1 = pieces_narrow n limit in
    record {
      value = λ named. raised (j + i + 2) (formed_choose (hc.value named) (hu.value named) (hw.value named) some) (omega arith);
      taint = λ named.
          let inner : List ℕ = n ∷ n ∷ named in
          let x = formed_bound ws inner 1 n refl some (omega arith) in
          let y = formed_bound ws inner 0 n refl some (omega arith) in
          let differ = formed_two Xor (hu.value inner) (hw.value inner) (λ h. absurd (cc)) in
          let either = formed_two Or (formed_two Or x y (λ h. absurd (cc))) differ (λ h. absurd (cc)) in
          let body = formed_choose (hc.taint inner) (formed_choose (hc.value inner) x y some) either some in
          raised (j + k + i + l + 6) (formed_let (hu.taint named) (formed_let (hw.taint (n ∷ named)) body)) (omega arith);
    }
