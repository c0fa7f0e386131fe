-- The formula of a choice's taint: its value and its cost.
use Rattle.std.specs.Prelude.{ℕ, ◌*◌, ◌≤◌, ◌≡◌, Bool, ◌||◌, List, if◌then◌else◌}
use Rattle.std.proofs.Common.{arith}
use Rattle.cif_defs.specs.Words.{Word, bit, word, xor}
use Rattle.cif_term.specs.declared.ops.Op2.TheVariants.{Or, Xor}
use Rattle.cif_term.specs.Formulas.{Formula, Two, Choose, IsFormed, value_of, pieces}
use Rattle.cif_term.proofs.FormedFormulas.{formed_choose, formed_two, raised}
use Rattle.cif_term.proofs.Values.{value-choose, value-or, value-xor}
use Rattle.rule_select.specs.Choices.{choice_taint, taint_choice}

pub value-taint_choice : (n : ℕ) (b bt : Bool) (px pt py pu : ℕ → Bool) (s st x tx y ty : Formula) (vs ts named : List Word) → bit (value_of s vs ts named) 0 ≡ b → bit (value_of st vs ts named) 0 ≡ bt
    → value_of x vs ts named ≡ word n px → value_of tx vs ts named ≡ word n pt → value_of y vs ts named ≡ word n py → value_of ty vs ts named ≡ word n pu
    → value_of (taint_choice s st x tx y ty) vs ts named ≡ word n (λ i. choice_taint (px i) (pt i) (py i) (pu i) b bt)
value-taint_choice n b bt px pt py pu s st x tx y ty vs ts named e et ex etx ey ety =
    value-choose n bt (λ i. if b then pu i else pt i) (λ i. pt i || pu i || xor (px i) (py i)) st (Choose s tx ty) (Two Or (Two Or tx ty) (Two Xor x y)) vs ts named et
    (value-choose n b pt pu s tx ty vs ts named e etx ety)
    (value-or n (λ i. pt i || pu i) (λ i. xor (px i) (py i)) (Two Or tx ty) (Two Xor x y) vs ts named (value-or n pt pu tx ty vs ts named etx ety) (value-xor n px py x y vs ts named ex ey))

pub formed_taint_choice : {s st x tx y ty : Formula} {ws named : List ℕ} {n : ℕ} → IsFormed s ws named 1 0 → IsFormed st ws named 1 0
    → IsFormed x ws named n 0 → IsFormed tx ws named n 0 → IsFormed y ws named n 0 → IsFormed ty ws named n 0 → 1 ≤ n → IsFormed (taint_choice s st x tx y ty) ws named n (5 * pieces n)
formed_taint_choice {n = n} s st x tx y ty some =
    let differ = formed_two Xor x y (λ h. absurd (cc)) in
    let either = formed_two Or tx ty (λ h. absurd (cc)) in
    let joined = formed_two Or either differ (λ h. absurd (cc)) in
    raised (5 * pieces n) (formed_choose st (formed_choose s tx ty some) joined some) (omega arith)
