-- The output bits of a cell are the net bits that it drives.
use Rattle.std.specs.Prelude.{ℕ, ◌+◌, ◌*◌, ◌/◌, ◌%◌, ◌<◌, ◌≡◌, ◌==◌, true, List, [], ◌∷◌, length, get_or, map, Option, Some, None, refl}
use Rattle.std.proofs.Common.{arith, ap, sym, ◌∙◌, inl, inr, subst}
use Rattle.std.proofs.lemmas.Bool.{eqb-true}
use Rattle.std.proofs.lemmas.Bool.Decides.{nat_tests}
use Rattle.std.proofs.lemmas.List.{get_or_past}
use Rattle.cif_defs.specs.Cells.{Cell, width}
use Rattle.cif_defs.specs.Evaluation.{is_of_cell}
use Rattle.cif_defs.specs.Fitted.{IsFitted, row_width}
use Rattle.cif_defs.specs.Kinds.{role_of}
use Rattle.cif_defs.specs.Netlist.{IsWired, Netlist, cell_at, driver_of, no_cell, output_at, role_at}
use Rattle.cif_defs.specs.Table.{outputs_of}
use Rattle.cif_defs.specs.declared.kinds.Kind.{Kind}
use Rattle.cif_defs.specs.declared.kinds.Kind.TheVariants.{ScopeInfo}
use Rattle.cif_defs.specs.declared.kinds.Role.{Role}
use Rattle.cif_defs.specs.declared.kinds.Role.TheVariants.{CarriedOver, Combinational, MemoryBlock, PlainRegister, ResetRegister}
use Rattle.cif_defs.specs.declared.nets.Driver.{Driver}
use Rattle.cif_defs.specs.declared.nets.Driver.TheVariants.{Input, Output, Register, Read, Clock}
use Rattle.cif_defs.proofs.WordLaws.{le_or_lt}
use Rattle.cif_level.proofs.Driving.{HasOneOutput}
use Rattle.cif_cells.specs.NetlistView.{AreFitted}
use Rattle.cif_parts.specs.Joining.{IsOutputBefore}

-- ---- a cell that is carried over has no outputs

carried_outputs : (k : Kind) → role_of k ≡ CarriedOver → outputs_of k ≡ []
unfolding outputs_of
carried_outputs ScopeInfo h = refl
carried_outputs _ h = absurd (cc)

none_mapped : {A : Type 0} (f : A → ℕ) (xs : List A) → map f xs ≡ [] → xs ≡ []
none_mapped f [] h = refl
none_mapped f (x ∷ xs) h = absurd (cc)

no_cell_outputs : (c : Cell) → c ≡ no_cell → c.outputs ≡ []
no_cell_outputs c e = ap (λ (x : Cell). x.outputs) e

-- what is asked of a netlist here
pub record AreDriven (n : Netlist) : Type 0 where
  pub wired : IsWired n
  pub one : HasOneOutput n
  pub carried : (c : ℕ) → role_at n c ≡ CarriedOver → (cell_at n c).outputs ≡ []

carried_by : (c : Cell) → IsFitted c → role_of c.kind ≡ CarriedOver → c.outputs ≡ []
carried_by c f h = none_mapped length c.outputs (f.outputs ∙ ap (map (row_width c)) (carried_outputs c.kind h))

pub are_driven : (n : Netlist) → IsWired n → HasOneOutput n → AreFitted n.cells → AreDriven n
unfolding AreFitted
are_driven n w o f = record {
  wired = w;
  one = o;
  carried = λ c h. elim (le_or_lt c (length n.cells)) [
    | inl l ↦ carried_by (cell_at n c) (f c l) h
    | inr l ↦ no_cell_outputs (cell_at n c) (get_or_past n.cells c no_cell l)
  ];
}

-- ---- an output bit is driven by the cell

pub own_cell : (c : ℕ) → (c == c) ≡ true
own_cell c = grind (arith, nat_tests)

first_output : (n : Netlist) (c p i b : ℕ) → p ≡ 0 → output_at (cell_at n c) p i ≡ Some b → output_at (cell_at n c) 0 i ≡ Some b
first_output n c p i b e h = subst (λ (q : ℕ). output_at (cell_at n c) q i ≡ Some b) e h

by_role : (n : Netlist) (c p i b : ℕ) (role : Role) → AreDriven n → role_at n c ≡ role → output_at (cell_at n c) p i ≡ Some b → is_of_cell c (driver_of n b) ≡ true
by_role n c p i b Combinational d e h = ap (is_of_cell c) (d.wired.by_output c p i b e h) ∙ own_cell c
by_role n c p i b PlainRegister d e h =
    let at_0 : p ≡ 0 = d.one.only c p i b (λ f. absurd (cc)) h in
    ap (is_of_cell c) (d.wired.by_register c i b (inl e) (first_output n c p i b at_0 h)) ∙ own_cell c
by_role n c p i b ResetRegister d e h =
    let at_0 : p ≡ 0 = d.one.only c p i b (λ f. absurd (cc)) h in
    ap (is_of_cell c) (d.wired.by_register c i b (inr e) (first_output n c p i b at_0 h)) ∙ own_cell c
by_role n c p i b MemoryBlock d e h =
    let at_0 : p ≡ 0 = d.one.only c p i b (λ f. absurd (cc)) h in
    let wide : 0 < width (cell_at n c) = d.one.has_bits c e in
    let k : ℕ = width (cell_at n c) in
    let parts : (i / k) * k + i % k ≡ i = omega arith in
    let low : i % k < k = omega arith in
    let placed : output_at (cell_at n c) 0 ((i / k) * k + i % k) ≡ Some b = subst (λ (j : ℕ). output_at (cell_at n c) 0 j ≡ Some b) (sym parts) (first_output n c p i b at_0 h) in
    ap (is_of_cell c) (d.wired.by_read c (i / k) (i % k) b e low placed) ∙ own_cell c
by_role n c p i b CarriedOver d e h = absurd (let z : None ≡ Some b = sym (ap (λ (xs : List (List (Option ℕ))). get_or (get_or xs p []) i None) (d.carried c e)) ∙ h in cc)

pub output_driven : (n : Netlist) (c b : ℕ) → AreDriven n → IsOutputBefore (cell_at n c).outputs (length (cell_at n c).outputs) b → is_of_cell c (driver_of n b) ≡ true
output_driven n c b d h = by_role n c h.port h.place b (role_at n c) d refl h.is

-- ---- a bit that the cell drives is one of its output bits

port_inside : (outputs : List (List (Option ℕ))) (p i b : ℕ) → get_or (get_or outputs p []) i None ≡ Some b → p < length outputs
port_inside outputs p i b h = elim (le_or_lt p (length outputs)) [
  | inl l ↦ l
  | inr l ↦ absurd (let z : None ≡ Some b = sym (ap (λ (xs : List (Option ℕ)). get_or xs i None) (get_or_past outputs p [] l)) ∙ h in cc)
]

placed : (n : Netlist) (c x p i b : ℕ) → (c == x) ≡ true → output_at (cell_at n x) p i ≡ Some b → IsOutputBefore (cell_at n c).outputs (length (cell_at n c).outputs) b
placed n c x p i b e h =
    let here : output_at (cell_at n c) p i ≡ Some b = subst (λ (y : ℕ). output_at (cell_at n y) p i ≡ Some b) (sym (eqb-true c x e)) h in
    record { port = p; before = port_inside (cell_at n c).outputs p i b here; place = i; is = here }

pub driven_output : (n : Netlist) (c b : ℕ) → IsWired n → is_of_cell c (driver_of n b) ≡ true → IsOutputBefore (cell_at n c).outputs (length (cell_at n c).outputs) b
driven_output n c b w h = by (driver_of n b) refl h where
  by : (g : Driver) → driver_of n b ≡ g → is_of_cell c g ≡ true → IsOutputBefore (cell_at n c).outputs (length (cell_at n c).outputs) b
  by (Output x p i) e f = placed n c x p i b f (w.output_place b x p i e)
  by (Read x p i) e f = placed n c x 0 _ b f (w.read_place b x p i e).1
  by (Register x i) e f = placed n c x 0 i b f (w.register_place b x i e)
  by (Input p i) e f = absurd (cc)
  by Clock e f = absurd (cc)
