-- A cell among cells each of which has a name of its own.
use Rattle.std.specs.Prelude.{ℕ, zero, suc, ◌<◌, ◌≡◌, Bool, true, false, ◌&&◌, ◌||◌, List, [], ◌∷◌, map, length, get_or, bytes_eq, Option, Some, None, refl, unwrap_or}
use Rattle.std.proofs.Common.{arith, sym, ap, ◌∙◌, cond}
use Rattle.std.specs.List.{find, list_any}
use Rattle.std.proofs.lemmas.Slice.Eq.{bytes_eq-Decides}
use Rattle.std.proofs.lemmas.List.{get_or_default}
use Rattle.cif_defs.specs.Cells.{Cell}
use Rattle.cif_defs.specs.Kinds.{role_of}
use Rattle.cif_defs.specs.Order.{AreInOrder, AreCellsInOrder, place_among}
use Rattle.cif_defs.specs.Netlist.{Netlist, no_wire}
use Rattle.cif_defs.specs.declared.nets.Wire.{Wire}
use Rattle.cif_defs.proofs.NameOrder.{own_place}
use Rattle.cif_stimulus.specs.Names.{place_named, port_name, cell_name}
use Rattle.cif_stimulus.proofs.NamePlaces.{named, named_among, missing}
use Rattle.cif_augment.specs.Names.{is_reset_register}
use Rattle.cif_augment.specs.Stimuli.{input_bits, is_reset_named}

-- ---- whether one of some things passes a test

pub any_at : {A : Type 0} (test : A → Bool) (xs : List A) (p : ℕ) (d : A) → p < length xs → test (get_or xs p d) ≡ true → list_any test xs ≡ true
any_at test [] p d h t = absurd (omega arith)
any_at test (x ∷ xs) zero d h t = ap (λ b. b || list_any test xs) t
any_at test (x ∷ xs) (suc p) d h t = ap (λ b. test x || b) (any_at test xs p d (omega arith) t) ∙ or_true (test x) where
  or_true : (b : Bool) → (b || true) ≡ true
  or_true true = refl
  or_true false = refl

pub none_at : {A : Type 0} (test : A → Bool) (xs : List A) (d : A) → ((k : ℕ) → k < length xs → test (get_or xs k d) ≡ false) → list_any test xs ≡ false
none_at test [] d f = refl
none_at test (x ∷ xs) d f = ap (λ b. b || list_any test xs) (f 0 (omega arith)) ∙ none_at test xs d (λ k l. f (suc k) (omega arith))

none_step : {A : Type 0} (x : A) (found : Option A) (s q rest : Bool) → cond s (Some x) found ≡ None → (found ≡ None → rest ≡ false) → (s && q || rest) ≡ false
none_step x found true q rest h next = absurd (cc)
none_step x found false q rest h next = next h

-- nothing has a name, so nothing has it and passes a test
pub none_named : {A : Type 0} (test other : A → Bool) (xs : List A) → find test xs ≡ None → list_any (λ x. test x && other x) xs ≡ false
none_named test other [] h = refl
none_named test other (x ∷ xs) h = none_step x (find test xs) (test x) (other x) (list_any (λ y. test y && other y) xs) h (none_named test other xs)

some_inj : (p k : ℕ) → Some p ≡ Some k → p ≡ k
some_inj p k e = ap (λ o. unwrap_or o 0) e

-- the thing of a name is the only one
pub only_named : {A : Type 0} (name_of : A → List ℕ) (xs : List A) (name : List ℕ) (other : A → Bool) (p : ℕ) (d : A) → AreInOrder (map name_of xs) → place_among name_of xs name ≡ Some p → list_any (λ x. bytes_eq (name_of x) name && other x) xs ≡ other (get_or xs p d)
only_named {A} name_of xs name other p d order h = by_test (other (get_or xs p d)) refl where
  at : (p < length xs) × (bytes_eq (name_of (get_or xs p d)) name ≡ true)
  at = ((named_among name_of xs d name p h).inside, (bytes_eq-Decides (name_of (get_or xs p d)) name).1 (named_among name_of xs d name p h).same)

  elsewhere : (k : ℕ) → k < length xs → (b : Bool) → bytes_eq (name_of (get_or xs k d)) name ≡ b → other (get_or xs p d) ≡ false → (b && other (get_or xs k d)) ≡ false
  elsewhere k l false e f = refl
  elsewhere k l true e f =
      let same : name_of (get_or xs k d) ≡ name = (bytes_eq-Decides (name_of (get_or xs k d)) name).0 e in
      let here : k ≡ p = some_inj k p (sym (own_place name_of xs k d order l) ∙ ap (λ (q : List ℕ). place_among name_of xs q) same ∙ h) in
      ap (λ j. other (get_or xs j d)) here ∙ f

  by_test : (b : Bool) → other (get_or xs p d) ≡ b → list_any (λ x. bytes_eq (name_of x) name && other x) xs ≡ b
  by_test true e = any_at (λ x. bytes_eq (name_of x) name && other x) xs p d at.0 (ap (λ b. b && other (get_or xs p d)) at.1 ∙ e)
  by_test false e = none_at (λ x. bytes_eq (name_of x) name && other x) xs d (λ k l. elsewhere k l (bytes_eq (name_of (get_or xs k d)) name) refl e)

-- ---- what stands at a place that was found

pub place_inside : {A : Type 0} (name_of : A → List ℕ) (ys xs : List A) (name : List ℕ) (p : ℕ) (d : A) → ys ≡ xs → Some p ≡ place_among name_of xs name → p < length ys
place_inside {A} name_of ys xs name p d same h = (let e : length ys ≡ length xs = ap (λ (zs : List A). length zs) same in let l = (named_among name_of xs d name p (sym h)).inside in omega arith)

pub bits_read : (n : Netlist) (ys : List Wire) (name : List ℕ) (p : ℕ) (x : Wire) → ys ≡ n.inputs → Some p ≡ place_named n.inputs name → x ≡ get_or ys p x → x.bits ≡ input_bits n name
bits_read n ys name p x same h is =
    ap (λ (w : Wire). w.bits) (is ∙ get_or_default ys p x no_wire (place_inside port_name ys n.inputs name p no_wire same h) ∙ ap (λ (zs : List Wire). get_or zs p no_wire) same)
    ∙ ap (λ (o : Option Wire). (unwrap_or o no_wire).bits) (sym (named n.inputs name p (sym h)).found)

pub no_bits : (n : Netlist) (name : List ℕ) → None ≡ place_named n.inputs name → [] ≡ input_bits n name
no_bits n name h = ap (λ (o : Option Wire). (unwrap_or o no_wire).bits) (sym (missing port_name n.inputs name (sym h)))

pub reset_read : (n : Netlist) (ys : List Cell) (name : List ℕ) (p : ℕ) (x : Cell) → ys ≡ n.cells → AreCellsInOrder ys → Some p ≡ place_among cell_name n.cells name → x ≡ get_or ys p x → is_reset_register (role_of x.kind) ≡ is_reset_named n name
reset_read n ys name p x same order h is =
    let at : place_among cell_name ys name ≡ Some p = ap (λ (zs : List Cell). place_among cell_name zs name) same ∙ sym h in
    ap (λ (c : Cell). is_reset_register (role_of c.kind)) is
    ∙ sym (only_named cell_name ys name (λ (c : Cell). is_reset_register (role_of c.kind)) p x order at)
    ∙ ap (λ (zs : List Cell). list_any (λ (c : Cell). bytes_eq c.name name && is_reset_register (role_of c.kind)) zs) same

pub no_reset : (n : Netlist) (name : List ℕ) → None ≡ place_among cell_name n.cells name → false ≡ is_reset_named n name
no_reset n name h = sym (none_named (λ (c : Cell). bytes_eq c.name name) (λ (c : Cell). is_reset_register (role_of c.kind)) n.cells (missing cell_name n.cells name (sym h)))
