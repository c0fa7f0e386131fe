-- The places of rules.
use Rattle.std.specs.Prelude.{ℕ, zero, suc, ◌+◌, ◌<◌, ◌≤◌, ◌≡◌, List, [], ◌∷◌, ◌++◌, map, length, get_or, take, slice_get, Option, Some, None, IsSome, is_some, refl}
use Rattle.std.proofs.Common.{arith, ap, sym, ◌∙◌}
use Rattle.std.proofs.lemmas.List.{get_or-map, get_or_default, map_push, take_all, take_more}
use Rattle.std.proofs.lemmas.Option.{slice_get_within}
use Rattle.cif_defs.specs.Kinds.{role_of}
use Rattle.cif_defs.specs.Cells.{Cell}
use Rattle.cif_defs.specs.declared.kinds.Role.{Role}
use Rattle.cif_defs.specs.declared.kinds.Role.TheVariants.{Combinational}
use Rattle.cif_shapes.specs.declared.shape.Shape.{Shape}
use Rattle.cif_shapes.specs.Shapes.{shape_of}
use Rattle.cif_shapes.specs.CellRules.{KeepsShapes, StandsFor, rule_by, rule_of, shape_at}

-- ---- reading

at_place : (shapes : List Shape) (places : List (Option ℕ)) (number : ℕ) → get_or (map (shape_at shapes) places) number None ≡ shape_at shapes (get_or places number None)
at_place shapes [] number = refl
at_place shapes (p ∷ places) zero = refl
at_place shapes (p ∷ places) (suc number) = at_place shapes places number

-- what the place of a cell holds
pub placed : (shapes : List Shape) (places : List (Option ℕ)) (now : List (Option Shape)) (number place : ℕ) → map (shape_at shapes) places ≡ now → get_or places number None ≡ Some place → get_or now number None ≡ slice_get shapes place
placed shapes places now number place e f = ap (λ (x : List (Option Shape)). get_or x number None) (sym e) ∙ at_place shapes places number ∙ ap (shape_at shapes) f

-- a cell that has a rule is in the list
has_place : (shapes : List Shape) (places : List (Option ℕ)) (number : ℕ) → IsSome (shape_at shapes (get_or places number None)) → number < length places
has_place shapes [] number h = absurd (cc)
has_place shapes (p ∷ places) zero h = omega arith
has_place shapes (p ∷ places) (suc number) h = let l : number < length places = has_place shapes places number h in omega arith

pub inside : (shapes : List Shape) (places : List (Option ℕ)) (now : List (Option Shape)) (number : ℕ) → map (shape_at shapes) places ≡ now → IsSome (get_or now number None) → number < length places
inside shapes places now number e h =
    let read : get_or now number None ≡ shape_at shapes (get_or places number None) = ap (λ (x : List (Option Shape)). get_or x number None) (sym e) ∙ at_place shapes places number in
    has_place shapes places number (ap is_some (sym read) ∙ h)

-- a place that is read
pub read_place : (shapes : List Shape) (places : List (Option ℕ)) (now : List (Option Shape)) (number : ℕ) (read : Option ℕ) (place : ℕ) → map (shape_at shapes) places ≡ now → IsSome (get_or now number None) → read ≡ get_or places number read → read ≡ Some place → get_or places number None ≡ Some place
read_place shapes places now number read place v h e f = get_or_default places number None read (inside shapes places now number v h) ∙ sym e ∙ f

some_within : (shapes : List Shape) (place : ℕ) (o : Option Shape) → slice_get shapes place ≡ o → IsSome o → place < length shapes
some_within shapes place None e h = absurd (cc)
some_within shapes place (Some s) e h = slice_get_within shapes place s e

pub place_within : (shapes : List Shape) (places : List (Option ℕ)) (now : List (Option Shape)) (number place : ℕ) → map (shape_at shapes) places ≡ now → get_or places number None ≡ Some place → IsSome (get_or now number None) → place < length shapes
place_within shapes places now number place e f h = some_within shapes place (get_or now number None) (sym (placed shapes places now number place e f)) h

-- ---- the rule of a combinational cell of a list

pub rule_is : (c : Cell) → role_of c.kind ≡ Combinational → rule_of c ≡ Some (shape_of c)
rule_is c r = ap (λ (x : Role). rule_by x c) r

pub rule_at : (cells : List Cell) (number : ℕ) (d : Cell) → number < length cells → role_of (get_or cells number d).kind ≡ Combinational → get_or (map rule_of cells) number None ≡ Some (shape_of (get_or cells number d))
rule_at cells number d l r = get_or-map rule_of cells number d None l ∙ rule_is (get_or cells number d) r

-- ---- making

pub keeps_self : (shapes : List Shape) → KeepsShapes shapes shapes
keeps_self shapes = record { each = λ place s h. h }

keeps_both : (a b c : List Shape) → KeepsShapes a b → KeepsShapes b c → KeepsShapes a c
keeps_both a b c k m = record { each = λ place s h. m.each place s (k.each place s h) }

-- one cell more
pub stands_more : (cells : List Cell) (i : ℕ) (c : Cell) (shapes news : List Shape) (places pushed : List (Option ℕ)) (place : Option ℕ) → i < length cells
    → ((longer : List Shape) → KeepsShapes shapes longer → map (shape_at longer) places ≡ map rule_of (take i cells))
    → StandsFor news place (rule_of c) → KeepsShapes shapes news → pushed ≡ places ++ place ∷ [] → c ≡ get_or cells i c
    → (longer : List Shape) → KeepsShapes news longer → map (shape_at longer) pushed ≡ map rule_of (take (i + 1) cells)
stands_more cells i c shapes news places pushed place l h s k e g = λ longer m.
    ap (map (shape_at longer)) e ∙ map_push (shape_at longer) places place
    ∙ ap (λ (xs : List (Option Shape)). xs ++ shape_at longer place ∷ []) (h longer (keeps_both shapes news longer k m))
    ∙ ap (λ (x : Option Shape). map rule_of (take i cells) ++ x ∷ []) (s.later longer m ∙ ap rule_of g)
    ∙ sym (ap (map rule_of) (take_more cells i c l) ∙ map_push rule_of (take i cells) (get_or cells i c))

-- all cells
pub stands_all : (cells : List Cell) (i : ℕ) (shapes : List Shape) (places : List (Option ℕ)) → length cells ≤ i
    → ((longer : List Shape) → KeepsShapes shapes longer → map (shape_at longer) places ≡ map rule_of (take i cells)) → map (shape_at shapes) places ≡ map rule_of cells
stands_all cells i shapes places l h = h shapes (keeps_self shapes) ∙ ap (map rule_of) (take_all i cells l)
