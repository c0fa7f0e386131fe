-- A plan, part by part.
use Rattle.std.specs.Prelude.{ℕ, ◌+◌, ◌-◌, ◌<◌, ◌≤◌, ◌≡◌, ◌⊎◌, Bool, List, [], ◌∷◌, ◌++◌, length, get_or, map, refl}
use Rattle.std.proofs.Common.{arith, ap, sym, ◌∙◌, inl, inr, subst, length-append}
use Rattle.std.proofs.lemmas.List.{get_or_append_left, get_or-append_right, length-map}
use Rattle.cif_defs.specs.Accepted.{netlist_of}
use Rattle.cif_defs.specs.Loop.{IsLevelled}
use Rattle.cif_defs.specs.declared.raw_module.Raw.{Raw}
use Rattle.cif_seq.specs.Cases.{CaseOf, net_of}
use Rattle.cif_pieces.specs.Parts.{Evaluates, Needs, OwnsCell, owner}
use Rattle.cif_pieces.specs.Plans.{IsPlanOf, PlanOf}
use Rattle.cif_pieces.specs.PlanView.{evaluated_by, needed_by, owned_by, passing_by}
use Rattle.cif_pieces.specs.declared.plan.PartCells.{PartCells}
use Rattle.cif_parts.proofs.Listings.{lists, lists_in_order}
use Rattle.cif_parts.specs.Listing.{IsListed}
use Rattle.cif_parts.specs.Marking.{AreMarks, ArePartMarks}
use Rattle.cif_parts.specs.Planned.{ArePlanned, IsPart}

-- ---- the cells of one part

-- the marks of a part: the cells that it owns, those that it evaluates, and those of which it needs what they store
pub part_marks : (c : CaseOf) (raw : Raw) (parts part count : ℕ) (owned seen evaluated seen2 needed : List Bool) → raw ≡ c.raw → count ≡ length (netlist_of raw).cells → AreMarks owned count (λ x. (x < count) × (owner count parts x ≡ part)) → seen ≡ owned
    → ((q p : ℕ) → AreMarks seen (length (netlist_of raw).cells) (OwnsCell (netlist_of raw) q p) → AreMarks evaluated (length (netlist_of raw).cells) (Evaluates (netlist_of raw) q p)) → seen2 ≡ evaluated
    → ((q p : ℕ) → AreMarks seen2 (length (netlist_of raw).cells) (Evaluates (netlist_of raw) q p) → AreMarks needed (length (netlist_of raw).cells) (Needs (netlist_of raw) q p)) → ArePartMarks c parts part owned evaluated needed
part_marks c raw parts part count owned seen evaluated seen2 needed er ec h es close e2 add =
    let own : AreMarks owned (length (netlist_of raw).cells) (OwnsCell (netlist_of raw) parts part) = subst (λ (k : ℕ). AreMarks owned k (λ x. (x < k) × (owner k parts x ≡ part))) ec h in
    let all : AreMarks evaluated (length (netlist_of raw).cells) (Evaluates (netlist_of raw) parts part) = close parts part (subst (λ (m : List Bool). AreMarks m (length (netlist_of raw).cells) (OwnsCell (netlist_of raw) parts part)) (sym es) own) in
    let more : AreMarks needed (length (netlist_of raw).cells) (Needs (netlist_of raw) parts part) = add parts part (subst (λ (m : List Bool). AreMarks m (length (netlist_of raw).cells) (Evaluates (netlist_of raw) parts part)) (sym e2) all) in
    record {
      owned = subst (λ (x : Raw). AreMarks owned (length (netlist_of x).cells) (OwnsCell (netlist_of x) parts part)) er own;
      evaluated = subst (λ (x : Raw). AreMarks evaluated (length (netlist_of x).cells) (Evaluates (netlist_of x) parts part)) er all;
      needed = subst (λ (x : Raw). AreMarks needed (length (netlist_of x).cells) (Needs (netlist_of x) parts part)) er more;
    }

-- its lists, each by marks as they were read
pub is_part : (c : CaseOf) (parts part : ℕ) (owned evaluated needed o1 e1 e2 n1 : List Bool) (own evaluate pass need : List ℕ) → IsLevelled (net_of c) c.order → ArePartMarks c parts part owned evaluated needed → o1 ≡ owned → e1 ≡ evaluated → e2 ≡ evaluated → n1 ≡ needed
    → IsListed (net_of c) c.order o1 own (length c.order + length (net_of c).cells) → IsListed (net_of c) c.order e1 evaluate (length c.order + length (net_of c).cells) → IsListed (net_of c) c.order e2 pass (length c.order)
    → IsListed (net_of c) c.order n1 need (length c.order + length (net_of c).cells) → IsPart c parts part own evaluate pass need
is_part c parts part owned evaluated needed o1 e1 e2 n1 own evaluate pass need o m eo ee ee' en lo le lp ln = record {
  owned = lists (net_of c) c.order o1 own (OwnsCell (net_of c) parts part) o (rw eo m.owned) lo;
  evaluated = lists (net_of c) c.order e1 evaluate (Evaluates (net_of c) parts part) o (rw ee m.evaluated) le;
  passing = lists_in_order (net_of c) c.order e2 pass (Evaluates (net_of c) parts part) o (rw ee' m.evaluated) lp;
  needed = lists (net_of c) c.order n1 need (Needs (net_of c) parts part) o (rw en m.needed) ln;
}

-- ---- part by part

map_snoc : {A B : Type 0} (f : A → B) (xs : List A) (x : A) → map f (xs ++ x ∷ []) ≡ map f xs ++ f x ∷ []
map_snoc f [] x = refl
map_snoc f (y ∷ ys) x = ap (λ (zs : List _). f y ∷ zs) (map_snoc f ys x)

before_last : {A B : Type 0} (f : A → B) (xs : List A) (x : A) (i : ℕ) (d : B) → i < length xs → get_or (map f (xs ++ x ∷ [])) i d ≡ get_or (map f xs) i d
before_last f xs x i d l = ap (λ (zs : List _). get_or zs i d) (map_snoc f xs x) ∙ get_or_append_left (map f xs) (f x ∷ []) d i (let z : length (map f xs) ≡ length xs = length-map xs f in omega arith)

at_last : {A B : Type 0} (f : A → B) (xs : List A) (x : A) (i : ℕ) (d : B) → i ≡ length xs → get_or (map f (xs ++ x ∷ [])) i d ≡ f x
at_last f xs x i d e =
    let z : length (map f xs) ≡ length xs = length-map xs f in
    let none : i - length xs ≡ 0 = omega arith in
    ap (λ (zs : List _). get_or zs i d) (map_snoc f xs x) ∙ get_or-append_right (map f xs) (f x ∷ []) (length xs) i d z (omega arith) ∙ ap (λ (k : ℕ). get_or (f x ∷ []) k d) none

split_end : (i end : ℕ) → i < end + 1 → (i < end) ⊎ (i ≡ end)
split_end i end h = search arith

pub planned_none : (c : CaseOf) (parts : ℕ) → ArePlanned c parts [] 0
planned_none c parts = record { as_many = refl; each = λ i l. absurd (omega arith) }

part_by : (c : CaseOf) (parts i : ℕ) (a b d e a' b' d' e' : List ℕ) → a' ≡ a → b' ≡ b → d' ≡ d → e' ≡ e → IsPart c parts i a b d e → IsPart c parts i a' b' d' e'
part_by c parts i a b d e a' b' d' e' p q r s h = rw (p, q, r, s) h

pub planned_more : (c : CaseOf) (parts i : ℕ) (old new : List PartCells) (x : PartCells) → new ≡ old ++ x ∷ [] → IsPart c parts i x.owned.items x.evaluated.items x.passing.items x.needed.items → ArePlanned c parts old i → ArePlanned c parts new (i + 1)
planned_more c parts i old new x e p h = subst (λ (xs : List PartCells). ArePlanned c parts xs (i + 1)) (sym e) (record {
  as_many = (let z : length (old ++ x ∷ []) ≡ length old + 1 = length-append old (x ∷ []) in let y : length old ≡ i = h.as_many in omega arith);
  each = λ j l. (let y : length old ≡ i = h.as_many in elim (split_end j i l) [
    | inl k ↦ (let inside : j < length old = omega arith in
        part_by c parts j _ _ _ _ _ _ _ _ (before_last owned_by old x j [] inside) (before_last evaluated_by old x j [] inside) (before_last passing_by old x j [] inside) (before_last needed_by old x j [] inside) (h.each j k))
    | inr s ↦ (let last : j ≡ length old = omega arith in
        part_by c parts j _ _ _ _ _ _ _ _ (at_last owned_by old x j [] last) (at_last evaluated_by old x j [] last) (at_last passing_by old x j [] last) (at_last needed_by old x j [] last)
        (subst (λ (k : ℕ). IsPart c parts k x.owned.items x.evaluated.items x.passing.items x.needed.items) (sym s) p))
  ]);
})

pub planned : (c : CaseOf) (parts end : ℕ) (cells : List PartCells) (p : PlanOf) → parts ≤ end → p.parts ≡ parts → p.owned ≡ map owned_by cells → p.evaluated ≡ map evaluated_by cells → p.passing ≡ map passing_by cells → p.needed ≡ map needed_by cells → ArePlanned c parts cells end → IsPlanOf c p
planned c parts end cells p l e eo ee ep en h = record {
  owned = λ i m. (of i m).owned;
  evaluated = λ i m. (of i m).evaluated;
  passing = λ i m. (of i m).passing;
  needed = λ i m. (of i m).needed;
} where
  of : (i : ℕ) → i < p.parts → IsPart c p.parts i (get_or p.owned i []) (get_or p.evaluated i []) (get_or p.passing i []) (get_or p.needed i [])
  of i m = subst (λ (k : ℕ). IsPart c k i (get_or p.owned i []) (get_or p.evaluated i []) (get_or p.passing i []) (get_or p.needed i [])) (sym e)
      (part_by c parts i _ _ _ _ _ _ _ _ (at_place eo) (at_place ee) (at_place ep) (at_place en) (h.each i (omega arith))) where
        at_place : {xs ys : List (List ℕ)} → xs ≡ ys → get_or xs i [] ≡ get_or ys i []
        at_place q = ap (λ (zs : List (List ℕ)). get_or zs i []) q
