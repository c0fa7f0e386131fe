-- Which net bits the cells cover that a part uses: those that its passing cells work out, and all that these read.
use Rattle.std.specs.Prelude.{ℕ, suc, ◌+◌, ◌<◌, ◌≡◌, ◌⊎◌, ◌==◌, true, false, List, [], ◌∷◌, ◌++◌, length, get_or, Some, refl}
use Rattle.std.proofs.Common.{arith, sym, ap, subst, ◌∙◌, inl, inr, length-append}
use Rattle.std.proofs.lemmas.List.{get_or_append_left}
use Rattle.std.proofs.lemmas.Bool.Decides.{nat_tests}
use Rattle.std.proofs.lemmas.List.Folds.{list_any_at}
use Rattle.cif_defs.specs.Cells.{Cell}
use Rattle.cif_defs.specs.Evaluation.{is_of_cell}
use Rattle.cif_defs.specs.Loop.{IsLevelled, counts, is_passing}
use Rattle.cif_defs.specs.Netlist.{IsWired, Netlist, cell_at, driver_of, operand_at, output_at, role_at}
use Rattle.cif_defs.specs.declared.kinds.Role.{Role}
use Rattle.cif_defs.specs.declared.kinds.Role.TheVariants.{CarriedOver, Combinational, MemoryBlock, PlainRegister, ResetRegister}
use Rattle.cif_defs.specs.declared.nets.Driver.{Driver}
use Rattle.cif_defs.specs.declared.nets.Driver.TheVariants.{Input, Output, Register, Read, Clock}
use Rattle.cif_defs.specs.declared.nets.Src.TheVariants.{Bit}
use Rattle.cif_defs.proofs.Exact.{or_true}
use Rattle.cif_defs.proofs.Orders.{has_place, in_range, place_in}
use Rattle.cif_shown.specs.Shown.{AreClosed, CoverBits}
use Rattle.cif_pieces.specs.Parts.{Evaluates, EvaluatesInTurn, Needs, OwnsCell, OwnsNet, Uses, driver_owner, owner, stores}
use Rattle.cif_pieces.specs.Plans.{IsPlanOf, Lists, PlanOf}
use Rattle.cif_seq.specs.Cases.{CaseOf, net_of}
use Rattle.cif_parts.specs.Running.{AreStoring, covers, covers_by, is_among, used_cells}
use Rattle.cif_parts.proofs.Leading.{feeds_passing, feeds_on}
use Rattle.cif_parts.proofs.Listings.{comes_placed}
use Rattle.cif_parts.proofs.Meeting.{role_inside}

-- ---- cells of a list

same_number : (c d : ℕ) → (c == d) ≡ true → c ≡ d
same_number c d h = grind (arith, nat_tests)

own_number : (c : ℕ) → (c == c) ≡ true
own_number c = grind (arith, nat_tests)

pub among_found : (cells : List ℕ) (c : ℕ) → is_among cells c ≡ true → (i : ℕ) × (i < length cells) × (get_or cells i 0 ≡ c)
among_found [] c h = absurd (cc)
among_found (x ∷ cells) c h = elim (or_true (x == c) (is_among cells c) h) [
  | inl e ↦ (0, omega arith, same_number x c e)
  | inr e ↦ (let rest = among_found cells c e in (suc rest.0, omega arith, rest.2))
]

pub among_at : (cells : List ℕ) (i c : ℕ) → i < length cells → get_or cells i 0 ≡ c → is_among cells c ≡ true
among_at cells i c l e = list_any_at (λ x. x == c) cells i 0 l (ap (λ x. x == c) e ∙ own_number c)

pub listed_among : (order : List ℕ) (P : ℕ → Type 0) (cells : List ℕ) (c : ℕ) → Lists order P cells → P c → is_among cells c ≡ true
listed_among order P cells c h p = let at = h.has_each c p in among_at cells at.0 c at.1 at.2

pub among_listed : (order : List ℕ) (P : ℕ → Type 0) (cells : List ℕ) (c : ℕ) → Lists order P cells → is_among cells c ≡ true → P c
among_listed order P cells c h e = let at = among_found cells c e in subst (λ (x : ℕ). P x) at.2 (h.only at.0 at.1)

among_left : (xs ys : List ℕ) (c : ℕ) → is_among xs c ≡ true → is_among (xs ++ ys) c ≡ true
among_left xs ys c h =
    let at = among_found xs c h in
    let l : at.0 < length xs = at.1 in
    let z : length (xs ++ ys) ≡ length xs + length ys = length-append xs ys in
    among_at (xs ++ ys) at.0 c (omega arith) (get_or_append_left xs ys 0 at.0 l ∙ at.2)

among_right : (xs ys : List ℕ) (c : ℕ) → is_among ys c ≡ true → is_among (xs ++ ys) c ≡ true
among_right [] ys c h = h
among_right (x ∷ xs) ys c h = let at = among_found (xs ++ ys) c (among_right xs ys c h) in let l : at.0 < length (xs ++ ys) = at.1 in among_at (x ∷ xs ++ ys) (suc at.0) c (omega arith) at.2

among_either : (xs ys : List ℕ) (c : ℕ) → is_among (xs ++ ys) c ≡ true → (is_among xs c ≡ true) ⊎ (is_among ys c ≡ true)
among_either [] ys c h = inr h
among_either (x ∷ xs) ys c h = elim (or_true (x == c) (is_among (xs ++ ys) c) h) [
  | inl e ↦ inl (among_at (x ∷ xs) 0 c (omega arith) (same_number x c e))
  | inr e ↦ elim (among_either xs ys c e) [
    | inl f ↦ (let at = among_found xs c f in let l : at.0 < length xs = at.1 in inl (among_at (x ∷ xs) (suc at.0) c (omega arith) at.2))
    | inr f ↦ inr f
  ]
]

-- ---- the cells that a part uses, as a plan lists them

-- a list has the cells that a part uses, and no others
pub record AreUsed (n : Netlist) (parts part : ℕ) (cells : List ℕ) : Type 0 where
  pub each : (c : ℕ) → Uses n parts part c → is_among cells c ≡ true
  pub only : (c : ℕ) → is_among cells c ≡ true → Uses n parts part c

pub plan_uses : (c : CaseOf) (p : PlanOf) (part : ℕ) → IsPlanOf c p → part < p.parts → AreUsed (net_of c) p.parts part (used_cells p part)
plan_uses c p part h l = record {
  each = λ x uses. elim uses [
    | inl e ↦ among_left evaluated needed x (listed_among c.order (Evaluates (net_of c) p.parts part) evaluated x (h.evaluated part l) e)
    | inr r ↦ among_right evaluated needed x (listed_among c.order (Needs (net_of c) p.parts part) needed x (h.needed part l) (inr r, ap stores r.shows.plain))
  ];
  only = λ x e. elim (among_either evaluated needed x e) [
    | inl f ↦ inl (among_listed c.order (Evaluates (net_of c) p.parts part) evaluated x (h.evaluated part l) f)
    | inr f ↦ (among_listed c.order (Needs (net_of c) p.parts part) needed x (h.needed part l) f).0
  ];
} where
  evaluated : List ℕ
  evaluated = get_or p.evaluated part []

  needed : List ℕ
  needed = get_or p.needed part []

-- ---- cells that a part uses are cells of the netlist

evaluates_inside : (n : Netlist) (parts part c : ℕ) → Evaluates n parts part c → c < length n.cells
evaluates_inside n parts part c (inl owns) = owns.0
evaluates_inside n parts part c (inr feeds) = in_range n c (feeds_passing n parts part c feeds)

pub uses_inside : (n : Netlist) (parts part c : ℕ) → Uses n parts part c → c < length n.cells
uses_inside n parts part c (inl e) = evaluates_inside n parts part c e
uses_inside n parts part c (inr read) = role_inside n c (λ e. absurd (let z : PlainRegister ≡ CarriedOver = sym read.shows.plain ∙ e in cc))

pub used_inside : (n : Netlist) (parts part : ℕ) (used : List ℕ) (i : ℕ) → AreUsed n parts part used → i < length used → get_or used i 0 < length n.cells
used_inside n parts part used i h l = uses_inside n parts part (get_or used i 0) (h.only (get_or used i 0) (among_at used i (get_or used i 0) l refl))

pub plan_storing : (c : CaseOf) (p : PlanOf) (part : ℕ) (needed : List ℕ) → IsPlanOf c p → part < p.parts → needed ≡ get_or p.needed part [] → AreStoring (net_of c) needed
plan_storing c p part needed h l e =
    let lists : Lists c.order (Needs (net_of c) p.parts part) needed = subst (λ (xs : List ℕ). Lists c.order (Needs (net_of c) p.parts part) xs) (sym e) (h.needed part l) in
    record {
      inside = λ i m. uses_inside (net_of c) p.parts part (get_or needed i 0) (lists.only i m).0;
      storing = λ i m. (lists.only i m).1;
    }

-- ---- a covered bit's cell is listed

among_by : (cells : List ℕ) (c : ℕ) (d : Driver) → covers_by cells d ≡ true → is_of_cell c d ≡ true → is_among cells c ≡ true
among_by cells c (Output d p i) h e = ap (is_among cells) (same_number c d e) ∙ h
among_by cells c (Register d i) h e = ap (is_among cells) (same_number c d e) ∙ h
among_by cells c (Read d r i) h e = ap (is_among cells) (same_number c d e) ∙ h
among_by cells c (Input p i) h e = absurd (cc)
among_by cells c Clock h e = absurd (cc)

pub driver_among : (n : Netlist) (cells : List ℕ) (b c : ℕ) → covers n cells b ≡ true → is_of_cell c (driver_of n b) ≡ true → is_among cells c ≡ true
driver_among n cells b c h e = among_by cells c (driver_of n b) h e

-- a passing cell that a part uses is evaluated
uses_evaluates : (n : Netlist) (parts part c : ℕ) → is_passing (role_at n c) ≡ true → Uses n parts part c → Evaluates n parts part c
uses_evaluates n parts part c p (inl e) = e
uses_evaluates n parts part c p (inr read) = absurd (let z : is_passing (role_at n c) ≡ false = ap is_passing read.shows.plain in cc)

-- ---- the passing cells of a part, as a plan lists them

pub part_covers : (n : Netlist) (order : List ℕ) (parts part : ℕ) (passing used : List ℕ) → IsLevelled n order → Lists order (EvaluatesInTurn n parts part) passing → AreUsed n parts part used → CoverBits n order passing (covers n used)
part_covers n order parts part passing used o pass uses = record {
  passing = λ i l. (pass.only i l).1;
  rising = λ i j f l. (
      let p = (pass.only i (let z : j < length passing = l in omega arith)).1 in let q = (pass.only j l).1 in
      let at = has_place n order (get_or passing i 0) o p in let later = has_place n order (get_or passing j 0) o q in
      record {
        place = place_in order (get_or passing i 0);
        later = place_in order (get_or passing j 0);
        before = comes_placed n order (get_or passing i 0) (get_or passing j 0) o p q (pass.ordered i j f l);
        inside = later.0;
        is = at.1;
        other = later.1;
      });
  drive = λ b c k is p. pass.has_each c (uses_evaluates n parts part c p (uses.only c (driver_among n used b c k is)), p);
}

-- ---- what an evaluated cell reads is covered

-- an operand bit of an evaluated cell, where the passing cells that drive it are evaluated
read_covered_by : (n : Netlist) (parts part : ℕ) (used : List ℕ) (c q j x : ℕ) (d : Driver) → IsWired n → AreUsed n parts part used → Evaluates n parts part c → operand_at (cell_at n c) q j ≡ Bit x
    → ((e o f : ℕ) → is_passing (role_at n e) ≡ true → output_at (cell_at n e) o f ≡ Some x → Evaluates n parts part e) → driver_of n x ≡ d → covers_by used d ≡ true
read_covered_by n parts part used c q j x (Input p i) w uses ev at fed e = refl
read_covered_by n parts part used c q j x Clock w uses ev at fed e = refl
read_covered_by n parts part used c q j x (Output y p i) w uses ev at fed e =
    uses.each y (inl (fed y p i (ap is_passing (w.output_role x y p i e)) (w.output_place x y p i e)))
read_covered_by n parts part used c q j x (Read y r i) w uses ev at fed e =
    uses.each y (inl (fed y 0 _ (ap is_passing (w.read_role x y r i e)) (w.read_place x y r i e).1))
read_covered_by n parts part used c q j x (Register y i) w uses ev at fed e = elim (w.register_role x y i e) [
  | inl plain ↦ uses.each y (inr (record {
    reader = c;
    shows = record { plain = plain; output = 0; from = i; operand = q; to = j; net = x; is_output = w.register_place x y i e; is_operand = at };
    evaluates = ev;
  }))
  | inr reset ↦ uses.each y (inl (fed y 0 i (ap is_passing reset) (w.register_place x y i e)))
]

pub part_closed : (n : Netlist) (parts part : ℕ) (used : List ℕ) → IsWired n → AreUsed n parts part used → AreClosed n (covers n used)
unfolding AreClosed
part_closed n parts part used w uses = λ b c q j x k is m at.
    let ev = uses_evaluates n parts part c (counting_passes (role_at n c) (cell_at n c) q m) (uses.only c (driver_among n used b c k is)) in
    read_covered_by n parts part used c q j x (driver_of n x) w uses ev at
    (λ e o f p out. feeds_on n parts part e c (record { passing = p; output = o; from = f; operand = q; to = j; net = x; is_output = out; is_operand = at; operand_counts = m }) ev) refl
  where
    counting_passes : (r : Role) (c : Cell) (q : ℕ) → counts r c q ≡ true → is_passing r ≡ true
    counting_passes Combinational c q h = refl
    counting_passes ResetRegister c q h = refl
    counting_passes MemoryBlock c q h = refl
    counting_passes PlainRegister c q h = absurd (cc)
    counting_passes CarriedOver c q h = absurd (cc)

-- all that an owned cell reads is covered
pub owned_reads : (n : Netlist) (parts part : ℕ) (used : List ℕ) (c q j x : ℕ) → IsWired n → AreUsed n parts part used → OwnsCell n parts part c → operand_at (cell_at n c) q j ≡ Bit x → covers n used x ≡ true
owned_reads n parts part used c q j x w uses owns at =
    read_covered_by n parts part used c q j x (driver_of n x) w uses (inl owns) at
    (λ e o f p out. inr (record { last = e; fed = c; leads = inl refl; drives = record { passing = p; output = o; from = f; operand = q; to = j; net = x; is_output = out; is_operand = at }; owns = owns })) refl

-- ---- what a part owns is covered

some_same : (a b : ℕ) → Some a ≡ Some b → a ≡ b
some_same a b e = cc

owned_cell : (n : Netlist) (parts part : ℕ) (used : List ℕ) (c : ℕ) → AreUsed n parts part used → (role_at n c ≡ CarriedOver → ⊥) → Some (owner (length n.cells) parts c) ≡ Some part → is_among used c ≡ true
owned_cell n parts part used c uses real e = uses.each c (inl (inl (role_inside n c real, some_same _ _ e)))

owned_by : (n : Netlist) (parts part : ℕ) (used : List ℕ) (b : ℕ) (d : Driver) → IsWired n → AreUsed n parts part used → driver_of n b ≡ d → driver_owner (length n.cells) parts d ≡ Some part → covers_by used d ≡ true
owned_by n parts part used b (Input p i) w uses e h = refl
owned_by n parts part used b Clock w uses e h = refl
owned_by n parts part used b (Output c p i) w uses e h = owned_cell n parts part used c uses (λ f. absurd (let z : Combinational ≡ CarriedOver = sym (w.output_role b c p i e) ∙ f in cc)) h
owned_by n parts part used b (Read c r i) w uses e h = owned_cell n parts part used c uses (λ f. absurd (let z : MemoryBlock ≡ CarriedOver = sym (w.read_role b c r i e) ∙ f in cc)) h
owned_by n parts part used b (Register c i) w uses e h = owned_cell n parts part used c uses (λ f. elim (w.register_role b c i e) [
  | inl p ↦ absurd (let z : PlainRegister ≡ CarriedOver = sym p ∙ f in cc)
  | inr r ↦ absurd (let z : ResetRegister ≡ CarriedOver = sym r ∙ f in cc)
]) h

pub owned_covered : (n : Netlist) (parts part : ℕ) (used : List ℕ) (b : ℕ) → IsWired n → AreUsed n parts part used → OwnsNet n parts part b → covers n used b ≡ true
owned_covered n parts part used b w uses owns = owned_by n parts part used b (driver_of n b) w uses refl owns

pub clock_covered : (n : Netlist) (used : List ℕ) (b : ℕ) → driver_of n b ≡ Clock → covers n used b ≡ true
clock_covered n used b e = ap (covers_by used) e

pub owned_among : (n : Netlist) (parts part : ℕ) (used : List ℕ) (c : ℕ) → AreUsed n parts part used → OwnsCell n parts part c → is_among used c ≡ true
owned_among n parts part used c uses owns = uses.each c (inl (inl owns))
