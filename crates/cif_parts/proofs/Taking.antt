-- The cells of a part are taken over, one after another.
use Rattle.std.specs.Prelude.{ℕ, ◌+◌, ◌<◌, ◌≤◌, ◌≡◌, ◌≢◌, ◌⊎◌, Bool, false, true, List, [], length, get_or, Option, Some, None, refl}
use Rattle.std.proofs.Common.{arith, ap, sym, ◌∙◌, inl, inr, subst, get_or-set_same, get_or-set_other, length-set}
use Rattle.std.proofs.lemmas.Bool.{eqb-true}
use Rattle.cif_defs.specs.Words.{Word, bit}
use Rattle.cif_defs.specs.Evaluation.{is_of_cell}
use Rattle.cif_defs.specs.Netlist.{IsWired, Netlist, cell_at, driver_of, role_at}
use Rattle.cif_defs.specs.Stimulus.{Stimulus}
use Rattle.cif_defs.specs.declared.kinds.Role.TheVariants.{Combinational, MemoryBlock}
use Rattle.cif_defs.specs.declared.nets.Driver.{Driver}
use Rattle.cif_defs.specs.declared.nets.Driver.TheVariants.{Input, Output, Register, Read, Clock}
use Rattle.cif_inputs.specs.declared.inputs.Inputs.{Inputs}
use Rattle.cif_seq.specs.Cases.{CaseOf, net_of}
use Rattle.cif_seq.specs.Inputs.{StandsAt}
use Rattle.cif_pieces.specs.Parts.{OwnsCell, driver_owner, owner}
use Rattle.cif_pieces.specs.Pieces.{HaveEachPlace, HoldsPiece, IsRight, StoresRight, piece_of}
use Rattle.cif_pieces.specs.Plans.{ComesBefore, Lists, place_in}
use Rattle.cif_pieces.specs.declared.piece.OwnedBits.{OwnedBits}
use Rattle.cif_parts.specs.Joining.{Copies, HoldPieces, IsOutputBefore, IsTaking, TakesCell}
use Rattle.cif_parts.proofs.Meeting.{role_inside}
use Rattle.cif_parts.proofs.Outputs.{AreDriven, driven_output, output_driven, own_cell}

same_or_not : (i j : ℕ) → (i ≡ j) ⊎ (i ≢ j)
same_or_not i j = search arith

-- ---- one cell

-- cell x is taken over from tables in which it is right
pub record TakesRight (n : Netlist) (s : Stimulus) (k x : ℕ) (from left old new : OwnedBits) : Type 0 where
  pub driven : AreDriven n
  pub takes : TakesCell (cell_at n x) x from left old new
  pub inside : x < length n.cells
  pub places_from : HaveEachPlace n from
  pub places_old : HaveEachPlace n old
  pub nets : (b : ℕ) → is_of_cell x (driver_of n b) ≡ true → IsRight n s k from b
  pub stores : StoresRight n s k from x

places_new : (n : Netlist) (s : Stimulus) (k x : ℕ) (from left old new : OwnedBits) → TakesRight n s k x from left old new → HaveEachPlace n new
places_new n s k x from left old new h = record {
  values = h.takes.values.as_many ∙ h.places_old.values;
  taints = h.takes.taints.as_many ∙ h.places_old.taints;
  words = ap length h.takes.word ∙ length-set old.stored.values.items x _ ∙ h.places_old.words;
  word_taints = ap length h.takes.word_taint ∙ length-set old.stored.taints.items x _ ∙ h.places_old.word_taints;
  flags = ap length h.takes.flag ∙ length-set old.stored.flags.items x _ ∙ h.places_old.flags;
  due = ap length h.takes.due ∙ length-set old.due.items x _ ∙ h.places_old.due;
}

places_left : (n : Netlist) (s : Stimulus) (k x : ℕ) (from left old new : OwnedBits) → TakesRight n s k x from left old new → HaveEachPlace n left
places_left n s k x from left old new h = record {
  values = ap length h.takes.left_values ∙ h.places_from.values;
  taints = ap length h.takes.left_taints ∙ h.places_from.taints;
  words = ap length h.takes.left_word ∙ length-set from.stored.values.items x _ ∙ h.places_from.words;
  word_taints = ap length h.takes.left_word_taint ∙ length-set from.stored.taints.items x _ ∙ h.places_from.word_taints;
  flags = ap length h.takes.left_flags ∙ h.places_from.flags;
  due = ap length h.takes.left_due ∙ h.places_from.due;
}

copied_or_kept : (n : Netlist) (x b : ℕ) (v : Bool) (from old new : List Bool) → AreDriven n → Copies from old new (IsOutputBefore (cell_at n x).outputs (length (cell_at n x).outputs)) → (is_of_cell x (driver_of n b) ≡ true → bit from b ≡ v) → bit old b ≡ v → bit new b ≡ v
copied_or_kept n x b v from old new d h f e = elim (h.each b) [
  | inl y ↦ y.1 ∙ f (output_driven n x b d y.0)
  | inr y ↦ y ∙ e
]

-- a net bit that was right is right
net_kept : (n : Netlist) (s : Stimulus) (k x b : ℕ) (from left old new : OwnedBits) → TakesRight n s k x from left old new → IsRight n s k old b → IsRight n s k new b
net_kept n s k x b from left old new h r = record {
  value = copied_or_kept n x b _ from.values.items old.values.items new.values.items h.driven h.takes.values (λ d. (h.nets b d).value) r.value;
  taint = copied_or_kept n x b _ from.taints.items old.taints.items new.taints.items h.driven h.takes.taints (λ d. (h.nets b d).taint) r.taint;
}

-- and so is one that the cell drives
net_taken : (n : Netlist) (s : Stimulus) (k x b : ℕ) (from left old new : OwnedBits) → TakesRight n s k x from left old new → is_of_cell x (driver_of n b) ≡ true → IsRight n s k new b
net_taken n s k x b from left old new h d = record {
  value = h.takes.values.copied b (driven_output n x b h.driven.wired d) ∙ (h.nets b d).value;
  taint = h.takes.taints.copied b (driven_output n x b h.driven.wired d) ∙ (h.nets b d).taint;
}

cell_taken : (n : Netlist) (s : Stimulus) (k x : ℕ) (from left old new : OwnedBits) → TakesRight n s k x from left old new → StoresRight n s k new x
cell_taken n s k x from left old new h =
    let due : bit new.due.items x ≡ bit from.due.items x = ap (λ (xs : List Bool). bit xs x) h.takes.due ∙ get_or-set_same old.due.items x _ false (let z : length old.due.items ≡ length n.cells = h.places_old.due in let i : x < length n.cells = h.inside in omega arith) in
    record {
      value = ap (λ (xs : List Word). get_or xs x []) h.takes.word ∙ get_or-set_same old.stored.values.items x _ [] (let z : length old.stored.values.items ≡ length n.cells = h.places_old.words in let i : x < length n.cells = h.inside in omega arith) ∙ h.stores.value;
      taint = ap (λ (xs : List Word). get_or xs x []) h.takes.word_taint ∙ get_or-set_same old.stored.taints.items x _ [] (let z : length old.stored.taints.items ≡ length n.cells = h.places_old.word_taints in let i : x < length n.cells = h.inside in omega arith) ∙ h.stores.taint;
      flag = ap (λ (xs : List Bool). get_or xs x false) h.takes.flag ∙ get_or-set_same old.stored.flags.items x _ false (let z : length old.stored.flags.items ≡ length n.cells = h.places_old.flags in let i : x < length n.cells = h.inside in omega arith) ∙ h.stores.flag;
      resting = λ e. h.stores.resting (sym due ∙ e);
    }

cell_other : (n : Netlist) (s : Stimulus) (k x y : ℕ) (from left old new : OwnedBits) → TakesRight n s k x from left old new → y ≢ x → StoresRight n s k old y → StoresRight n s k new y
cell_other n s k x y from left old new h d r =
    let due : bit new.due.items y ≡ bit old.due.items y = ap (λ (xs : List Bool). bit xs y) h.takes.due ∙ get_or-set_other old.due.items x y _ false d in
    record {
      value = ap (λ (xs : List Word). get_or xs y []) h.takes.word ∙ get_or-set_other old.stored.values.items x y _ [] d ∙ r.value;
      taint = ap (λ (xs : List Word). get_or xs y []) h.takes.word_taint ∙ get_or-set_other old.stored.taints.items x y _ [] d ∙ r.taint;
      flag = ap (λ (xs : List Bool). get_or xs y false) h.takes.flag ∙ get_or-set_other old.stored.flags.items x y _ false d ∙ r.flag;
      resting = λ e. r.resting (sym due ∙ e);
    }

-- what a cell stores that was right is right
cell_kept : (n : Netlist) (s : Stimulus) (k x y : ℕ) (from left old new : OwnedBits) → TakesRight n s k x from left old new → StoresRight n s k old y → StoresRight n s k new y
cell_kept n s k x y from left old new h r = elim (same_or_not y x) [
  | inl e ↦ subst (λ (z : ℕ). StoresRight n s k new z) (sym e) (cell_taken n s k x from left old new h)
  | inr d ↦ cell_other n s k x y from left old new h d r
]

-- what is left of any other cell is right
cell_left : (n : Netlist) (s : Stimulus) (k x y : ℕ) (from left old new : OwnedBits) → TakesRight n s k x from left old new → y ≢ x → StoresRight n s k from y → StoresRight n s k left y
cell_left n s k x y from left old new h d r = record {
  value = ap (λ (xs : List Word). get_or xs y []) h.takes.left_word ∙ get_or-set_other from.stored.values.items x y _ [] d ∙ r.value;
  taint = ap (λ (xs : List Word). get_or xs y []) h.takes.left_word_taint ∙ get_or-set_other from.stored.taints.items x y _ [] d ∙ r.taint;
  flag = ap (λ (xs : List Bool). get_or xs y false) h.takes.left_flags ∙ r.flag;
  resting = λ e. r.resting (sym (ap (λ (xs : List Bool). bit xs y) h.takes.left_due) ∙ e);
}

net_left : (n : Netlist) (s : Stimulus) (k x b : ℕ) (from left old new : OwnedBits) → TakesRight n s k x from left old new → IsRight n s k from b → IsRight n s k left b
net_left n s k x b from left old new h r = record {
  value = ap (λ (xs : List Bool). bit xs b) h.takes.left_values ∙ r.value;
  taint = ap (λ (xs : List Bool). bit xs b) h.takes.left_taints ∙ r.taint;
}

-- ---- cell by cell

comes_once : (a : ℕ) (o : Option ℕ) → ComesBefore a a o o → ⊥
comes_once a (Some i) h = absurd (omega arith)
comes_once a None h = absurd (omega arith)

listed_once : (order : List ℕ) (P : ℕ → Type 0) (cells : List ℕ) (i j : ℕ) → Lists order P cells → i < j → j < length cells → get_or cells j 0 ≢ get_or cells i 0
listed_once order P cells i j h l m = λ e. comes_once (get_or cells i 0) (place_in order (get_or cells i 0))
    (subst (λ (z : ℕ). ComesBefore (get_or cells i 0) z (place_in order (get_or cells i 0)) (place_in order z)) e (h.ordered i j l m))

piece_kept : (c : CaseOf) (k parts part x : ℕ) (from left old new : OwnedBits) → TakesRight (net_of c) c.stimulus k x from left old new → HoldsPiece (piece_of c k part parts) old → HoldsPiece (piece_of c k part parts) new
piece_kept c k parts part x from left old new h r = record {
  places = places_new (net_of c) c.stimulus k x from left old new h;
  nets = λ b owns. net_kept (net_of c) c.stimulus k x b from left old new h (r.nets b owns);
  clock = λ b is. net_kept (net_of c) c.stimulus k x b from left old new h (r.clock b is);
  cells = λ y owns. cell_kept (net_of c) c.stimulus k x y from left old new h (r.cells y owns);
  at = subst (λ (z : Inputs). StandsAt (net_of c) c.stimulus k z) (sym h.takes.inputs) r.at;
}

split_last : (i end : ℕ) → i < end + 1 → (i < end) ⊎ (i ≡ end)
split_last i end h = search arith

takes_right : (c : CaseOf) (k parts part i x : ℕ) (owned : List ℕ) (from left old new : OwnedBits) → AreDriven (net_of c) → Lists c.order (OwnsCell (net_of c) parts part) owned → i < length owned → x ≡ get_or owned i 0 → TakesCell (cell_at (net_of c) x) x from left old new → IsTaking c k parts part owned i from old
    → TakesRight (net_of c) c.stimulus k x from left old new
takes_right c k parts part i x owned from left old new d lists l at t h =
    let owns : OwnsCell (net_of c) parts part x = subst (OwnsCell (net_of c) parts part) (sym at) (lists.only i l) in
    record {
      driven = d;
      takes = t;
      inside = owns.0;
      places_from = h.places;
      places_old = h.before.places;
      nets = λ b is. h.nets x b owns is;
      stores = subst (λ (z : ℕ). StoresRight (net_of c) c.stimulus k from z) (sym at) (h.left i (omega arith) l);
    }

pub taking_more : (c : CaseOf) (k parts part i x : ℕ) (owned : List ℕ) (from left old new : OwnedBits) → AreDriven (net_of c) → Lists c.order (OwnsCell (net_of c) parts part) owned → i < length owned → x ≡ get_or owned i 0 → TakesCell (cell_at (net_of c) x) x from left old new → IsTaking c k parts part owned i from old
    → IsTaking c k parts part owned (i + 1) left new
taking_more c k parts part i x owned from left old new d lists l at t h =
    let r : TakesRight (net_of c) c.stimulus k x from left old new = takes_right c k parts part i x owned from left old new d lists l at t h in
    record {
      places = places_left (net_of c) c.stimulus k x from left old new r;
      before = record {
        places = places_new (net_of c) c.stimulus k x from left old new r;
        each = λ q m. piece_kept c k parts q x from left old new r (h.before.each q m);
      };
      nets = λ y b owns is. net_left (net_of c) c.stimulus k x b from left old new r (h.nets y b owns is);
      left = λ j f m. cell_left (net_of c) c.stimulus k x (get_or owned j 0) from left old new r (λ e. listed_once c.order (OwnsCell (net_of c) parts part) owned i j lists (omega arith) m (e ∙ at)) (h.left j (omega arith) m);
      shown = λ j b m is. elim (split_last j i m) [
        | inl f ↦ net_kept (net_of c) c.stimulus k x b from left old new r (h.shown j b f is)
        | inr e ↦ net_taken (net_of c) c.stimulus k x b from left old new r (subst (λ (z : ℕ). is_of_cell z (driver_of (net_of c) b) ≡ true) (ap (λ (z : ℕ). get_or owned z 0) e ∙ sym at) is)
      ];
      taken = λ j m. elim (split_last j i m) [
        | inl f ↦ cell_kept (net_of c) c.stimulus k x (get_or owned j 0) from left old new r (h.taken j f)
        | inr e ↦ subst (λ (z : ℕ). StoresRight (net_of c) c.stimulus k new z) (at ∙ ap (λ (z : ℕ). get_or owned z 0) (sym e)) (cell_taken (net_of c) c.stimulus k x from left old new r)
      ];
    }

-- ---- a whole part

-- a net bit that a cell of the part drives is owned by the part
drives_owned : (cells parts part x : ℕ) (g : Driver) → owner cells parts x ≡ part → is_of_cell x g ≡ true → driver_owner cells parts g ≡ Some part
drives_owned cells parts part x (Output y p i) o h = ap (λ (z : ℕ). Some (owner cells parts z)) (sym (eqb-true x y h)) ∙ ap (λ (z : ℕ). Some z) o
drives_owned cells parts part x (Read y p i) o h = ap (λ (z : ℕ). Some (owner cells parts z)) (sym (eqb-true x y h)) ∙ ap (λ (z : ℕ). Some z) o
drives_owned cells parts part x (Register y i) o h = ap (λ (z : ℕ). Some (owner cells parts z)) (sym (eqb-true x y h)) ∙ ap (λ (z : ℕ). Some z) o
drives_owned cells parts part x (Input p i) o h = absurd (cc)
drives_owned cells parts part x Clock o h = absurd (cc)

pub taking_first : (c : CaseOf) (k parts part : ℕ) (owned : List ℕ) (from old : OwnedBits) → Lists c.order (OwnsCell (net_of c) parts part) owned → HoldsPiece (piece_of c k part parts) from → HoldPieces c k parts part old → IsTaking c k parts part owned 0 from old
taking_first c k parts part owned from old lists h before = record {
  places = h.places;
  before = before;
  nets = λ x b owns is. h.nets b (drives_owned (length (net_of c).cells) parts part x (driver_of (net_of c) b) owns.1 is);
  left = λ j f m. h.cells (get_or owned j 0) (lists.only j m);
  shown = λ j b m is. absurd (omega arith);
  taken = λ j m. absurd (omega arith);
}

some_same : (a b : ℕ) → Some a ≡ Some b → a ≡ b
some_same a b h = cc

pub taking_last : (c : CaseOf) (k parts part end : ℕ) (owned : List ℕ) (from joined : OwnedBits) → IsWired (net_of c) → Lists c.order (OwnsCell (net_of c) parts part) owned → 0 < part → length owned ≤ end → IsTaking c k parts part owned end from joined → HoldPieces c k parts (part + 1) joined
taking_last c k parts part end owned from joined w lists some l h = record {
  places = h.before.places;
  each = λ q m. elim (split_last q part m) [
    | inl f ↦ h.before.each q f
    | inr e ↦ subst (λ (z : ℕ). HoldsPiece (piece_of c k z parts) joined) (sym e) whole
  ];
} where
  net_by : (x b : ℕ) → OwnsCell (net_of c) parts part x → is_of_cell x (driver_of (net_of c) b) ≡ true → IsRight (net_of c) c.stimulus k joined b
  net_by x b owns is =
      let at = lists.has_each x owns in
      h.shown at.0 b (let m : at.0 < length owned = at.1 in omega arith) (subst (λ (z : ℕ). is_of_cell z (driver_of (net_of c) b) ≡ true) (sym at.2) is)

  net_of_part : (b : ℕ) (g : Driver) → driver_of (net_of c) b ≡ g → driver_owner (length (net_of c).cells) parts g ≡ Some part → IsRight (net_of c) c.stimulus k joined b
  net_of_part b (Input p i) e f = absurd (let z : 0 ≡ part = some_same 0 part f in omega arith)
  net_of_part b Clock e f = absurd (cc)
  net_of_part b (Output x p i) e f =
      net_by x b (role_inside (net_of c) x (λ r. absurd (let z : role_at (net_of c) x ≡ Combinational = w.output_role b x p i e in cc)), some_same (owner (length (net_of c).cells) parts x) part f) (ap (is_of_cell x) e ∙ own_cell x)
  net_of_part b (Read x p i) e f =
      net_by x b (role_inside (net_of c) x (λ r. absurd (let z : role_at (net_of c) x ≡ MemoryBlock = w.read_role b x p i e in cc)), some_same (owner (length (net_of c).cells) parts x) part f) (ap (is_of_cell x) e ∙ own_cell x)
  net_of_part b (Register x i) e f =
      net_by x b (role_inside (net_of c) x (λ r. elim (w.register_role b x i e) [ inl p ↦ absurd (cc) | inr p ↦ absurd (cc) ]), some_same (owner (length (net_of c).cells) parts x) part f) (ap (is_of_cell x) e ∙ own_cell x)

  whole : HoldsPiece (piece_of c k part parts) joined
  whole = record {
    places = h.before.places;
    nets = λ b owns. net_of_part b (driver_of (net_of c) b) refl owns;
    clock = (h.before.each 0 some).clock;
    cells = λ x owns. (let at = lists.has_each x owns in subst (λ (z : ℕ). StoresRight (net_of c) c.stimulus k joined z) at.2 (h.taken at.0 (let m : at.0 < length owned = at.1 in omega arith)));
    at = (h.before.each 0 some).at;
  }
