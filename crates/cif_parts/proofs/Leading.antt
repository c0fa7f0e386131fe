-- The marks of the cells that a part evaluates, found backwards along a levelled order, of those that it uses, and of those of which
-- it needs what they store.
use Rattle.std.specs.Prelude.{ℕ, ◌+◌, ◌<◌, ◌≤◌, ◌≡◌, ◌⊎◌, Bool, true, false, List, [], ◌∷◌, length, get_or, refl}
use Rattle.std.proofs.Common.{arith, sym, ap, subst, ◌∙◌, inl, inr}
use Rattle.std.proofs.lemmas.List.{get_or_past}
use Rattle.cif_defs.specs.Loop.{Drives, DrivesAlong, IsLevelled, is_passing}
use Rattle.cif_defs.specs.Netlist.{IsWired, Netlist, role_at}
use Rattle.cif_defs.specs.Words.{bit}
use Rattle.cif_defs.proofs.Orders.{has_place, place_in}
use Rattle.cif_defs.proofs.WordLaws.{le_or_lt}
use Rattle.cif_level.proofs.Driving.{HasOneOutput}
use Rattle.cif_pieces.specs.Parts.{DrivesOperand, Evaluates, Feeds, LeadsTo, Needs, OwnsCell, Uses}
use Rattle.cif_parts.specs.Closing.{IsClosed}
use Rattle.cif_parts.specs.Marking.{Adds, AreMarks, IsStoring}
use Rattle.cif_parts.specs.Walks.{IsMet, IsMetFrom}
use Rattle.cif_parts.specs.declared.walk.Walk.TheVariants.{Operands, Counting, Registers}
use Rattle.cif_parts.proofs.Meeting.{drives_met, drives_operand_met, met_drives, met_drives_operand, met_shows, shows_met}

-- ---- what drives a cell that a part evaluates is evaluated

drives_operand : (n : Netlist) (c d : ℕ) → Drives n c d → DrivesOperand n c d
drives_operand n c d v = record { passing = v.passing; output = v.output; from = v.from; operand = v.operand; to = v.to; net = v.net; is_output = v.is_output; is_operand = v.is_operand }

further : (n : Netlist) (c d last : ℕ) → Drives n c d → LeadsTo n d last → LeadsTo n c last
further n c d last v (inl e) = inr ([], subst (λ (x : ℕ). Drives n c x) e v)
further n c d last v (inr h) = inr (d ∷ h.0, (v, h.1))

pub feeds_on : (n : Netlist) (parts part c d : ℕ) → Drives n c d → Evaluates n parts part d → Evaluates n parts part c
feeds_on n parts part c d v (inl owns) = inr (record { last = c; fed = d; leads = inl refl; drives = drives_operand n c d v; owns = owns })
feeds_on n parts part c d v (inr h) = inr (record { last = h.last; fed = h.fed; leads = further n c d h.last v h.leads; drives = h.drives; owns = h.owns })

-- ---- the first marks

pub closed_first : (n : Netlist) (order : List ℕ) (parts part from : ℕ) (owned marks : List Bool) → IsWired n → HasOneOutput n → length order ≤ from → AreMarks owned (length n.cells) (OwnsCell n parts part) → Adds owned marks (IsMetFrom Operands n owned (length n.cells))
    → IsClosed n order parts part from marks
closed_first n order parts part from owned marks w o l h k = record {
  as_many = k.as_many ∙ h.as_many;
  owned = λ c owns. k.kept c (h.each c owns);
  fed = λ c d owns v. k.added c (record { from = d; before = owns.0; is_chosen = h.each d owns; met = drives_operand_met n d c w o v });
  only = λ c m. elim (k.only c m) [
    | inl x ↦ inl (h.only c x)
    | inr x ↦ inr (record { last = c; fed = x.from; leads = inl refl; drives = met_drives_operand n x.from c w x.met; owns = h.only x.from x.is_chosen })
  ];
  closed = λ j c f i m v. absurd (omega arith);
}

-- ---- one more place

itself_or_after : (i j : ℕ) → i ≤ j → (i ≡ j) ⊎ (i + 1 ≤ j)
itself_or_after i j h = search arith

-- a marked cell, and what drives it is marked
pub closed_marked : (n : Netlist) (order : List ℕ) (parts part i d : ℕ) (a b : List Bool) → IsWired n → HasOneOutput n → IsLevelled n order → i < length order → d ≡ get_or order i 0 → bit a d ≡ true → Adds a b (IsMet Counting n d)
    → IsClosed n order parts part (i + 1) a → IsClosed n order parts part i b
closed_marked n order parts part i d a b w o levelled l at t k h = record {
  as_many = k.as_many ∙ h.as_many;
  owned = λ c owns. k.kept c (h.owned c owns);
  fed = λ c x owns v. k.kept c (h.fed c x owns v);
  only = λ c m. elim (k.only c m) [ inl x ↦ h.only c x | inr x ↦ feeds_on n parts part c d (met_drives n d c w x) (h.only d t) ];
  closed = λ j c f inside m v. elim (itself_or_after i j f) [
    | inl e ↦ k.added c (drives_met n d c w o (subst (λ (x : ℕ). Drives n c x) (ap (λ (y : ℕ). get_or order y 0) (sym e) ∙ sym at) v))
    | inr f' ↦ elim (k.only (get_or order j 0) m) [
      | inl x ↦ k.kept c (h.closed j c f' inside x v)
      | inr x ↦ absurd (let early : j < i = levelled.after_drivers j i inside l (subst (λ (y : ℕ). Drives n (get_or order j 0) y) at (met_drives n d (get_or order j 0) w x)) in omega arith)
    ]
  ];
}

-- one that isn't marked
pub closed_passed : (n : Netlist) (order : List ℕ) (parts part i d : ℕ) (a : List Bool) → d ≡ get_or order i 0 → bit a d ≡ false → IsClosed n order parts part (i + 1) a → IsClosed n order parts part i a
closed_passed n order parts part i d a at t h = record {
  as_many = h.as_many;
  owned = h.owned;
  fed = h.fed;
  only = h.only;
  closed = λ j c f inside m v. elim (itself_or_after i j f) [
    | inl e ↦ absurd (let z : bit a (get_or order j 0) ≡ false = ap (λ (y : ℕ). bit a (get_or order y 0)) (sym e) ∙ ap (bit a) (sym at) ∙ t in cc)
    | inr f' ↦ h.closed j c f' inside m v
  ];
}

-- ---- all marks

close : (n : Netlist) (order : List ℕ) (parts part c d : ℕ) (marks : List Bool) → IsLevelled n order → IsClosed n order parts part 0 marks → is_passing (role_at n d) ≡ true → bit marks d ≡ true → Drives n c d → bit marks c ≡ true
close n order parts part c d marks o h p m v =
    let at = has_place n order d o p in
    h.closed (place_in order d) c (omega arith) at.0 (ap (bit marks) at.1 ∙ m) (subst (λ (y : ℕ). Drives n c y) (sym at.1) v)

head_passes : (n : Netlist) (e d : ℕ) (ds : List ℕ) → DrivesAlong n e (d ∷ ds) → is_passing (role_at n d) ≡ true
head_passes n e d [] v = v.passing
head_passes n e d (x ∷ xs) v = v.0.passing

-- a cell from which a path leads to an operand is passing
pub feeds_passing : (n : Netlist) (parts part c : ℕ) → Feeds n parts part c → is_passing (role_at n c) ≡ true
feeds_passing n parts part c h = leads_passing h.last h.drives.passing h.leads
  where
    leads_passing : (last : ℕ) → is_passing (role_at n last) ≡ true → LeadsTo n c last → is_passing (role_at n c) ≡ true
    leads_passing last p (inl e) = ap (λ (x : ℕ). is_passing (role_at n x)) e ∙ p
    leads_passing last p (inr x) = head_passes n last c x.0 x.1

along_marked : (n : Netlist) (order : List ℕ) (parts part last c : ℕ) (ds : List ℕ) (marks : List Bool) → IsLevelled n order → IsClosed n order parts part 0 marks → is_passing (role_at n last) ≡ true → bit marks last ≡ true → DrivesAlong n last (c ∷ ds) → bit marks c ≡ true
along_marked n order parts part last c [] marks o h p m v = close n order parts part c last marks o h p m v
along_marked n order parts part last c (d ∷ ds) marks o h p m v = close n order parts part c d marks o h (head_passes n last d ds v.1) (along_marked n order parts part last d ds marks o h p m v.1) v.0

leads_marked : (n : Netlist) (order : List ℕ) (parts part c last : ℕ) (marks : List Bool) → IsLevelled n order → IsClosed n order parts part 0 marks → is_passing (role_at n last) ≡ true → bit marks last ≡ true → LeadsTo n c last → bit marks c ≡ true
leads_marked n order parts part c last marks o h p m (inl e) = ap (bit marks) e ∙ m
leads_marked n order parts part c last marks o h p m (inr x) = along_marked n order parts part last c x.0 marks o h p m x.1

evaluated_marked : (n : Netlist) (order : List ℕ) (parts part c : ℕ) (marks : List Bool) → IsLevelled n order → IsClosed n order parts part 0 marks → Evaluates n parts part c → bit marks c ≡ true
evaluated_marked n order parts part c marks o h (inl owns) = h.owned c owns
evaluated_marked n order parts part c marks o h (inr x) = leads_marked n order parts part c x.last marks o h x.drives.passing (h.fed x.last x.fed x.owns x.drives) x.leads

pub closed_last : (n : Netlist) (order : List ℕ) (parts part from : ℕ) (marks : List Bool) → IsLevelled n order → from ≤ 0 → IsClosed n order parts part from marks → AreMarks marks (length n.cells) (Evaluates n parts part)
closed_last n order parts part from marks o l h =
    let none : from ≡ 0 = omega arith in
    let k = subst (λ (x : ℕ). IsClosed n order parts part x marks) none h in
    record {
      as_many = h.as_many;
      each = λ c e. evaluated_marked n order parts part c marks o k e;
      only = h.only;
    }

-- ---- the marks of the cells that a part uses, and of those of which it needs what they store

marked_inside : (marks : List Bool) (c : ℕ) → bit marks c ≡ true → c < length marks
marked_inside marks c m = elim (le_or_lt c (length marks)) [
  | inl l ↦ l
  | inr l ↦ absurd (let z : bit marks c ≡ false = get_or_past marks c false l in cc)
]

pub used_marked : (n : Netlist) (parts part : ℕ) (evaluated marks : List Bool) → IsWired n → HasOneOutput n → AreMarks evaluated (length n.cells) (Evaluates n parts part) → Adds evaluated marks (IsMetFrom Registers n evaluated (length n.cells)) → AreMarks marks (length n.cells) (Uses n parts part)
used_marked n parts part evaluated marks w o h k = record {
  as_many = k.as_many ∙ h.as_many;
  each = λ c uses. elim uses [
    | inl e ↦ k.kept c (h.each c e)
    | inr r ↦ k.added c (record {
      from = r.reader;
      before = (let l : r.reader < length evaluated = marked_inside evaluated r.reader (h.each r.reader r.evaluates) in let z : length evaluated ≡ length n.cells = h.as_many in omega arith);
      is_chosen = h.each r.reader r.evaluates;
      met = shows_met n r.reader c w o r.shows;
    })
  ];
  only = λ c m. elim (k.only c m) [
    | inl x ↦ inl (h.only c x)
    | inr x ↦ inr (record { reader = x.from; shows = met_shows n x.from c w x.met; evaluates = h.only x.from x.is_chosen })
  ];
}

-- those of them that store something
pub needed_marked : (n : Netlist) (parts part : ℕ) (used needed : List Bool) → AreMarks used (length n.cells) (Uses n parts part) → AreMarks needed (length n.cells) (λ c. (c < length n.cells) × IsStoring n used c) → AreMarks needed (length n.cells) (Needs n parts part)
needed_marked n parts part used needed h k = record {
  as_many = k.as_many;
  each = λ c needs. (
      let marked : bit used c ≡ true = h.each c needs.0 in
      let l : c < length used = marked_inside used c marked in
      let z : length used ≡ length n.cells = h.as_many in
      k.each c (omega arith, record { marked = marked; storing = needs.1 }));
  only = λ c m. (let s = (k.only c m).1 in (h.only c s.marked, s.storing));
}
