-- The cells that a walk meets are those that drive.
use Rattle.std.specs.Prelude.{ℕ, ◌+◌, ◌*◌, ◌/◌, ◌%◌, ◌<◌, ◌≤◌, ◌≡◌, ◌⊎◌, Bool, true, false, List, [], length, get_or, Some, None, refl}
use Rattle.std.proofs.Common.{arith, sym, ap, subst, ◌∙◌, cond, inl, inr}
use Rattle.std.proofs.lemmas.List.{get_or_past}
use Rattle.cif_defs.specs.Cells.{Cell, width}
use Rattle.cif_defs.specs.Kinds.{role_of}
use Rattle.cif_defs.specs.Loop.{Drives}
use Rattle.cif_defs.specs.Netlist.{Netlist, IsWired, cell_at, driver_of, no_cell, role_at, output_at, operand_at}
use Rattle.cif_defs.specs.Words.{bit}
use Rattle.cif_defs.specs.declared.kinds.Role.{Role}
use Rattle.cif_defs.specs.declared.kinds.Role.TheVariants.{Combinational, PlainRegister, ResetRegister, MemoryBlock, CarriedOver}
use Rattle.cif_defs.specs.declared.nets.Src.{Src}
use Rattle.cif_defs.specs.declared.nets.Src.TheVariants.{Bit, Zero, One}
use Rattle.cif_defs.specs.declared.nets.Driver.{Driver}
use Rattle.cif_defs.specs.declared.nets.Driver.TheVariants.{Input, Output, Register, Read, Clock}
use Rattle.cif_defs.proofs.WordLaws.{le_or_lt}
use Rattle.cif_level.proofs.Driving.{HasOneOutput}
use Rattle.cif_shown.specs.Shown.{is_plain}
use Rattle.cif_pieces.specs.Parts.{DrivesOperand, ShowsOperand}
use Rattle.cif_parts.specs.Marking.{Adds}
use Rattle.cif_parts.specs.Walks.{IsMet, IsMetAmong, IsMetBefore, IsMetFrom, met_at, met_by, meets, takes_operand}
use Rattle.cif_parts.specs.declared.walk.Walk.{Walk}
use Rattle.cif_parts.specs.declared.walk.Walk.TheVariants.{Operands, Counting, Registers}
use Rattle.cif_parts.proofs.Marks.{adds_join, adds_nothing, adds_same}

some_if : (t : Bool) (c x : ℕ) → cond t (Some c) None ≡ Some x → (t ≡ true) × (c ≡ x)
some_if true c x h = (refl, cc)
some_if false c x h = absurd (cc)

-- ---- a cell that is met drives

-- a cell that a walk meets has this net bit among its output bits
pub record GivesNet (w : Walk) (n : Netlist) (c b : ℕ) : Type 0 where
  pub meets : meets w (role_at n c) ≡ true
  pub output : ℕ
  pub from : ℕ
  pub is_output : output_at (cell_at n c) output from ≡ Some b

met_gives_by : (w : Walk) (n : Netlist) (b c : ℕ) (g : Driver) → driver_of n b ≡ g → IsWired n → met_by w n g ≡ Some c → GivesNet w n c b
met_gives_by w n b c (Input p i) e wired h = absurd (cc)
met_gives_by w n b c Clock e wired h = absurd (cc)
met_gives_by w n b c (Output x p i) e wired h =
    let both : (meets w (role_at n x) ≡ true) × (x ≡ c) = some_if (meets w (role_at n x)) x c h in
    let found : GivesNet w n x b = record { meets = both.0; output = p; from = i; is_output = wired.output_place b x p i e } in
    subst (λ (y : ℕ). GivesNet w n y b) both.1 found
met_gives_by w n b c (Read x p i) e wired h =
    let both : (meets w (role_at n x) ≡ true) × (x ≡ c) = some_if (meets w (role_at n x)) x c h in
    let found : GivesNet w n x b = record { meets = both.0; output = 0; from = _; is_output = (wired.read_place b x p i e).1 } in
    subst (λ (y : ℕ). GivesNet w n y b) both.1 found
met_gives_by w n b c (Register x i) e wired h =
    let both : (meets w (role_at n x) ≡ true) × (x ≡ c) = some_if (meets w (role_at n x)) x c h in
    let found : GivesNet w n x b = record { meets = both.0; output = 0; from = i; is_output = wired.register_place b x i e } in
    subst (λ (y : ℕ). GivesNet w n y b) both.1 found

met_source : (w : Walk) (n : Netlist) (s : Src) (c : ℕ) → IsWired n → met_at w n s ≡ Some c → (b : ℕ) × (s ≡ Bit b) × GivesNet w n c b
unfolding met_at
met_source w n (Bit b) c wired h = (b, refl, met_gives_by w n b c (driver_of n b) refl wired h)
met_source w n Zero c wired h = absurd (cc)
met_source w n One c wired h = absurd (cc)

pub met_drives_operand : (n : Netlist) (d c : ℕ) → IsWired n → IsMet Operands n d c → DrivesOperand n c d
met_drives_operand n d c wired m =
    let at = met_source Operands n (operand_at (cell_at n d) m.operand m.place) c wired m.is in
    record { passing = at.2.meets; output = at.2.output; from = at.2.from; operand = m.operand; to = m.place; net = at.0; is_output = at.2.is_output; is_operand = at.1 }

pub met_drives : (n : Netlist) (d c : ℕ) → IsWired n → IsMet Counting n d c → Drives n c d
met_drives n d c wired m =
    let at = met_source Counting n (operand_at (cell_at n d) m.operand m.place) c wired m.is in
    record { passing = at.2.meets; output = at.2.output; from = at.2.from; operand = m.operand; to = m.place; net = at.0; is_output = at.2.is_output; is_operand = at.1; operand_counts = m.taken }

plain_role : (r : Role) → is_plain r ≡ true → r ≡ PlainRegister
plain_role PlainRegister h = refl
plain_role Combinational h = absurd (cc)
plain_role ResetRegister h = absurd (cc)
plain_role MemoryBlock h = absurd (cc)
plain_role CarriedOver h = absurd (cc)

pub met_shows : (n : Netlist) (d c : ℕ) → IsWired n → IsMet Registers n d c → ShowsOperand n c d
met_shows n d c wired m =
    let at = met_source Registers n (operand_at (cell_at n d) m.operand m.place) c wired m.is in
    record { plain = plain_role (role_at n c) at.2.meets; output = at.2.output; from = at.2.from; operand = m.operand; to = m.place; net = at.0; is_output = at.2.is_output; is_operand = at.1 }

-- ---- a cell that drives is met

carried_not_met : (w : Walk) → meets w CarriedOver ≡ true → ⊥
carried_not_met Operands h = absurd (cc)
carried_not_met Counting h = absurd (cc)
carried_not_met Registers h = absurd (cc)

driven_at_0 : (n : Netlist) (c p i b : ℕ) → p ≡ 0 → output_at (cell_at n c) p i ≡ Some b → output_at (cell_at n c) 0 i ≡ Some b
driven_at_0 n c p i b e h = subst (λ (q : ℕ). output_at (cell_at n c) q i ≡ Some b) e h

gives_met_by : (w : Walk) (n : Netlist) (c b : ℕ) (role : Role) (v : GivesNet w n c b) → role_at n c ≡ role → IsWired n → HasOneOutput n → met_by w n (driver_of n b) ≡ Some c
gives_met_by w n c b Combinational v e wired o =
    ap (met_by w n) (wired.by_output c v.output v.from b e v.is_output) ∙ ap (λ (t : Bool). cond t (Some c) None) v.meets
gives_met_by w n c b ResetRegister v e wired o =
    let at_0 : v.output ≡ 0 = o.only c v.output v.from b (λ f. absurd (cc)) v.is_output in
    let named : driver_of n b ≡ Register c v.from = wired.by_register c v.from b (inr e) (driven_at_0 n c v.output v.from b at_0 v.is_output) in
    ap (met_by w n) named ∙ ap (λ (t : Bool). cond t (Some c) None) v.meets
gives_met_by w n c b PlainRegister v e wired o =
    let at_0 : v.output ≡ 0 = o.only c v.output v.from b (λ f. absurd (cc)) v.is_output in
    let named : driver_of n b ≡ Register c v.from = wired.by_register c v.from b (inl e) (driven_at_0 n c v.output v.from b at_0 v.is_output) in
    ap (met_by w n) named ∙ ap (λ (t : Bool). cond t (Some c) None) v.meets
gives_met_by w n c b MemoryBlock v e wired o =
    let at_0 : v.output ≡ 0 = o.only c v.output v.from b (λ f. absurd (cc)) v.is_output in
    let wide : 0 < width (cell_at n c) = o.has_bits c e in
    let k : ℕ = width (cell_at n c) in
    let parts : (v.from / k) * k + v.from % k ≡ v.from = omega arith in
    let low : v.from % k < k = omega arith in
    let placed : output_at (cell_at n c) 0 ((v.from / k) * k + v.from % k) ≡ Some b =
    subst (λ (i : ℕ). output_at (cell_at n c) 0 i ≡ Some b) (sym parts) (driven_at_0 n c v.output v.from b at_0 v.is_output) in
    ap (met_by w n) (wired.by_read c (v.from / k) (v.from % k) b e low placed) ∙ ap (λ (t : Bool). cond t (Some c) None) v.meets
gives_met_by w n c b CarriedOver v e wired o = absurd (carried_not_met w (sym (ap (meets w) e) ∙ v.meets))

gives_met_at : (w : Walk) (n : Netlist) (c b : ℕ) (s : Src) → s ≡ Bit b → GivesNet w n c b → IsWired n → HasOneOutput n → met_at w n s ≡ Some c
unfolding met_at
gives_met_at w n c b s e v wired o = ap (met_at w n) e ∙ gives_met_by w n c b (role_at n c) v refl wired o

pub drives_operand_met : (n : Netlist) (d c : ℕ) → IsWired n → HasOneOutput n → DrivesOperand n c d → IsMet Operands n d c
drives_operand_met n d c wired o v = record {
  operand = v.operand;
  place = v.to;
  taken = refl;
  is = gives_met_at Operands n c v.net (operand_at (cell_at n d) v.operand v.to) v.is_operand (record { meets = v.passing; output = v.output; from = v.from; is_output = v.is_output }) wired o;
}

pub drives_met : (n : Netlist) (d c : ℕ) → IsWired n → HasOneOutput n → Drives n c d → IsMet Counting n d c
drives_met n d c wired o v = record {
  operand = v.operand;
  place = v.to;
  taken = v.operand_counts;
  is = gives_met_at Counting n c v.net (operand_at (cell_at n d) v.operand v.to) v.is_operand (record { meets = v.passing; output = v.output; from = v.from; is_output = v.is_output }) wired o;
}

pub shows_met : (n : Netlist) (d c : ℕ) → IsWired n → HasOneOutput n → ShowsOperand n c d → IsMet Registers n d c
shows_met n d c wired o v = record {
  operand = v.operand;
  place = v.to;
  taken = refl;
  is = gives_met_at Registers n c v.net (operand_at (cell_at n d) v.operand v.to) v.is_operand (record { meets = ap is_plain v.plain; output = v.output; from = v.from; is_output = v.is_output }) wired o;
}

-- ---- what is met lies inside

pub role_inside : (n : Netlist) (c : ℕ) → (role_at n c ≡ CarriedOver → ⊥) → c < length n.cells
role_inside n c h = elim (le_or_lt c (length n.cells)) [
  | inl l ↦ l
  | inr l ↦ absurd (h (ap (λ (x : Cell). role_of x.kind) (get_or_past n.cells c no_cell l)))
]

met_cell_inside : (w : Walk) (n : Netlist) (x c : ℕ) → (role_at n x ≡ CarriedOver → ⊥) → cond (meets w (role_at n x)) (Some x) None ≡ Some c → c < length n.cells
met_cell_inside w n x c d h = subst (λ (y : ℕ). y < length n.cells) (some_if (meets w (role_at n x)) x c h).1 (role_inside n x d)

met_by_inside : (w : Walk) (n : Netlist) (b c : ℕ) (g : Driver) → driver_of n b ≡ g → IsWired n → met_by w n g ≡ Some c → c < length n.cells
met_by_inside w n b c (Input p i) e wired h = absurd (cc)
met_by_inside w n b c Clock e wired h = absurd (cc)
met_by_inside w n b c (Output x p i) e wired h = met_cell_inside w n x c (λ f. absurd (let z : role_at n x ≡ Combinational = wired.output_role b x p i e in cc)) h
met_by_inside w n b c (Read x p i) e wired h = met_cell_inside w n x c (λ f. absurd (let z : role_at n x ≡ MemoryBlock = wired.read_role b x p i e in cc)) h
met_by_inside w n b c (Register x i) e wired h = met_cell_inside w n x c (λ f. elim (wired.register_role b x i e) [ inl p ↦ absurd (cc) | inr r ↦ absurd (cc) ]) h

pub met_inside : (w : Walk) (n : Netlist) (s : Src) (c : ℕ) → IsWired n → met_at w n s ≡ Some c → c < length n.cells
unfolding met_at
met_inside w n (Bit b) c wired h = met_by_inside w n b c (driver_of n b) refl wired h
met_inside w n Zero c wired h = absurd (cc)
met_inside w n One c wired h = absurd (cc)

-- ---- bit by bit, operand by operand

split_last : (i end : ℕ) → i < end + 1 → (i < end) ⊎ (i ≡ end)
split_last i end h = search arith

pub nothing_among : (w : Walk) (n : Netlist) (sources : List Src) (old : List Bool) → Adds old old (IsMetAmong w n sources 0)
nothing_among w n sources old = adds_nothing old _ (λ c h. absurd (let l : h.place < 0 = h.before in omega arith))

pub more_among : (w : Walk) (n : Netlist) (sources : List Src) (i : ℕ) (s : Src) (a b d : List Bool) → s ≡ get_or sources i Zero → Adds a b (IsMetAmong w n sources i) → Adds b d (λ c. met_at w n s ≡ Some c) → Adds a d (IsMetAmong w n sources (i + 1))
more_among w n sources i s a b d e h k = adds_join a b d (IsMetAmong w n sources i) (λ c. met_at w n s ≡ Some c) (IsMetAmong w n sources (i + 1))
    (λ c m. elim (split_last m.place i m.before) [
      | inl l ↦ inl (record { place = m.place; before = l; is = m.is })
      | inr q ↦ inr (ap (met_at w n) e ∙ ap (λ (j : ℕ). met_at w n (get_or sources j Zero)) (sym q) ∙ m.is)
    ])
    (λ c m. record { place = m.place; before = (let l : m.place < i = m.before in omega arith); is = m.is })
    (λ c m. record { place = i; before = omega arith; is = sym (ap (met_at w n) e) ∙ m }) h k

pub nothing_before : (w : Walk) (n : Netlist) (d : ℕ) (old : List Bool) → Adds old old (IsMetBefore w n d 0)
nothing_before w n d old = adds_nothing old _ (λ c h. absurd (let l : h.operand < 0 = h.before in omega arith))

past_end : (w : Walk) (n : Netlist) (sources : List Src) (i c : ℕ) → length sources ≤ i → met_at w n (get_or sources i Zero) ≡ Some c → ⊥
unfolding met_at
past_end w n sources i c l h = absurd (let z : None ≡ Some c = sym (ap (met_at w n) (get_or_past sources i Zero l)) ∙ h in cc)

inside_of : (w : Walk) (n : Netlist) (sources : List Src) (i c : ℕ) → met_at w n (get_or sources i Zero) ≡ Some c → i < length sources
inside_of w n sources i c h = elim (le_or_lt i (length sources)) [
  | inl l ↦ l
  | inr l ↦ absurd (past_end w n sources i c l h)
]

-- an operand that is taken
pub more_before : (w : Walk) (n : Netlist) (x p : ℕ) (sources : List Src) (a b d : List Bool) → sources ≡ get_or (cell_at n x).operands p [] → takes_operand w (role_at n x) (cell_at n x) p ≡ true
    → Adds a b (IsMetBefore w n x p) → Adds b d (IsMetAmong w n sources (length sources)) → Adds a d (IsMetBefore w n x (p + 1))
more_before w n x p sources a b d e t h k = adds_join a b d (IsMetBefore w n x p) (IsMetAmong w n sources (length sources)) (IsMetBefore w n x (p + 1))
    (λ c m. elim (split_last m.operand p m.before) [
      | inl l ↦ inl (record { operand = m.operand; before = l; place = m.place; taken = m.taken; is = m.is })
      | inr q ↦ (let here : met_at w n (get_or sources m.place Zero) ≡ Some c = ap (λ (xs : List Src). met_at w n (get_or xs m.place Zero)) e ∙ ap (λ (j : ℕ). met_at w n (operand_at (cell_at n x) j m.place)) (sym q) ∙ m.is in
          inr (record { place = m.place; before = inside_of w n sources m.place c here; is = here }))
    ])
    (λ c m. record { operand = m.operand; before = (let l : m.operand < p = m.before in omega arith); place = m.place; taken = m.taken; is = m.is })
    (λ c m. record { operand = p; before = omega arith; place = m.place; taken = t; is = sym (ap (λ (xs : List Src). met_at w n (get_or xs m.place Zero)) e) ∙ m.is }) h k

-- one that isn't
pub none_before : (w : Walk) (n : Netlist) (x p : ℕ) (a b : List Bool) → takes_operand w (role_at n x) (cell_at n x) p ≡ false → Adds a b (IsMetBefore w n x p) → Adds a b (IsMetBefore w n x (p + 1))
none_before w n x p a b t h = adds_same a b (IsMetBefore w n x p) (IsMetBefore w n x (p + 1))
    (λ c m. elim (split_last m.operand p m.before) [
      | inl l ↦ record { operand = m.operand; before = l; place = m.place; taken = m.taken; is = m.is }
      | inr q ↦ absurd (let z : takes_operand w (role_at n x) (cell_at n x) p ≡ true = ap (takes_operand w (role_at n x) (cell_at n x)) (sym q) ∙ m.taken in cc)
    ])
    (λ c m. record { operand = m.operand; before = (let l : m.operand < p = m.before in omega arith); place = m.place; taken = m.taken; is = m.is }) h

no_operand : (ops : List (List Src)) (q j : ℕ) → length ops ≤ q → get_or (get_or ops q []) j Zero ≡ Zero
no_operand ops q j l = ap (λ (xs : List Src). get_or xs j Zero) (get_or_past ops q [] l)

absent : (w : Walk) (n : Netlist) (x q j c : ℕ) → length (cell_at n x).operands ≤ q → met_at w n (operand_at (cell_at n x) q j) ≡ Some c → ⊥
unfolding met_at
absent w n x q j c l h = absurd (let z : None ≡ Some c = sym (ap (met_at w n) (no_operand (cell_at n x).operands q j l)) ∙ h in cc)

-- all operands
pub all_met : (w : Walk) (n : Netlist) (x end : ℕ) (a b : List Bool) → length (cell_at n x).operands ≤ end → Adds a b (IsMetBefore w n x end) → Adds a b (IsMet w n x)
all_met w n x end a b l h = adds_same a b (IsMetBefore w n x end) (IsMet w n x)
    (λ c m. record { operand = m.operand; place = m.place; taken = m.taken; is = m.is; before = elim (le_or_lt m.operand end) [ inl k ↦ k | inr k ↦ absurd (absent w n x m.operand m.place c (omega arith) m.is) ] })
    (λ c m. record { operand = m.operand; place = m.place; taken = m.taken; is = m.is }) h

-- ---- cell by cell

pub nothing_from : (w : Walk) (n : Netlist) (chosen old : List Bool) → Adds old old (IsMetFrom w n chosen 0)
nothing_from w n chosen old = adds_nothing old _ (λ c h. absurd (let l : h.from < 0 = h.before in omega arith))

pub more_from : (w : Walk) (n : Netlist) (chosen : List Bool) (i : ℕ) (a b d : List Bool) → bit chosen i ≡ true → Adds a b (IsMetFrom w n chosen i) → Adds b d (IsMet w n i) → Adds a d (IsMetFrom w n chosen (i + 1))
more_from w n chosen i a b d t h k = adds_join a b d (IsMetFrom w n chosen i) (IsMet w n i) (IsMetFrom w n chosen (i + 1))
    (λ c m. elim (split_last m.from i m.before) [
      | inl l ↦ inl (record { from = m.from; before = l; is_chosen = m.is_chosen; met = m.met })
      | inr q ↦ inr (subst (λ (j : ℕ). IsMet w n j c) q m.met)
    ])
    (λ c m. record { from = m.from; before = (let l : m.from < i = m.before in omega arith); is_chosen = m.is_chosen; met = m.met })
    (λ c m. record { from = i; before = omega arith; is_chosen = t; met = m }) h k

pub none_from : (w : Walk) (n : Netlist) (chosen : List Bool) (i : ℕ) (a b : List Bool) → bit chosen i ≡ false → Adds a b (IsMetFrom w n chosen i) → Adds a b (IsMetFrom w n chosen (i + 1))
none_from w n chosen i a b t h = adds_same a b (IsMetFrom w n chosen i) (IsMetFrom w n chosen (i + 1))
    (λ c m. elim (split_last m.from i m.before) [
      | inl l ↦ record { from = m.from; before = l; is_chosen = m.is_chosen; met = m.met }
      | inr q ↦ absurd (let z : bit chosen i ≡ true = ap (bit chosen) (sym q) ∙ m.is_chosen in cc)
    ])
    (λ c m. record { from = m.from; before = (let l : m.from < i = m.before in omega arith); is_chosen = m.is_chosen; met = m.met }) h
