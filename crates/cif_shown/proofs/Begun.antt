-- A cycle begins: its sources are set, one after another, from what the cycle before held or from nothing.
use Rattle.std.specs.Prelude.{ℕ, ◌+◌, ◌<◌, ◌≤◌, ◌≡◌, ◌≢◌, ◌==◌, ◌⊎◌, Bool, true, false, List, [], length, get_or, slice_set, refl}
use Rattle.std.proofs.Common.{arith, ap, sym, ◌∙◌, cond, inl, inr, subst, get_or-set_same, get_or-set_other}
use Rattle.std.proofs.lemmas.Bool.Decides.{nat_tests}
use Rattle.cif_defs.specs.Words.{Word, bit}
use Rattle.cif_defs.specs.Evaluation.{is_of_cell}
use Rattle.cif_defs.specs.Loop.{IsLevelled, is_passing}
use Rattle.cif_defs.specs.Netlist.{IsWired, Netlist, cell_at, driver_of, no_cell, role_at}
use Rattle.cif_defs.specs.Cells.{Cell, shape_of}
use Rattle.cif_defs.specs.Kinds.{role_of}
use Rattle.cif_defs.specs.Memory.{read_address, read_taint, read_word}
use Rattle.cif_defs.specs.Run.{driver_value, driver_value_at_depth_0, operand_words, register_bit}
use Rattle.cif_defs.specs.TaintRun.{driver_taint, driver_taint_at_depth_0, operand_taints, register_taint}
use Rattle.cif_defs.specs.declared.kinds.Role.{Role}
use Rattle.cif_defs.specs.declared.kinds.Role.TheVariants.{CarriedOver, Combinational, MemoryBlock, PlainRegister, ResetRegister}
use Rattle.cif_defs.specs.declared.nets.Driver.{Driver}
use Rattle.cif_defs.specs.declared.nets.Driver.TheVariants.{Input, Output, Register, Read, Clock}
use Rattle.cif_defs.proofs.Levels.{driver_rank, given_at_0, register_rank}
use Rattle.cif_defs.proofs.Orders.{in_range}
use Rattle.cif_defs.proofs.TaintSettles.{taint_at_0}
use Rattle.cif_defs.proofs.WordLaws.{le_or_lt}
use Rattle.std.proofs.lemmas.List.{get_or_past}
use Rattle.cif_readers.specs.Reads.{Notes}
use Rattle.cif_shown.specs.Shown.{AreBegun, AreKeptWhere, AreShown, AreSources, CoverBits, Given, IsToCome, KeepsAt, MayBegin, MayChange, Shows, StandsFrom, Waits, is_open, is_open_by, is_plain, is_source, is_source_by}
use Rattle.cif_shown.proofs.Covering.{waits_from_start}
use Rattle.cif_shown.proofs.Passes.{PassedStay, still_or_waits}

-- ---- a source is set

plain_rank : (role : Role) (k : ℕ) → is_plain role ≡ true → register_rank role k ≤ 0
plain_rank PlainRegister k h = omega arith
plain_rank Combinational k h = absurd (cc)
plain_rank ResetRegister k h = absurd (cc)
plain_rank MemoryBlock k h = absurd (cc)
plain_rank CarriedOver k h = absurd (cc)

no_rank : (n : Netlist) (r : ℕ → ℕ) (d : Driver) → is_source_by n d ≡ true → driver_rank n r d ≤ 0
no_rank n r (Input p i) h = omega arith
no_rank n r (Register c i) h = plain_rank (role_at n c) (r c) h
no_rank n r (Output c p i) h = absurd (cc)
no_rank n r (Read c p i) h = absurd (cc)
no_rank n r Clock h = absurd (cc)

no_ranks : ℕ → ℕ
no_ranks c = 0

-- a source shows what it is given, whatever the other bits are
source_shows : (n : Netlist) (g : Given) (values taints : List Bool) (b : ℕ) (x y : Bool) → is_source n b ≡ true → b < length values → b < length taints → x ≡ driver_value_at_depth_0 n g.stored g.input (driver_of n b)
    → y ≡ cond (g.released b) false (driver_taint_at_depth_0 n g.state g.taint_input (driver_of n b)) → Shows n g (slice_set values b x) (slice_set taints b y) b
source_shows n g values taints b x y s lv lt ex ey =
    let low : driver_rank n no_ranks (driver_of n b) ≤ 0 = no_rank n no_ranks (driver_of n b) s in
    record {
      value = get_or-set_same values b x false lv ∙ ex ∙ given_at_0 n g.stored g.input no_ranks (bit (slice_set values b x)) (driver_of n b) low;
      taint = get_or-set_same taints b y false lt ∙ ey ∙ ap (λ z. cond (g.released b) false z) (taint_at_0 n g.stored (bit (slice_set values b x)) g.state g.taint_input no_ranks (bit (slice_set taints b y)) (driver_of n b) low);
    }

nobody_passed : (n : Netlist) (order : List ℕ) (values taints new_values new_taints : List Bool) → PassedStay n order 0 values taints new_values new_taints
nobody_passed n order values taints new_values new_taints = λ c q j x e l k h. absurd (omega arith)

same_or_not : (i j : ℕ) → (i ≡ j) ⊎ (i ≢ j)
same_or_not i j = search arith

-- a source that isn't the one at a place stands after it
stands_on : (sources : List ℕ) (i b z : ℕ) → get_or sources i 0 ≡ b → z ≢ b → StandsFrom sources i z → StandsFrom sources (i + 1) z
stands_on sources i b z at d h = record {
  place = h.place;
  not_passed = elim (same_or_not h.place i) [
    | inl e ↦ absurd (d (sym h.here ∙ ap (λ k. get_or sources k 0) e ∙ at))
    | inr k ↦ (let l : i ≤ h.place = h.not_passed in search arith)
  ];
  inside = h.inside;
  here = h.here;
}

open_kept : (marks new_marks : List Bool) (d : Driver) → ((c : ℕ) → bit marks c ≡ true → bit new_marks c ≡ true) → is_open_by marks d ≡ true → is_open_by new_marks d ≡ true
open_kept marks new_marks (Input p i) k h = refl
open_kept marks new_marks (Register c i) k h = k c h
open_kept marks new_marks (Output c p i) k h = absurd (cc)
open_kept marks new_marks (Read c p i) k h = absurd (cc)
open_kept marks new_marks Clock k h = absurd (cc)

set_other : (n : Netlist) (g : Given) (order cells sources : List ℕ) (covered : ℕ → Bool) (i b z : ℕ) (x y : Bool) (values taints marks new_marks : List Bool) → IsWired n → IsLevelled n order → CoverBits n order cells covered → covered z ≡ true → get_or sources i 0 ≡ b → z ≢ b
    → Notes n values taints (slice_set values b x) (slice_set taints b y) marks new_marks → Shows n g values taints z ⊎ (Waits n cells 0 marks z ⊎ IsToCome n sources i marks z)
    → Shows n g (slice_set values b x) (slice_set taints b y) z ⊎ (Waits n cells 0 new_marks z ⊎ IsToCome n sources (i + 1) new_marks z)
set_other n g order cells sources covered i b z x y values taints marks new_marks w o k c at d m (inl h) =
    elim (still_or_waits n g order 0 z values taints (slice_set values b x) (slice_set taints b y) marks new_marks w o m (nobody_passed n order values taints (slice_set values b x) (slice_set taints b y))
    (get_or-set_other values b z x false d) (get_or-set_other taints b z y false d) h) [ inl q ↦ inl q | inr q ↦ inr (inl (waits_from_start n order cells covered z new_marks o k c q)) ]
set_other n g order cells sources covered i b z x y values taints marks new_marks w o k c at d m (inr (inl h)) = inr (inl (record {
  place = h.place;
  not_passed = h.not_passed;
  inside = h.inside;
  drives = h.drives;
  marked = m.kept (get_or cells h.place 0) h.marked;
}))
set_other n g order cells sources covered i b z x y values taints marks new_marks w o k c at d m (inr (inr h)) = inr (inr (record {
  stands = stands_on sources i b z at d h.stands;
  is_open = open_kept marks new_marks (driver_of n z) m.kept h.is_open;
}))

-- one more source is set
pub source_set : (n : Netlist) (g : Given) (order cells sources : List ℕ) (covered : ℕ → Bool) (i b : ℕ) (x y : Bool) (values taints marks new_marks : List Bool) → IsWired n → IsLevelled n order → CoverBits n order cells covered → AreSources n sources → i < length sources → b ≡ get_or sources i 0 → length values ≡ length n.drivers
    → length taints ≡ length n.drivers → x ≡ driver_value_at_depth_0 n g.stored g.input (driver_of n b) → y ≡ cond (g.released b) false (driver_taint_at_depth_0 n g.state g.taint_input (driver_of n b))
    → Notes n values taints (slice_set values b x) (slice_set taints b y) marks new_marks → AreBegun covered n g cells sources i marks values taints → AreBegun covered n g cells sources (i + 1) new_marks (slice_set values b x) (slice_set taints b y)
unfolding AreBegun
source_set n g order cells sources covered i b x y values taints marks new_marks w o k s l at sv st ex ey m h = λ z c. elim (same_or_not z b) [
  | inl e ↦ (let inside : get_or sources i 0 < length n.drivers = s.inside i l in
      let here = source_shows n g values taints b x y (ap (is_source n) at ∙ s.only i l) (omega arith) (omega arith) ex ey in
      inl (subst (λ (q : ℕ). Shows n g (slice_set values b x) (slice_set taints b y) q) (sym e) here))
  | inr d ↦ set_other n g order cells sources covered i b z x y values taints marks new_marks w o k c (sym at) d m (h z c)
]

-- a source that can't change is passed over
passed_bit : (n : Netlist) (g : Given) (cells sources : List ℕ) (i b z : ℕ) (values taints marks : List Bool) → get_or sources i 0 ≡ b → is_open n marks b ≡ false → Shows n g values taints z ⊎ (Waits n cells 0 marks z ⊎ IsToCome n sources i marks z)
    → Shows n g values taints z ⊎ (Waits n cells 0 marks z ⊎ IsToCome n sources (i + 1) marks z)
passed_bit n g cells sources i b z values taints marks at shut (inl h) = inl h
passed_bit n g cells sources i b z values taints marks at shut (inr (inl h)) = inr (inl h)
passed_bit n g cells sources i b z values taints marks at shut (inr (inr h)) = inr (inr (record {
  stands = stands_on sources i b z at (λ e. let q : true ≡ false = sym h.is_open ∙ ap (is_open n marks) e ∙ shut in absurd (cc)) h.stands;
  is_open = h.is_open;
}))

pub source_passed : (n : Netlist) (g : Given) (cells sources : List ℕ) (covered : ℕ → Bool) (i b : ℕ) (values taints marks : List Bool) → b ≡ get_or sources i 0 → is_open n marks b ≡ false → AreBegun covered n g cells sources i marks values taints → AreBegun covered n g cells sources (i + 1) marks values taints
unfolding AreBegun
source_passed n g cells sources covered i b values taints marks at shut h = λ z c. passed_bit n g cells sources i b z values taints marks (sym at) shut (h z c)

begin_bit : (n : Netlist) (g : Given) (cells sources : List ℕ) (b : ℕ) (values taints marks : List Bool) → AreSources n sources → Shows n g values taints b ⊎ (Waits n cells 0 marks b ⊎ MayChange n marks b)
    → Shows n g values taints b ⊎ (Waits n cells 0 marks b ⊎ IsToCome n sources 0 marks b)
begin_bit n g cells sources b values taints marks s (inl h) = inl h
begin_bit n g cells sources b values taints marks s (inr (inl h)) = inr (inl h)
begin_bit n g cells sources b values taints marks s (inr (inr h)) = inr (inr (record { stands = s.each b h.source; is_open = h.is_open }))

pub sources_begun : (n : Netlist) (g : Given) (cells sources : List ℕ) (covered : ℕ → Bool) (values taints marks : List Bool) → AreSources n sources → MayBegin covered n g cells marks values taints → AreBegun covered n g cells sources 0 marks values taints
unfolding AreBegun MayBegin
sources_begun n g cells sources covered values taints marks s h = λ b c. begin_bit n g cells sources b values taints marks s (h b c)

done_bit : (n : Netlist) (g : Given) (cells sources : List ℕ) (i b : ℕ) (values taints marks : List Bool) → length sources ≤ i → Shows n g values taints b ⊎ (Waits n cells 0 marks b ⊎ IsToCome n sources i marks b) → Shows n g values taints b ⊎ Waits n cells 0 marks b
done_bit n g cells sources i b values taints marks l (inl h) = inl h
done_bit n g cells sources i b values taints marks l (inr (inl h)) = inr h
done_bit n g cells sources i b values taints marks l (inr (inr h)) = absurd (let p : i ≤ h.stands.place = h.stands.not_passed in let q : h.stands.place < length sources = h.stands.inside in omega arith)

pub sources_done : (n : Netlist) (g : Given) (cells sources : List ℕ) (covered : ℕ → Bool) (i : ℕ) (values taints marks : List Bool) → length sources ≤ i → AreBegun covered n g cells sources i marks values taints → AreShown covered n g cells 0 marks values taints
unfolding AreBegun AreShown
sources_done n g cells sources covered i values taints marks l h = λ b c. done_bit n g cells sources i b values taints marks l (h b c)

-- ---- from the cycle before

-- where a bit is driven by passing cells, these stand among the cells
abbrev pub IsDriven : Netlist → List ℕ → ℕ → Type 0
IsDriven n cells b = (c : ℕ) → is_of_cell c (driver_of n b) ≡ true → is_passing (role_at n c) ≡ true → (i : ℕ) × (i < length cells) × (get_or cells i 0 ≡ c)

-- a cell that drives a bit and is marked stands among the cells
waits_at : (n : Netlist) (cells : List ℕ) (c b : ℕ) (marks : List Bool) → IsDriven n cells b → is_passing (role_at n c) ≡ true → is_of_cell c (driver_of n b) ≡ true → bit marks c ≡ true → Waits n cells 0 marks b
waits_at n cells c b marks k p is m =
    let at = k c is p in
    record {
      place = at.0;
      not_passed = omega arith;
      inside = at.1;
      drives = ap (λ z. is_of_cell z (driver_of n b)) at.2 ∙ is;
      marked = ap (bit marks) at.2 ∙ m;
    }

own_cell : (c : ℕ) → (c == c) ≡ true
own_cell c = grind (arith, nat_tests)

-- where a driver gives the same as in the cycle before
given_again : (n : Netlist) (before after : Given) (b : ℕ) (d : Driver) (values taints : List Bool) → driver_of n b ≡ d → ((k : ℕ) → before.released k ≡ after.released k)
    → driver_value n before.stored before.input (bit values) d ≡ driver_value n after.stored after.input (bit values) d
    → driver_taint n before.stored (bit values) before.state before.taint_input (bit taints) d ≡ driver_taint n after.stored (bit values) after.state after.taint_input (bit taints) d → Shows n before values taints b → Shows n after values taints b
given_again n before after b d values taints e r ev et h = record {
  value = h.value ∙ ap (driver_value n before.stored before.input (bit values)) e ∙ ev ∙ sym (ap (driver_value n after.stored after.input (bit values)) e);
  taint = h.taint ∙ ap (λ x. cond x false (driver_taint n before.stored (bit values) before.state before.taint_input (bit taints) (driver_of n b))) (r b)
      ∙ ap (λ x. cond (after.released b) false (driver_taint n before.stored (bit values) before.state before.taint_input (bit taints) x)) e
      ∙ ap (λ x. cond (after.released b) false x) et
      ∙ sym (ap (λ x. cond (after.released b) false (driver_taint n after.stored (bit values) after.state after.taint_input (bit taints) x)) e);
}

output_again : (n : Netlist) (before after : Given) (c p i : ℕ) (values : List Bool) → driver_value n before.stored before.input (bit values) (Output c p i) ≡ driver_value n after.stored after.input (bit values) (Output c p i)
unfolding driver_value
output_again n before after c p i values = refl

output_taint_again : (n : Netlist) (before after : Given) (c p i : ℕ) (values taints : List Bool)
    → driver_taint n before.stored (bit values) before.state before.taint_input (bit taints) (Output c p i) ≡ driver_taint n after.stored (bit values) after.state after.taint_input (bit taints) (Output c p i)
unfolding driver_taint
output_taint_again n before after c p i values taints = refl

clock_again : (n : Netlist) (before after : Given) (values : List Bool) → driver_value n before.stored before.input (bit values) Clock ≡ driver_value n after.stored after.input (bit values) Clock
unfolding driver_value
clock_again n before after values = refl

clock_taint_again : (n : Netlist) (before after : Given) (values taints : List Bool)
    → driver_taint n before.stored (bit values) before.state before.taint_input (bit taints) Clock ≡ driver_taint n after.stored (bit values) after.state after.taint_input (bit taints) Clock
unfolding driver_taint
clock_taint_again n before after values taints = refl

read_value_again : (n : Netlist) (before after : Given) (c r i : ℕ) (values : List Bool) → KeepsAt before after c → driver_value n before.stored before.input (bit values) (Read c r i) ≡ driver_value n after.stored after.input (bit values) (Read c r i)
unfolding driver_value
read_value_again n before after c r i values k = ap (λ (w : Word). bit (read_word (shape_of (cell_at n c)) (read_address (shape_of (cell_at n c)) (operand_words (bit values) (cell_at n c)) r) w) i) (sym k.value)

read_taint_again : (n : Netlist) (before after : Given) (c r i : ℕ) (values taints : List Bool) → KeepsAt before after c
    → driver_taint n before.stored (bit values) before.state before.taint_input (bit taints) (Read c r i) ≡ driver_taint n after.stored (bit values) after.state after.taint_input (bit taints) (Read c r i)
unfolding driver_taint
read_taint_again n before after c r i values taints k =
    ap (λ (x : Bool). bit (read_taint (shape_of (cell_at n c)) (read_address (shape_of (cell_at n c)) (operand_words (bit values) (cell_at n c)) r) (read_address (shape_of (cell_at n c)) (operand_taints (bit taints) (cell_at n c)) r) x (get_or before.state.stored c [])) i) (sym k.flag)
    ∙ ap (λ (w : Word). bit (read_taint (shape_of (cell_at n c)) (read_address (shape_of (cell_at n c)) (operand_words (bit values) (cell_at n c)) r) (read_address (shape_of (cell_at n c)) (operand_taints (bit taints) (cell_at n c)) r) (get_or after.state.flags c false) w) i) (sym k.taint)

register_value_again : (n : Netlist) (before after : Given) (c i : ℕ) (values : List Bool) → KeepsAt before after c → driver_value n before.stored before.input (bit values) (Register c i) ≡ driver_value n after.stored after.input (bit values) (Register c i)
unfolding driver_value
register_value_again n before after c i values k = ap (λ (w : Word). register_bit (role_at n c) (cell_at n c) (bit values) w i) (sym k.value)

register_taint_again : (n : Netlist) (before after : Given) (c i : ℕ) (values taints : List Bool) → KeepsAt before after c
    → driver_taint n before.stored (bit values) before.state before.taint_input (bit taints) (Register c i) ≡ driver_taint n after.stored (bit values) after.state after.taint_input (bit taints) (Register c i)
unfolding driver_taint
register_taint_again n before after c i values taints k =
    ap (λ (w : Word). register_taint (role_at n c) (cell_at n c) (bit values) (bit taints) w (get_or before.state.stored c []) i) (sym k.value)
    ∙ ap (λ (w : Word). register_taint (role_at n c) (cell_at n c) (bit values) (bit taints) (get_or after.stored c []) w i) (sym k.taint)

plain_open : (n : Netlist) (b c i : ℕ) (marks : List Bool) → driver_of n b ≡ Register c i → role_at n c ≡ PlainRegister → bit marks c ≡ true → MayChange n marks b
plain_open n b c i marks e f m = record {
  source = ap (is_source_by n) e ∙ ap is_plain f;
  is_open = ap (is_open_by marks) e ∙ m;
}

input_open : (n : Netlist) (b p i : ℕ) (marks : List Bool) → driver_of n b ≡ Input p i → MayChange n marks b
input_open n b p i marks e = record {
  source = ap (is_source_by n) e;
  is_open = ap (is_open_by marks) e;
}

-- a bit of a passing cell: marked, it waits, and else it shows what it showed
cell_again : (n : Netlist) (before after : Given) (cells : List ℕ) (b c : ℕ) (d : Driver) (values taints marks : List Bool) (m : Bool) → IsDriven n cells b → driver_of n b ≡ d → is_of_cell c d ≡ true → is_passing (role_at n c) ≡ true → bit marks c ≡ m
    → (bit marks c ≡ false → Shows n after values taints b) → Shows n after values taints b ⊎ (Waits n cells 0 marks b ⊎ MayChange n marks b)
cell_again n before after cells b c d values taints marks true o e is p f h = inr (inl (waits_at n cells c b marks o p (ap (is_of_cell c) e ∙ is) f))
cell_again n before after cells b c d values taints marks false o e is p f h = inl (h f)

-- a source of a register: marked, it may change, and else it shows what it showed
plain_again : (n : Netlist) (before after : Given) (cells : List ℕ) (b c i : ℕ) (values taints marks : List Bool) (m : Bool) → driver_of n b ≡ Register c i → role_at n c ≡ PlainRegister → bit marks c ≡ m
    → (bit marks c ≡ false → Shows n after values taints b) → Shows n after values taints b ⊎ (Waits n cells 0 marks b ⊎ MayChange n marks b)
plain_again n before after cells b c i values taints marks true e f m h = inr (inr (plain_open n b c i marks e f m))
plain_again n before after cells b c i values taints marks false e f m h = inl (h m)

register_again : (n : Netlist) (before after : Given) (cells : List ℕ) (b c i : ℕ) (values taints marks : List Bool) (role : Role) → IsWired n → IsDriven n cells b → ((k : ℕ) → before.released k ≡ after.released k) → (bit marks c ≡ false → KeepsAt before after c)
    → driver_of n b ≡ Register c i → role_at n c ≡ role → Shows n before values taints b → Shows n after values taints b ⊎ (Waits n cells 0 marks b ⊎ MayChange n marks b)
register_again n before after cells b c i values taints marks PlainRegister w o r k e f h =
    plain_again n before after cells b c i values taints marks (bit marks c) e f refl
    (λ clear. given_again n before after b (Register c i) values taints e r (register_value_again n before after c i values (k clear)) (register_taint_again n before after c i values taints (k clear)) h)
register_again n before after cells b c i values taints marks ResetRegister w o r k e f h =
    cell_again n before after cells b c (Register c i) values taints marks (bit marks c) o e (own_cell c) (ap is_passing f) refl
    (λ clear. given_again n before after b (Register c i) values taints e r (register_value_again n before after c i values (k clear)) (register_taint_again n before after c i values taints (k clear)) h)
register_again n before after cells b c i values taints marks Combinational w o r k e f h = absurd (elim (w.register_role b c i e) [ inl q ↦ (let z : PlainRegister ≡ Combinational = sym q ∙ f in absurd (cc)) | inr q ↦ (let z : ResetRegister ≡ Combinational = sym q ∙ f in absurd (cc)) ])
register_again n before after cells b c i values taints marks MemoryBlock w o r k e f h = absurd (elim (w.register_role b c i e) [ inl q ↦ (let z : PlainRegister ≡ MemoryBlock = sym q ∙ f in absurd (cc)) | inr q ↦ (let z : ResetRegister ≡ MemoryBlock = sym q ∙ f in absurd (cc)) ])
register_again n before after cells b c i values taints marks CarriedOver w o r k e f h = absurd (elim (w.register_role b c i e) [ inl q ↦ (let z : PlainRegister ≡ CarriedOver = sym q ∙ f in absurd (cc)) | inr q ↦ (let z : ResetRegister ≡ CarriedOver = sym q ∙ f in absurd (cc)) ])

again_by : (n : Netlist) (before after : Given) (cells : List ℕ) (b : ℕ) (values taints marks : List Bool) (d : Driver) → IsWired n → IsDriven n cells b → ((k : ℕ) → before.released k ≡ after.released k) → ((c : ℕ) → is_of_cell c (driver_of n b) ≡ true → bit marks c ≡ false → KeepsAt before after c)
    → driver_of n b ≡ d → Shows n before values taints b → Shows n after values taints b ⊎ (Waits n cells 0 marks b ⊎ MayChange n marks b)
again_by n before after cells b values taints marks (Input p i) w o r k e h = inr (inr (input_open n b p i marks e))
again_by n before after cells b values taints marks Clock w o r k e h = inl (given_again n before after b Clock values taints e r (clock_again n before after values) (clock_taint_again n before after values taints) h)
again_by n before after cells b values taints marks (Output c p i) w o r k e h = inl (given_again n before after b (Output c p i) values taints e r (output_again n before after c p i values) (output_taint_again n before after c p i values taints) h)
again_by n before after cells b values taints marks (Register c i) w o r k e h = register_again n before after cells b c i values taints marks (role_at n c) w o r (k c (ap (is_of_cell c) e ∙ own_cell c)) e refl h
again_by n before after cells b values taints marks (Read c p i) w o r k e h =
    cell_again n before after cells b c (Read c p i) values taints marks (bit marks c) o e (own_cell c) (ap is_passing (w.read_role b c p i e)) refl
    (λ clear. given_again n before after b (Read c p i) values taints e r (read_value_again n before after c p i values (k c (ap (is_of_cell c) e ∙ own_cell c) clear)) (read_taint_again n before after c p i values taints (k c (ap (is_of_cell c) e ∙ own_cell c) clear)) h)

-- a cycle may begin with what the one before held, where the cells are marked that store something else
pub begins_again : (n : Netlist) (before after : Given) (order cells : List ℕ) (covered : ℕ → Bool) (values taints marks : List Bool) → IsWired n → CoverBits n order cells covered → ((k : ℕ) → before.released k ≡ after.released k) → AreKeptWhere covered n before after marks
    → ((b : ℕ) → covered b ≡ true → Shows n before values taints b) → MayBegin covered n after cells marks values taints
unfolding MayBegin AreKeptWhere
begins_again n before after order cells covered values taints marks w k r kept h = λ b c. again_by n before after cells b values taints marks (driver_of n b) w (λ x. k.drive b x c) r (λ x. kept b x c) refl (h b c)

-- ---- by words that are the same where they are read

input_value_again : (n : Netlist) (before after : Given) (p i : ℕ) (values : List Bool) → before.input p i ≡ after.input p i → driver_value n before.stored before.input (bit values) (Input p i) ≡ driver_value n after.stored after.input (bit values) (Input p i)
unfolding driver_value
input_value_again n before after p i values e = e

input_taint_again : (n : Netlist) (before after : Given) (p i : ℕ) (values taints : List Bool) → before.taint_input p i ≡ after.taint_input p i
    → driver_taint n before.stored (bit values) before.state before.taint_input (bit taints) (Input p i) ≡ driver_taint n after.stored (bit values) after.state after.taint_input (bit taints) (Input p i)
unfolding driver_taint
input_taint_again n before after p i values taints e = e

alike_by : (n : Netlist) (before after : Given) (b : ℕ) (values taints : List Bool) (d : Driver) → ((k : ℕ) → before.released k ≡ after.released k) → ((p i : ℕ) → before.input p i ≡ after.input p i) → ((p i : ℕ) → before.taint_input p i ≡ after.taint_input p i)
    → ((c : ℕ) → is_of_cell c (driver_of n b) ≡ true → KeepsAt before after c) → driver_of n b ≡ d → Shows n before values taints b → Shows n after values taints b
alike_by n before after b values taints (Input p i) r ev et k e h = given_again n before after b (Input p i) values taints e r (input_value_again n before after p i values (ev p i)) (input_taint_again n before after p i values taints (et p i)) h
alike_by n before after b values taints Clock r ev et k e h = given_again n before after b Clock values taints e r (clock_again n before after values) (clock_taint_again n before after values taints) h
alike_by n before after b values taints (Output c p i) r ev et k e h = given_again n before after b (Output c p i) values taints e r (output_again n before after c p i values) (output_taint_again n before after c p i values taints) h
alike_by n before after b values taints (Register c i) r ev et k e h =
    let kept : KeepsAt before after c = k c (ap (is_of_cell c) e ∙ own_cell c) in
    given_again n before after b (Register c i) values taints e r (register_value_again n before after c i values kept) (register_taint_again n before after c i values taints kept) h
alike_by n before after b values taints (Read c p i) r ev et k e h =
    let kept : KeepsAt before after c = k c (ap (is_of_cell c) e ∙ own_cell c) in
    given_again n before after b (Read c p i) values taints e r (read_value_again n before after c p i values kept) (read_taint_again n before after c p i values taints kept) h

-- a bit shows the same where the cell that drives it stores the same
pub shows_alike : (n : Netlist) (before after : Given) (b : ℕ) (values taints : List Bool) → ((k : ℕ) → before.released k ≡ after.released k) → ((p i : ℕ) → before.input p i ≡ after.input p i) → ((p i : ℕ) → before.taint_input p i ≡ after.taint_input p i)
    → ((c : ℕ) → is_of_cell c (driver_of n b) ≡ true → KeepsAt before after c) → Shows n before values taints b → Shows n after values taints b
shows_alike n before after b values taints r ev et k h = alike_by n before after b values taints (driver_of n b) r ev et k refl h

-- ---- from nothing

plain_in_range : (n : Netlist) (c : ℕ) → role_at n c ≡ PlainRegister → c < length n.cells
plain_in_range n c h = elim (le_or_lt c (length n.cells)) [
  | inl l ↦ l
  | inr l ↦ absurd (let e : role_at n c ≡ CarriedOver = ap (λ (x : Cell). role_of x.kind) (get_or_past n.cells c no_cell l) in let q : PlainRegister ≡ CarriedOver = sym h ∙ e in cc)
]

clear_register : (n : Netlist) (g : Given) (cells : List ℕ) (b c i : ℕ) (values taints marks : List Bool) (role : Role) → IsWired n → IsDriven n cells b → (c < length n.cells → bit marks c ≡ true) → driver_of n b ≡ Register c i → role_at n c ≡ role
    → Shows n g values taints b ⊎ (Waits n cells 0 marks b ⊎ MayChange n marks b)
clear_register n g cells b c i values taints marks PlainRegister w o m e f = inr (inr (plain_open n b c i marks e f (m (plain_in_range n c f))))
clear_register n g cells b c i values taints marks ResetRegister w o m e f =
    inr (inl (waits_at n cells c b marks o (ap is_passing f) (ap (is_of_cell c) e ∙ own_cell c) (m (in_range n c (ap is_passing f)))))
clear_register n g cells b c i values taints marks Combinational w o m e f = absurd (elim (w.register_role b c i e) [ inl q ↦ (let z : PlainRegister ≡ Combinational = sym q ∙ f in absurd (cc)) | inr q ↦ (let z : ResetRegister ≡ Combinational = sym q ∙ f in absurd (cc)) ])
clear_register n g cells b c i values taints marks MemoryBlock w o m e f = absurd (elim (w.register_role b c i e) [ inl q ↦ (let z : PlainRegister ≡ MemoryBlock = sym q ∙ f in absurd (cc)) | inr q ↦ (let z : ResetRegister ≡ MemoryBlock = sym q ∙ f in absurd (cc)) ])
clear_register n g cells b c i values taints marks CarriedOver w o m e f = absurd (elim (w.register_role b c i e) [ inl q ↦ (let z : PlainRegister ≡ CarriedOver = sym q ∙ f in absurd (cc)) | inr q ↦ (let z : ResetRegister ≡ CarriedOver = sym q ∙ f in absurd (cc)) ])

clock_value : (n : Netlist) (g : Given) (v : ℕ → Bool) → driver_value n g.stored g.input v Clock ≡ false
unfolding driver_value
clock_value n g v = refl

clock_taint : (n : Netlist) (g : Given) (v t : ℕ → Bool) → driver_taint n g.stored v g.state g.taint_input t Clock ≡ false
unfolding driver_taint
clock_taint n g v t = refl

released_false : (r : Bool) → cond r false false ≡ false
released_false true = refl
released_false false = refl

clear_by : (n : Netlist) (g : Given) (cells : List ℕ) (b : ℕ) (values taints marks : List Bool) (d : Driver) → IsWired n → IsDriven n cells b → bit values b ≡ false → bit taints b ≡ false → ((c : ℕ) → c < length n.cells → bit marks c ≡ true) → driver_of n b ≡ d
    → Shows n g values taints b ⊎ (Waits n cells 0 marks b ⊎ MayChange n marks b)
clear_by n g cells b values taints marks (Input p i) w o ev et m e = inr (inr (input_open n b p i marks e))
clear_by n g cells b values taints marks Clock w o ev et m e = inl (record {
  value = ev ∙ sym (ap (driver_value n g.stored g.input (bit values)) e ∙ clock_value n g (bit values));
  taint = et ∙ sym (ap (λ d. cond (g.released b) false (driver_taint n g.stored (bit values) g.state g.taint_input (bit taints) d)) e ∙ ap (λ x. cond (g.released b) false x) (clock_taint n g (bit values) (bit taints)) ∙ released_false (g.released b));
})
clear_by n g cells b values taints marks (Output c p i) w o ev et m e =
    inr (inl (waits_at n cells c b marks o (ap is_passing (w.output_role b c p i e)) (ap (is_of_cell c) e ∙ own_cell c) (m c (in_range n c (ap is_passing (w.output_role b c p i e))))))
clear_by n g cells b values taints marks (Read c p i) w o ev et m e =
    inr (inl (waits_at n cells c b marks o (ap is_passing (w.read_role b c p i e)) (ap (is_of_cell c) e ∙ own_cell c) (m c (in_range n c (ap is_passing (w.read_role b c p i e))))))
clear_by n g cells b values taints marks (Register c i) w o ev et m e = clear_register n g cells b c i values taints marks (role_at n c) w o (m c) e refl

-- a cycle may begin with all bits 0 and untainted, where all cells are marked
pub begins_clear : (n : Netlist) (g : Given) (order cells : List ℕ) (covered : ℕ → Bool) (values taints marks : List Bool) → IsWired n → CoverBits n order cells covered → ((b : ℕ) → bit values b ≡ false) → ((b : ℕ) → bit taints b ≡ false)
    → ((c : ℕ) → c < length n.cells → bit marks c ≡ true) → MayBegin covered n g cells marks values taints
unfolding MayBegin
begins_clear n g order cells covered values taints marks w k ev et m = λ b c. clear_by n g cells b values taints marks (driver_of n b) w (λ x. k.drive b x c) (ev b) (et b) m refl
