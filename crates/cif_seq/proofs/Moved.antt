-- Which cells store something else after a cycle, and which rest.
use Rattle.std.specs.Prelude.{ℕ, ◌+◌, ◌<◌, ◌≤◌, ◌≡◌, ◌≢◌, ◌⊎◌, Bool, true, false, List, [], length, map, get_or, replicate, slice_set, refl}
use Rattle.std.specs.List.{range_with_len}
use Rattle.std.proofs.Common.{arith, ap, sym, ◌∙◌, inl, inr, subst, get_or-set_same, get_or-set_other}
use Rattle.std.proofs.lemmas.List.{ext_get_or, get_or_past, get_or-replicate, length-set}
use Rattle.std.proofs.lemmas.List.FromFn.{get_or-map-range_with_len, length-map-range_with_len}
use Rattle.cif_defs.specs.Words.{Word, bit}
use Rattle.cif_defs.specs.Cells.{Cell, state_bits}
use Rattle.cif_defs.specs.Kinds.{role_of}
use Rattle.cif_defs.specs.Netlist.{Netlist, cell_at, no_cell, role_at}
use Rattle.cif_defs.specs.Run.{next_stored, stored_by}
use Rattle.cif_defs.specs.TaintRun.{flag_by, next_taints, taint_stored_by}
use Rattle.cif_defs.specs.declared.kinds.Role.{Role}
use Rattle.cif_defs.specs.declared.kinds.Role.TheVariants.{CarriedOver}
use Rattle.cif_defs.proofs.WordLaws.{le_or_lt}
use Rattle.cif_shown.specs.Shown.{AreKept, AreResting, Follows, Given, KeepsAt, Rests, WillRest}
use Rattle.cif_seq.specs.States.{MovesCell}
use Rattle.cif_seq.specs.Stored.{IsStored, given_words}
use Rattle.cif_seq.proofs.StateWidths.{length-stored, length-taint}

-- ---- one cell

same_or_not : (i j : ℕ) → (i ≡ j) ⊎ (i ≢ j)
same_or_not i j = search arith

-- a cell that isn't marked rests
pub cell_rested : (n : Netlist) (g : Given) (values taints marks : List Bool) (c : ℕ) → Rests n g values taints c → MovesCell n g g values taints marks marks c
cell_rested n g values taints marks c h = record {
  follows = record { value = sym h.value; taint = sym h.taint; flag = sym h.flag };
  kept = λ e. keeps g c;
  others = λ d e. keeps g d;
  other_marks = λ d e. refl;
}
  where
    keeps : (g : Given) (d : ℕ) → KeepsAt g g d
    keeps g d = record { value = refl; taint = refl; flag = refl }

-- a cell whose words, flag and mark are written
pub cell_moved : (n : Netlist) (stored stored_taints : List Word) (flags : List Bool) (new new_taints : List Word) (new_flags values taints marks new_marks : List Bool) (c : ℕ) (w u x y : Word) (g f m : Bool) → IsStored n stored stored_taints flags → c < length n.cells → length marks ≡ length n.cells
    → w ≡ get_or stored c [] → u ≡ get_or stored_taints c [] → g ≡ get_or flags c false → x ≡ stored_by (role_at n c) (cell_at n c) (bit values) w → y ≡ taint_stored_by (role_at n c) (cell_at n c) (bit values) (bit taints) w u
    → f ≡ flag_by (role_at n c) (cell_at n c) (bit values) (bit taints) g → (m ≡ false → x ≡ w) → (m ≡ false → y ≡ u) → (m ≡ false → f ≡ g)
    → new ≡ slice_set stored c x → new_taints ≡ slice_set stored_taints c y → new_flags ≡ slice_set flags c f → new_marks ≡ slice_set marks c m
    → MovesCell n (given_words stored stored_taints flags) (given_words new new_taints new_flags) values taints marks new_marks c
cell_moved n stored stored_taints flags new new_taints new_flags values taints marks new_marks c w u x y g f m s l lm ew eu eg ex ey ef kx ky kf nv nt nf nm =
    let lv : length stored ≡ length n.cells = s.as_many_values in
    let lt : length stored_taints ≡ length n.cells = s.as_many_taints in
    let lf : length flags ≡ length n.cells = s.as_many_flags in
    let here : get_or new c [] ≡ x = ap (λ (ws : List Word). get_or ws c []) nv ∙ get_or-set_same stored c x [] (omega arith) in
    let here_taint : get_or new_taints c [] ≡ y = ap (λ (ws : List Word). get_or ws c []) nt ∙ get_or-set_same stored_taints c y [] (omega arith) in
    let here_flag : get_or new_flags c false ≡ f = ap (λ (bs : List Bool). get_or bs c false) nf ∙ get_or-set_same flags c f false (omega arith) in
    let here_mark : bit new_marks c ≡ m = ap (λ (bs : List Bool). bit bs c) nm ∙ get_or-set_same marks c m false (omega arith) in
    record {
      follows = record {
        value = here ∙ ex ∙ ap (λ (z : Word). stored_by (role_at n c) (cell_at n c) (bit values) z) ew;
        taint = here_taint ∙ ey ∙ ap (λ (z : Word). taint_stored_by (role_at n c) (cell_at n c) (bit values) (bit taints) z u) ew ∙ ap (λ (z : Word). taint_stored_by (role_at n c) (cell_at n c) (bit values) (bit taints) (get_or stored c []) z) eu;
        flag = here_flag ∙ ef ∙ ap (λ z. flag_by (role_at n c) (cell_at n c) (bit values) (bit taints) z) eg;
      };
      kept = λ e. let still : m ≡ false = sym here_mark ∙ e in record {
        value = here ∙ kx still ∙ ew;
        taint = here_taint ∙ ky still ∙ eu;
        flag = here_flag ∙ kf still ∙ eg;
      };
      others = λ d e. record {
        value = ap (λ (ws : List Word). get_or ws d []) nv ∙ get_or-set_other stored c d x [] e;
        taint = ap (λ (ws : List Word). get_or ws d []) nt ∙ get_or-set_other stored_taints c d y [] e;
        flag = ap (λ (bs : List Bool). get_or bs d false) nf ∙ get_or-set_other flags c d f false e;
      };
      other_marks = λ d e. ap (λ (bs : List Bool). bit bs d) nm ∙ get_or-set_other marks c d m false e;
    }

-- a list in which the entry at a cell's number is written, and each entry then has the cell's width
set_wide : (n : Netlist) (ws : List Word) (c d : ℕ) (x : Word) → c < length ws → length x ≡ state_bits (cell_at n c) → (d < length n.cells → length (get_or ws d []) ≡ state_bits (cell_at n d)) → d < length n.cells → length (get_or (slice_set ws c x) d []) ≡ state_bits (cell_at n d)
set_wide n ws c d x l e h ld = elim (same_or_not d c) [
  | inl q ↦ ap (λ k. length (get_or (slice_set ws c x) k [])) q ∙ ap length (get_or-set_same ws c x [] l) ∙ e ∙ ap (λ k. state_bits (cell_at n k)) (sym q)
  | inr q ↦ ap length (get_or-set_other ws c d x [] q) ∙ h ld
]

-- the words are still as long as the states of the cells
pub moved_stored : (n : Netlist) (stored stored_taints : List Word) (flags : List Bool) (new new_taints : List Word) (new_flags values taints : List Bool) (c : ℕ) (w u x y : Word) (f : Bool) → IsStored n stored stored_taints flags → c < length n.cells
    → x ≡ stored_by (role_at n c) (cell_at n c) (bit values) w → y ≡ taint_stored_by (role_at n c) (cell_at n c) (bit values) (bit taints) w u → new ≡ slice_set stored c x → new_taints ≡ slice_set stored_taints c y → new_flags ≡ slice_set flags c f → IsStored n new new_taints new_flags
moved_stored n stored stored_taints flags new new_taints new_flags values taints c w u x y f s l ex ey nv nt nf =
    let lv : length stored ≡ length n.cells = s.as_many_values in
    let lt : length stored_taints ≡ length n.cells = s.as_many_taints in
    record {
      as_many_values = ap length nv ∙ length-set stored c x ∙ s.as_many_values;
      as_many_taints = ap length nt ∙ length-set stored_taints c y ∙ s.as_many_taints;
      as_many_flags = ap length nf ∙ length-set flags c f ∙ s.as_many_flags;
      value_width = λ d ld. ap (λ (ws : List Word). length (get_or ws d [])) nv ∙ set_wide n stored c d x (omega arith) (ap length ex ∙ length-stored (role_at n c) (cell_at n c) (bit values) w) (s.value_width d) ld;
      taint_width = λ d ld. ap (λ (ws : List Word). length (get_or ws d [])) nt ∙ set_wide n stored_taints c d y (omega arith) (ap length ey ∙ length-taint (role_at n c) (cell_at n c) (bit values) (bit taints) w u) (s.taint_width d) ld;
    }

-- ---- cell by cell

-- the cells below a number have moved, and the others are as they were
pub record MovedBelow (n : Netlist) (before after : Given) (values taints due marks : List Bool) (end : ℕ) : Type 0 where
  pub follows : (c : ℕ) → c < end → Follows n before after values taints c
  pub kept : (c : ℕ) → c < end → bit marks c ≡ false → KeepsAt before after c
  pub waits : (c : ℕ) → end ≤ c → KeepsAt before after c
  pub still_due : (c : ℕ) → end ≤ c → bit marks c ≡ bit due c

pub none_moved : (n : Netlist) (g : Given) (values taints due : List Bool) → MovedBelow n g g values taints due due 0
none_moved n g values taints due = record {
  follows = λ c l. absurd (omega arith);
  kept = λ c l e. absurd (omega arith);
  waits = λ c l. record { value = refl; taint = refl; flag = refl };
  still_due = λ c l. refl;
}

keeps_join : (before mid after : Given) (c : ℕ) → KeepsAt before mid c → KeepsAt mid after c → KeepsAt before after c
keeps_join before mid after c h k = record { value = k.value ∙ h.value; taint = k.taint ∙ h.taint; flag = k.flag ∙ h.flag }

follows_kept : (n : Netlist) (before mid after : Given) (values taints : List Bool) (c : ℕ) → Follows n before mid values taints c → KeepsAt mid after c → Follows n before after values taints c
follows_kept n before mid after values taints c h k = record { value = k.value ∙ h.value; taint = k.taint ∙ h.taint; flag = k.flag ∙ h.flag }

kept_follows : (n : Netlist) (before mid after : Given) (values taints : List Bool) (c : ℕ) → KeepsAt before mid c → Follows n mid after values taints c → Follows n before after values taints c
kept_follows n before mid after values taints c k h = record {
  value = h.value ∙ ap (λ (w : Word). stored_by (role_at n c) (cell_at n c) (bit values) w) k.value;
  taint = h.taint ∙ ap (λ (w : Word). taint_stored_by (role_at n c) (cell_at n c) (bit values) (bit taints) w (get_or mid.state.stored c [])) k.value
      ∙ ap (λ (w : Word). taint_stored_by (role_at n c) (cell_at n c) (bit values) (bit taints) (get_or before.stored c []) w) k.taint;
  flag = h.flag ∙ ap (λ b. flag_by (role_at n c) (cell_at n c) (bit values) (bit taints) b) k.flag;
}

-- the cell at the number moves too
pub one_moved : (n : Netlist) (before mid after : Given) (values taints due marks new_marks : List Bool) (end : ℕ) → MovedBelow n before mid values taints due marks end → MovesCell n mid after values taints marks new_marks end → MovedBelow n before after values taints due new_marks (end + 1)
one_moved n before mid after values taints due marks new_marks end h m = record {
  follows = λ c l. elim (same_or_not c end) [
    | inl q ↦ subst (λ k. Follows n before after values taints k) (sym q) (kept_follows n before mid after values taints end (h.waits end (omega arith)) m.follows)
    | inr d ↦ follows_kept n before mid after values taints c (h.follows c (search arith)) (m.others c d)
  ];
  kept = λ c l e. elim (same_or_not c end) [
    | inl q ↦ subst (λ k. KeepsAt before after k) (sym q) (keeps_join before mid after end (h.waits end (omega arith)) (m.kept (ap (bit new_marks) (sym q) ∙ e)))
    | inr d ↦ keeps_join before mid after c (h.kept c (search arith) (sym (m.other_marks c d) ∙ e)) (m.others c d)
  ];
  waits = λ c l. keeps_join before mid after c (h.waits c (omega arith)) (m.others c (past_end c l));
  still_due = λ c l. m.other_marks c (past_end c l) ∙ h.still_due c (omega arith);
}
  where
    past_end : (c : ℕ) → end + 1 ≤ c → c ≢ end
    past_end c l e = absurd (omega arith)

-- a cell that is still to come and isn't marked rests
pub rests_still : (n : Netlist) (before after : Given) (values taints due marks : List Bool) (end : ℕ) → AreResting n before values taints due → MovedBelow n before after values taints due marks end → bit marks end ≡ false → Rests n after values taints end
unfolding AreResting
rests_still n before after values taints due marks end h m e =
    let r = h end (sym (m.still_due end (omega arith)) ∙ e) in
    let k = m.waits end (omega arith) in
    record {
      value = ap (λ (w : Word). stored_by (role_at n end) (cell_at n end) (bit values) w) k.value ∙ r.value ∙ sym k.value;
      taint = ap (λ (w : Word). taint_stored_by (role_at n end) (cell_at n end) (bit values) (bit taints) w (get_or after.state.stored end [])) k.value
          ∙ ap (λ (w : Word). taint_stored_by (role_at n end) (cell_at n end) (bit values) (bit taints) (get_or before.stored end []) w) k.taint ∙ r.taint ∙ sym k.taint;
      flag = ap (λ b. flag_by (role_at n end) (cell_at n end) (bit values) (bit taints) b) k.flag ∙ r.flag ∙ sym k.flag;
    }

-- ---- all cells

pub all_kept : (n : Netlist) (before after : Given) (values taints due marks : List Bool) (end : ℕ) → MovedBelow n before after values taints due marks end → AreKept before after marks
unfolding AreKept
all_kept n before after values taints due marks end h = λ c e. elim (le_or_lt c end) [
  | inl l ↦ h.kept c l e
  | inr l ↦ h.waits c l
]

listed : {A : Type 0} (f : ℕ → A) (n : ℕ) (xs : List A) (d : A) → length xs ≡ n → ((c : ℕ) → c < n → get_or xs c d ≡ f c) → xs ≡ map f (range_with_len 0 n)
listed f n xs d e h = ext_get_or d xs (map f (range_with_len 0 n)) (e ∙ sym (length-map-range_with_len f 0 n)) (λ c l. h c (omega arith) ∙ sym (get_or-map-range_with_len f 0 n c c d (omega arith) (omega arith)))

pub all_values : (n : Netlist) (stored stored_taints : List Word) (flags : List Bool) (new new_taints : List Word) (new_flags values taints due marks : List Bool) (end : ℕ) → IsStored n new new_taints new_flags → length n.cells ≤ end
    → MovedBelow n (given_words stored stored_taints flags) (given_words new new_taints new_flags) values taints due marks end → new ≡ next_stored n stored (bit values)
all_values n stored stored_taints flags new new_taints new_flags values taints due marks end s l h =
    listed (λ c. stored_by (role_at n c) (cell_at n c) (bit values) (get_or stored c [])) (length n.cells) new [] s.as_many_values (λ c k. (h.follows c (omega arith)).value)

pub all_taints : (n : Netlist) (stored stored_taints : List Word) (flags : List Bool) (new new_taints : List Word) (new_flags values taints due marks : List Bool) (end : ℕ) → IsStored n new new_taints new_flags → length n.cells ≤ end
    → MovedBelow n (given_words stored stored_taints flags) (given_words new new_taints new_flags) values taints due marks end → new_taints ≡ (next_taints n stored (bit values) (record { stored = stored_taints; flags = flags }) (bit taints)).stored
all_taints n stored stored_taints flags new new_taints new_flags values taints due marks end s l h =
    listed (λ c. taint_stored_by (role_at n c) (cell_at n c) (bit values) (bit taints) (get_or stored c []) (get_or stored_taints c [])) (length n.cells) new_taints [] s.as_many_taints (λ c k. (h.follows c (omega arith)).taint)

pub all_flags : (n : Netlist) (stored stored_taints : List Word) (flags : List Bool) (new new_taints : List Word) (new_flags values taints due marks : List Bool) (end : ℕ) → IsStored n new new_taints new_flags → length n.cells ≤ end
    → MovedBelow n (given_words stored stored_taints flags) (given_words new new_taints new_flags) values taints due marks end → new_flags ≡ (next_taints n stored (bit values) (record { stored = stored_taints; flags = flags }) (bit taints)).flags
all_flags n stored stored_taints flags new new_taints new_flags values taints due marks end s l h =
    listed (λ c. flag_by (role_at n c) (cell_at n c) (bit values) (bit taints) (get_or flags c false)) (length n.cells) new_flags false s.as_many_flags (λ c k. (h.follows c (omega arith)).flag)

-- ---- at the start nothing needs to rest, since all cells are due

past_role : (n : Netlist) (c : ℕ) → length n.cells ≤ c → role_at n c ≡ CarriedOver
past_role n c l = ap (λ (x : Cell). role_of x.kind) (get_or_past n.cells c no_cell l)

rests_by : (n : Netlist) (g : Given) (values taints : List Bool) (c : ℕ) → length n.cells ≤ c → get_or g.stored c [] ≡ [] → get_or g.state.stored c [] ≡ [] → Rests n g values taints c
rests_by n g values taints c l ev et = record {
  value = ap (λ (r : Role). stored_by r (cell_at n c) (bit values) (get_or g.stored c [])) (past_role n c l) ∙ sym ev;
  taint = ap (λ (r : Role). taint_stored_by r (cell_at n c) (bit values) (bit taints) (get_or g.stored c []) (get_or g.state.stored c [])) (past_role n c l) ∙ sym et;
  flag = ap (λ (r : Role). flag_by r (cell_at n c) (bit values) (bit taints) (get_or g.state.flags c false)) (past_role n c l);
}

pub rests_past : (n : Netlist) (stored stored_taints : List Word) (flags values taints : List Bool) (c : ℕ) → IsStored n stored stored_taints flags → length n.cells ≤ c → Rests n (given_words stored stored_taints flags) values taints c
rests_past n stored stored_taints flags values taints c s l =
    let a : length stored ≡ length n.cells = s.as_many_values in let b : length stored_taints ≡ length n.cells = s.as_many_taints in
    rests_by n (given_words stored stored_taints flags) values taints c l (get_or_past stored c [] (omega arith)) (get_or_past stored_taints c [] (omega arith))

pub all_due : (n : Netlist) (stored stored_taints : List Word) (flags values taints marks : List Bool) → IsStored n stored stored_taints flags → marks ≡ replicate (length n.cells) true → WillRest n (given_words stored stored_taints flags) values taints marks
unfolding WillRest AreResting
all_due n stored stored_taints flags values taints marks s e = λ new_values new_taints new_marks notes c clear. elim (le_or_lt c (length n.cells)) [
  | inl l ↦ absurd (let m : bit new_marks c ≡ true = notes.kept c (ap (λ (xs : List Bool). bit xs c) e ∙ get_or-replicate (length n.cells) c true false l) in let z : true ≡ false = sym m ∙ clear in absurd (cc))
  | inr l ↦ rests_past n stored stored_taints flags new_values new_taints c s l
]
