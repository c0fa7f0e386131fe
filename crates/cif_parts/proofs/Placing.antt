-- What cells store is put in their places, one cell after another.
use Rattle.std.specs.Prelude.{ℕ, ◌+◌, ◌<◌, ◌≡◌, ◌≢◌, ◌⊎◌, Bool, true, false, List, [], length, get_or, replicate, slice_set}
use Rattle.std.proofs.Common.{arith, ap, sym, subst, ◌∙◌, inl, inr, get_or-set_same, get_or-set_other}
use Rattle.std.proofs.lemmas.List.{get_or_past, get_or-replicate, length-replicate, length-set}
use Rattle.std.proofs.lemmas.List.FromFn.{get_or-map-range_with_len}
use Rattle.cif_defs.specs.Accepted.{netlist_of}
use Rattle.cif_defs.specs.Words.{Word, bit}
use Rattle.cif_defs.specs.Netlist.{Netlist, role_at}
use Rattle.cif_defs.specs.Run.{state}
use Rattle.cif_defs.specs.Stimulus.{Stimulus, start_at}
use Rattle.cif_defs.specs.TaintRun.{taint_state}
use Rattle.cif_defs.specs.declared.raw_module.Raw.{Raw}
use Rattle.cif_defs.proofs.WordLaws.{le_or_lt}
use Rattle.cif_cycle.specs.declared.stored.StoredWords.{StoredWords}
use Rattle.cif_seq.specs.Cases.{CaseOf, net_of}
use Rattle.cif_seq.specs.Stored.{given_of}
use Rattle.cif_shown.specs.Shown.{AreResting, Given, KeepsAt, Rests}
use Rattle.cif_pieces.specs.Parts.{stores}
use Rattle.cif_parts.specs.Running.{AreClear, AreIn, AreMoved, HavePlaces, IsMoved, IsNext, given_in}

-- the place of a cell holds a word, its taint and a flag, and the other places what they held
pub record IsPut (old new : StoredWords) (c : ℕ) (word word_taint : Word) (flag : Bool) : Type 0 where
  pub value : get_or new.values.items c [] ≡ word
  pub taint : get_or new.taints.items c [] ≡ word_taint
  pub flag_is : get_or new.flags.items c false ≡ flag
  pub others : (d : ℕ) → d ≢ c → KeepsAt (given_of old) (given_of new) d

pub is_put : (n : Netlist) (old new : StoredWords) (c : ℕ) (w u : Word) (f : Bool) → HavePlaces n old → c < length n.cells → new.values.items ≡ slice_set old.values.items c w → new.taints.items ≡ slice_set old.taints.items c u → new.flags.items ≡ slice_set old.flags.items c f → IsPut old new c w u f
is_put n old new c w u f h l ev et ef =
    let lv : length old.values.items ≡ length n.cells = h.values in
    let lt : length old.taints.items ≡ length n.cells = h.taints in
    let lf : length old.flags.items ≡ length n.cells = h.flags in
    record {
      value = ap (λ (ws : List Word). get_or ws c []) ev ∙ get_or-set_same old.values.items c w [] (omega arith);
      taint = ap (λ (ws : List Word). get_or ws c []) et ∙ get_or-set_same old.taints.items c u [] (omega arith);
      flag_is = ap (λ (bs : List Bool). get_or bs c false) ef ∙ get_or-set_same old.flags.items c f false (omega arith);
      others = λ d e. record {
        value = ap (λ (ws : List Word). get_or ws d []) ev ∙ get_or-set_other old.values.items c d w [] e;
        taint = ap (λ (ws : List Word). get_or ws d []) et ∙ get_or-set_other old.taints.items c d u [] e;
        flag = ap (λ (bs : List Bool). get_or bs d false) ef ∙ get_or-set_other old.flags.items c d f false e;
      };
    }

pub still_places : (n : Netlist) (old new : StoredWords) (c : ℕ) (w u : Word) (f : Bool) → HavePlaces n old → new.values.items ≡ slice_set old.values.items c w → new.taints.items ≡ slice_set old.taints.items c u → new.flags.items ≡ slice_set old.flags.items c f → HavePlaces n new
still_places n old new c w u f h ev et ef = record {
  values = ap length ev ∙ length-set old.values.items c w ∙ h.values;
  taints = ap length et ∙ length-set old.taints.items c u ∙ h.taints;
  flags = ap length ef ∙ length-set old.flags.items c f ∙ h.flags;
}

-- what stands at places that are all alike
even_at : {A : Type 0} (n c : ℕ) (x : A) (xs : List A) → xs ≡ replicate n x → get_or xs c x ≡ x
even_at n c x xs e = ap (λ (ys : List _). get_or ys c x) e ∙ elim (le_or_lt c n) [
  | inl l ↦ get_or-replicate n c x x l
  | inr l ↦ get_or_past (replicate n x) c x (let size : length (replicate n x) ≡ n = length-replicate n x in omega arith)
]

pub clear_bit : (n b : ℕ) (xs : List Bool) → xs ≡ replicate n false → bit xs b ≡ false
clear_bit n b xs e = even_at n b false xs e

pub clear_places : (n : Netlist) (count : ℕ) (stored : StoredWords) → stored.values.items ≡ replicate count [] → stored.taints.items ≡ replicate count [] → stored.flags.items ≡ replicate count false → AreClear n stored
clear_places n count stored ev et ef = λ c e. record {
  value = even_at count c [] stored.values.items ev;
  taint = even_at count c [] stored.taints.items et;
  flag = even_at count c false stored.flags.items ef;
}

same_or_not : (i j : ℕ) → (i ≡ j) ⊎ (i ≢ j)
same_or_not i j = search arith

-- cells that store nothing have nothing in their places, when another cell's are filled
pub still_clear : (n : Netlist) (old new : StoredWords) (c : ℕ) (w u : Word) (f : Bool) → IsPut old new c w u f → stores (role_at n c) ≡ true → AreClear n old → AreClear n new
still_clear n old new c w u f p s h = λ d e.
    let other = p.others d (λ q. absurd (let z : stores (role_at n d) ≡ true = ap (λ (x : ℕ). stores (role_at n x)) q ∙ s in cc)) in
    let clear = h d e in
    record { value = other.value ∙ clear.value; taint = other.taint ∙ clear.taint; flag = other.flag ∙ clear.flag }

keeps_join : (before mid after : Given) (c : ℕ) → KeepsAt before mid c → KeepsAt mid after c → KeepsAt before after c
keeps_join before mid after c h k = record { value = k.value ∙ h.value; taint = k.taint ∙ h.taint; flag = k.flag ∙ h.flag }

put_keeps : (before : Given) (old new : StoredWords) (c d : ℕ) (w u : Word) (f : Bool) → IsPut old new c w u f → w ≡ get_or before.stored c [] → u ≡ get_or before.state.stored c [] → f ≡ get_or before.state.flags c false → (d ≢ c → KeepsAt before (given_of old) d) → KeepsAt before (given_of new) d
put_keeps before old new c d w u f p ev et ef h = elim (same_or_not d c) [
  | inl q ↦ subst (λ (x : ℕ). KeepsAt before (given_of new) x) (sym q) (record { value = p.value ∙ ev; taint = p.taint ∙ et; flag = p.flag_is ∙ ef })
  | inr q ↦ keeps_join before (given_of old) (given_of new) d (h q) (p.others d q)
]

-- ---- at the start

starts : (n : Netlist) (s : Stimulus) (c : ℕ) → c < length n.cells → get_or (state n s 0) c [] ≡ (start_at n s c).value
unfolding state
starts n s c l = get_or-map-range_with_len (λ x. (start_at n s x).value) 0 (length n.cells) c c [] l (omega arith)

starts_taint : (n : Netlist) (s : Stimulus) (c : ℕ) → c < length n.cells → get_or (taint_state n s 0).stored c [] ≡ (start_at n s c).taint
unfolding taint_state
starts_taint n s c l = get_or-map-range_with_len (λ x. (start_at n s x).taint) 0 (length n.cells) c c [] l (omega arith)

pub starts_flag : (n : Netlist) (s : Stimulus) (c : ℕ) → c < length n.cells → get_or (taint_state n s 0).flags c false ≡ false
unfolding taint_state
starts_flag n s c l = get_or-map-range_with_len (λ x. false) 0 (length n.cells) c c false l (omega arith)

more_in : (n : Netlist) (s : Stimulus) (k : ℕ) (cells : List ℕ) (place c : ℕ) (old new : StoredWords) (w u : Word) (f : Bool) → IsPut old new c w u f → c ≡ get_or cells place 0 → w ≡ get_or (state n s k) c [] → u ≡ get_or (taint_state n s k).stored c [] → f ≡ get_or (taint_state n s k).flags c false
    → AreIn n s k cells place old → AreIn n s k cells (place + 1) new
more_in n s k cells place c old new w u f p at ev et ef h = λ i l. put_keeps (given_in n s k) old new c (get_or cells i 0) w u f p ev et ef (λ d. h i (elim (same_or_not i place) [
  | inl q ↦ absurd (d (ap (λ (j : ℕ). get_or cells j 0) q ∙ sym at))
  | inr q ↦ (search arith)
]))

-- raw is the case's module, as the calls of the code say it
pub start_put : (c : CaseOf) (raw : Raw) (s : Stimulus) (cells : List ℕ) (place x : ℕ) (old new : StoredWords) (w u : Word) (f : Bool) → raw ≡ c.raw → s ≡ c.stimulus → x ≡ get_or cells place 0 → x < length (net_of c).cells → w ≡ (start_at (netlist_of raw) s x).value → u ≡ (start_at (netlist_of raw) s x).taint → f ≡ false
    → IsPut old new x w u f → AreIn (net_of c) c.stimulus 0 cells place old → AreIn (net_of c) c.stimulus 0 cells (place + 1) new
start_put c raw s cells place x old new w u f er es at l ev et ef p h =
    more_in (net_of c) c.stimulus 0 cells place x old new w u f p at
    (ev ∙ ap (λ (r : Raw). (start_at (netlist_of r) s x).value) er ∙ ap (λ (z : Stimulus). (start_at (net_of c) z x).value) es ∙ sym (starts (net_of c) c.stimulus x l))
    (et ∙ ap (λ (r : Raw). (start_at (netlist_of r) s x).taint) er ∙ ap (λ (z : Stimulus). (start_at (net_of c) z x).taint) es ∙ sym (starts_taint (net_of c) c.stimulus x l))
    (ef ∙ sym (starts_flag (net_of c) c.stimulus x l)) h

-- ---- after a cycle

pub resting_at : (n : Netlist) (g : Given) (values taints marks : List Bool) (c : ℕ) → AreResting n g values taints marks → bit marks c ≡ false → Rests n g values taints c
unfolding AreResting
resting_at n g values taints marks c h e = h c e

moved_here : (n : Netlist) (before : Given) (old new : StoredWords) (values taints marks : List Bool) (c : ℕ) (w u : Word) (f m : Bool) → IsPut old new c w u f → IsNext n before values taints c w u f m → bit marks c ≡ m → IsMoved n before (given_of new) values taints marks c
moved_here n before old new values taints marks c w u f m p h e = record {
  follows = record { value = p.value ∙ h.value; taint = p.taint ∙ h.taint; flag = p.flag_is ∙ h.flag_is };
  kept = λ clear. let still : m ≡ false = sym e ∙ clear in record { value = p.value ∙ h.same_value still; taint = p.taint ∙ h.same_taint still; flag = p.flag_is ∙ h.same_flag still };
}

moved_other : (n : Netlist) (before mid after : Given) (values taints marks new_marks : List Bool) (c : ℕ) → KeepsAt mid after c → bit new_marks c ≡ bit marks c → IsMoved n before mid values taints marks c → IsMoved n before after values taints new_marks c
moved_other n before mid after values taints marks new_marks c k e h = record {
  follows = record { value = k.value ∙ h.follows.value; taint = k.taint ∙ h.follows.taint; flag = k.flag ∙ h.follows.flag };
  kept = λ clear. keeps_join before mid after c (h.kept (sym e ∙ clear)) k;
}

pub more_moved : (n : Netlist) (before : Given) (old new : StoredWords) (values taints marks : List Bool) (cells : List ℕ) (place c : ℕ) (w u : Word) (f m : Bool) → IsPut old new c w u f → IsNext n before values taints c w u f m → c < length marks → c ≡ get_or cells place 0
    → AreMoved n before (given_of old) values taints marks cells place → AreMoved n before (given_of new) values taints (slice_set marks c m) cells (place + 1)
more_moved n before old new values taints marks cells place c w u f m p next l at h = λ i j. elim (same_or_not (get_or cells i 0) c) [
  | inl q ↦ subst (λ (x : ℕ). IsMoved n before (given_of new) values taints (slice_set marks c m) x) (sym q) (moved_here n before old new values taints (slice_set marks c m) c w u f m p next (get_or-set_same marks c m false l))
  | inr q ↦ moved_other n before (given_of old) (given_of new) values taints marks (slice_set marks c m) (get_or cells i 0) (p.others (get_or cells i 0) q) (get_or-set_other marks c (get_or cells i 0) m false q) (h i (elim (same_or_not i place) [
    | inl e ↦ absurd (q (ap (λ (y : ℕ). get_or cells y 0) e ∙ sym at))
    | inr e ↦ (search arith)
  ]))
]
