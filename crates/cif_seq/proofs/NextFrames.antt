-- A frame begins with what the frame before it held, or with nothing.
use Rattle.std.specs.Prelude.{ℕ, ◌≤◌, ◌≡◌, Bool, true, false, List, [], length, map, get_or, replicate, refl}
use Rattle.std.specs.List.{range_with_len}
use Rattle.std.proofs.Common.{arith, ap, sym, ◌∙◌, inl, inr, subst}
use Rattle.std.proofs.lemmas.List.{get_or_past, get_or-replicate, length-replicate}
use Rattle.std.proofs.lemmas.List.FromFn.{get_or-map-range_with_len, length-map-range_with_len}
use Rattle.cif_defs.specs.Accepted.{netlist_of}
use Rattle.cif_defs.specs.Cells.{Cell}
use Rattle.cif_defs.specs.Kinds.{role_of}
use Rattle.cif_defs.specs.Loop.{IsLevelled}
use Rattle.cif_defs.specs.Words.{Word, bit}
use Rattle.cif_defs.specs.Netlist.{IsWired, Netlist, cell_at, no_cell, role_at}
use Rattle.cif_defs.specs.Run.{next_stored, stored_by}
use Rattle.cif_defs.specs.TaintRun.{flag_by, next_taints, taint_stored_by}
use Rattle.cif_defs.specs.declared.kinds.Role.{Role}
use Rattle.cif_defs.specs.declared.raw_module.Raw.{Raw}
use Rattle.cif_defs.proofs.WordLaws.{le_or_lt}
use Rattle.cif_cycle.specs.declared.stored.StoredWords.{StoredWords}
use Rattle.cif_inputs.specs.declared.inputs.Inputs.{Inputs}
use Rattle.cif_readers.specs.Reads.{Notes}
use Rattle.cif_shown.specs.Shown.{AreKept, AreKeptWhere, Follows, Given, MayBegin, Shows, WillRest, all_bits}
use Rattle.cif_shown.proofs.Begun.{begins_again, begins_clear}
use Rattle.cif_shown.proofs.Covering.{order_covers}
use Rattle.cif_shown.proofs.Resting.{resting_after}
use Rattle.cif_seq.specs.Cases.{CaseOf, net_of}
use Rattle.cif_seq.specs.GivenAt.{given_at, given_by}
use Rattle.cif_seq.specs.Stored.{IsStored, given_of, given_words}
use Rattle.cif_seq.proofs.Moved.{all_due}

-- ---- from nothing

clear_bit : (n b : ℕ) (xs : List Bool) → xs ≡ replicate n false → bit xs b ≡ false
clear_bit n b xs e = ap (λ (ys : List Bool). bit ys b) e ∙ elim (le_or_lt b n) [
  | inl l ↦ get_or-replicate n b false false l
  | inr l ↦ get_or_past (replicate n false) b false (let size : length (replicate n false) ≡ n = length-replicate n false in omega arith)
]

pub begins_first : (c : CaseOf) (raw : Raw) (stored : StoredWords) (inputs : Inputs) (values taints marks : List Bool) → IsWired (net_of c) → IsLevelled (net_of c) c.order → raw ≡ c.raw → values ≡ replicate (length (netlist_of raw).drivers) false
    → taints ≡ replicate (length (netlist_of raw).drivers) false → marks ≡ replicate (length (netlist_of raw).cells) true → MayBegin all_bits (net_of c) (given_at c stored inputs) c.order marks values taints
begins_first c raw stored inputs values taints marks w o e ev et em =
    begins_clear (net_of c) (given_at c stored inputs) c.order c.order all_bits values taints marks w (order_covers (net_of c) c.order o) (λ b. clear_bit _ b values ev) (λ b. clear_bit _ b taints et)
    (λ k l. ap (λ (xs : List Bool). bit xs k) (em ∙ ap (λ (x : Raw). replicate (length (netlist_of x).cells) true) e) ∙ get_or-replicate (length (net_of c).cells) k true false l)

pub rests_first : (c : CaseOf) (raw other : Raw) (stored : StoredWords) (values taints marks : List Bool) → raw ≡ c.raw → other ≡ c.raw → IsStored (netlist_of other) stored.values.items stored.taints.items stored.flags.items → marks ≡ replicate (length (netlist_of raw).cells) true
    → WillRest (net_of c) (given_of stored) values taints marks
rests_first c raw other stored values taints marks e f s em =
    all_due (net_of c) stored.values.items stored.taints.items stored.flags.items values taints marks (subst (λ (x : Raw). IsStored (netlist_of x) stored.values.items stored.taints.items stored.flags.items) f s)
    (em ∙ ap (λ (x : Raw). replicate (length (netlist_of x).cells) true) e)

-- ---- from the frame before

kept_given : (c : CaseOf) (prior prior_taints : List Word) (prior_flags : List Bool) (next next_taints : List Word) (next_flags marks : List Bool) (i j k l : ℕ → ℕ → Bool) → AreKept (given_words prior prior_taints prior_flags) (given_words next next_taints next_flags) marks
    → AreKept (given_by c prior prior_taints prior_flags i j) (given_by c next next_taints next_flags k l) marks
unfolding AreKept
kept_given c prior prior_taints prior_flags next next_taints next_flags marks i j k l h = λ x clear. record {
  value = (h x clear).value;
  taint = (h x clear).taint;
  flag = (h x clear).flag;
}

kept_where : (n : Netlist) (covered : ℕ → Bool) (before after : Given) (marks : List Bool) → AreKept before after marks → AreKeptWhere covered n before after marks
unfolding AreKept AreKeptWhere
kept_where n covered before after marks h = λ b c k is clear. h c clear

pub begins_next : (c : CaseOf) (i j : ℕ → ℕ → Bool) (values taints moved begun begun_taints begun_marks : List Bool) (prior next : StoredWords) (inputs : Inputs) → IsWired (net_of c) → IsLevelled (net_of c) c.order
    → ((b : ℕ) → Shows (net_of c) (given_by c prior.values.items prior.taints.items prior.flags.items i j) values taints b) → AreKept (given_of prior) (given_of next) moved → begun ≡ values → begun_taints ≡ taints → begun_marks ≡ moved
    → MayBegin all_bits (net_of c) (given_at c next inputs) c.order begun_marks begun begun_taints
begins_next c i j values taints moved begun begun_taints begun_marks prior next inputs w o h k ev et em =
    rw (ev, et, em) (begins_again (net_of c) (given_by c prior.values.items prior.taints.items prior.flags.items i j) (given_at c next inputs) c.order c.order all_bits values taints moved w (order_covers (net_of c) c.order o) (λ b. refl)
    (kept_where (net_of c) all_bits _ _ moved (kept_given c prior.values.items prior.taints.items prior.flags.items next.values.items next.taints.items next.flags.items moved i j _ _ k)) (λ b _. h b))

past_role : (n : Netlist) (c : ℕ) → length n.cells ≤ c → role_at n c ≡ Rattle.cif_defs.specs.declared.kinds.Role.TheVariants.CarriedOver
past_role n c l = ap (λ (x : Cell). role_of x.kind) (get_or_past n.cells c no_cell l)

listed : {A : Type 0} (f : ℕ → A) (n c : ℕ) (d : A) → (n ≤ c → f c ≡ d) → get_or (map f (range_with_len 0 n)) c d ≡ f c
listed f n c d h = elim (le_or_lt c n) [
  | inl l ↦ get_or-map-range_with_len f 0 n c c d l (omega arith)
  | inr l ↦ get_or_past (map f (range_with_len 0 n)) c d (let size : length (map f (range_with_len 0 n)) ≡ n = length-map-range_with_len f 0 n in omega arith) ∙ sym (h l)
]

follows_next : (n : Netlist) (stored stored_taints : List Word) (flags : List Bool) (next next_taint_words : List Word) (next_flags values taints : List Bool) (c : ℕ) → IsStored n stored stored_taints flags → next ≡ next_stored n stored (bit values)
    → next_taint_words ≡ (next_taints n stored (bit values) (record { stored = stored_taints; flags = flags }) (bit taints)).stored → next_flags ≡ (next_taints n stored (bit values) (record { stored = stored_taints; flags = flags }) (bit taints)).flags
    → Follows n (given_words stored stored_taints flags) (given_words next next_taint_words next_flags) values taints c
follows_next n stored stored_taints flags next next_taint_words next_flags values taints c s ev et ef = record {
  value = ap (λ (ws : List Word). get_or ws c []) ev ∙ listed (λ x. stored_by (role_at n x) (cell_at n x) (bit values) (get_or stored x [])) (length n.cells) c []
      (λ l. ap (λ (r : Role). stored_by r (cell_at n c) (bit values) (get_or stored c [])) (past_role n c l));
  taint = ap (λ (ws : List Word). get_or ws c []) et ∙ listed (λ x. taint_stored_by (role_at n x) (cell_at n x) (bit values) (bit taints) (get_or stored x []) (get_or stored_taints x [])) (length n.cells) c []
      (λ l. ap (λ (r : Role). taint_stored_by r (cell_at n c) (bit values) (bit taints) (get_or stored c []) (get_or stored_taints c [])) (past_role n c l));
  flag = ap (λ (fs : List Bool). get_or fs c false) ef ∙ listed (λ x. flag_by (role_at n x) (cell_at n x) (bit values) (bit taints) (get_or flags x false)) (length n.cells) c false
      (λ l. ap (λ (r : Role). flag_by r (cell_at n c) (bit values) (bit taints) (get_or flags c false)) (past_role n c l) ∙ get_or_past flags c false (let z : length flags ≡ length n.cells = s.as_many_flags in omega arith));
}

pub rests_next : (c : CaseOf) (raw : Raw) (values taints seen seen_taints moved begun begun_taints begun_marks : List Bool) (prior next : StoredWords) → raw ≡ c.raw → seen ≡ values → seen_taints ≡ taints → IsStored (netlist_of raw) prior.values.items prior.taints.items prior.flags.items
    → next.values.items ≡ next_stored (netlist_of raw) prior.values.items (bit seen) → next.taints.items ≡ (next_taints (netlist_of raw) prior.values.items (bit seen) (record { stored = prior.taints.items; flags = prior.flags.items }) (bit seen_taints)).stored
    → next.flags.items ≡ (next_taints (netlist_of raw) prior.values.items (bit seen) (record { stored = prior.taints.items; flags = prior.flags.items }) (bit seen_taints)).flags → AreKept (given_of prior) (given_of next) moved
    → begun ≡ values → begun_taints ≡ taints → begun_marks ≡ moved → WillRest (net_of c) (given_of next) begun begun_taints begun_marks
unfolding WillRest
rests_next c raw values taints seen seen_taints moved begun begun_taints begun_marks prior next e fv ft s ev et ef k bv bt bm = λ new_values new_taints new_marks notes.
    let follows = subst (λ (x : Raw). (b : ℕ) → Follows (netlist_of x) (given_of prior) (given_of next) seen seen_taints b) e
    (λ b. follows_next (netlist_of raw) prior.values.items prior.taints.items prior.flags.items next.values.items next.taints.items next.flags.items seen seen_taints b s ev et ef) in
    let here = subst (λ (v : List Bool). Notes (net_of c) v seen_taints new_values new_taints moved new_marks) (bv ∙ sym fv) (subst (λ (v : List Bool). Notes (net_of c) begun v new_values new_taints moved new_marks) (bt ∙ sym ft)
    (subst (λ (v : List Bool). Notes (net_of c) begun begun_taints new_values new_taints v new_marks) bm notes)) in
    resting_after (net_of c) (given_of prior) (given_of next) seen seen_taints new_values new_taints moved new_marks k follows here
