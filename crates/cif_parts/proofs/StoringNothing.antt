-- A cell that is no register and no memory stores nothing in any cycle; so words that those have in their places which a part needs
-- are those of all cells that it uses.
use Rattle.std.specs.Prelude.{ℕ, zero, suc, ◌<◌, ◌≡◌, ◌⊎◌, Bool, true, false, List, [], ◌∷◌, length, get_or, refl}
use Rattle.std.proofs.Common.{arith, ap, sym, subst, ◌∙◌, inl, inr}
use Rattle.std.proofs.lemmas.List.{get_or_past}
use Rattle.std.proofs.lemmas.List.FromFn.{get_or-map-range_with_len}
use Rattle.cif_defs.specs.Cells.{Cell, state_bits, state_bits_by}
use Rattle.cif_defs.specs.Netlist.{Netlist, cell_at, role_at}
use Rattle.cif_defs.specs.Run.{state, stored_by, value}
use Rattle.cif_defs.specs.Stimulus.{Stimulus}
use Rattle.cif_defs.specs.TaintRun.{flag_by, taint_in, taint_state, taint_stored_by}
use Rattle.cif_defs.specs.Words.{Word, bit}
use Rattle.cif_defs.specs.declared.kinds.Role.{Role}
use Rattle.cif_defs.specs.declared.kinds.Role.TheVariants.{CarriedOver, Combinational, MemoryBlock, PlainRegister, ResetRegister}
use Rattle.cif_defs.proofs.WordLaws.{le_or_lt}
use Rattle.cif_cycle.specs.declared.stored.StoredWords.{StoredWords}
use Rattle.cif_inputs.specs.declared.inputs.Inputs.{Inputs}
use Rattle.cif_seq.specs.Cases.{CaseOf, net_of}
use Rattle.cif_seq.specs.FrameView.{HoldsFrame}
use Rattle.cif_seq.specs.Stored.{given_of}
use Rattle.cif_seq.proofs.StateWidths.{is_stored}
use Rattle.cif_shown.specs.Shown.{KeepsAt}
use Rattle.cif_pieces.specs.Parts.{Uses, stores}
use Rattle.cif_pieces.specs.Plans.{IsPlanOf, PlanOf}
use Rattle.cif_parts.specs.Running.{AreClear, AreIn, AreMoved, IsClear, IsMoved, given_in, used_cells}
use Rattle.cif_parts.proofs.Covered.{among_at, plan_uses}
use Rattle.cif_parts.proofs.Placing.{starts_flag}

-- ---- what such a cell stores

no_bits : (r : Role) (c : Cell) → stores r ≡ false → state_bits_by r c ≡ 0
no_bits Combinational c e = refl
no_bits CarriedOver c e = refl
no_bits PlainRegister c e = absurd (cc)
no_bits ResetRegister c e = absurd (cc)
no_bits MemoryBlock c e = absurd (cc)

no_word : (w : Word) → length w ≡ 0 → w ≡ []
no_word [] e = refl
no_word (b ∷ w) e = absurd (omega arith)

word_of : (n : Netlist) (words : List Word) (c : ℕ) → length words ≡ length n.cells → (c < length n.cells → length (get_or words c []) ≡ state_bits (cell_at n c)) → stores (role_at n c) ≡ false → get_or words c [] ≡ []
word_of n words c size width e = elim (le_or_lt c (length n.cells)) [
  | inl l ↦ no_word (get_or words c []) (width l ∙ no_bits (role_at n c) (cell_at n c) e)
  | inr l ↦ get_or_past words c [] (omega arith)
]

no_state : (n : Netlist) (s : Stimulus) (k c : ℕ) → stores (role_at n c) ≡ false → get_or (state n s k) c [] ≡ []
no_state n s k c e = let all = is_stored n s k (state n s k) (taint_state n s k).stored (taint_state n s k).flags refl refl refl in word_of n (state n s k) c all.as_many_values (all.value_width c) e

no_taint : (n : Netlist) (s : Stimulus) (k c : ℕ) → stores (role_at n c) ≡ false → get_or (taint_state n s k).stored c [] ≡ []
no_taint n s k c e = let all = is_stored n s k (state n s k) (taint_state n s k).stored (taint_state n s k).flags refl refl refl in word_of n (taint_state n s k).stored c all.as_many_taints (all.taint_width c) e

flag_stays : (r : Role) (c : Cell) (v t : ℕ → Bool) (flag : Bool) → stores r ≡ false → flag_by r c v t flag ≡ flag
flag_stays Combinational c v t flag e = refl
flag_stays CarriedOver c v t flag e = refl
flag_stays PlainRegister c v t flag e = refl
flag_stays ResetRegister c v t flag e = refl
flag_stays MemoryBlock c v t flag e = absurd (cc)

flag_at : (n : Netlist) (s : Stimulus) (k c : ℕ) → c < length n.cells → get_or (taint_state n s (suc k)).flags c false ≡ flag_by (role_at n c) (cell_at n c) (value n s k) (taint_in n s k (taint_state n s k)) (get_or (taint_state n s k).flags c false)
unfolding taint_state
flag_at n s k c l = get_or-map-range_with_len (λ x. flag_by (role_at n x) (cell_at n x) (value n s k) (taint_in n s k (taint_state n s k)) (get_or (taint_state n s k).flags x false)) 0 (length n.cells) c c false l (omega arith)

no_flag : (n : Netlist) (s : Stimulus) (k c : ℕ) → stores (role_at n c) ≡ false → get_or (taint_state n s k).flags c false ≡ false
no_flag n s k c e = elim (le_or_lt c (length n.cells)) [
  | inl l ↦ inside n s k c l e
  | inr l ↦ (let size = (is_stored n s k (state n s k) (taint_state n s k).stored (taint_state n s k).flags refl refl refl).as_many_flags in get_or_past (taint_state n s k).flags c false (omega arith))
] where
  inside : (n : Netlist) (s : Stimulus) (k c : ℕ) → c < length n.cells → stores (role_at n c) ≡ false → get_or (taint_state n s k).flags c false ≡ false
  inside n s zero c l e = starts_flag n s c l
  inside n s (suc k) c l e = flag_at n s k c l ∙ flag_stays (role_at n c) (cell_at n c) _ _ _ e ∙ inside n s k c l e

-- ---- what it keeps

clear_in : (n : Netlist) (s : Stimulus) (k c : ℕ) (stored : StoredWords) → stores (role_at n c) ≡ false → IsClear stored c → KeepsAt (given_in n s k) (given_of stored) c
clear_in n s k c stored e h = record { value = h.value ∙ sym (no_state n s k c e); taint = h.taint ∙ sym (no_taint n s k c e); flag = h.flag ∙ sym (no_flag n s k c e) }

nothing_next : (r : Role) (c : Cell) (v : ℕ → Bool) (w : Word) → stores r ≡ false → stored_by r c v w ≡ []
nothing_next Combinational c v w e = refl
nothing_next CarriedOver c v w e = refl
nothing_next PlainRegister c v w e = absurd (cc)
nothing_next ResetRegister c v w e = absurd (cc)
nothing_next MemoryBlock c v w e = absurd (cc)

no_taint_next : (r : Role) (c : Cell) (v t : ℕ → Bool) (w u : Word) → stores r ≡ false → taint_stored_by r c v t w u ≡ []
no_taint_next Combinational c v t w u e = refl
no_taint_next CarriedOver c v t w u e = refl
no_taint_next PlainRegister c v t w u e = absurd (cc)
no_taint_next ResetRegister c v t w u e = absurd (cc)
no_taint_next MemoryBlock c v t w u e = absurd (cc)

-- where the words before are those of a cycle
clear_moved : (n : Netlist) (s : Stimulus) (k c : ℕ) (prior next : StoredWords) (values taints marks : List Bool) → stores (role_at n c) ≡ false → KeepsAt (given_in n s k) (given_of prior) c → IsClear next c → IsMoved n (given_of prior) (given_of next) values taints marks c
clear_moved n s k c prior next values taints marks e p h =
    let word : get_or prior.values.items c [] ≡ [] = p.value ∙ no_state n s k c e in
    let word_taint : get_or prior.taints.items c [] ≡ [] = p.taint ∙ no_taint n s k c e in
    let flag : get_or prior.flags.items c false ≡ false = p.flag ∙ no_flag n s k c e in
    record {
      follows = record {
        value = h.value ∙ sym (nothing_next (role_at n c) (cell_at n c) (bit values) _ e);
        taint = h.taint ∙ sym (no_taint_next (role_at n c) (cell_at n c) (bit values) (bit taints) _ _ e);
        flag = h.flag ∙ sym flag ∙ sym (flag_stays (role_at n c) (cell_at n c) (bit values) (bit taints) _ e);
      };
      kept = λ clear. record { value = h.value ∙ sym word; taint = h.taint ∙ sym word_taint; flag = h.flag ∙ sym flag };
    }

-- ---- all cells that a part uses

stores_or_not : (b : Bool) → (b ≡ true) ⊎ (b ≡ false)
stores_or_not true = inl refl
stores_or_not false = inr refl

-- what is so of the cells that a part needs, and of those that store nothing, is so of all that it uses
all_used : (c : CaseOf) (p : PlanOf) (part : ℕ) (P : ℕ → Type 0) → IsPlanOf c p → part < p.parts → ((i : ℕ) → i < length (get_or p.needed part []) → P (get_or (get_or p.needed part []) i 0)) → ((x : ℕ) → stores (role_at (net_of c) x) ≡ false → P x)
    → (i : ℕ) → i < length (used_cells p part) → P (get_or (used_cells p part) i 0)
all_used c p part P plan l needed others i inside =
    let x = get_or (used_cells p part) i 0 in
    let uses : Uses (net_of c) p.parts part x = (plan_uses c p part plan l).only x (among_at (used_cells p part) i x inside refl) in
    elim (stores_or_not (stores (role_at (net_of c) x))) [
      | inl e ↦ (let at = (plan.needed part l).has_each x (uses, e) in subst P at.2 (needed at.0 at.1))
      | inr e ↦ others x e
    ]

pub used_in : (c : CaseOf) (k : ℕ) (p : PlanOf) (part : ℕ) (needed : List ℕ) (stored : StoredWords) → IsPlanOf c p → part < p.parts → needed ≡ get_or p.needed part [] → AreClear (net_of c) stored → AreIn (net_of c) c.stimulus k needed (length needed) stored
    → AreIn (net_of c) c.stimulus k (used_cells p part) (length (used_cells p part)) stored
used_in c k p part needed stored plan l e clear h =
    all_used c p part (λ x. KeepsAt (given_in (net_of c) c.stimulus k) (given_of stored) x) plan l
    (subst (λ (xs : List ℕ). AreIn (net_of c) c.stimulus k xs (length xs) stored) e h) (λ x s. clear_in (net_of c) c.stimulus k x stored s (clear x s))

pub used_moved : (c : CaseOf) (k : ℕ) (p : PlanOf) (part : ℕ) (needed : List ℕ) (values taints : List Bool) (prior : StoredWords) (due : List Bool) (inputs : Inputs) (next : StoredWords) (marks : List Bool) → IsPlanOf c p → part < p.parts → needed ≡ get_or p.needed part []
    → HoldsFrame c k values taints prior.values.items prior.taints.items prior.flags.items due inputs → AreClear (net_of c) next → AreMoved (net_of c) (given_of prior) (given_of next) values taints marks needed (length needed)
    → AreMoved (net_of c) (given_of prior) (given_of next) values taints marks (used_cells p part) (length (used_cells p part))
used_moved c k p part needed values taints prior due inputs next marks plan l e frame clear h =
    all_used c p part (λ x. IsMoved (net_of c) (given_of prior) (given_of next) values taints marks x) plan l
    (subst (λ (xs : List ℕ). AreMoved (net_of c) (given_of prior) (given_of next) values taints marks xs (length xs)) e h)
    (λ x s. clear_moved (net_of c) c.stimulus k x prior next values taints marks s (held x) (clear x s))
  where
    held : (x : ℕ) → KeepsAt (given_in (net_of c) c.stimulus k) (given_of prior) x
    held x = record {
      value = ap (λ (ws : List Word). get_or ws x []) frame.shown.state_values;
      taint = ap (λ (ws : List Word). get_or ws x []) frame.shown.state_taints;
      flag = ap (λ (bs : List Bool). get_or bs x false) frame.shown.memory_flags;
    }
