-- What a part holds once its cells are evaluated.
use Rattle.std.specs.Prelude.{ℕ, ◌<◌, ◌≡◌, Bool, true, false, List, [], length, get_or, refl}
use Rattle.std.proofs.Common.{arith, ap, sym, subst, ◌∙◌}
use Rattle.cif_defs.specs.Cells.{Cell, next_word, shape_of}
use Rattle.cif_defs.specs.Loop.{IsLevelled}
use Rattle.cif_defs.specs.Memory.{next_flag, next_memory, next_memory_taint}
use Rattle.cif_defs.specs.Words.{Word, bit}
use Rattle.cif_defs.specs.Netlist.{IsWired, Netlist, cell_at, operand_at, role_at}
use Rattle.cif_defs.specs.Run.{input_value, operand_words, state, stored_by, value}
use Rattle.cif_defs.specs.Stimulus.{Stimulus}
use Rattle.cif_defs.specs.Taint.{next_register_taint}
use Rattle.cif_defs.specs.TaintRun.{flag_by, input_taint, operand_taints, taint, taint_state, taint_stored_by}
use Rattle.cif_defs.specs.declared.kinds.Role.{Role}
use Rattle.cif_defs.specs.declared.kinds.Role.TheVariants.{CarriedOver, Combinational, MemoryBlock, PlainRegister, ResetRegister}
use Rattle.cif_defs.specs.declared.nets.Src.TheVariants.{Bit}
use Rattle.cif_defs.proofs.Levels.{same_words_under}
use Rattle.cif_defs.proofs.Orders.{in_range}
use Rattle.cif_defs.proofs.TaintSettles.{same_taints_under}
use Rattle.cif_cycle.specs.declared.stored.StoredWords.{StoredWords}
use Rattle.cif_inputs.specs.declared.inputs.Inputs.{Inputs}
use Rattle.cif_readers.specs.Reads.{Notes}
use Rattle.cif_seq.specs.Cases.{CaseOf, net_of}
use Rattle.cif_seq.specs.GivenAt.{given_at}
use Rattle.cif_seq.specs.Inputs.{StandsAt}
use Rattle.cif_seq.specs.Stored.{ArePassing, AreStored, IsStoredAt, given_of}
use Rattle.cif_seq.specs.declared.settle.NetBits.{NetBits}
use Rattle.cif_seq.proofs.StateWidths.{is_stored}
use Rattle.cif_shown.specs.Shown.{CoverBits, Given, KeepsAt, MayBegin, Rests, Shows}
use Rattle.cif_shown.proofs.Begun.{shows_alike}
use Rattle.cif_shown.proofs.Unique.{taints_covered, values_covered}
use Rattle.cif_pieces.specs.Parts.{EvaluatesInTurn}
use Rattle.cif_pieces.specs.Pieces.{HoldsPiece, RestsIn, piece_of}
use Rattle.cif_pieces.specs.Plans.{IsPlanOf, Lists, PlanOf}
use Rattle.cif_pieces.specs.declared.piece.OwnedBits.{OwnedBits}
use Rattle.cif_parts.specs.Running.{AreIn, BeginsPart, HavePlaces, covers, given_in, is_among, used_cells}
use Rattle.cif_parts.proofs.Covered.{AreUsed, among_found, clock_covered, driver_among, owned_among, owned_covered, owned_reads, part_closed, part_covers, plan_uses}

-- ---- the cells that a part evaluates in turn have their words

pub part_passing : (c : CaseOf) (p : PlanOf) (part : ℕ) (passing : List ℕ) → IsPlanOf c p → part < p.parts → passing ≡ get_or p.passing part [] → ArePassing (net_of c) passing
part_passing c p part passing h l e = λ i inside. let lists = subst (λ (xs : List ℕ). Lists c.order (EvaluatesInTurn (net_of c) p.parts part) xs) (sym e) (h.passing part l) in (lists.only i inside).1

words_at : (n : Netlist) (s : Stimulus) (k : ℕ) (cells : List ℕ) (c : ℕ) (stored : StoredWords) → AreIn n s k cells (length cells) stored → is_among cells c ≡ true → KeepsAt (given_in n s k) (given_of stored) c
words_at n s k cells c stored h e = let at = among_found cells c e in subst (λ (x : ℕ). KeepsAt (given_in n s k) (given_of stored) x) at.2 (h at.0 at.1)

stored_here : (n : Netlist) (s : Stimulus) (k c : ℕ) (stored : StoredWords) → c < length n.cells → HavePlaces n stored → KeepsAt (given_in n s k) (given_of stored) c → IsStoredAt n stored.values.items stored.taints.items stored.flags.items c
stored_here n s k c stored l h e =
    let all = is_stored n s k (state n s k) (taint_state n s k).stored (taint_state n s k).flags refl refl refl in
    record {
      value_place = (let z : length stored.values.items ≡ length n.cells = h.values in omega arith);
      taint_place = (let z : length stored.taints.items ≡ length n.cells = h.taints in omega arith);
      flag_place = (let z : length stored.flags.items ≡ length n.cells = h.flags in omega arith);
      value_width = ap length e.value ∙ all.value_width c l;
      taint_width = ap length e.taint ∙ all.taint_width c l;
    }

pub part_stored : (c : CaseOf) (k : ℕ) (p : PlanOf) (part : ℕ) (passing : List ℕ) (stored : StoredWords) (inputs : Inputs) (bits : NetBits) → IsPlanOf c p → part < p.parts → passing ≡ get_or p.passing part [] → BeginsPart c k (used_cells p part) stored inputs bits
    → AreStored (net_of c) stored.values.items stored.taints.items stored.flags.items passing
part_stored c k p part passing stored inputs bits h l e begun = λ i inside.
    let turn = subst (λ (xs : List ℕ). Lists c.order (EvaluatesInTurn (net_of c) p.parts part) xs) (sym e) (h.passing part l) in
    let here = turn.only i inside in
    stored_here (net_of c) c.stimulus k (get_or passing i 0) stored (in_range (net_of c) (get_or passing i 0) here.1) begun.places
    (words_at (net_of c) c.stimulus k (used_cells p part) (get_or passing i 0) stored begun.words ((plan_uses c p part h l).each (get_or passing i 0) (Rattle.std.proofs.Common.inl here.0)))

-- ---- covered bits are right

keeps_back : (before after : Given) (c : ℕ) → KeepsAt before after c → KeepsAt after before c
keeps_back before after c h = record { value = sym h.value; taint = sym h.taint; flag = sym h.flag }

-- where they show what is given by the part's own words, they show what is given in the cycle
shows_in : (c : CaseOf) (k : ℕ) (used : List ℕ) (stored : StoredWords) (inputs : Inputs) (values taints : List Bool) (b : ℕ) → AreIn (net_of c) c.stimulus k used (length used) stored → StandsAt (net_of c) c.stimulus k inputs → covers (net_of c) used b ≡ true → Shows (net_of c) (given_at c stored inputs) values taints b
    → Shows (net_of c) (given_in (net_of c) c.stimulus k) values taints b
shows_in c k used stored inputs values taints b words at k' h =
    shows_alike (net_of c) (given_at c stored inputs) (given_in (net_of c) c.stimulus k) b values taints (λ x. refl)
    (λ p i. ap (λ j. input_value (net_of c) c.stimulus j p i) at.cycle) (λ p i. ap (λ j. input_taint (net_of c) c.stimulus j p i) at.cycle)
    (λ x is. let e = words_at (net_of c) c.stimulus k used x stored words (driver_among (net_of c) used b x k' is) in record { value = sym e.value; taint = sym e.taint; flag = sym e.flag }) h

pub right_value : (c : CaseOf) (k parts part : ℕ) (used : List ℕ) (values taints : List Bool) (b : ℕ) → IsWired (net_of c) → IsLevelled (net_of c) c.order → AreUsed (net_of c) parts part used
    → ((x : ℕ) → covers (net_of c) used x ≡ true → Shows (net_of c) (given_in (net_of c) c.stimulus k) values taints x) → covers (net_of c) used b ≡ true → bit values b ≡ value (net_of c) c.stimulus k b
right_value c k parts part used values taints b w o uses h e =
    values_covered (net_of c) c.order (covers (net_of c) used) (given_in (net_of c) c.stimulus k) values taints w o (part_closed (net_of c) parts part used w uses) h b e

pub right_taint : (c : CaseOf) (k parts part : ℕ) (used : List ℕ) (values taints : List Bool) (b : ℕ) → IsWired (net_of c) → IsLevelled (net_of c) c.order → AreUsed (net_of c) parts part used
    → ((x : ℕ) → covers (net_of c) used x ≡ true → Shows (net_of c) (given_in (net_of c) c.stimulus k) values taints x) → covers (net_of c) used b ≡ true → bit taints b ≡ taint (net_of c) c.stimulus k b
right_taint c k parts part used values taints b w o uses h e =
    taints_covered (net_of c) c.order (covers (net_of c) used) (given_in (net_of c) c.stimulus k) values taints w o (part_closed (net_of c) parts part used w uses) h b e

-- ---- a cell rests by what it reads

-- what a cell stores next is the same under two values and two taints
pub record IsNextSame (r : Role) (c : Cell) (u v s t : ℕ → Bool) (word word_taint : Word) (flag : Bool) : Type 0 where
  pub value : stored_by r c u word ≡ stored_by r c v word
  pub taint : taint_stored_by r c u s word word_taint ≡ taint_stored_by r c v t word word_taint
  pub flag_is : flag_by r c u s flag ≡ flag_by r c v t flag

next_same : (r : Role) (c : Cell) (u v s t : ℕ → Bool) (word word_taint : Word) (flag : Bool) → operand_words u c ≡ operand_words v c → operand_taints s c ≡ operand_taints t c → IsNextSame r c u v s t word word_taint flag
next_same PlainRegister c u v s t word word_taint flag e f = record {
  value = ap (λ (us : List Word). next_word c us word) e;
  taint = ap (λ (us : List Word). next_register_taint c us (operand_taints s c) word word_taint) e ∙ ap (λ (ts : List Word). next_register_taint c (operand_words v c) ts word word_taint) f;
  flag_is = refl;
}
next_same ResetRegister c u v s t word word_taint flag e f = record {
  value = ap (λ (us : List Word). next_word c us word) e;
  taint = ap (λ (us : List Word). next_register_taint c us (operand_taints s c) word word_taint) e ∙ ap (λ (ts : List Word). next_register_taint c (operand_words v c) ts word word_taint) f;
  flag_is = refl;
}
next_same MemoryBlock c u v s t word word_taint flag e f = record {
  value = ap (λ (us : List Word). next_memory (shape_of c) us word) e;
  taint = ap (λ (us : List Word). next_memory_taint (shape_of c) us (operand_taints s c) word_taint) e ∙ ap (λ (ts : List Word). next_memory_taint (shape_of c) (operand_words v c) ts word_taint) f;
  flag_is = ap (λ (us : List Word). next_flag (shape_of c) us (operand_taints s c) flag) e ∙ ap (λ (ts : List Word). next_flag (shape_of c) (operand_words v c) ts flag) f;
}
next_same Combinational c u v s t word word_taint flag e f = record { value = refl; taint = refl; flag_is = refl }
next_same CarriedOver c u v s t word word_taint flag e f = record { value = refl; taint = refl; flag_is = refl }

pub rests_in : (n : Netlist) (s : Stimulus) (k c : ℕ) (stored : StoredWords) (values taints : List Bool) → ((q j x : ℕ) → operand_at (cell_at n c) q j ≡ Bit x → bit values x ≡ value n s k x) → ((q j x : ℕ) → operand_at (cell_at n c) q j ≡ Bit x → bit taints x ≡ taint n s k x)
    → KeepsAt (given_in n s k) (given_of stored) c → Rests n (given_of stored) values taints c → RestsIn n s k c
rests_in n s k c stored values taints ev et e h =
    let same = next_same (role_at n c) (cell_at n c) (bit values) (value n s k) (bit taints) (taint n s k) (get_or (state n s k) c []) (get_or (taint_state n s k).stored c []) (get_or (taint_state n s k).flags c false)
    (same_words_under (bit values) (value n s k) (cell_at n c).operands ev) (same_taints_under (bit taints) (taint n s k) (cell_at n c).operands et) in
    record {
      word = sym same.value ∙ ap (λ (w : Word). stored_by (role_at n c) (cell_at n c) (bit values) w) (sym e.value) ∙ h.value ∙ e.value;
      word_taint = sym same.taint ∙ ap (λ (w : Word). taint_stored_by (role_at n c) (cell_at n c) (bit values) (bit taints) w (get_or (taint_state n s k).stored c [])) (sym e.value)
          ∙ ap (λ (w : Word). taint_stored_by (role_at n c) (cell_at n c) (bit values) (bit taints) (get_or stored.values.items c []) w) (sym e.taint) ∙ h.taint ∙ e.taint;
      flag = sym same.flag_is ∙ ap (λ x. flag_by (role_at n c) (cell_at n c) (bit values) (bit taints) x) (sym e.flag) ∙ h.flag ∙ e.flag;
    }

-- ---- a piece

pub part_done : (c : CaseOf) (k : ℕ) (p : PlanOf) (part : ℕ) (passing : List ℕ) (begun : NetBits) (bits : OwnedBits) → IsWired (net_of c) → IsLevelled (net_of c) c.order → IsPlanOf c p → part < p.parts → passing ≡ get_or p.passing part []
    → BeginsPart c k (used_cells p part) bits.stored bits.inputs begun
    → ((covered : ℕ → Bool) → CoverBits (net_of c) c.order passing covered → MayBegin covered (net_of c) (given_at c bits.stored bits.inputs) passing begun.marks.items begun.values.items begun.taints.items
    → (b : ℕ) → covered b ≡ true → Shows (net_of c) (given_at c bits.stored bits.inputs) bits.values.items bits.taints.items b)
    → Notes (net_of c) begun.values.items begun.taints.items bits.values.items bits.taints.items begun.marks.items bits.due.items
    → length bits.values.items ≡ length (net_of c).drivers → length bits.taints.items ≡ length (net_of c).drivers → length bits.due.items ≡ length (net_of c).cells → HoldsPiece (piece_of c k part p.parts) bits
part_done c k p part passing begun bits w o plan l e b shown notes sv st sd =
    let n : Netlist = net_of c in let s : Stimulus = c.stimulus in let used : List ℕ = used_cells p part in
    let uses : AreUsed n p.parts part used = plan_uses c p part plan l in
    let cover : CoverBits n c.order passing (covers n used) = part_covers n c.order p.parts part passing used o (subst (λ (xs : List ℕ). Lists c.order (EvaluatesInTurn n p.parts part) xs) (sym e) (plan.passing part l)) uses in
    let shows : (x : ℕ) → covers n used x ≡ true → Shows n (given_in n s k) bits.values.items bits.taints.items x =
    λ x h. shows_in c k used bits.stored bits.inputs bits.values.items bits.taints.items x b.words b.at h (shown (covers n used) cover (b.begins passing cover) x h) in
    let values : (x : ℕ) → covers n used x ≡ true → bit bits.values.items x ≡ value n s k x = λ x h. right_value c k p.parts part used bits.values.items bits.taints.items x w o uses shows h in
    let taints : (x : ℕ) → covers n used x ≡ true → bit bits.taints.items x ≡ taint n s k x = λ x h. right_taint c k p.parts part used bits.values.items bits.taints.items x w o uses shows h in
    record {
      places = record { values = sv; taints = st; words = b.places.values; word_taints = b.places.taints; flags = b.places.flags; due = sd };
      nets = λ x owns. (let h = owned_covered n p.parts part used x w uses owns in record { value = values x h; taint = taints x h });
      clock = λ x is. (let h = clock_covered n used x is in record { value = values x h; taint = taints x h });
      cells = λ x owns. (
          let among : is_among used x ≡ true = owned_among n p.parts part used x uses owns in
          let words : KeepsAt (given_in n s k) (given_of bits.stored) x = words_at n s k used x bits.stored b.words among in
          let at = among_found used x among in
          record {
            value = words.value;
            taint = words.taint;
            flag = words.flag;
            resting = λ clear. rests_in n s k x bits.stored bits.values.items bits.taints.items
                (λ q j y r. values y (owned_reads n p.parts part used x q j y w uses owns r)) (λ q j y r. taints y (owned_reads n p.parts part used x q j y w uses owns r)) words
                (subst (λ (y : ℕ). Rests n (given_of bits.stored) bits.values.items bits.taints.items y) at.2 (b.resting bits.values.items bits.taints.items bits.due.items at.0 notes at.1 (ap (bit bits.due.items) at.2 ∙ clear)));
          });
      at = b.at;
    }

-- the same where the calls say another case, and another number of parts
pub part_done_of : (c seen kept : CaseOf) (k parts : ℕ) (p : PlanOf) (part : ℕ) (passing : List ℕ) (begun : NetBits) (bits : OwnedBits) → seen ≡ c → kept ≡ c → parts ≡ p.parts → IsWired (net_of c) → IsLevelled (net_of c) c.order → IsPlanOf c p → part < p.parts → passing ≡ get_or p.passing part []
    → BeginsPart c k (used_cells p part) bits.stored bits.inputs begun
    → ((covered : ℕ → Bool) → CoverBits (net_of seen) seen.order passing covered → MayBegin covered (net_of seen) (given_at seen bits.stored bits.inputs) passing begun.marks.items begun.values.items begun.taints.items
    → (b : ℕ) → covered b ≡ true → Shows (net_of seen) (given_at seen bits.stored bits.inputs) bits.values.items bits.taints.items b)
    → Notes (net_of seen) begun.values.items begun.taints.items bits.values.items bits.taints.items begun.marks.items bits.due.items
    → length bits.values.items ≡ length (net_of seen).drivers → length bits.taints.items ≡ length (net_of seen).drivers → length bits.due.items ≡ length (net_of seen).cells → HoldsPiece (piece_of kept k part parts) bits
part_done_of c seen kept k parts p part passing begun bits es ek ep w o plan l e b shown notes sv st sd =
    subst (λ (x : CaseOf). HoldsPiece (piece_of x k part parts) bits) (sym ek)
    (subst (λ (m : ℕ). HoldsPiece (piece_of c k part m) bits) (sym ep)
    (part_done c k p part passing begun bits w o plan l e b
    (subst (λ (x : CaseOf). (covered : ℕ → Bool) → CoverBits (net_of x) x.order passing covered → MayBegin covered (net_of x) (given_at x bits.stored bits.inputs) passing begun.marks.items begun.values.items begun.taints.items
    → (b : ℕ) → covered b ≡ true → Shows (net_of x) (given_at x bits.stored bits.inputs) bits.values.items bits.taints.items b) es shown)
    (subst (λ (x : CaseOf). Notes (net_of x) begun.values.items begun.taints.items bits.values.items bits.taints.items begun.marks.items bits.due.items) es notes)
    (sv ∙ ap (λ (x : CaseOf). length (net_of x).drivers) es) (st ∙ ap (λ (x : CaseOf). length (net_of x).drivers) es) (sd ∙ ap (λ (x : CaseOf). length (net_of x).cells) es)))
