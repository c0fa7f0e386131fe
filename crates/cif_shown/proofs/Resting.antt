-- A cell whose operands and stored word are those of the cycle before stores next what it stores.
use Rattle.std.specs.Prelude.{ℕ, ◌≡◌, Bool, true, false, List, [], get_or, refl}
use Rattle.std.proofs.Common.{ap, sym, ◌∙◌}
use Rattle.cif_defs.specs.Words.{Word, bit}
use Rattle.cif_defs.specs.Cells.{Cell, next_word, shape_of}
use Rattle.cif_defs.specs.Memory.{next_flag, next_memory, next_memory_taint}
use Rattle.cif_defs.specs.Netlist.{Netlist, cell_at, role_at}
use Rattle.cif_defs.specs.Run.{operand_words, stored_by}
use Rattle.cif_defs.specs.Taint.{next_register_taint}
use Rattle.cif_defs.specs.TaintRun.{flag_by, operand_taints, taint_stored_by}
use Rattle.cif_defs.specs.declared.kinds.Role.{Role}
use Rattle.cif_defs.specs.declared.kinds.Role.TheVariants.{CarriedOver, Combinational, MemoryBlock, PlainRegister, ResetRegister}
use Rattle.cif_defs.proofs.Levels.{same_words_under}
use Rattle.cif_defs.proofs.TaintSettles.{same_taints_under}
use Rattle.cif_readers.specs.Reads.{Notes}
use Rattle.cif_shown.specs.Shown.{AreKept, AreResting, Follows, Given, KeepsAt, Rests}

-- what a cell stores next depends on its operand words and their taints
stored_by_words : (r : Role) (c : Cell) (u v : ℕ → Bool) (stored : Word) → operand_words u c ≡ operand_words v c → stored_by r c u stored ≡ stored_by r c v stored
stored_by_words PlainRegister c u v stored e = ap (λ (us : List Word). next_word c us stored) e
stored_by_words ResetRegister c u v stored e = ap (λ (us : List Word). next_word c us stored) e
stored_by_words MemoryBlock c u v stored e = ap (λ (us : List Word). next_memory (shape_of c) us stored) e
stored_by_words Combinational c u v stored e = refl
stored_by_words CarriedOver c u v stored e = refl

taint_by_words : (r : Role) (c : Cell) (u v s t : ℕ → Bool) (stored stored_taint : Word) → operand_words u c ≡ operand_words v c → operand_taints s c ≡ operand_taints t c → taint_stored_by r c u s stored stored_taint ≡ taint_stored_by r c v t stored stored_taint
taint_by_words PlainRegister c u v s t stored stored_taint e f = ap (λ (us : List Word). next_register_taint c us (operand_taints s c) stored stored_taint) e ∙ ap (λ (ts : List Word). next_register_taint c (operand_words v c) ts stored stored_taint) f
taint_by_words ResetRegister c u v s t stored stored_taint e f = ap (λ (us : List Word). next_register_taint c us (operand_taints s c) stored stored_taint) e ∙ ap (λ (ts : List Word). next_register_taint c (operand_words v c) ts stored stored_taint) f
taint_by_words MemoryBlock c u v s t stored stored_taint e f = ap (λ (us : List Word). next_memory_taint (shape_of c) us (operand_taints s c) stored_taint) e ∙ ap (λ (ts : List Word). next_memory_taint (shape_of c) (operand_words v c) ts stored_taint) f
taint_by_words Combinational c u v s t stored stored_taint e f = refl
taint_by_words CarriedOver c u v s t stored stored_taint e f = refl

flag_by_words : (r : Role) (c : Cell) (u v s t : ℕ → Bool) (flag : Bool) → operand_words u c ≡ operand_words v c → operand_taints s c ≡ operand_taints t c → flag_by r c u s flag ≡ flag_by r c v t flag
flag_by_words MemoryBlock c u v s t flag e f = ap (λ (us : List Word). next_flag (shape_of c) us (operand_taints s c) flag) e ∙ ap (λ (ts : List Word). next_flag (shape_of c) (operand_words v c) ts flag) f
flag_by_words PlainRegister c u v s t flag e f = refl
flag_by_words ResetRegister c u v s t flag e f = refl
flag_by_words Combinational c u v s t flag e f = refl
flag_by_words CarriedOver c u v s t flag e f = refl

rests_at : (n : Netlist) (before after : Given) (values taints new_values new_taints : List Bool) (c : ℕ) → operand_words (bit new_values) (cell_at n c) ≡ operand_words (bit values) (cell_at n c) → operand_taints (bit new_taints) (cell_at n c) ≡ operand_taints (bit taints) (cell_at n c)
    → KeepsAt before after c → Follows n before after values taints c → Rests n after new_values new_taints c
rests_at n before after values taints new_values new_taints c e f k h = record {
  value = stored_by_words (role_at n c) (cell_at n c) (bit new_values) (bit values) (get_or after.stored c []) e ∙ ap (λ (w : Word). stored_by (role_at n c) (cell_at n c) (bit values) w) k.value ∙ sym h.value;
  taint = taint_by_words (role_at n c) (cell_at n c) (bit new_values) (bit values) (bit new_taints) (bit taints) (get_or after.stored c []) (get_or after.state.stored c []) e f
      ∙ ap (λ (w : Word). taint_stored_by (role_at n c) (cell_at n c) (bit values) (bit taints) w (get_or after.state.stored c [])) k.value
      ∙ ap (λ (w : Word). taint_stored_by (role_at n c) (cell_at n c) (bit values) (bit taints) (get_or before.stored c []) w) k.taint ∙ sym h.taint;
  flag = flag_by_words (role_at n c) (cell_at n c) (bit new_values) (bit values) (bit new_taints) (bit taints) (get_or after.state.flags c false) e f
      ∙ ap (λ x. flag_by (role_at n c) (cell_at n c) (bit values) (bit taints) x) k.flag ∙ sym h.flag;
}

unmarked_before : (old new : Bool) → (old ≡ true → new ≡ true) → new ≡ false → old ≡ false
unmarked_before false new kept h = refl
unmarked_before true new kept h = absurd (let t : new ≡ true = kept refl in cc)

-- so a cell rests that isn't marked when a cycle is settled
pub rests_after : (n : Netlist) (before after : Given) (values taints new_values new_taints marks new_marks : List Bool) (c : ℕ) → (bit marks c ≡ false → KeepsAt before after c) → Follows n before after values taints c → Notes n values taints new_values new_taints marks new_marks
    → bit new_marks c ≡ false → Rests n after new_values new_taints c
rests_after n before after values taints new_values new_taints marks new_marks c k h m clear =
    rests_at n before after values taints new_values new_taints c
    (same_words_under (bit new_values) (bit values) (cell_at n c).operands (λ q j x e. (m.noted c x (record { operand = q; place = j; is_operand = e }) clear).0))
    (same_taints_under (bit new_taints) (bit taints) (cell_at n c).operands (λ q j x e. (m.noted c x (record { operand = q; place = j; is_operand = e }) clear).1))
    (k (unmarked_before (bit marks c) (bit new_marks c) (m.kept c) clear)) h

pub resting_after : (n : Netlist) (before after : Given) (values taints new_values new_taints marks new_marks : List Bool) → AreKept before after marks → ((c : ℕ) → Follows n before after values taints c) → Notes n values taints new_values new_taints marks new_marks
    → AreResting n after new_values new_taints new_marks
unfolding AreResting AreKept
resting_after n before after values taints new_values new_taints marks new_marks k h m = λ c clear. rests_after n before after values taints new_values new_taints marks new_marks c (k c) (h c) m clear
