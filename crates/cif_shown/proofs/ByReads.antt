-- What a driver gives depends on the operand bits that count of its cell alone.
use Rattle.std.specs.Prelude.{ℕ, ◌≡◌, ◌==◌, Bool, true, false, List, [], ◌∷◌, get_or, refl}
use Rattle.std.proofs.Common.{arith, ap, sym, ◌∙◌, cond}
use Rattle.std.proofs.lemmas.Bool.Decides.{nat_tests}
use Rattle.cif_defs.specs.Words.{Word, bit, block, operand}
use Rattle.cif_defs.specs.Cells.{meaning, number_of, reset_operand, shape_of, shown_word}
use Rattle.cif_defs.specs.Completions.{can_differ}
use Rattle.cif_defs.specs.Evaluation.{is_of_cell}
use Rattle.cif_defs.specs.Loop.{counts, is_passing}
use Rattle.cif_defs.specs.Memory.{read_address, read_taint, read_word}
use Rattle.cif_defs.specs.Netlist.{IsWired, Netlist, cell_at, driver_of, role_at}
use Rattle.cif_defs.specs.Run.{driver_value, operand_words, register_bit}
use Rattle.cif_defs.specs.Taint.{output_taint, shown_bit}
use Rattle.cif_defs.specs.TaintRun.{TaintState, driver_taint, operand_taints, register_taint}
use Rattle.cif_defs.specs.declared.kinds.Param.TheVariants.{Abits}
use Rattle.cif_defs.specs.declared.kinds.Role.{Role}
use Rattle.cif_defs.specs.declared.kinds.Role.TheVariants.{CarriedOver, Combinational, MemoryBlock, PlainRegister, ResetRegister}
use Rattle.cif_defs.specs.declared.nets.Driver.{Driver}
use Rattle.cif_defs.specs.declared.nets.Driver.TheVariants.{Input, Output, Register, Read, Clock}
use Rattle.cif_defs.proofs.Levels.{operand-words_under, same_src_word, same_words_under}
use Rattle.cif_defs.proofs.TaintSettles.{operand-taints_under, same_taint_word, same_taints_under}
use Rattle.cif_shown.specs.Shown.{Given, SameAtOperands, Shows, taint_given, value_given}

-- only passing cells have operands that count
pub counts_passing : (r : Role) (n : Netlist) (c q : ℕ) → counts r (cell_at n c) q ≡ true → is_passing r ≡ true
counts_passing Combinational n c q h = refl
counts_passing MemoryBlock n c q h = refl
counts_passing ResetRegister n c q h = refl
counts_passing PlainRegister n c q h = absurd (cc)
counts_passing CarriedOver n c q h = absurd (cc)

counts_itself : (k : ℕ) → (k == k) ≡ true
counts_itself k = grind (arith, nat_tests)

-- ---- operands of a cell

value_operand : (n : Netlist) (c q : ℕ) (u v : ℕ → Bool) → SameAtOperands n c u v → counts (role_at n c) (cell_at n c) q ≡ true → operand (operand_words u (cell_at n c)) q ≡ operand (operand_words v (cell_at n c)) q
unfolding SameAtOperands
value_operand n c q u v h k =
    operand-words_under u (cell_at n c).operands q ∙ same_src_word u v (get_or (cell_at n c).operands q []) (λ j x e. h q j x k e) ∙ sym (operand-words_under v (cell_at n c).operands q)

taint_operand : (n : Netlist) (c q : ℕ) (u v : ℕ → Bool) → SameAtOperands n c u v → counts (role_at n c) (cell_at n c) q ≡ true → operand (operand_taints u (cell_at n c)) q ≡ operand (operand_taints v (cell_at n c)) q
unfolding SameAtOperands
taint_operand n c q u v h k =
    operand-taints_under u (cell_at n c).operands q ∙ same_taint_word u v (get_or (cell_at n c).operands q []) (λ j x e. h q j x k e) ∙ sym (operand-taints_under v (cell_at n c).operands q)

value_operands : (n : Netlist) (c : ℕ) (u v : ℕ → Bool) → SameAtOperands n c u v → role_at n c ≡ Combinational → operand_words u (cell_at n c) ≡ operand_words v (cell_at n c)
unfolding SameAtOperands
value_operands n c u v h role = same_words_under u v (cell_at n c).operands (λ q j x e. h q j x (ap (λ r. counts r (cell_at n c) q) role) e)

taint_operands : (n : Netlist) (c : ℕ) (u v : ℕ → Bool) → SameAtOperands n c u v → role_at n c ≡ Combinational → operand_taints u (cell_at n c) ≡ operand_taints v (cell_at n c)
unfolding SameAtOperands
taint_operands n c u v h role = same_taints_under u v (cell_at n c).operands (λ q j x e. h q j x (ap (λ r. counts r (cell_at n c) q) role) e)

reset_counts : (n : Netlist) (c : ℕ) → role_at n c ≡ ResetRegister → counts (role_at n c) (cell_at n c) (reset_operand (cell_at n c).kind) ≡ true
reset_counts n c e = ap (λ r. counts r (cell_at n c) (reset_operand (cell_at n c).kind)) e ∙ counts_itself (reset_operand (cell_at n c).kind)

read_counts : (n : Netlist) (c : ℕ) → role_at n c ≡ MemoryBlock → counts (role_at n c) (cell_at n c) 0 ≡ true
read_counts n c e = ap (λ r. counts r (cell_at n c) 0) e

-- ---- values

register_value : (n : Netlist) (c i : ℕ) (stored : Word) (u v : ℕ → Bool) (r : Role) → role_at n c ≡ r → SameAtOperands n c u v → register_bit r (cell_at n c) u stored i ≡ register_bit r (cell_at n c) v stored i
register_value n c i stored u v ResetRegister e h = ap (λ (x : Word). bit (shown_word (cell_at n c) (bit x 0) stored) i) (value_operand n c (reset_operand (cell_at n c).kind) u v h (reset_counts n c e))
register_value n c i stored u v Combinational e h = refl
register_value n c i stored u v PlainRegister e h = refl
register_value n c i stored u v MemoryBlock e h = refl
register_value n c i stored u v CarriedOver e h = refl

itself : (c : ℕ) → (c == c) ≡ true
itself c = grind (arith, nat_tests)

pub same_value : (n : Netlist) (stored : List Word) (input : ℕ → ℕ → Bool) (u v : ℕ → Bool) (b : ℕ) (g : Driver) → IsWired n → driver_of n b ≡ g → ((c : ℕ) → is_of_cell c g ≡ true → SameAtOperands n c u v) → driver_value n stored input u g ≡ driver_value n stored input v g
unfolding driver_value
same_value n stored input u v b (Input p i) w e h = refl
same_value n stored input u v b Clock w e h = refl
same_value n stored input u v b (Output c p i) w e h = ap (λ (us : List Word). bit (operand (meaning (cell_at n c) us) p) i) (value_operands n c u v (h c (itself c)) (w.output_role b c p i e))
same_value n stored input u v b (Register c i) w e h = register_value n c i (get_or stored c []) u v (role_at n c) refl (h c (itself c))
same_value n stored input u v b (Read c r i) w e h =
    ap (λ (x : Word). bit (read_word (shape_of (cell_at n c)) (block (number_of (cell_at n c) Abits) r x) (get_or stored c [])) i) (value_operand n c 0 u v (h c (itself c)) (read_counts n c (w.read_role b c r i e)))

-- ---- taints

taint_of_register : (n : Netlist) (c i : ℕ) (stored stored_taint : Word) (u v s t : ℕ → Bool) (r : Role) → role_at n c ≡ r → SameAtOperands n c u v → SameAtOperands n c s t
    → register_taint r (cell_at n c) u s stored stored_taint i ≡ register_taint r (cell_at n c) v t stored stored_taint i
taint_of_register n c i stored stored_taint u v s t ResetRegister e h k =
    let q : ℕ = reset_operand (cell_at n c).kind in
    ap (λ (x : Word). can_differ (shown_bit (cell_at n c) i) (x ∷ stored ∷ []) (operand (operand_taints s (cell_at n c)) q ∷ stored_taint ∷ [])) (value_operand n c q u v h (reset_counts n c e))
    ∙ ap (λ (x : Word). can_differ (shown_bit (cell_at n c) i) (operand (operand_words v (cell_at n c)) q ∷ stored ∷ []) (x ∷ stored_taint ∷ [])) (taint_operand n c q s t k (reset_counts n c e))
taint_of_register n c i stored stored_taint u v s t Combinational e h k = refl
taint_of_register n c i stored stored_taint u v s t PlainRegister e h k = refl
taint_of_register n c i stored stored_taint u v s t MemoryBlock e h k = refl
taint_of_register n c i stored stored_taint u v s t CarriedOver e h k = refl

pub same_taint : (n : Netlist) (stored : List Word) (state : TaintState) (input : ℕ → ℕ → Bool) (u v s t : ℕ → Bool) (b : ℕ) (g : Driver) → IsWired n → driver_of n b ≡ g
    → ((c : ℕ) → is_of_cell c g ≡ true → SameAtOperands n c u v) → ((c : ℕ) → is_of_cell c g ≡ true → SameAtOperands n c s t) → driver_taint n stored u state input s g ≡ driver_taint n stored v state input t g
unfolding driver_taint
same_taint n stored state input u v s t b (Input p i) w e h k = refl
same_taint n stored state input u v s t b Clock w e h k = refl
same_taint n stored state input u v s t b (Output c p i) w e h k =
    ap (λ (us : List Word). output_taint (cell_at n c) p i us (operand_taints s (cell_at n c))) (value_operands n c u v (h c (itself c)) (w.output_role b c p i e))
    ∙ ap (λ (ts : List Word). output_taint (cell_at n c) p i (operand_words v (cell_at n c)) ts) (taint_operands n c s t (k c (itself c)) (w.output_role b c p i e))
same_taint n stored state input u v s t b (Register c i) w e h k = taint_of_register n c i (get_or stored c []) (get_or state.stored c []) u v s t (role_at n c) refl (h c (itself c)) (k c (itself c))
same_taint n stored state input u v s t b (Read c r i) w e h k =
    let counted = read_counts n c (w.read_role b c r i e) in
    ap (λ (x : Word). bit (read_taint (shape_of (cell_at n c)) (block (number_of (cell_at n c) Abits) r x) (read_address (shape_of (cell_at n c)) (operand_taints s (cell_at n c)) r) (get_or state.flags c false) (get_or state.stored c [])) i) (value_operand n c 0 u v (h c (itself c)) counted)
    ∙ ap (λ (x : Word). bit (read_taint (shape_of (cell_at n c)) (read_address (shape_of (cell_at n c)) (operand_words v (cell_at n c)) r) (block (number_of (cell_at n c) Abits) r x) (get_or state.flags c false) (get_or state.stored c [])) i) (taint_operand n c 0 s t (k c (itself c)) counted)

-- ---- a bit that stays still shows what its driver gives, where its cell reads no bit that changed

pub still_shows : (n : Netlist) (g : Given) (values taints new_values new_taints : List Bool) (b : ℕ) → IsWired n → bit new_values b ≡ bit values b → bit new_taints b ≡ bit taints b
    → ((c : ℕ) → is_of_cell c (driver_of n b) ≡ true → SameAtOperands n c (bit values) (bit new_values)) → ((c : ℕ) → is_of_cell c (driver_of n b) ≡ true → SameAtOperands n c (bit taints) (bit new_taints))
    → Shows n g values taints b → Shows n g new_values new_taints b
still_shows n g values taints new_values new_taints b w ev et hv ht s = record {
  value = ev ∙ s.value ∙ same_value n g.stored g.input (bit values) (bit new_values) b (driver_of n b) w refl hv;
  taint = et ∙ s.taint ∙ ap (λ x. cond (g.released b) false x) (same_taint n g.stored g.state g.taint_input (bit values) (bit new_values) (bit taints) (bit new_taints) b (driver_of n b) w refl hv ht);
}

-- the same, of a net bit
pub value_by_operands : (n : Netlist) (g : Given) (u v : ℕ → Bool) (b : ℕ) → IsWired n → ((c : ℕ) → is_of_cell c (driver_of n b) ≡ true → SameAtOperands n c u v) → value_given n g u b ≡ value_given n g v b
value_by_operands n g u v b w h = same_value n g.stored g.input u v b (driver_of n b) w refl h

pub taint_by_operands : (n : Netlist) (g : Given) (u v s t : ℕ → Bool) (b : ℕ) → IsWired n → ((c : ℕ) → is_of_cell c (driver_of n b) ≡ true → SameAtOperands n c u v) → ((c : ℕ) → is_of_cell c (driver_of n b) ≡ true → SameAtOperands n c s t)
    → taint_given n g u s b ≡ taint_given n g v t b
taint_by_operands n g u v s t b w h k = ap (λ x. cond (g.released b) false x) (same_taint n g.stored g.state g.taint_input u v s t b (driver_of n b) w refl h k)
