-- What all cells store, cell by cell.
use Rattle.std.specs.Prelude.{ℕ, ◌+◌, ◌<◌, ◌≤◌, ◌≡◌, Bool, true, false, List, [], ◌∷◌, ◌++◌, map, length, get_or}
use Rattle.std.specs.List.{range_with_len}
use Rattle.std.proofs.Common.{arith, ap, sym, subst, ◌∙◌}
use Rattle.std.proofs.lemmas.List.{get_or_default}
use Rattle.std.proofs.lemmas.List.FromFn.{map-range_with_len_more}
use Rattle.cif_defs.specs.Words.{Word}
use Rattle.cif_defs.specs.Accepted.{netlist_of}
use Rattle.cif_defs.specs.Kinds.{is_register, role_of}
use Rattle.cif_defs.specs.Cells.{Cell, next_word, state_bits}
use Rattle.cif_defs.specs.Fitted.{IsFitted, operand_widths}
use Rattle.cif_defs.specs.Netlist.{Netlist, no_cell, cell_at, role_at}
use Rattle.cif_defs.specs.Stimulus.{Stimulus, start_at}
use Rattle.cif_defs.specs.Run.{operand_words, state, stored_by}
use Rattle.cif_defs.specs.TaintRun.{operand_taints, taint_state, taint_stored_by}
use Rattle.cif_defs.specs.Taint.{next_register_taint}
use Rattle.cif_defs.specs.declared.raw_module.Raw.{Raw}
use Rattle.cif_defs.specs.declared.kinds.Role.{Role}
use Rattle.cif_defs.specs.declared.kinds.Role.TheVariants.{CarriedOver, Combinational, MemoryBlock, PlainRegister, ResetRegister}
use Rattle.cif_defs.proofs.WordLaws.{length-word}
use Rattle.cif_checks.specs.Checks.{IsAccepted}
use Rattle.cif_cells.specs.NetlistView.{AreFitted}
use Rattle.cif_kinds.specs.StateCells.{HasMemoryNumbers}
use Rattle.cif_cells.proofs.FittedCells.{fitted_at, narrow_operand}
use Rattle.cif_cells.proofs.MemoryCells.{memory_numbers}
use Rattle.cif_cells.proofs.StateLaws.{few_state_bits}
use Rattle.cif_cycle.specs.CellWords.{AreNarrow}
use Rattle.cif_seq.specs.States.{start_values, start_taints, start_flags}
use Rattle.cif_register_bits.proofs.SourceWidths.{words_wide, taints_wide}

-- ---- one more cell

pub list_more : {A : Type 0} (f : ℕ → A) (i : ℕ) (old new : List A) (x : A) → old ≡ map f (range_with_len 0 i) → new ≡ old ++ x ∷ [] → x ≡ f i → new ≡ map f (range_with_len 0 (i + 1))
list_more f i old new x e h q = h ∙ ap (λ xs. xs ++ x ∷ []) e ∙ ap (λ y. map f (range_with_len 0 i) ++ y ∷ []) q ∙ sym (map-range_with_len_more f 0 i i (omega arith))

pub list_done : {A : Type 0} (f : ℕ → A) (i n : ℕ) (xs : List A) → xs ≡ map f (range_with_len 0 i) → i ≡ n → xs ≡ map f (range_with_len 0 n)
list_done f i n xs e h = e ∙ ap (λ k. map f (range_with_len 0 k)) h

-- ---- the start

pub start_state : (n : Netlist) (s : Stimulus) (i : ℕ) (values : List Word) → values ≡ start_values n s i → i ≡ length n.cells → values ≡ state n s 0
unfolding state
start_state n s i values e h = list_done (λ c. (start_at n s c).value) i (length n.cells) values e h

pub start_stored : (n : Netlist) (s : Stimulus) (i : ℕ) (taints : List Word) → taints ≡ start_taints n s i → i ≡ length n.cells → taints ≡ (taint_state n s 0).stored
unfolding taint_state
start_stored n s i taints e h = list_done (λ c. (start_at n s c).taint) i (length n.cells) taints e h

pub start_off : (n : Netlist) (s : Stimulus) (i : ℕ) (flags : List Bool) → flags ≡ start_flags i → i ≡ length n.cells → flags ≡ (taint_state n s 0).flags
unfolding taint_state
start_off n s i flags e h = list_done (λ c. false) i (length n.cells) flags e h

-- the word with which a memory starts is short
pub start_short : (raw : Raw) (s : Stimulus) (c : ℕ) (v seen : Word) → IsAccepted raw → c < length (netlist_of raw).cells → seen ≡ v → v ≡ (start_at (netlist_of raw) s c).value → length seen < 4294967296
start_short raw s c v seen h l e q =
    let size : length seen ≡ state_bits (cell_at (netlist_of raw) c) = ap length (e ∙ q) ∙ length-word _ _ in
    let few : state_bits (cell_at (netlist_of raw) c) ≤ 16777216 = few_state_bits raw h c l in
    omega arith

pub taint_short : (raw : Raw) (s : Stimulus) (c : ℕ) (v seen : Word) → IsAccepted raw → c < length (netlist_of raw).cells → seen ≡ v → v ≡ (start_at (netlist_of raw) s c).taint → length seen < 4294967296
taint_short raw s c v seen h l e q =
    let size : length seen ≡ state_bits (cell_at (netlist_of raw) c) = ap length (e ∙ q) ∙ length-word _ _ in
    let few : state_bits (cell_at (netlist_of raw) c) ≤ 16777216 = few_state_bits raw h c l in
    omega arith

-- ---- one cell

-- a word that was read at its number
pub word_read : (words : List Word) (i : ℕ) (w : Word) → i < length words → w ≡ get_or words i w → w ≡ get_or words i []
word_read words i w l e = e ∙ get_or_default words i w [] l

pub fitted_read : (raw : Raw) (cells : List Cell) (c : ℕ) (x : Cell) → AreFitted cells → cells ≡ (netlist_of raw).cells → x ≡ get_or cells c x → c < length (netlist_of raw).cells → IsFitted x
fitted_read raw cells c x f e h l =
    let inside : c < length cells = (let q : length cells ≡ length (netlist_of raw).cells = ap (λ (xs : List Cell). length xs) e in omega arith) in
    subst (λ (z : Cell). IsFitted z) (sym (h ∙ get_or_default cells c x no_cell inside)) (fitted_at cells f c inside)

pub narrow_read : (raw : Raw) (c : ℕ) (x : Cell) → IsAccepted raw → c < length (netlist_of raw).cells → x ≡ cell_at (netlist_of raw) c → AreNarrow x.operands
unfolding AreNarrow
narrow_read raw c x h l e = λ p. (let small = narrow_operand raw h c p l in let same : length (get_or x.operands p []) ≡ length (get_or (cell_at (netlist_of raw) c).operands p []) = ap (λ (z : Cell). length (get_or z.operands p [])) e in omega arith)

pub role_found : (n : Netlist) (c : ℕ) (x : Cell) (r : Role) → x ≡ cell_at n c → role_at n c ≡ r → role_of x.kind ≡ r
role_found n c x r e h = ap (λ (z : Cell). role_of z.kind) e ∙ h

-- a register stores its next word, with its taint
pub register_stores : (r : Role) (c x : Cell) (v : ℕ → Bool) (w y : Word) → is_register r ≡ true → x ≡ c → y ≡ next_word x (operand_words v x) w → y ≡ stored_by r c v w
register_stores PlainRegister c x v w y h e q = q ∙ ap (λ (z : Cell). next_word z (operand_words v z) w) e
register_stores ResetRegister c x v w y h e q = q ∙ ap (λ (z : Cell). next_word z (operand_words v z) w) e
register_stores MemoryBlock c x v w y h e q = absurd (cc)
register_stores Combinational c x v w y h e q = absurd (cc)
register_stores CarriedOver c x v w y h e q = absurd (cc)

pub register_taints : (r : Role) (c x : Cell) (v t : ℕ → Bool) (w u y : Word) → is_register r ≡ true → x ≡ c → y ≡ next_register_taint x (operand_words v x) (operand_taints t x) w u → y ≡ taint_stored_by r c v t w u
register_taints PlainRegister c x v t w u y h e q = q ∙ ap (λ (z : Cell). next_register_taint z (operand_words v z) (operand_taints t z) w u) e
register_taints ResetRegister c x v t w u y h e q = q ∙ ap (λ (z : Cell). next_register_taint z (operand_words v z) (operand_taints t z) w u) e
register_taints MemoryBlock c x v t w u y h e q = absurd (cc)
register_taints Combinational c x v t w u y h e q = absurd (cc)
register_taints CarriedOver c x v t w u y h e q = absurd (cc)

pub numbers_read : (raw : Raw) (c : ℕ) (x : Cell) → IsAccepted raw → c < length (netlist_of raw).cells → x ≡ cell_at (netlist_of raw) c → role_of x.kind ≡ MemoryBlock → HasMemoryNumbers x
numbers_read raw c x h l e r =
    subst (λ (z : Cell). HasMemoryNumbers z) (sym e) (memory_numbers raw h c l (ap (λ (z : Cell). role_of z.kind) (sym e) ∙ r))

pub values_long : (v : ℕ → Bool) (x : Cell) (seen us : List Word) → seen ≡ us → us ≡ operand_words v x → map length seen ≡ operand_widths x
values_long v x seen us e h = ap (λ (ws : List Word). map length ws) (e ∙ h) ∙ words_wide v x.operands

pub taints_long : (t : ℕ → Bool) (x : Cell) (seen us : List Word) → seen ≡ us → us ≡ operand_taints t x → map length seen ≡ operand_widths x
taints_long t x seen us e h = ap (λ (ws : List Word). map length ws) (e ∙ h) ∙ taints_wide t x.operands

pub flag_read : (flags : List Bool) (i : ℕ) (b : Bool) → i < length flags → b ≡ get_or flags i b → b ≡ get_or flags i false
flag_read flags i b l e = e ∙ get_or_default flags i b false l
