-- What both modules store agrees from a cycle to the next, and so at each.
use Rattle.std.specs.Prelude.{ℕ, zero, suc, ◌<◌, ◌≤◌, ◌≡◌, nat_lt, Bool, true, false, ◌&&◌, List, [], ◌∷◌, map, length, get_or, Contains, Option, Some, refl}
use Rattle.std.proofs.Common.{arith, sym, ap, ◌∙◌}
use Rattle.std.proofs.lemmas.Bool.{and_parts, ltb-false}
use Rattle.std.proofs.lemmas.List.{length-map}
use Rattle.cif_defs.specs.Words.{Word, bit}
use Rattle.cif_defs.specs.Kinds.{is_memory, is_register, role_of}
use Rattle.cif_defs.specs.Table.{kind_of, operands_of}
use Rattle.cif_defs.specs.RawModule.{is_net, net_numbers, output_bits}
use Rattle.cif_defs.specs.Cells.{Cell, next_word, shape_of, state_bits, width}
use Rattle.cif_defs.specs.Fitted.{operand_widths, row_width}
use Rattle.cif_defs.specs.Memory.{MemoryShape, flag_after, next_flag, next_memory, next_memory_taint}
use Rattle.cif_defs.specs.Taint.{next_register_taint}
use Rattle.cif_defs.specs.Accepted.{cell_of, no_bit}
use Rattle.cif_defs.specs.Stimulus.{Stimulus}
use Rattle.cif_defs.specs.declared.kinds.Kind.{Kind}
use Rattle.cif_defs.specs.declared.kinds.Kind.TheVariants.{Dff, Dffe, Sdff, Sdffe, Sdffce, Adff, Adffe, Mem}
use Rattle.cif_defs.specs.declared.kinds.Role.{Role}
use Rattle.cif_defs.specs.declared.kinds.Role.TheVariants.{PlainRegister, ResetRegister}
use Rattle.cif_defs.specs.declared.kinds.Param.TheVariants.{WrPorts}
use Rattle.cif_defs.specs.declared.raw_module.RawBit.{RawBit}
use Rattle.cif_defs.specs.declared.raw_module.RawBit.TheVariants.{Net}
use Rattle.cif_defs.specs.declared.raw_module.RawCell.{RawCell}
use Rattle.cif_defs.specs.declared.raw_module.Raw.{Raw}
use Rattle.cif_checks.specs.Checks.{number_or_0}
use Rattle.cif_cells.proofs.FittedCells.{cell_fitted}
use Rattle.cif_nets.proofs.Places.{At-below}
use Rattle.cif_raw_runs.specs.Assigned.{raw_bit, raw_word, words_read}
use Rattle.cif_raw_runs.specs.Places.{flag_at, net_taint, net_value, stored_taint_word, stored_word}
use Rattle.cif_raw_runs.specs.Given.{Advances, flag_next, taint_next, taints_read, word_next}
use Rattle.cif_raw_runs.proofs.Lengths.{as_long}
use Rattle.cif_raw_runs.proofs.Numbers.{net_at}
use Rattle.cif_raw_runs.proofs.Steps.{advances}
use Rattle.cif_augment.specs.Names.{flag_name, has_flag, has_role, is_reset_register, stored_name, taint_name}
use Rattle.cif_built.specs.Makings.{Making, shown_by}
use Rattle.cif_built.specs.Computing.{taints_held, word_bits}
use Rattle.cif_built_runs.proofs.Lists.{bit_read, net_of}
use Rattle.cif_built_runs.proofs.Cells.{Passes, cell_as, no_writes, register_length, register_state, width_alike}
use Rattle.cif_built_runs.proofs.Standing.{TaintRegister, copy_cell, flag_cell, own_cell, taint_memory, taint_register}
use Rattle.cif_built_runs.proofs.StateCells.{dff_goes, memory_goes, plain_bit, register_shows}
use Rattle.cif_built_runs.proofs.Copies.{copy_goes}
use Rattle.cif_built_runs.proofs.Columns.{AreStored, same_column}
use Rattle.cif_built_runs.proofs.Agreement.{Agrees, Setting, cell_kind, role_test, starts_agree}
use Rattle.cif_built_runs.proofs.Stored.{Place, all_met, as_mem, copy_shown, dff_kind, flag_shown, mem_kind, memory_role, reset_role, same_shape}
use Rattle.cif_built_runs.proofs.Taints.{place_of_cell, taints_agree}
use Rattle.cif_built_runs.proofs.Values.{values_agree}

-- ---- the word that a register stores, as far as it can be seen

reset_bits : (k : Kind) (c : RawCell) (m : Making) → role_of k ≡ ResetRegister → word_bits c k m ≡ shown_by m.copy
reset_bits Adff c m e = refl
reset_bits Adffe c m e = refl
reset_bits _ c m e = absurd (cc)

plain_bits : (k : Kind) (c : RawCell) (m : Making) → role_of k ≡ PlainRegister → word_bits c k m ≡ output_bits c
plain_bits Dff c m e = refl
plain_bits Dffe c m e = refl
plain_bits Sdff c m e = refl
plain_bits Sdffe c m e = refl
plain_bits Sdffce c m e = refl
plain_bits _ c m e = absurd (cc)

-- ---- within a cycle

-- a cell of both modules at a cycle in which values and taints agree
record Step (n a : Raw) (released : List ℕ) (r q : ℕ → ℕ) (s t : Stimulus) (k : ℕ) (c : RawCell) (kind : Kind) : Type 0 where
  place : Place n a released r q s t k c kind
  values : (x : ℕ) → Contains (net_numbers n) x → net_value a t k x ≡ net_value n s k x
  taints : (x : ℕ) → Contains (net_numbers n) x → taints_held (net_value a t k) place.setting.built.shadow x ≡ net_taint n s k x

-- what the cell stores next, and its taint and flag, by the values and taints of the module that is built
advance : {n a : Raw} {released : List ℕ} {r q : ℕ → ℕ} {s t : Stimulus} {k : ℕ} {c : RawCell} {kind : Kind} (h : Step n a released r q s t k c kind)
    → Advances [] n s k (net_value a t k) (taints_held (net_value a t k) h.place.setting.built.shadow) c kind
advance {n = n} {a = a} {s = s} {t = t} {k = k} {c = c} {kind = kind} h =
    advances n [] s k (net_value a t k) (taints_held (net_value a t k) h.place.setting.built.shadow) c kind h.place.setting.runs.in_order h.place.stands h.place.passes.kind h.values h.taints

word_agrees : {n a : Raw} {released : List ℕ} {r q : ℕ → ℕ} {s t : Stimulus} {k : ℕ} {c : RawCell} {kind : Kind} → Step n a released r q s t k c kind → stored_word a t (suc k) c.name ≡ stored_word n s (suc k) c.name
word_agrees {a = a} {t = t} {k = k} {c = c} {kind = kind} h =
    (advances a [] t k (net_value a t k) (net_taint a t k) c kind h.place.setting.built_runs.in_order (own_cell c h.place.setting.built h.place.stands) h.place.passes.kind (λ x m. refl) (λ x m. refl)).word
    ∙ ap (word_next (role_of kind) (cell_of [] c) (words_read (net_value a t k) c kind)) h.place.agrees.word
    ∙ sym (advance h).word

-- ---- registers

abbrev next_taint : Stimulus → ℕ → Raw → (ℕ → RawBit) → RawCell → Kind → Word → Word → Word
next_taint t k a shadow c kind stored taint = next_register_taint (cell_of [] c) (words_read (net_value a t k) c kind) (taints_read (taints_held (net_value a t k) shadow) c kind) stored taint

-- the taint that is stored next for a register
taint_goes : {n a : Raw} {released : List ℕ} {r q : ℕ → ℕ} {s t : Stimulus} {k : ℕ} {c : RawCell} {kind : Kind} (h : Place n a released r q s t k c kind) (d : TaintRegister a c h.made.making) → is_register (role_of kind) ≡ true
    → stored_word a t (suc k) (taint_name c.name) ≡ next_taint t k a h.setting.built.shadow c kind (raw_word (net_value a t k) (word_bits c kind h.made.making)) (raw_word (net_value a t k) (output_bits d.cell))
taint_goes {a = a} {q = q} {t = t} {k = k} {c = c} {kind = kind} h d e =
    ap (stored_word a t (suc k)) (sym d.is.is_new.name)
    ∙ dff_goes a q t k d.cell h.setting.built_runs d.stores (dff_kind d.cell d.is.is_new.kind)
    ∙ (h.made.is.by_kind kind h.passes.kind).stores.register (net_value a t k) d.cell e d.found (all_met k c h.setting h.made)

taint_holds : {n a : Raw} {released : List ℕ} {r q : ℕ → ℕ} {s t : Stimulus} {k : ℕ} {c : RawCell} {kind : Kind} (h : Place n a released r q s t k c kind) (d : TaintRegister a c h.made.making)
    → raw_word (net_value a t k) (output_bits d.cell) ≡ stored_word a t k (taint_name c.name)
taint_holds {a = a} {q = q} {t = t} {k = k} h d =
    register_shows a q t k d.cell Dff h.setting.built_runs d.stores (dff_kind d.cell d.is.is_new.kind) refl ∙ ap (stored_word a t k) d.is.is_new.name

reset_agrees : {n a : Raw} {released : List ℕ} {r q : ℕ → ℕ} {s t : Stimulus} {k : ℕ} {c : RawCell} {kind : Kind} → Step n a released r q s t k c kind → role_of kind ≡ ResetRegister
    → stored_word a t (suc k) (taint_name c.name) ≡ stored_taint_word n s (suc k) c.name
reset_agrees {n = n} {a = a} {s = s} {t = t} {k = k} {c = c} {kind = kind} h e =
    let p = h.place in
    let v : ℕ → Bool = net_value a t k in
    let shadow : ℕ → RawBit = p.setting.built.shadow in
    let register : is_register (role_of kind) ≡ true = ap is_register e in
    let reset : has_role is_reset_register c ≡ true = role_test is_reset_register c kind p.passes.kind ∙ ap is_reset_register e in
    let d = taint_register c p.setting.built p.made (role_test is_register c kind p.passes.kind ∙ register) in
    taint_goes p d register
    ∙ ap (λ (w : Word). next_taint t k a shadow c kind w (raw_word v (output_bits d.cell))) (ap (raw_word v) (reset_bits kind c p.made.making e) ∙ copy_shown p e)
    ∙ ap (λ (w : Word). next_taint t k a shadow c kind (stored_word n s k c.name) w) (taint_holds p d ∙ p.agrees.reset reset)
    ∙ ap (λ (role : Role). taint_next role (cell_of [] c) (words_read v c kind) (taints_read (taints_held v shadow) c kind) (stored_word n s k c.name) (stored_taint_word n s k c.name)) (sym e)
    ∙ sym (advance h).taint

copy_agrees : {n a : Raw} {released : List ℕ} {r q : ℕ → ℕ} {s t : Stimulus} {k : ℕ} {c : RawCell} {kind : Kind} → Step n a released r q s t k c kind → role_of kind ≡ ResetRegister
    → stored_word a t (suc k) (stored_name c.name) ≡ stored_word n s (suc k) c.name
copy_agrees {n = n} {a = a} {s = s} {t = t} {k = k} {c = c} {kind = kind} h e =
    let p = h.place in
    let v : ℕ → Bool = net_value a t k in
    let reset : has_role is_reset_register c ≡ true = role_test is_reset_register c kind p.passes.kind ∙ ap is_reset_register e in
    let d = copy_cell c p.setting.built p.made reset in
    let goes = copy_goes c d.cell kind p.passes e d.stores.state.passes d.is in
    ap (stored_word a t (suc k)) (sym d.is.is_new.name)
    ∙ (advances a [] t k v (net_taint a t k) d.cell goes.kind p.setting.built_runs.in_order d.stores.in_module goes.is_kind (λ x m. refl) (λ x m. refl)).word
    ∙ ap (λ (role : Role). word_next role (cell_of [] d.cell) (words_read v d.cell goes.kind) (stored_word a t k d.cell.name)) goes.plain
    ∙ goes.goes v (stored_word a t k d.cell.name)
    ∙ ap (next_word (cell_of [] c) (words_read v c kind)) (ap (stored_word a t k) d.is.is_new.name ∙ p.agrees.copy reset)
    ∙ ap (λ (role : Role). word_next role (cell_of [] c) (words_read v c kind) (stored_word n s k c.name)) (sym e)
    ∙ sym (advance h).word

-- the words at the operands of a register are as wide as its row says
rows_by_cell : (c : RawCell) (kind : Kind) (ns : List ℕ) → Passes c kind → ns ≡ operand_widths (cell_of [] c) → ns ≡ map (row_width (cell_of [] c)) (operands_of kind)
rows_by_cell c kind ns p e = e ∙ (cell_fitted [] c p.passes).operands ∙ ap (λ (d : Cell). map (row_width (cell_of [] c)) (operands_of d.kind)) (cell_as c kind p.kind)

plain_agrees : {n a : Raw} {released : List ℕ} {r q : ℕ → ℕ} {s t : Stimulus} {k : ℕ} {c : RawCell} {kind : Kind} (i : ℕ) → Step n a released r q s t k c kind → role_of kind ≡ PlainRegister → is_net (get_or (output_bits c) i no_bit) ≡ true
    → bit (stored_word a t (suc k) (taint_name c.name)) i ≡ bit (stored_taint_word n s (suc k) c.name) i
plain_agrees {n = n} {a = a} {q = q} {s = s} {t = t} {k = k} {c = c} {kind = kind} i h e connected =
    let p = h.place in
    let v : ℕ → Bool = net_value a t k in
    let u : ℕ → Bool = taints_held v p.setting.built.shadow in
    let register : is_register (role_of kind) ≡ true = ap is_register e in
    let is : has_role is_register c ≡ true = role_test is_register c kind p.passes.kind ∙ register in
    let d = taint_register c p.setting.built p.made is in
    let d_kind : kind_of d.cell.kind ≡ Some Dff = dff_kind d.cell d.is.is_new.kind in
    let d_passes : Passes d.cell Dff = record { kind = d_kind; passes = d.stores.state.passes } in
    let net = net_of (get_or (output_bits c) i no_bit) connected in
    let long : length (output_bits c) ≡ width (cell_of [] c) = register_length c kind register p.passes in
    let wide : i < width (cell_of [] c) = (let l = At-below (output_bits c) i (Net net.0) (net_at (output_bits c) i net.0 net.1) in omega arith) in
    let lengths = as_long n [] s k v u c kind p.setting.runs.in_order p.stands p.passes.kind in
    let state : state_bits (cell_of [] c) ≡ width (cell_of [] c) = register_state c kind p.passes.kind register in
    let held : AreStored (width (cell_of [] c)) (raw_word v (output_bits c)) (raw_word v (output_bits d.cell)) =
    record {
      word = length-map (output_bits c) (raw_bit v) ∙ long;
      taint = length-map (output_bits d.cell) (raw_bit v) ∙ register_length d.cell Dff refl d_passes ∙ width_alike c d.cell kind Dff p.passes.kind d_kind register refl d.is.width;
    } in
    let stored : AreStored (width (cell_of [] c)) (stored_word n s k c.name) (stored_taint_word n s k c.name) = record { word = lengths.word ∙ state; taint = lengths.taint ∙ state } in
    let same_bit : bit (raw_word v (output_bits c)) i ≡ bit (stored_word n s k c.name) i =
    bit_read v (output_bits c) i ∙ ap (raw_bit v) net.1
    ∙ plain_bit a q t k c kind i net.0 p.setting.built_runs (own_cell c p.setting.built p.stands) p.passes.kind e net.1
    ∙ ap (λ (w : Word). bit w i) p.agrees.word in
    let same_taint : bit (raw_word v (output_bits d.cell)) i ≡ bit (stored_taint_word n s k c.name) i =
    ap (λ (w : Word). bit w i) (taint_holds p d) ∙ p.agrees.register i is connected in
    ap (λ (w : Word). bit w i) (taint_goes p d register ∙ ap (λ (bits : List RawBit). next_taint t k a p.setting.built.shadow c kind (raw_word v bits) (raw_word v (output_bits d.cell))) (plain_bits kind c p.made.making e))
    ∙ same_column kind (cell_of [] c) i (words_read v c kind) (taints_read u c kind) (raw_word v (output_bits c)) (raw_word v (output_bits d.cell)) (stored_word n s k c.name) (stored_taint_word n s k c.name)
    (ap (λ (x : Cell). x.kind) (cell_as c kind p.passes.kind)) e wide (rows_by_cell c kind _ p.passes lengths.operands) (rows_by_cell c kind _ p.passes lengths.operand_taints) held stored same_bit same_taint
    ∙ ap (λ (role : Role). bit (taint_next role (cell_of [] c) (words_read v c kind) (taints_read u c kind) (stored_word n s k c.name) (stored_taint_word n s k c.name)) i) (sym e)
    ∙ ap (λ (w : Word). bit w i) (sym (advance h).taint)

register_agrees : (role : Role) {n a : Raw} {released : List ℕ} {r q : ℕ → ℕ} {s t : Stimulus} {k : ℕ} {c : RawCell} {kind : Kind} (i : ℕ) → Step n a released r q s t k c kind → role_of kind ≡ role → is_register role ≡ true
    → is_net (get_or (output_bits c) i no_bit) ≡ true → bit (stored_word a t (suc k) (taint_name c.name)) i ≡ bit (stored_taint_word n s (suc k) c.name) i
register_agrees PlainRegister i h e f net = plain_agrees i h e net
register_agrees ResetRegister i h e f net = ap (λ (w : Word). bit w i) (reset_agrees h e)
register_agrees _ i h e f net = absurd (cc)

-- ---- memories

memory_agrees : {n a : Raw} {released : List ℕ} {r q : ℕ → ℕ} {s t : Stimulus} {k : ℕ} {c : RawCell} {kind : Kind} → Step n a released r q s t k c kind → is_memory (role_of kind) ≡ true
    → stored_word a t (suc k) (taint_name c.name) ≡ stored_taint_word n s (suc k) c.name
memory_agrees {n = n} {a = a} {q = q} {s = s} {t = t} {k = k} {c = c} {kind = kind} h e =
    let p = h.place in
    let v : ℕ → Bool = net_value a t k in
    let u : ℕ → Bool = taints_held v p.setting.built.shadow in
    let memory : has_role is_memory c ≡ true = role_test is_memory c kind p.passes.kind ∙ e in
    let d = taint_memory c p.setting.built p.made memory in
    ap (stored_word a t (suc k)) (sym d.is.is_new.name)
    ∙ memory_goes a q t k d.cell p.setting.built_runs d.stores (mem_kind d.cell d.is.is_new.kind)
    ∙ ap (λ (m : MemoryShape). next_memory m (words_read v d.cell Mem) (stored_word a t k d.cell.name)) (same_shape c d.cell (as_mem c kind p.passes.kind e) d.is)
    ∙ (p.made.is.by_kind kind p.passes.kind).stores.memory v d.cell (stored_word a t k d.cell.name) e d.found (all_met k c p.setting p.made)
    ∙ ap (next_memory_taint (shape_of (cell_of [] c)) (words_read v c kind) (taints_read u c kind)) (ap (stored_word a t k) d.is.is_new.name ∙ p.agrees.memory memory)
    ∙ ap (λ (role : Role). taint_next role (cell_of [] c) (words_read v c kind) (taints_read u c kind) (stored_word n s k c.name) (stored_taint_word n s k c.name)) (sym (memory_role (role_of kind) e))
    ∙ sym (advance h).taint

flag_agrees : {n a : Raw} {released : List ℕ} {r q : ℕ → ℕ} {s t : Stimulus} {k : ℕ} {c : RawCell} {kind : Kind} → Step n a released r q s t k c kind → has_flag c ≡ true
    → stored_word a t (suc k) (flag_name c.name) ≡ flag_at n s (suc k) c.name ∷ []
flag_agrees {n = n} {a = a} {q = q} {s = s} {t = t} {k = k} {c = c} {kind = kind} h e =
    let p = h.place in
    let v : ℕ → Bool = net_value a t k in
    let u : ℕ → Bool = taints_held v p.setting.built.shadow in
    let memory : is_memory (role_of kind) ≡ true = sym (role_test is_memory c kind p.passes.kind) ∙ (and_parts (has_role is_memory c) (nat_lt 0 (number_or_0 c WrPorts)) e).0 in
    let d = flag_cell c p.setting.built p.made e in
    let shows : raw_word v (output_bits d.cell) ≡ flag_at n s k c.name ∷ [] = ap (λ (o : Option RawCell). raw_word v (shown_by o)) (sym d.found) ∙ flag_shown p e in
    ap (stored_word a t (suc k)) (sym d.is.is_new.name)
    ∙ dff_goes a q t k d.cell p.setting.built_runs d.stores (dff_kind d.cell d.is.is_new.kind)
    ∙ (p.made.is.by_kind kind p.passes.kind).stores.flag v d.cell memory d.found (all_met k c p.setting p.made)
    ∙ ap (λ (w : Word). next_flag (shape_of (cell_of [] c)) (words_read v c kind) (taints_read u c kind) (bit w 0) ∷ []) shows
    ∙ ap (λ (role : Role). flag_next role (cell_of [] c) (words_read v c kind) (taints_read u c kind) (flag_at n s k c.name) ∷ []) (sym (memory_role (role_of kind) memory))
    ∙ ap (λ b. b ∷ []) (sym (advance h).flag)

kept_flag : (m : MemoryShape) (vs ts : List Word) (flag : Bool) → m.write_ports ≡ 0 → next_flag m vs ts flag ≡ flag
unfolding flag_after
kept_flag m vs ts flag e = ap (λ (p : ℕ). flag_after m vs ts p flag) e

no_flag_agrees : {n a : Raw} {released : List ℕ} {r q : ℕ → ℕ} {s t : Stimulus} {k : ℕ} {c : RawCell} {kind : Kind} → Step n a released r q s t k c kind → has_role is_memory c ≡ true → has_flag c ≡ false
    → flag_at n s (suc k) c.name ≡ false
no_flag_agrees {n = n} {a = a} {s = s} {t = t} {k = k} {c = c} {kind = kind} h e none =
    let p = h.place in
    let v : ℕ → Bool = net_value a t k in
    let u : ℕ → Bool = taints_held v p.setting.built.shadow in
    let memory : is_memory (role_of kind) ≡ true = sym (role_test is_memory c kind p.passes.kind) ∙ e in
    let writes : nat_lt 0 (number_or_0 c WrPorts) ≡ false = ap (λ b. b && nat_lt 0 (number_or_0 c WrPorts)) (sym e) ∙ none in
    let few : number_or_0 c WrPorts ≤ 0 = ltb-false 0 (number_or_0 c WrPorts) writes in
    let zero_ports : number_or_0 c WrPorts ≡ 0 = omega arith in
    (advance h).flag
    ∙ ap (λ (role : Role). flag_next role (cell_of [] c) (words_read v c kind) (taints_read u c kind) (flag_at n s k c.name)) (memory_role (role_of kind) memory)
    ∙ kept_flag (shape_of (cell_of [] c)) (words_read v c kind) (taints_read u c kind) (flag_at n s k c.name) (no_writes c (as_mem c kind p.passes.kind memory) zero_ports)
    ∙ p.agrees.no_flag e none

-- ---- all of it

agrees_next : {n a : Raw} {released : List ℕ} {r q : ℕ → ℕ} {s t : Stimulus} {k : ℕ} {c : RawCell} {kind : Kind} → Step n a released r q s t k c kind → Agrees n a s t (suc k) c
agrees_next {c = c} {kind = kind} h = (let test = λ (f : Role → Bool). role_test f c kind h.place.passes.kind in record {
  word = word_agrees h;
  register = λ i e net. register_agrees (role_of kind) i h refl (sym (test is_register) ∙ e) net;
  reset = λ e. reset_agrees h (reset_role (role_of kind) (sym (test is_reset_register) ∙ e));
  copy = λ e. copy_agrees h (reset_role (role_of kind) (sym (test is_reset_register) ∙ e));
  memory = λ e. memory_agrees h (sym (test is_memory) ∙ e);
  flag = λ e. flag_agrees h e;
  no_flag = λ e none. no_flag_agrees h e none;
})

pub agree : {n a : Raw} {released : List ℕ} {r q : ℕ → ℕ} {s t : Stimulus} (k : ℕ) → Setting n a released r q s t → (c : RawCell) → Contains n.cells c → Agrees n a s t k c
agree zero h c c_in = starts_agree c h c_in
agree {n = n} {a = a} {released = released} {r = r} {q = q} {s = s} {t = t} (suc k) h c c_in =
    let before : (d : RawCell) → Contains n.cells d → Agrees n a s t k d = agree k h in
    let known = cell_kind n r c h.runs c_in in
    let step : Step n a released r q s t k c known.kind =
    record { place = place_of_cell h c_in known.passes.kind (before c c_in); values = values_agree k h before; taints = taints_agree k h before } in
    agrees_next step
