-- In a cycle the new cells of a cell show what is stored for it.
use Rattle.std.specs.Prelude.{ℕ, ◌<◌, ◌≡◌, ◌≢◌, Bool, true, List, [], ◌∷◌, ◌++◌, map, get_or, codes, Contains, Option, Some, refl}
use Rattle.std.proofs.Common.{arith, sym, ap, ◌∙◌}
use Rattle.std.proofs.lemmas.List.Elements.{Contains-append_left}
use Rattle.cif_defs.specs.Words.{Word, block, operand}
use Rattle.cif_defs.specs.Kinds.{is_memory, is_register, role_of}
use Rattle.cif_defs.specs.Table.{kind_of, operands_of, param_text, type_text}
use Rattle.cif_defs.specs.RawModule.{port_bits}
use Rattle.cif_defs.specs.Cells.{number_of, shape_of}
use Rattle.cif_defs.specs.Memory.{MemoryShape, read_address, read_word}
use Rattle.cif_defs.specs.Accepted.{cell_of}
use Rattle.cif_defs.specs.Stimulus.{Stimulus}
use Rattle.cif_defs.specs.declared.kinds.Kind.{Kind}
use Rattle.cif_defs.specs.declared.kinds.Kind.TheVariants.{Dff, Mem}
use Rattle.cif_defs.specs.declared.kinds.Role.{Role}
use Rattle.cif_defs.specs.declared.kinds.Role.TheVariants.{MemoryBlock, ResetRegister}
use Rattle.cif_defs.specs.declared.kinds.Param.{Param}
use Rattle.cif_defs.specs.declared.kinds.Param.TheVariants.{Width, Size, Offset, Abits, Init, RdPorts, WrPorts}
use Rattle.cif_defs.specs.declared.raw_module.RawBit.{RawBit}
use Rattle.cif_defs.specs.declared.raw_module.RawCell.{RawCell}
use Rattle.cif_defs.specs.declared.raw_module.Raw.{Raw}
use Rattle.cif_nets.proofs.Wired.{memory_kind}
use Rattle.cif_raw_runs.specs.Assigned.{AreMet, raw_word, words_read}
use Rattle.cif_raw_runs.specs.Places.{flag_at, net_value, stored_taint_word, stored_word}
use Rattle.cif_raw_runs.specs.Given.{shown_bits}
use Rattle.cif_raw_runs.proofs.MetLaws.{are_met}
use Rattle.cif_raw_runs.proofs.Values.{values_given}
use Rattle.cif_augment.specs.Names.{has_flag, has_role, is_reset_register, taint_name}
use Rattle.cif_augment.specs.Additions.{IsTaintMemory}
use Rattle.cif_built.specs.Makings.{operand_row, shown_by}
use Rattle.cif_built.specs.Computing.{AreStoredWords}
use Rattle.cif_built_runs.proofs.Cells.{GivenAlike, Passes, read_ports_alike, shape_alike}
use Rattle.cif_built_runs.proofs.Standing.{Made, copy_cell, flag_cell, further_cell, taint_memory, taint_register}
use Rattle.cif_built_runs.proofs.StateCells.{memory_shows, register_shows}
use Rattle.cif_built_runs.proofs.Copies.{copy_goes}
use Rattle.cif_built_runs.proofs.Agreement.{Agrees, Setting, role_test}

-- ---- kinds of new cells

pub dff_kind : (d : RawCell) → d.kind ≡ type_text Dff → kind_of d.kind ≡ Some Dff
dff_kind d e = ap kind_of e

pub mem_kind : (d : RawCell) → d.kind ≡ type_text Mem → kind_of d.kind ≡ Some Mem
mem_kind d e = ap kind_of e

-- ---- a memory of taint has the numbers of the memory

begins_apart : (xs ys : List ℕ) → get_or xs 0 0 ≢ get_or ys 0 0 → xs ≢ ys
begins_apart xs ys h e = h (ap (λ zs. get_or zs 0 0) e)

given_alike : (c d : RawCell) (p : Param) → IsTaintMemory c d → get_or (param_text p) 0 0 ≢ 73 → get_or (param_text p) 0 0 ≢ 77 → GivenAlike c d p
given_alike c d p is init identity = is.parameters (param_text p) (begins_apart (param_text p) (param_text Init) init) (begins_apart (param_text p) (codes "MEMID") identity)

pub same_shape : (c d : RawCell) → kind_of c.kind ≡ Some Mem → IsTaintMemory c d → shape_of (cell_of [] d) ≡ shape_of (cell_of [] c)
same_shape c d e is =
    shape_alike c d e (mem_kind d is.is_new.kind)
    (given_alike c d Width is (λ q. omega arith) (λ q. omega arith)) (given_alike c d Size is (λ q. omega arith) (λ q. omega arith)) (given_alike c d Offset is (λ q. omega arith) (λ q. omega arith))
    (given_alike c d Abits is (λ q. omega arith) (λ q. omega arith)) (given_alike c d WrPorts is (λ q. omega arith) (λ q. omega arith))

same_ports : (c d : RawCell) → kind_of c.kind ≡ Some Mem → IsTaintMemory c d → number_of (cell_of [] d) RdPorts ≡ number_of (cell_of [] c) RdPorts
same_ports c d e is = read_ports_alike c d e (mem_kind d is.is_new.kind) (given_alike c d RdPorts is (λ q. omega arith) (λ q. omega arith))

first_row : (v : ℕ → Bool) (rows : List (List RawBit)) → get_or (map (raw_word v) rows) 0 [] ≡ raw_word v (get_or rows 0 [])
first_row v [] = refl
first_row v (r ∷ rows) = refl

same_address : (v : ℕ → Bool) (c d : RawCell) (k : Kind) → operand_row d Mem 0 ≡ operand_row c k 0 → operand (words_read v d Mem) 0 ≡ operand (words_read v c k) 0
same_address v c d k e = first_row v (map (port_bits d) (operands_of Mem)) ∙ ap (raw_word v) e ∙ sym (first_row v (map (port_bits c) (operands_of k)))

-- ---- words that are shown

-- the cells of both modules, and one of them with its kind and its new cells
pub record Place (n a : Raw) (released : List ℕ) (r q : ℕ → ℕ) (s t : Stimulus) (k : ℕ) (c : RawCell) (kind : Kind) : Type 0 where
  pub setting : Setting n a released r q s t
  pub stands : Contains n.cells c
  pub passes : Passes c kind
  pub made : Made n a released setting.built c
  pub agrees : Agrees n a s t k c

pub taint_shown : {n a : Raw} {released : List ℕ} {r q : ℕ → ℕ} {s t : Stimulus} {k : ℕ} {c : RawCell} {kind : Kind} (h : Place n a released r q s t k c kind) → has_role is_register c ≡ true
    → raw_word (net_value a t k) (shown_by h.made.making.taint) ≡ stored_word a t k (taint_name c.name)
taint_shown {a = a} {q = q} {t = t} {k = k} {c = c} h e =
    let d = taint_register c h.setting.built h.made e in
    ap (λ (o : Option RawCell). raw_word (net_value a t k) (shown_by o)) d.found
    ∙ register_shows a q t k d.cell Dff h.setting.built_runs d.stores (dff_kind d.cell d.is.is_new.kind) refl
    ∙ ap (stored_word a t k) d.is.is_new.name

pub copy_shown : {n a : Raw} {released : List ℕ} {r q : ℕ → ℕ} {s t : Stimulus} {k : ℕ} {c : RawCell} {kind : Kind} (h : Place n a released r q s t k c kind) → role_of kind ≡ ResetRegister
    → raw_word (net_value a t k) (shown_by h.made.making.copy) ≡ stored_word n s k c.name
copy_shown {a = a} {q = q} {t = t} {k = k} {c = c} {kind = kind} h e =
    let reset : has_role is_reset_register c ≡ true = role_test is_reset_register c kind h.passes.kind ∙ ap is_reset_register e in
    let d = copy_cell c h.setting.built h.made reset in
    let goes = copy_goes c d.cell kind h.passes e d.stores.state.passes d.is in
    ap (λ (o : Option RawCell). raw_word (net_value a t k) (shown_by o)) d.found
    ∙ register_shows a q t k d.cell goes.kind h.setting.built_runs d.stores goes.is_kind goes.plain
    ∙ ap (stored_word a t k) d.is.is_new.name
    ∙ h.agrees.copy reset

pub flag_shown : {n a : Raw} {released : List ℕ} {r q : ℕ → ℕ} {s t : Stimulus} {k : ℕ} {c : RawCell} {kind : Kind} (h : Place n a released r q s t k c kind) → has_flag c ≡ true
    → raw_word (net_value a t k) (shown_by h.made.making.flag) ≡ flag_at n s k c.name ∷ []
flag_shown {a = a} {q = q} {t = t} {k = k} {c = c} h e =
    let d = flag_cell c h.setting.built h.made e in
    ap (λ (o : Option RawCell). raw_word (net_value a t k) (shown_by o)) d.found
    ∙ register_shows a q t k d.cell Dff h.setting.built_runs d.stores (dff_kind d.cell d.is.is_new.kind) refl
    ∙ ap (stored_word a t k) d.is.is_new.name
    ∙ h.agrees.flag e

same_found : (o : Option RawCell) (d e : RawCell) → o ≡ Some d → o ≡ Some e → d ≡ e
same_found o d e p q = cc

pub memory_role : (role : Role) → is_memory role ≡ true → role ≡ MemoryBlock
memory_role MemoryBlock e = refl
memory_role _ e = absurd (cc)

pub reset_role : (role : Role) → is_reset_register role ≡ true → role ≡ ResetRegister
reset_role ResetRegister e = refl
reset_role _ e = absurd (cc)

pub as_mem : (c : RawCell) (kind : Kind) → kind_of c.kind ≡ Some kind → is_memory (role_of kind) ≡ true → kind_of c.kind ≡ Some Mem
as_mem c kind e m = e ∙ ap Some (memory_kind kind (memory_role (role_of kind) m))

pub memory_word : {n a : Raw} {released : List ℕ} {r q : ℕ → ℕ} {s t : Stimulus} {k : ℕ} {c : RawCell} {kind : Kind} (h : Place n a released r q s t k c kind) (cell : RawCell) (p : ℕ) → is_memory (role_of kind) ≡ true
    → h.made.making.taint ≡ Some cell → p < number_of (cell_of [] c) RdPorts
    → raw_word (net_value a t k) (shown_bits MemoryBlock cell Mem p)
    ≡ read_word (shape_of (cell_of [] c)) (read_address (shape_of (cell_of [] c)) (words_read (net_value a t k) c kind) p) (stored_taint_word n s k c.name)
memory_word {a = a} {q = q} {t = t} {k = k} {c = c} {kind = kind} h cell p m found l =
    let v : ℕ → Bool = net_value a t k in
    let memory : has_role is_memory c ≡ true = role_test is_memory c kind h.passes.kind ∙ m in
    let d = taint_memory c h.setting.built h.made memory in
    let same : cell ≡ d.cell = same_found h.made.making.taint cell d.cell found d.found in
    let c_kind : kind_of c.kind ≡ Some Mem = as_mem c kind h.passes.kind m in
    let shape : shape_of (cell_of [] d.cell) ≡ shape_of (cell_of [] c) = same_shape c d.cell c_kind d.is in
    let ports : number_of (cell_of [] d.cell) RdPorts ≡ number_of (cell_of [] c) RdPorts = same_ports c d.cell c_kind d.is in
    let address : operand (words_read v d.cell Mem) 0 ≡ operand (words_read v c kind) 0 = same_address v c d.cell kind ((h.made.is.by_kind kind h.passes.kind).stores.addresses d.cell m d.found) in
    ap (λ (x : RawCell). raw_word v (shown_bits MemoryBlock x Mem p)) same
    ∙ memory_shows a q t k d.cell p h.setting.built_runs d.stores (mem_kind d.cell d.is.is_new.kind) (omega arith)
    ∙ ap (λ (x : MemoryShape). read_word x (read_address x (words_read v d.cell Mem) p) (stored_word a t k d.cell.name)) shape
    ∙ ap (λ (w : Word). read_word (shape_of (cell_of [] c)) (block (shape_of (cell_of [] c)).address_bits p w) (stored_word a t k d.cell.name)) address
    ∙ ap (read_word (shape_of (cell_of [] c)) (read_address (shape_of (cell_of [] c)) (words_read v c kind) p)) (ap (stored_word a t k) d.is.is_new.name ∙ h.agrees.memory memory)

-- so they show what is stored, where the taint of a register may differ from the module's at places that aren't connected
pub are_stored : {n a : Raw} {released : List ℕ} {r q : ℕ → ℕ} {s t : Stimulus} {k : ℕ} {c : RawCell} {kind : Kind} (h : Place n a released r q s t k c kind) (taint : Word)
    → (is_register (role_of kind) ≡ true → raw_word (net_value a t k) (shown_by h.made.making.taint) ≡ taint) → (is_memory (role_of kind) ≡ true → stored_taint_word n s k c.name ≡ taint)
    → AreStoredWords (net_value a t k) c kind h.made.making (stored_word n s k c.name) taint (flag_at n s k c.name)
are_stored {a = a} {t = t} {k = k} {c = c} {kind = kind} h taint register memory = record {
  register = register;
  copy = λ e. copy_shown h (reset_role (role_of kind) e);
  memory = λ cell p m found l.
      memory_word h cell p m found l
      ∙ ap (read_word (shape_of (cell_of [] c)) (read_address (shape_of (cell_of [] c)) (words_read (net_value a t k) c kind) p)) (memory m);
  flag = λ e. flag_shown h e;
  no_flag = λ m none. h.agrees.no_flag (role_test is_memory c kind h.passes.kind ∙ m) none;
}

-- ---- cells that compute

-- the further cells of a cell are met
pub all_met : {n a : Raw} {released : List ℕ} {r q : ℕ → ℕ} {s t : Stimulus} (k : ℕ) (c : RawCell) (h : Setting n a released r q s t) (m : Made n a released h.built c) → AreMet (net_value a t k) (m.making.showing ++ m.making.storing)
all_met {a = a} {q = q} {t = t} k c h m =
    are_met [] a t k (net_value a t k) (m.making.showing ++ m.making.storing) (values_given a q [] t k h.built_runs) (λ d d_in. further_cell c d h.built m d_in)

pub showing_met : {n a : Raw} {released : List ℕ} {r q : ℕ → ℕ} {s t : Stimulus} (k : ℕ) (c : RawCell) (h : Setting n a released r q s t) (m : Made n a released h.built c) → AreMet (net_value a t k) m.making.showing
showing_met {a = a} {q = q} {t = t} k c h m =
    are_met [] a t k (net_value a t k) m.making.showing (values_given a q [] t k h.built_runs) (λ d d_in. further_cell c d h.built m (Contains-append_left m.making.showing m.making.storing d d_in))
