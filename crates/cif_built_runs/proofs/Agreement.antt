-- What the cells of both modules store at a cycle: words, and their taints as words of new cells.
use Rattle.std.specs.Prelude.{ℕ, ◌≡◌, Bool, true, false, List, [], ◌∷◌, get_or, Contains, Option, Some, None, refl}
use Rattle.std.proofs.Common.{sym, ap, ◌∙◌}
use Rattle.cif_defs.specs.Words.{Word, bit}
use Rattle.cif_defs.specs.Kinds.{is_memory, is_register, role_of}
use Rattle.cif_defs.specs.Table.{kind_of}
use Rattle.cif_defs.specs.RawModule.{is_net, output_bits}
use Rattle.cif_defs.specs.Accepted.{no_bit}
use Rattle.cif_defs.specs.Stimulus.{Stimulus}
use Rattle.cif_defs.specs.declared.kinds.Kind.{Kind}
use Rattle.cif_defs.specs.declared.kinds.Role.{Role}
use Rattle.cif_defs.specs.declared.kinds.Role.TheVariants.{ResetRegister}
use Rattle.cif_defs.specs.declared.raw_module.RawCell.{RawCell}
use Rattle.cif_defs.specs.declared.raw_module.Raw.{Raw}
use Rattle.cif_checks.specs.Checks.{cell_fault}
use Rattle.cif_nets.proofs.Passed.{each_passes, passes_form}
use Rattle.cif_raw_runs.specs.Places.{flag_at, stored_taint_word, stored_word}
use Rattle.cif_raw_runs.specs.Ranks.{IsRunnable}
use Rattle.cif_raw_runs.proofs.Numbers.{has_contained}
use Rattle.cif_raw_runs.proofs.Steps.{starts}
use Rattle.cif_augment.specs.Names.{flag_name, has_flag, has_role, has_role_by, is_reset_register, stored_name, taint_name}
use Rattle.cif_augment.specs.Stimuli.{ReleasesExactly}
use Rattle.cif_built.specs.Built.{IsBuilt}
use Rattle.cif_built_inputs.specs.Given.{GivesInputs, GivesStarts}
use Rattle.cif_built_runs.proofs.Cells.{Passes, kind_known}
use Rattle.cif_built_runs.proofs.Standing.{Made, copy_cell, flag_cell, made, own_cell, taint_memory, taint_register}

-- ---- both modules, and what stimuli give them

pub record Setting (n a : Raw) (released : List ℕ) (r q : ℕ → ℕ) (s t : Stimulus) : Type 0 where
  pub runs : IsRunnable n r
  pub built_runs : IsRunnable a q
  pub built : IsBuilt n released a
  pub releases : ReleasesExactly released s
  pub inputs : (k : ℕ) → GivesInputs n a s t k
  pub starts : GivesStarts n a s t

-- a cell of the other module passes its checks
pub cell_passes : (n : Raw) (r : ℕ → ℕ) (c : RawCell) → IsRunnable n r → Contains n.cells c → cell_fault c ≡ None
cell_passes n r c h c_in = each_passes cell_fault n.cells c (passes_form n h.form).cells (has_contained n.cells c c_in)

pub record CellKind (c : RawCell) : Type 0 where
  pub kind : Kind
  pub passes : Passes c kind

pub cell_kind : (n : Raw) (r : ℕ → ℕ) (c : RawCell) → IsRunnable n r → Contains n.cells c → CellKind c
cell_kind n r c h c_in =
    let passes = cell_passes n r c h c_in in
    let known = kind_known c passes in
    record { kind = known.0; passes = record { kind = known.1; passes = passes } }

-- ---- roles

-- a test of the role of a cell of this kind
pub role_test : (test : Role → Bool) (c : RawCell) (k : Kind) → kind_of c.kind ≡ Some k → has_role test c ≡ test (role_of k)
role_test test c k e = ap (has_role_by test) e

reset_role : (role : Role) → is_reset_register role ≡ true → is_register role ≡ true
reset_role ResetRegister e = refl
reset_role _ e = absurd (cc)

reset_by : (o : Option Kind) → has_role_by is_reset_register o ≡ true → has_role_by is_register o ≡ true
reset_by None e = absurd (cc)
reset_by (Some k) e = reset_role (role_of k) e

-- with asynchronous reset, a cell is a register
pub reset_is_register : (c : RawCell) → has_role is_reset_register c ≡ true → has_role is_register c ≡ true
reset_is_register c e = reset_by (kind_of c.kind) e

-- ---- what is stored

pub record Agrees (n a : Raw) (s t : Stimulus) (k : ℕ) (c : RawCell) : Type 0 where
  pub word : stored_word a t k c.name ≡ stored_word n s k c.name
  -- the taint of a register where its output is connected, and everywhere with asynchronous reset
  pub register : (i : ℕ) → has_role is_register c ≡ true → is_net (get_or (output_bits c) i no_bit) ≡ true → bit (stored_word a t k (taint_name c.name)) i ≡ bit (stored_taint_word n s k c.name) i
  pub reset : has_role is_reset_register c ≡ true → stored_word a t k (taint_name c.name) ≡ stored_taint_word n s k c.name
  pub copy : has_role is_reset_register c ≡ true → stored_word a t k (stored_name c.name) ≡ stored_word n s k c.name
  pub memory : has_role is_memory c ≡ true → stored_word a t k (taint_name c.name) ≡ stored_taint_word n s k c.name
  pub flag : has_flag c ≡ true → stored_word a t k (flag_name c.name) ≡ flag_at n s k c.name ∷ []
  pub no_flag : has_role is_memory c ≡ true → has_flag c ≡ false → flag_at n s k c.name ≡ false

-- ---- at cycle 0

register_starts : {n a : Raw} {released : List ℕ} {r q : ℕ → ℕ} {s t : Stimulus} (c : RawCell) (h : Setting n a released r q s t) (m : Made n a released h.built c) → Contains n.cells c → has_role is_register c ≡ true
    → stored_word a t 0 (taint_name c.name) ≡ stored_taint_word n s 0 c.name
register_starts {n = n} {a = a} {s = s} {t = t} c h m c_in e =
    let d = taint_register c h.built m e in
    ap (stored_word a t 0) (sym d.is.is_new.name)
    ∙ (starts a [] t d.cell h.built_runs.in_order d.stores.in_module).word
    ∙ h.starts.registers c d.cell c_in d.stores.in_module e d.is.is_new.name
    ∙ sym (starts n [] s c h.runs.in_order c_in).taint

memory_starts : {n a : Raw} {released : List ℕ} {r q : ℕ → ℕ} {s t : Stimulus} (c : RawCell) (h : Setting n a released r q s t) (m : Made n a released h.built c) → Contains n.cells c → has_role is_memory c ≡ true
    → stored_word a t 0 (taint_name c.name) ≡ stored_taint_word n s 0 c.name
memory_starts {n = n} {a = a} {s = s} {t = t} c h m c_in e =
    let d = taint_memory c h.built m e in
    ap (stored_word a t 0) (sym d.is.is_new.name)
    ∙ (starts a [] t d.cell h.built_runs.in_order d.stores.in_module).word
    ∙ h.starts.memories c d.cell c_in d.stores.in_module e d.is.is_new.name
    ∙ sym (starts n [] s c h.runs.in_order c_in).taint

copy_starts : {n a : Raw} {released : List ℕ} {r q : ℕ → ℕ} {s t : Stimulus} (c : RawCell) (h : Setting n a released r q s t) (m : Made n a released h.built c) → Contains n.cells c → has_role is_reset_register c ≡ true
    → stored_word a t 0 (stored_name c.name) ≡ stored_word n s 0 c.name
copy_starts {n = n} {a = a} {s = s} {t = t} c h m c_in e =
    let d = copy_cell c h.built m e in
    ap (stored_word a t 0) (sym d.is.is_new.name)
    ∙ (starts a [] t d.cell h.built_runs.in_order d.stores.in_module).word
    ∙ h.starts.copies c d.cell c_in d.stores.in_module e d.is.is_new.name
    ∙ sym (starts n [] s c h.runs.in_order c_in).word

flag_starts : {n a : Raw} {released : List ℕ} {r q : ℕ → ℕ} {s t : Stimulus} (c : RawCell) (h : Setting n a released r q s t) (m : Made n a released h.built c) → Contains n.cells c → has_flag c ≡ true
    → stored_word a t 0 (flag_name c.name) ≡ flag_at n s 0 c.name ∷ []
flag_starts {n = n} {a = a} {s = s} {t = t} c h m c_in e =
    let d = flag_cell c h.built m e in
    ap (stored_word a t 0) (sym d.is.is_new.name)
    ∙ (starts a [] t d.cell h.built_runs.in_order d.stores.in_module).word
    ∙ h.starts.flags c d.cell c_in d.stores.in_module e d.is.is_new.name
    ∙ ap (λ b. b ∷ []) (sym (starts n [] s c h.runs.in_order c_in).flag)

pub starts_agree : {n a : Raw} {released : List ℕ} {r q : ℕ → ℕ} {s t : Stimulus} (c : RawCell) → Setting n a released r q s t → Contains n.cells c → Agrees n a s t 0 c
starts_agree {n = n} {a = a} {s = s} {t = t} c h c_in = (let m = made c h.built c_in in record {
  word = (starts a [] t c h.built_runs.in_order (own_cell c h.built c_in)).word ∙ h.starts.values c c_in ∙ sym (starts n [] s c h.runs.in_order c_in).word;
  register = λ i e net. ap (λ (w : Word). bit w i) (register_starts c h m c_in e);
  reset = λ e. register_starts c h m c_in (reset_is_register c e);
  copy = λ e. copy_starts c h m c_in e;
  memory = λ e. memory_starts c h m c_in e;
  flag = λ e. flag_starts c h m c_in e;
  no_flag = λ e none. (starts n [] s c h.runs.in_order c_in).flag;
})
