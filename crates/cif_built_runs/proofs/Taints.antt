-- Within a cycle the bits of the table hold the taints of the other module.
use Rattle.std.specs.Prelude.{ℕ, ◌<◌, ◌≡◌, Bool, true, false, not, ◌&&◌, List, [], length, get_or, Contains, Some, refl, if◌then◌else◌}
use Rattle.std.proofs.Common.{arith, sym, ap, subst, ◌∙◌}
use Rattle.std.proofs.lemmas.Bool.{cond-false, cond-true}
use Rattle.cif_defs.specs.Words.{Word, bit}
use Rattle.cif_defs.specs.Kinds.{is_memory, is_register, role_of}
use Rattle.cif_defs.specs.Table.{kind_of}
use Rattle.cif_defs.specs.RawModule.{is_net, net_numbers, output_bits}
use Rattle.cif_defs.specs.Accepted.{cell_of, is_clock, is_input, no_bit, place_of, source}
use Rattle.cif_defs.specs.Stimulus.{Stimulus}
use Rattle.cif_defs.specs.declared.kinds.Kind.{Kind}
use Rattle.cif_defs.specs.declared.kinds.Role.{Role}
use Rattle.cif_defs.specs.declared.kinds.Role.TheVariants.{Combinational, PlainRegister, ResetRegister, MemoryBlock, CarriedOver}
use Rattle.cif_defs.specs.declared.raw_module.Direction.{Direction}
use Rattle.cif_defs.specs.declared.raw_module.RawBit.{RawBit}
use Rattle.cif_defs.specs.declared.raw_module.RawBit.TheVariants.{Net}
use Rattle.cif_defs.specs.declared.raw_module.RawPort.{RawPort}
use Rattle.cif_defs.specs.declared.raw_module.RawCell.{RawCell}
use Rattle.cif_defs.specs.declared.raw_module.Raw.{Raw}
use Rattle.cif_nets.proofs.Places.{At-below}
use Rattle.cif_nets.proofs.Passed.{passes_form}
use Rattle.cif_raw_runs.specs.Assigned.{raw_bit, raw_word, words_read}
use Rattle.cif_raw_runs.specs.Places.{flag_at, is_released_number, net_taint, net_value, stored_taint_word, stored_word}
use Rattle.cif_raw_runs.specs.Given.{AreTaints, bit_taint_given, port_holds, shown_bits, taint_given, taints_read}
use Rattle.cif_raw_runs.proofs.Numbers.{at_contained, contained_has, net_at, number_of_port}
use Rattle.cif_raw_runs.proofs.Drivers.{driver_of_shown}
use Rattle.cif_raw_runs.proofs.Taints.{taints_unique}
use Rattle.cif_raw_runs.proofs.Values.{values_given}
use Rattle.cif_augment.specs.Names.{data_ports, has_role, is_reset_register}
use Rattle.cif_augment.specs.Stimuli.{is_released_bit}
use Rattle.cif_built.specs.Makings.{shown_by}
use Rattle.cif_built.specs.Built.{is_cleared}
use Rattle.cif_built.specs.Computing.{taints_held}
use Rattle.cif_built_runs.proofs.Lists.{all_nets, net_of}
use Rattle.cif_built_runs.proofs.Standing.{TaintPort, made, taint_port}
use Rattle.cif_built_runs.proofs.Clocks.{data_port, new_is_no_clock, same_clock}
use Rattle.cif_built_runs.proofs.Agreement.{Agrees, Setting, cell_kind, role_test}
use Rattle.cif_built_runs.proofs.Stored.{Place, are_stored, showing_met, taint_shown}
use Rattle.cif_built_runs.proofs.Values.{values_agree}

-- ---- what is released

and_true : (b : Bool) → (b && true) ≡ b
and_true true = refl
and_true false = refl

-- the released numbers are those that the module was built for
pub cleared_same : {n a : Raw} {released : List ℕ} {r q : ℕ → ℕ} {s t : Stimulus} (x : ℕ) → Setting n a released r q s t → is_released_number n s x ≡ is_cleared n released x
cleared_same {n = n} x h = h.releases.same (place_of (net_numbers n) x)

-- their taint is none
pub cleared_taint : {n a : Raw} {released : List ℕ} {r q : ℕ → ℕ} {s t : Stimulus} (k x : ℕ) (h : Setting n a released r q s t) → Contains (net_numbers n) x → is_released_number n s x ≡ true
    → taints_held (net_value a t k) h.built.shadow x ≡ false
cleared_taint {a = a} {t = t} k x h number e = ap (raw_bit (net_value a t k)) (h.built.cleared x number (sym (cleared_same x h) ∙ e))

-- ---- input ports

pub same_way : (p q : RawPort) → q.direction ≡ p.direction → is_input q ≡ is_input p
same_way p q e = ap (λ (d : Direction). is_input (record p { direction = d })) e

-- the port of the taint of an input port holds it
pub port_taint : {n a : Raw} {released : List ℕ} {r q : ℕ → ℕ} {s t : Stimulus} (k : ℕ) (p : RawPort) (i : ℕ) (h : Setting n a released r q s t) (d : TaintPort n a released h.built p) → Contains (data_ports n) p → is_input p ≡ true → i < length p.bits
    → raw_bit (net_value a t k) (get_or d.port.bits i no_bit) ≡ (bit (port_holds s k p).taint i && not (is_released_bit s.lines (source (net_numbers n) (get_or p.bits i no_bit))))
port_taint {a = a} {q = q} {t = t} k p i h d p_in is l =
    let is_new : is_input d.port ≡ true = same_way p d.port d.shadow.port.direction ∙ is in
    let width : length d.port.bits ≡ length p.bits = d.shadow.port.width in
    let net = net_of (get_or d.port.bits i no_bit) (all_nets d.port.bits i (d.shadow.nets is) (omega arith)) in
    let free : is_clock a net.0 ≡ false = same_clock net.0 h.runs.form h.built_runs.form h.built ∙ new_is_no_clock d.port i net.0 h.built h.runs.form d.is_new is_new net.1 in
    ap (raw_bit (net_value a t k)) net.1
    ∙ (values_given a q [] t k h.built_runs).input d.port i net.0 d.shown is_new free net.1
    ∙ (h.inputs k).taints p d.port i p_in is d.shadow.port.name l

-- where nothing is released
free_input : {n a : Raw} {released : List ℕ} {r q : ℕ → ℕ} {s t : Stimulus} (k : ℕ) (p : RawPort) (i x : ℕ) (h : Setting n a released r q s t) → Contains n.ports p → is_input p ≡ true → is_clock n x ≡ false → get_or p.bits i no_bit ≡ Net x
    → is_released_number n s x ≡ false → taints_held (net_value a t k) h.built.shadow x ≡ bit (port_holds s k p).taint i
free_input {n = n} {a = a} {s = s} {t = t} k p i x h p_in is free at kept =
    let data_in = data_port n p i x h.runs.form p_in is at free in
    let d = taint_port p h.built data_in in
    let inside : i < length p.bits = At-below p.bits i (Net x) (net_at p.bits i x at) in
    let not_released : is_released_bit s.lines (source (net_numbers n) (get_or p.bits i no_bit)) ≡ false = ap (λ (b : RawBit). is_released_bit s.lines (source (net_numbers n) b)) at ∙ kept in
    ap (raw_bit (net_value a t k)) (d.shadow.input i x is at (sym (cleared_same x h) ∙ kept))
    ∙ port_taint k p i h d data_in is inside
    ∙ ap (λ b. bit (port_holds s k p).taint i && not b) not_released
    ∙ and_true (bit (port_holds s k p).taint i)

input_by : (b : Bool) {n a : Raw} {released : List ℕ} {r q : ℕ → ℕ} {s t : Stimulus} (k : ℕ) (p : RawPort) (i x : ℕ) (h : Setting n a released r q s t) → is_released_number n s x ≡ b → Contains n.ports p → is_input p ≡ true → is_clock n x ≡ false
    → get_or p.bits i no_bit ≡ Net x → taints_held (net_value a t k) h.built.shadow x ≡ (if is_released_number n s x then false else bit (port_holds s k p).taint i)
input_by true {n = n} {s = s} k p i x h e p_in is free at =
    let place = at_contained n.ports p p_in in
    let number = contained_has (net_numbers n) x (number_of_port n place.0 i p x place.1 (net_at p.bits i x at)) in
    cleared_taint k x h number e ∙ sym (cond-true (is_released_number n s x) false (bit (port_holds s k p).taint i) e)
input_by false {n = n} {s = s} k p i x h e p_in is free at =
    free_input k p i x h p_in is free at e ∙ sym (cond-false (is_released_number n s x) false (bit (port_holds s k p).taint i) e)

-- ---- cells

-- the taint that a cell gives, for what is stored
abbrev given_for : Raw → Stimulus → ℕ → (ℕ → Bool) → (ℕ → Bool) → RawCell → Kind → Role → Word → ℕ → ℕ → Bool
given_for n s k v u c kind role taint p i = taint_given role (cell_of [] c) (words_read v c kind) (taints_read u c kind) (stored_word n s k c.name) taint (flag_at n s k c.name) p i

shown_for : {n a : Raw} {released : List ℕ} {r q : ℕ → ℕ} {s t : Stimulus} {k : ℕ} {c : RawCell} {kind : Kind} (p i x : ℕ) (h : Place n a released r q s t k c kind) (taint : Word)
    → (is_register (role_of kind) ≡ true → raw_word (net_value a t k) (shown_by h.made.making.taint) ≡ taint) → (is_memory (role_of kind) ≡ true → stored_taint_word n s k c.name ≡ taint)
    → get_or (shown_bits (role_of kind) c kind p) i no_bit ≡ Net x → is_released_number n s x ≡ false
    → taints_held (net_value a t k) h.setting.built.shadow x ≡ given_for n s k (net_value a t k) (taints_held (net_value a t k) h.setting.built.shadow) c kind (role_of kind) taint p i
shown_for {n = n} {a = a} {s = s} {t = t} {k = k} {c = c} {kind = kind} p i x h taint register memory at kept =
    (h.made.is.by_kind kind h.passes.kind).shows.shows (net_value a t k) (stored_word n s k c.name) taint (flag_at n s k c.name) p i x
    (showing_met k c h.setting h.made)
    (are_stored h taint register memory) at (sym (cleared_same x h.setting) ∙ kept)

plain_taint : {n a : Raw} {released : List ℕ} {r q : ℕ → ℕ} {s t : Stimulus} {k : ℕ} {c : RawCell} {kind : Kind} (i x : ℕ) (h : Place n a released r q s t k c kind) → role_of kind ≡ PlainRegister → get_or (output_bits c) i no_bit ≡ Net x
    → bit (raw_word (net_value a t k) (shown_by h.made.making.taint)) i ≡ bit (stored_taint_word n s k c.name) i
plain_taint {c = c} {kind = kind} i x h e at =
    let register : has_role is_register c ≡ true = role_test is_register c kind h.passes.kind ∙ ap is_register e in
    ap (λ (w : Word). bit w i) (taint_shown h register) ∙ h.agrees.register i register (ap is_net at)

shown_by_role : (role : Role) {n a : Raw} {released : List ℕ} {r q : ℕ → ℕ} {s t : Stimulus} {k : ℕ} {c : RawCell} {kind : Kind} (p i x : ℕ) (h : Place n a released r q s t k c kind) → role_of kind ≡ role
    → get_or (shown_bits (role_of kind) c kind p) i no_bit ≡ Net x → is_released_number n s x ≡ false
    → taints_held (net_value a t k) h.setting.built.shadow x ≡ bit_taint_given [] n s k (net_value a t k) (taints_held (net_value a t k) h.setting.built.shadow) c kind p i
shown_by_role PlainRegister {n = n} {a = a} {s = s} {t = t} {k = k} {c = c} {kind = kind} p i x h e at kept =
    let v : ℕ → Bool = net_value a t k in
    let u : ℕ → Bool = taints_held (net_value a t k) h.setting.built.shadow in
    let taint : Word = raw_word (net_value a t k) (shown_by h.made.making.taint) in
    let P : Role → Type 0 = λ role. get_or (shown_bits role c kind p) i no_bit ≡ Net x in
    shown_for p i x h taint (λ y. refl) (λ m. absurd (let none : is_memory (role_of kind) ≡ false = ap is_memory e in cc)) at kept
    ∙ ap (λ (role : Role). given_for n s k v u c kind role taint p i) e
    ∙ plain_taint i x h e (subst P e at)
    ∙ ap (λ (role : Role). given_for n s k v u c kind role (stored_taint_word n s k c.name) p i) (sym e)
shown_by_role ResetRegister {n = n} {s = s} {k = k} {c = c} {kind = kind} p i x h e at kept =
    let reset : has_role is_reset_register c ≡ true = role_test is_reset_register c kind h.passes.kind ∙ ap is_reset_register e in
    let register : has_role is_register c ≡ true = role_test is_register c kind h.passes.kind ∙ ap is_register e in
    shown_for p i x h (stored_taint_word n s k c.name) (λ y. taint_shown h register ∙ h.agrees.reset reset) (λ m. refl) at kept
shown_by_role MemoryBlock {n = n} {s = s} {k = k} {c = c} {kind = kind} p i x h e at kept =
    shown_for p i x h (stored_taint_word n s k c.name) (λ y. absurd (let none : is_register (role_of kind) ≡ false = ap is_register e in cc)) (λ m. refl) at kept
shown_by_role Combinational {n = n} {s = s} {k = k} {c = c} {kind = kind} p i x h e at kept =
    shown_for p i x h (stored_taint_word n s k c.name) (λ y. absurd (let none : is_register (role_of kind) ≡ false = ap is_register e in cc)) (λ m. refl) at kept
shown_by_role CarriedOver {n = n} {s = s} {k = k} {c = c} {kind = kind} p i x h e at kept =
    shown_for p i x h (stored_taint_word n s k c.name) (λ y. absurd (let none : is_register (role_of kind) ≡ false = ap is_register e in cc)) (λ m. refl) at kept

cell_by : (b : Bool) {n a : Raw} {released : List ℕ} {r q : ℕ → ℕ} {s t : Stimulus} {k : ℕ} {c : RawCell} {kind : Kind} (p i x : ℕ) (h : Place n a released r q s t k c kind) → is_released_number n s x ≡ b
    → get_or (shown_bits (role_of kind) c kind p) i no_bit ≡ Net x
    → taints_held (net_value a t k) h.setting.built.shadow x
    ≡ (if is_released_number n s x then false else bit_taint_given [] n s k (net_value a t k) (taints_held (net_value a t k) h.setting.built.shadow) c kind p i)
cell_by true {n = n} {a = a} {s = s} {t = t} {k = k} {c = c} {kind = kind} p i x h e at =
    let place = at_contained n.cells c h.stands in
    let number = contained_has (net_numbers n) x (driver_of_shown n place.0 c kind p i x (passes_form n h.setting.runs.form) (record { at_cell = place.1; is_kind = h.passes.kind }) at).0 in
    cleared_taint k x h.setting number e
    ∙ sym (cond-true (is_released_number n s x) false (bit_taint_given [] n s k (net_value a t k) (taints_held (net_value a t k) h.setting.built.shadow) c kind p i) e)
cell_by false {n = n} {a = a} {s = s} {t = t} {k = k} {c = c} {kind = kind} p i x h e at =
    shown_by_role (role_of kind) p i x h refl at e
    ∙ sym (cond-false (is_released_number n s x) false (bit_taint_given [] n s k (net_value a t k) (taints_held (net_value a t k) h.setting.built.shadow) c kind p i) e)

-- ---- so the bits of the table hold the taints

-- a cell of the module with its kind and its new cells
abbrev pub place_of_cell : {n a : Raw} {released : List ℕ} {r q : ℕ → ℕ} {s t : Stimulus} {k : ℕ} {c : RawCell} {kind : Kind} → Setting n a released r q s t → Contains n.cells c → kind_of c.kind ≡ Some kind → Agrees n a s t k c
    → Place n a released r q s t k c kind
place_of_cell {n = n} {r = r} {c = c} {kind = kind} h c_in e agrees = record {
  setting = h;
  stands = c_in;
  passes = record { kind = e; passes = (cell_kind n r c h.runs c_in).passes.passes };
  made = made c h.built c_in;
  agrees = agrees;
}

are_taints : {n a : Raw} {released : List ℕ} {r q : ℕ → ℕ} {s t : Stimulus} (k : ℕ) (h : Setting n a released r q s t) → ((c : RawCell) → Contains n.cells c → Agrees n a s t k c)
    → AreTaints [] n s k (net_value a t k) (taints_held (net_value a t k) h.built.shadow)
are_taints {n = n} {a = a} {s = s} {t = t} k h agrees = record {
  input = λ port i x port_in is free at. input_by (is_released_number n s x) k port i x h refl port_in is free at;
  cell = λ c kind p i x c_in e at. cell_by (is_released_number n s x) p i x (place_of_cell h c_in e (agrees c c_in)) refl at;
  clock = λ x number e. ap (raw_bit (net_value a t k)) (h.built.clock x e);
}

pub taints_agree : {n a : Raw} {released : List ℕ} {r q : ℕ → ℕ} {s t : Stimulus} (k : ℕ) (h : Setting n a released r q s t) → ((c : RawCell) → Contains n.cells c → Agrees n a s t k c)
    → (x : ℕ) → Contains (net_numbers n) x → taints_held (net_value a t k) h.built.shadow x ≡ net_taint n s k x
taints_agree {n = n} {a = a} {r = r} {s = s} {t = t} k h agrees =
    taints_unique n r [] s k (net_value a t k) (taints_held (net_value a t k) h.built.shadow) h.runs (values_agree k h agrees) (are_taints k h agrees)
