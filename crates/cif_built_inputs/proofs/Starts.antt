-- What cells of a built module start with under the augmented stimulus: cells of the other what they do there, and its new
-- cells the taint, the word, and no flag.
use Rattle.std.specs.Prelude.{ℕ, zero, suc, ◌*◌, ◌≡◌, Bool, true, false, List, [], ◌∷◌, ◌++◌, Option, Some, None, option_map, option_to_list, unwrap_or, IsSomeAnd, MatchBool, refl}
use Rattle.std.proofs.Common.{sym, ap, ◌∙◌, inl}
use Rattle.cif_defs.specs.Words.{bit, word}
use Rattle.cif_defs.specs.Kinds.{is_memory, is_register, role_of}
use Rattle.cif_defs.specs.Order.{IsInOrder}
use Rattle.cif_defs.specs.Table.{kind_of}
use Rattle.cif_defs.specs.RawModule.{digits_given, digits_read}
use Rattle.cif_defs.specs.Cells.{Cell, state_bits}
use Rattle.cif_defs.specs.Accepted.{cell_of, initial_by, initial_of, netlist_of}
use Rattle.cif_defs.specs.Stimulus.{Stimulus, TaintedWord}
use Rattle.cif_defs.specs.declared.kinds.Kind.{Kind}
use Rattle.cif_defs.specs.declared.kinds.Kind.TheVariants.{Dff, Mem}
use Rattle.cif_defs.specs.declared.kinds.Param.TheVariants.{Init, Offset, Size, Width}
use Rattle.cif_defs.specs.declared.kinds.Role.{Role}
use Rattle.cif_defs.specs.declared.kinds.Role.TheVariants.{MemoryBlock, ResetRegister}
use Rattle.cif_defs.specs.declared.raw_module.ParamValue.{ParamValue}
use Rattle.cif_defs.specs.declared.raw_module.RawCell.{RawCell}
use Rattle.cif_defs.specs.declared.raw_module.RawName.{RawName}
use Rattle.cif_defs.specs.declared.raw_module.Raw.{Raw}
use Rattle.cif_checks.specs.Checks.{IsAccepted, number_or_0}
use Rattle.cif_stimulus.specs.Fitting.{fits_of}
use Rattle.cif_nets.proofs.Places.{Has, Has-left, Has-right}
use Rattle.cif_raw_runs.specs.Given.{cell_starts}
use Rattle.cif_raw_runs.proofs.Numbers.{has_contained}
use Rattle.cif_augment.specs.Names.{flag_name, has_flag, has_role, has_role_by, is_reset_register, stored_name, taint_name}
use Rattle.cif_augment.specs.Additions.{IsCopy, IsFlag, IsTaintMemory, IsTaintRegister, copy_kind}
use Rattle.cif_augment.specs.Refusals.{names_fault, wanted_names}
use Rattle.cif_augment.specs.Stimuli.{augmented}
use Rattle.cif_built.specs.Built.{IsBuilt}
use Rattle.cif_built.specs.Makings.{IsStateCell, Making, state_cells}
use Rattle.cif_built_inputs.specs.Given.{GivesStarts}
use Rattle.cif_built_inputs.proofs.Finds.{only_named}
use Rattle.cif_built_inputs.proofs.Initial.{clear_word, copied_word, same_word, zero_word}
use Rattle.cif_built_inputs.proofs.Named.{kind_of_cell, known, name_of_cell}
use Rattle.cif_built_inputs.proofs.Names.{flag_wanted, memory_taint_wanted, register_taint_wanted, stored_not_flag, taint_not_stored}
use Rattle.cif_built_inputs.proofs.NewCells.{each_state, in_state, making_for, new_cells, new_stands}
use Rattle.cif_built_inputs.proofs.Sizes.{HasSizes, copy_kinds, memory_kind, memory_sizes, outputs_long, register_sizes, role_as, same_number, taint_memory_number}
use Rattle.cif_built_inputs.proofs.Started.{bits_of, copies_started, flags_started, taints_started, values_started}

-- a cell without lines
abbrev unlined : List RawName → RawCell → TaintedWord
unlined names c = record { value = initial_of [] names c; taint = [] }

-- the bits that are cut to the size of a cell
cut : (m n : ℕ) (f g : ℕ → Bool) → m ≡ n → f ≡ g → word m f ≡ word n g
cut m n f g e h = ap (λ (k : ℕ). word k f) e ∙ ap (λ (i : ℕ → Bool). word n i) h

-- ---- what a block has

given_by : (P : RawCell → Type 0) (Q : Type 0) (b : Bool) (o : Option RawCell) → b ≡ true → MatchBool b (IsSomeAnd o P) Q → (d : RawCell) × (o ≡ Some d) × P d
given_by P Q true None e h = absurd h
given_by P Q true (Some d) e h = (d, refl, h)
given_by P Q false o e h = absurd (cc)

otherwise : (P Q : Type 0) (b : Bool) → b ≡ false → MatchBool b P Q → Q
otherwise P Q true e h = absurd (cc)
otherwise P Q false e h = h

not_register : (role : Role) → is_memory role ≡ true → is_register role ≡ false
not_register MemoryBlock e = refl
not_register _ e = absurd (cc)

not_memory : (role : Role) → is_reset_register role ≡ true → is_memory role ≡ true → ⊥
not_memory MemoryBlock e h = absurd (cc)
not_memory _ e h = absurd (cc)

reset_is_register : (role : Role) → is_reset_register role ≡ true → is_register role ≡ true
reset_is_register ResetRegister e = refl
reset_is_register _ e = absurd (cc)

here : (o : Option RawCell) (d : RawCell) → o ≡ Some d → Has (option_to_list o) d
here o d e = rw e (inl refl)

taint_state : (m : Making) (d : RawCell) → m.taint ≡ Some d → Has (state_cells m) d
taint_state m d e = Has-left (option_to_list m.taint ++ option_to_list m.flag) (option_to_list m.copy) d (Has-left (option_to_list m.taint) (option_to_list m.flag) d (here m.taint d e))

flag_state : (m : Making) (d : RawCell) → m.flag ≡ Some d → Has (state_cells m) d
flag_state m d e = Has-left (option_to_list m.taint ++ option_to_list m.flag) (option_to_list m.copy) d (Has-right (option_to_list m.taint) (option_to_list m.flag) d (here m.flag d e))

copy_state : (m : Making) (d : RawCell) → m.copy ≡ Some d → Has (state_cells m) d
copy_state m d e = Has-right (option_to_list m.taint ++ option_to_list m.flag) (option_to_list m.copy) d (here m.copy d e)

-- ---- words of memories

first_clear : (i : ℕ) → bit (false ∷ []) i ≡ false
first_clear zero = refl
first_clear (suc i) = refl

memory_initial : (role : Role) (names : List RawName) (c : RawCell) (d : Cell) → is_memory role ≡ true → initial_by names c d role ≡ word (state_bits d) (λ i. bit (digits_given c Init) i)
memory_initial MemoryBlock names c d e = refl
memory_initial _ names c d e = absurd (cc)

clear_memory : (names : List RawName) (c t : RawCell) → kind_of t.kind ≡ Some Mem → IsTaintMemory c t → bits_of (initial_of [] names t) ≡ bits_of []
unfolding initial_of digits_read
clear_memory names c t e is =
    ap bits_of (memory_initial (role_of (cell_of [] t).kind) names t (cell_of [] t) (ap (λ (k : Kind). is_memory (role_of k)) (kind_of_cell [] t Mem e)))
    ∙ ap (λ (o : Option ParamValue). bits_of (word (state_bits (cell_of [] t)) (λ i. bit (unwrap_or (option_map digits_read o) []) i))) is.initial
    ∙ ap (λ (f : ℕ → Bool). bits_of (word (state_bits (cell_of [] t)) f)) (λ j i. first_clear i j)
    ∙ zero_word (state_bits (cell_of [] t))

-- ---- cell by cell

module _ (n a : Raw) (released : List ℕ) (s : Stimulus) (order : IsInOrder n) (ok : IsAccepted n) (free : names_fault n ≡ None) (order_a : IsInOrder a) (built : IsBuilt n released a) (fit : fits_of n s ≡ true) where
  abbrev new : Stimulus
  new = augmented (netlist_of n) s

  -- a new cell is the one of its name
  is_that : (d t : RawCell) → Has a.cells d → Has (new_cells built.makings) t → d.name ≡ t.name → d ≡ t
  is_that d t h k e = only_named (λ (c : RawCell). c.name) a.cells d t order_a.cells h (new_stands n a released built t k) e

  values : (c : RawCell) → Has n.cells c → (cell_starts [] a new c).value ≡ (cell_starts [] n s c).value
  unfolding augmented
  values c h =
      let kind = known n c ok h in
      cut (state_bits (cell_of [] c)) (state_bits (cell_of [] c)) _ _ refl
      (values_started n s c (cell_of [] c) (unlined a.names c) (unlined n.names c) ok free fit h (name_of_cell [] c kind.0 kind.1) (ap bits_of (same_word n a released built c ok h)))

  -- t stores the taint of c
  taint_starts : (c t : RawCell) (k l : Kind) (m w o : ℕ) → Has n.cells c → Has (wanted_names n) (taint_name c.name) → t.name ≡ taint_name c.name → kind_of c.kind ≡ Some k → kind_of t.kind ≡ Some l → HasSizes c m w o → HasSizes t m w o → bits_of (initial_of [] a.names t) ≡ bits_of []
      → (cell_starts [] a new t).value ≡ (cell_starts [] n s c).taint
  unfolding augmented
  taint_starts c t k l m w o h wanted named ck tk cs ts clear =
      let bits = ts.bits ∙ sym cs.bits in
      cut (state_bits (cell_of [] t)) (state_bits (cell_of [] c)) _ _ bits
      (taints_started n s c (cell_of [] t) (cell_of [] c) (unlined a.names t) (unlined n.names c) ok free fit h wanted (name_of_cell [] t l tk ∙ named) (name_of_cell [] c k ck) bits (ts.wide ∙ sym cs.wide) (ts.offset ∙ sym cs.offset) clear)

  registers : (c d : RawCell) → Has n.cells c → Has a.cells d → has_role is_register c ≡ true → d.name ≡ taint_name c.name → (cell_starts [] a new d).value ≡ (cell_starts [] n s c).taint
  registers c d h hd role named =
      let kind = known n c ok h in
      let made = making_for n a released built c h in
      let found = given_by (IsTaintRegister c) _ (has_role is_register c) made.making.taint role made.is.block.taint in
      let t : RawCell = found.0 in
      let is : IsTaintRegister c t = found.2 in
      let among : Has (new_cells built.makings) t = made.stands t (in_state made.making t (taint_state made.making t found.1)) in
      let dff : kind_of t.kind ≡ Some Dff = ap kind_of is.is_new.kind in
      let wide = same_number c t Width is.width in
      let sizes = register_sizes t Dff dff refl in
      ap (λ (b : RawCell). (cell_starts [] a new b).value) (is_that d t hd among (named ∙ sym is.is_new.name))
      ∙ taint_starts c t kind.0 Dff (number_or_0 c Width) (number_or_0 c Width) 0 h (register_taint_wanted n c h role) is.is_new.name kind.1 dff
      (register_sizes c kind.0 kind.1 (role_as is_register c kind.0 kind.1 role))
      (record { bits = sizes.bits ∙ wide; wide = sizes.wide ∙ wide; offset = sizes.offset })
      (clear_word n a released built t Dff among (λ name e. taint_not_stored c.name name (sym is.is_new.name ∙ e)) dff refl)

  memories : (c d : RawCell) → Has n.cells c → Has a.cells d → has_role is_memory c ≡ true → d.name ≡ taint_name c.name → (cell_starts [] a new d).value ≡ (cell_starts [] n s c).taint
  memories c d h hd role named =
      let kind = known n c ok h in
      let made = making_for n a released built c h in
      let as_memory : is_memory (role_of kind.0) ≡ true = role_as is_memory c kind.0 kind.1 role in
      let no_register : has_role is_register c ≡ false = ap (has_role_by is_register) kind.1 ∙ not_register (role_of kind.0) as_memory in
      let found = given_by (IsTaintMemory c) _ (has_role is_memory c) made.making.taint role (otherwise _ _ (has_role is_register c) no_register made.is.block.taint) in
      let t : RawCell = found.0 in
      let is : IsTaintMemory c t = found.2 in
      let among : Has (new_cells built.makings) t = made.stands t (in_state made.making t (taint_state made.making t found.1)) in
      let mem : kind_of t.kind ≡ Some Mem = ap kind_of is.is_new.kind in
      let mem_c : kind_of c.kind ≡ Some Mem = kind.1 ∙ ap Some (memory_kind kind.0 as_memory) in
      let wide = taint_memory_number c t Width is refl refl in
      let size = taint_memory_number c t Size is refl refl in
      let sizes = memory_sizes t mem in
      ap (λ (b : RawCell). (cell_starts [] a new b).value) (is_that d t hd among (named ∙ sym is.is_new.name))
      ∙ taint_starts c t Mem Mem (number_or_0 c Size * number_or_0 c Width) (number_or_0 c Width) (number_or_0 c Offset) h (memory_taint_wanted n c h role) is.is_new.name mem_c mem (memory_sizes c mem_c)
      (record { bits = sizes.bits ∙ ap (λ k. k * number_or_0 t Width) size ∙ ap (λ k. number_or_0 c Size * k) wide; wide = sizes.wide ∙ wide; offset = sizes.offset ∙ taint_memory_number c t Offset is refl refl })
      (clear_memory a.names c t mem is)

  copies : (c d : RawCell) → Has n.cells c → Has a.cells d → has_role is_reset_register c ≡ true → d.name ≡ stored_name c.name → (cell_starts [] a new d).value ≡ (cell_starts [] n s c).value
  unfolding augmented
  copies c d h hd role named =
      let kind = known n c ok h in
      let made = making_for n a released built c h in
      let found = given_by (IsCopy c) _ (has_role is_reset_register c) made.making.copy role made.is.block.copy in
      let v : RawCell = found.0 in
      let is : IsCopy c v = found.2 in
      let in_making = copy_state made.making v found.1 in
      let among : Has (new_cells built.makings) v = made.stands v (in_state made.making v in_making) in
      let state : IsStateCell v = each_state IsStateCell (state_cells made.making) v made.is.state in_making in
      let reset : is_reset_register (role_of kind.0) ≡ true = role_as is_reset_register c kind.0 kind.1 role in
      let copied = copy_kinds kind.0 reset in
      let vk : kind_of v.kind ≡ Some copied.0 = ap kind_of (is.is_new.kind ∙ ap copy_kind kind.1) ∙ copied.1.kind in
      let wide = same_number c v Width is.width in
      let cs = register_sizes c kind.0 kind.1 (reset_is_register (role_of kind.0) reset) in
      let vs = register_sizes v copied.0 vk copied.1.register in
      let initial = copied_word n a released built c v kind.0 copied.0 order ok h made found.1 among is kind.1 (reset_is_register (role_of kind.0) reset) vk copied.1.register (vs.wide ∙ wide ∙ sym cs.wide)
      (outputs_long v copied.0 state.passes vk copied.1.outputs copied.1.among ∙ sym vs.wide) state.nets in
      ap (λ (b : RawCell). (cell_starts [] a new b).value) (is_that d v hd among (named ∙ sym is.is_new.name))
      ∙ cut (state_bits (cell_of [] v)) (state_bits (cell_of [] c)) _ _ (vs.bits ∙ wide ∙ sym cs.bits)
      (copies_started n s c (cell_of [] v) (cell_of [] c) (unlined a.names v) (unlined n.names c) order ok free fit h role
      (λ m. not_memory (role_of kind.0) reset (role_as is_memory c kind.0 kind.1 m))
      (name_of_cell [] v copied.0 vk ∙ is.is_new.name) (name_of_cell [] c kind.0 kind.1) (ap bits_of initial))

  flags : (c d : RawCell) → Has n.cells c → Has a.cells d → has_flag c ≡ true → d.name ≡ flag_name c.name → (cell_starts [] a new d).value ≡ false ∷ []
  unfolding augmented
  flags c d h hd flagged named =
      let made = making_for n a released built c h in
      let found = given_by (IsFlag c) _ (has_flag c) made.making.flag flagged made.is.block.flag in
      let f : RawCell = found.0 in
      let is : IsFlag c f = found.2 in
      let among : Has (new_cells built.makings) f = made.stands f (in_state made.making f (flag_state made.making f found.1)) in
      let dff : kind_of f.kind ≡ Some Dff = ap kind_of is.is_new.kind in
      let sizes = register_sizes f Dff dff refl in
      let one : number_or_0 f Width ≡ 1 = ap (λ (o : Option ℕ). unwrap_or o 0) is.width in
      ap (λ (b : RawCell). (cell_starts [] a new b).value) (is_that d f hd among (named ∙ sym is.is_new.name))
      ∙ cut (state_bits (cell_of [] f)) 1 _ _ (sizes.bits ∙ one)
      (flags_started n s c (cell_of [] f) (unlined a.names f) ok free fit (flag_wanted n c h flagged) (name_of_cell [] f Dff dff ∙ is.is_new.name)
      (clear_word n a released built f Dff among (λ name e. stored_not_flag name c.name (sym e ∙ is.is_new.name)) dff refl))

pub gives_starts : (n a : Raw) (released : List ℕ) (s : Stimulus) → IsInOrder n → IsAccepted n → names_fault n ≡ None → IsInOrder a → IsBuilt n released a → fits_of n s ≡ true → GivesStarts n a s (augmented (netlist_of n) s)
gives_starts n a released s order ok free order_a built fit = record {
  values = λ c h. values n a released s order ok free order_a built fit c (has_contained n.cells c h);
  registers = λ c d h k e is. registers n a released s order ok free order_a built fit c d (has_contained n.cells c h) (has_contained a.cells d k) e is;
  memories = λ c d h k e is. memories n a released s order ok free order_a built fit c d (has_contained n.cells c h) (has_contained a.cells d k) e is;
  copies = λ c d h k e is. copies n a released s order ok free order_a built fit c d (has_contained n.cells c h) (has_contained a.cells d k) e is;
  flags = λ c d h k e is. flags n a released s order ok free order_a built fit c d (has_contained n.cells c h) (has_contained a.cells d k) e is;
}
