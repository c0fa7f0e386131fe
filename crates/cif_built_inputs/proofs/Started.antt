-- What cells start with by the lines of the augmented stimulus, from what they start with by no line.
use Rattle.std.specs.Prelude.{ℕ, ◌-◌, ◌/◌, ◌%◌, ◌≡◌, Bool, true, false, ◌&&◌, ◌==◌, List, [], bytes_eq, None, refl, if◌then◌else◌}
use Rattle.std.specs.List.{flat_map}
use Rattle.std.proofs.Common.{sym, ap, ◌∙◌, cond}
use Rattle.std.proofs.lemmas.Bool.{and_parts, and_right}
use Rattle.cif_defs.specs.Words.{Word, bit, word}
use Rattle.cif_defs.specs.Kinds.{is_memory, is_register}
use Rattle.cif_defs.specs.Order.{IsInOrder}
use Rattle.cif_defs.specs.Cells.{Cell, number_of, state_bits, width}
use Rattle.cif_defs.specs.Accepted.{netlist_of}
use Rattle.cif_defs.specs.Stimulus.{Stimulus, TaintedWord, mem_line, reg_line, started_by, with_row}
use Rattle.cif_defs.specs.declared.kinds.Param.TheVariants.{Offset}
use Rattle.cif_defs.specs.declared.raw_module.RawCell.{RawCell}
use Rattle.cif_defs.specs.declared.raw_module.Raw.{Raw}
use Rattle.cif_checks.specs.Checks.{IsAccepted}
use Rattle.cif_stimulus.specs.Fitting.{fits_alone, fits_of, has_address, has_name, has_width}
use Rattle.cif_nets.proofs.Places.{Has}
use Rattle.cif_augment.specs.Names.{flag_name, has_role, is_reset_register, stored_name, taint_name}
use Rattle.cif_augment.specs.Refusals.{names_fault, wanted_names}
use Rattle.cif_augment.specs.Stimuli.{augmented_line, is_reset_named, untainted}
use Rattle.cif_built_inputs.proofs.Finds.{only_named, other_name, same_name}
use Rattle.cif_built_inputs.proofs.Lines.{started_alike, with_rows}
use Rattle.cif_built_inputs.proofs.Named.{GivenCell, given_memory, given_register, is_reset_cell, reset_cell}
use Rattle.cif_built_inputs.proofs.Names.{cell_stands, memory_taint_wanted, no_wanted_stands, register_taint_wanted, same_stored_bytes, same_taint_bytes, stored_not_flag, stored_wanted, taint_not_flag, taint_not_stored}

-- the bits of a word, without end
abbrev pub bits_of : Word → (ℕ → Bool)
bits_of w i = bit w i

-- ---- what lines name

line_register : (n : Raw) (name : List ℕ) (w : TaintedWord) → IsAccepted n → fits_alone n (reg_line name w) ≡ true → GivenCell n is_register name
line_register n name w ok h = given_register n name ok (and_parts (has_name n (reg_line name w)) (has_address n (reg_line name w)) (and_parts (has_name n (reg_line name w) && has_address n (reg_line name w)) (has_width n (reg_line name w)) h).0).0

line_memory : (n : Raw) (name : List ℕ) (address : ℕ) (w : TaintedWord) → IsAccepted n → fits_alone n (mem_line name address w) ≡ true → GivenCell n is_memory name
line_memory n name address w ok h =
    given_memory n name ok (and_parts (has_name n (mem_line name address w)) (has_address n (mem_line name address w)) (and_parts (has_name n (mem_line name address w) && has_address n (mem_line name address w)) (has_width n (mem_line name address w)) h).0).0

-- ---- names of lines, and names of cells

module _ (n : Raw) (free : names_fault n ≡ None) where
  -- a name that is wanted isn't that of a cell
  not_cell : (name wanted : List ℕ) (c : RawCell) → Has n.cells c → c.name ≡ name → Has (wanted_names n) wanted → bytes_eq name wanted ≡ false
  not_cell name wanted c h e w = other_name name wanted (λ same. no_wanted_stands n wanted c.name free w (cell_stands n c h) (sym (e ∙ same)))

  wanted_not_cell : (wanted : List ℕ) (c : RawCell) → Has n.cells c → Has (wanted_names n) wanted → bytes_eq wanted c.name ≡ false
  wanted_not_cell wanted c h w = other_name wanted c.name (λ same. no_wanted_stands n wanted c.name free w (cell_stands n c h) same)

  register_taint_apart : (name : List ℕ) (c : RawCell) → GivenCell n is_register name → Has n.cells c → bytes_eq (taint_name name) c.name ≡ false
  register_taint_apart name c g h = ap (λ (x : List ℕ). bytes_eq (taint_name x) c.name) (sym g.named) ∙ wanted_not_cell (taint_name g.cell.name) c h (register_taint_wanted n g.cell g.stands g.role)

  memory_taint_apart : (name : List ℕ) (c : RawCell) → GivenCell n is_memory name → Has n.cells c → bytes_eq (taint_name name) c.name ≡ false
  memory_taint_apart name c g h = ap (λ (x : List ℕ). bytes_eq (taint_name x) c.name) (sym g.named) ∙ wanted_not_cell (taint_name g.cell.name) c h (memory_taint_wanted n g.cell g.stands g.role)

  stored_apart : (name : List ℕ) (c : RawCell) → IsAccepted n → Has n.cells c → (is_reset_named (netlist_of n) name && bytes_eq (stored_name name) c.name) ≡ false
  stored_apart name c ok h = by_test (is_reset_named (netlist_of n) name) refl where
    by_test : (b : Bool) → is_reset_named (netlist_of n) name ≡ b → (b && bytes_eq (stored_name name) c.name) ≡ false
    by_test false e = refl
    by_test true e = (let g = reset_cell n name ok e in ap (λ (x : List ℕ). bytes_eq (stored_name x) c.name) (sym g.named) ∙ wanted_not_cell (stored_name g.cell.name) c h (stored_wanted n g.cell g.stands g.role))

-- ---- rows

rows_alike : (c d : Cell) (address : ℕ) (w given other : Word) → state_bits d ≡ state_bits c → width d ≡ width c → number_of d Offset ≡ number_of c Offset → bits_of given ≡ bits_of other
    → bits_of (with_row (state_bits d) (width d) (address - number_of d Offset) w given) ≡ bits_of (with_row (state_bits c) (width c) (address - number_of c Offset) w other)
rows_alike c d address w given other s b o r =
    ap (λ (size : ℕ). bits_of (with_row size (width d) (address - number_of d Offset) w given)) s
    ∙ ap (λ (n : ℕ). bits_of (with_row (state_bits c) n (address - number_of d Offset) w given)) b
    ∙ ap (λ (k : ℕ). bits_of (with_row (state_bits c) (width c) (address - k) w given)) o
    ∙ ap (λ (f : ℕ → Bool). bits_of (word (state_bits c) (λ i. if i / width c == address - number_of c Offset then bit w (i % width c) else f i))) r

-- ---- values

abbrev AreValues : TaintedWord → TaintedWord → Type 0
AreValues u v = bits_of u.value ≡ bits_of v.value

value_chosen : (a b c : Bool) (x y w u v : TaintedWord) → a ≡ false → b ≡ false → AreValues u v → AreValues (cond a x (cond b y (cond c (untainted w.value) u))) (cond c w v)
value_chosen a b c x y w u v e f r = rw (e, f) (by_test c) where
  by_test : (d : Bool) → AreValues (cond d (untainted w.value) u) (cond d w v)
  by_test true = refl
  by_test false = r

value_row : (a b : Bool) (y w u v x : TaintedWord) (c : Cell) (address : ℕ) → a ≡ false → AreValues u v → x ≡ cond b (with_rows c address (untainted w.value) u) u → AreValues (cond a y x) (cond b (with_rows c address w v) v)
value_row a b y w u v x c address e r is = rw (e, is) (by_test b) where
  by_test : (d : Bool) → AreValues (cond d (with_rows c address (untainted w.value) u) u) (cond d (with_rows c address w v) v)
  by_test true = rows_alike c c address w.value u.value v.value refl refl refl r
  by_test false = r

pub values_started : (n : Raw) (s : Stimulus) (c : RawCell) (d : Cell) (u v : TaintedWord) → IsAccepted n → names_fault n ≡ None → fits_of n s ≡ true → Has n.cells c → d.name ≡ c.name → bits_of u.value ≡ bits_of v.value
    → bits_of (started_by (flat_map (augmented_line (netlist_of n) s.lines) s.lines) d u).value ≡ bits_of (started_by s.lines d v).value
unfolding fits_of
values_started n s c d u v ok free fit h is r = started_alike AreValues n s.lines d d
    (λ name w u v fits r. value_chosen (is_reset_named (netlist_of n) name && bytes_eq (stored_name name) d.name) (bytes_eq (taint_name name) d.name) (bytes_eq name d.name) (untainted w.value) (untainted w.taint) w u v
    (ap (λ (x : List ℕ). is_reset_named (netlist_of n) name && bytes_eq (stored_name name) x) is ∙ stored_apart n free name c ok h)
    (ap (bytes_eq (taint_name name)) is ∙ register_taint_apart n free name c (line_register n name w ok fits) h) r)
    (λ name address w u v fits r x e. value_row (bytes_eq (taint_name name) d.name) (bytes_eq name d.name) (with_rows d address (untainted w.taint) x) w u v x d address
    (ap (bytes_eq (taint_name name)) is ∙ memory_taint_apart n free name c (line_memory n name address w ok fits) h) r e)
    [] s.lines u v fit r

-- ---- taints

abbrev AreTaints : TaintedWord → TaintedWord → Type 0
AreTaints u v = bits_of u.value ≡ bits_of v.taint

taint_chosen : (a b c e : Bool) (x y w u v : TaintedWord) → a ≡ false → b ≡ e → c ≡ false → AreTaints u v → AreTaints (cond a x (cond b (untainted w.taint) (cond c y u))) (cond e w v)
taint_chosen a b c e x y w u v p q t r = rw (p, q, t) (by_test e) where
  by_test : (d : Bool) → AreTaints (cond d (untainted w.taint) u) (cond d w v)
  by_test true = refl
  by_test false = r

taint_row : (b c e : Bool) (y w u v x : TaintedWord) (d from : Cell) (address : ℕ) → b ≡ e → c ≡ false → AreTaints u v → x ≡ cond c y u → state_bits d ≡ state_bits from → width d ≡ width from → number_of d Offset ≡ number_of from Offset
    → AreTaints (cond b (with_rows d address (untainted w.taint) x) x) (cond e (with_rows from address w v) v)
taint_row b c e y w u v x d from address p q r is bits wide offset = rw (p, is, q) (by_test e) where
  by_test : (t : Bool) → AreTaints (cond t (with_rows d address (untainted w.taint) u) u) (cond t (with_rows from address w v) v)
  by_test true = rows_alike from d address w.taint u.value v.taint bits wide offset r
  by_test false = r

-- d stores the taint of c, which is cell `from` of a netlist
pub taints_started : (n : Raw) (s : Stimulus) (c : RawCell) (d from : Cell) (u v : TaintedWord) → IsAccepted n → names_fault n ≡ None → fits_of n s ≡ true → Has n.cells c → Has (wanted_names n) (taint_name c.name)
    → d.name ≡ taint_name c.name → from.name ≡ c.name → state_bits d ≡ state_bits from → width d ≡ width from → number_of d Offset ≡ number_of from Offset → bits_of u.value ≡ bits_of v.taint
    → bits_of (started_by (flat_map (augmented_line (netlist_of n) s.lines) s.lines) d u).value ≡ bits_of (started_by s.lines from v).taint
unfolding fits_of
taints_started n s c d from u v ok free fit h wanted is named bits wide offset r = started_alike AreTaints n s.lines d from
    (λ name w u v fits r. let g = line_register n name w ok fits in taint_chosen (is_reset_named (netlist_of n) name && bytes_eq (stored_name name) d.name) (bytes_eq (taint_name name) d.name) (bytes_eq name d.name) (bytes_eq name from.name) (untainted w.value) (untainted w.value) w u v
    (and_right (is_reset_named (netlist_of n) name) (bytes_eq (stored_name name) d.name) (other_name (stored_name name) d.name (λ e. taint_not_stored c.name name (sym (e ∙ is)))))
    (same name)
    (ap (bytes_eq name) is ∙ not_cell n free name (taint_name c.name) g.cell g.stands g.named wanted)
    r)
    (λ name address w u v fits r x e. let g = line_memory n name address w ok fits in taint_row (bytes_eq (taint_name name) d.name) (bytes_eq name d.name) (bytes_eq name from.name) (with_rows d address (untainted w.value) u) w u v x d from address
    (same name)
    (ap (bytes_eq name) is ∙ not_cell n free name (taint_name c.name) g.cell g.stands g.named wanted)
    r e bits wide offset)
    [] s.lines u v fit r
  where
    same : (name : List ℕ) → bytes_eq (taint_name name) d.name ≡ bytes_eq name from.name
    same name = ap (bytes_eq (taint_name name)) is ∙ same_taint_bytes name c.name ∙ ap (bytes_eq name) (sym named)

-- ---- copies

copy_chosen : (a b c e : Bool) (y z w u v : TaintedWord) → a ≡ e → b ≡ false → c ≡ false → AreValues u v → AreValues (cond a (untainted w.value) (cond b y (cond c z u))) (cond e w v)
copy_chosen a b c e y z w u v p q t r = rw (p, q, t) (by_test e) where
  by_test : (d : Bool) → AreValues (cond d (untainted w.value) u) (cond d w v)
  by_test true = refl
  by_test false = r

copy_row : (b c e : Bool) (y z t u v x : TaintedWord) → b ≡ false → c ≡ false → e ≡ false → AreValues u v → x ≡ cond c y u → AreValues (cond b z x) (cond e t v)
copy_row b c e y z t u v x p q f r is = rw (p, f, is, q) r

-- d stores what c stores, which is cell `from` of a netlist and has an asynchronous reset
pub copies_started : (n : Raw) (s : Stimulus) (c : RawCell) (d from : Cell) (u v : TaintedWord) → IsInOrder n → IsAccepted n → names_fault n ≡ None → fits_of n s ≡ true → Has n.cells c → has_role is_reset_register c ≡ true
    → (has_role is_memory c ≡ true → ⊥) → d.name ≡ stored_name c.name → from.name ≡ c.name → bits_of u.value ≡ bits_of v.value
    → bits_of (started_by (flat_map (augmented_line (netlist_of n) s.lines) s.lines) d u).value ≡ bits_of (started_by s.lines from v).value
unfolding fits_of
copies_started n s c d from u v order ok free fit h reset no_memory is named r = started_alike AreValues n s.lines d from
    (λ name w u v fits r. let g = line_register n name w ok fits in copy_chosen (is_reset_named (netlist_of n) name && bytes_eq (stored_name name) d.name) (bytes_eq (taint_name name) d.name) (bytes_eq name d.name) (bytes_eq name from.name) (untainted w.taint) (untainted w.value) w u v
    (ap (λ (x : List ℕ). is_reset_named (netlist_of n) name && bytes_eq (stored_name name) x) is
    ∙ ap (λ b. is_reset_named (netlist_of n) name && b) (same_stored_bytes name c.name)
    ∙ own name (bytes_eq name c.name) refl
    ∙ ap (bytes_eq name) (sym named))
    (no_taint name)
    (ap (bytes_eq name) is ∙ not_cell n free name (stored_name c.name) g.cell g.stands g.named (stored_wanted n c h reset))
    r)
    (λ name address w u v fits r x e. let g = line_memory n name address w ok fits in copy_row (bytes_eq (taint_name name) d.name) (bytes_eq name d.name) (bytes_eq name from.name) (with_rows d address (untainted w.value) u) (with_rows d address (untainted w.taint) x) (with_rows from address w v) u v x
    (no_taint name)
    (ap (bytes_eq name) is ∙ not_cell n free name (stored_name c.name) g.cell g.stands g.named (stored_wanted n c h reset))
    (other_name name from.name (λ same. no_memory (
    let one : g.cell ≡ c = only_named (λ (d : RawCell). d.name) n.cells g.cell c order.cells g.stands h (g.named ∙ same ∙ named) in
    ap (has_role is_memory) (sym one) ∙ g.role)))
    r e)
    [] s.lines u v fit r
  where
    no_taint : (name : List ℕ) → bytes_eq (taint_name name) d.name ≡ false
    no_taint name = other_name (taint_name name) d.name (λ e. taint_not_stored name c.name (e ∙ is))

    own : (name : List ℕ) (b : Bool) → bytes_eq name c.name ≡ b → (is_reset_named (netlist_of n) name && b) ≡ b
    own name true e = ap (λ t. t && true) (ap (is_reset_named (netlist_of n)) (same_name name c.name e) ∙ is_reset_cell n c ok h reset)
    own name false e = and_right (is_reset_named (netlist_of n) name) false refl

-- ---- flags

abbrev AreClear : TaintedWord → TaintedWord → Type 0
AreClear u v = bits_of u.value ≡ bits_of []

flag_chosen : (a b c : Bool) (x y z u v : TaintedWord) → a ≡ false → b ≡ false → c ≡ false → AreClear u v → AreClear (cond a x (cond b y (cond c z u))) v
flag_chosen a b c x y z u v p q t r = rw (p, q, t) r

flag_row : (b c : Bool) (y z u x v : TaintedWord) → b ≡ false → c ≡ false → AreClear u v → x ≡ cond c y u → AreClear (cond b z x) v
flag_row b c y z u x v p q r is = rw (p, is, q) r

-- no line gives the flag of c a word
pub flags_started : (n : Raw) (s : Stimulus) (c : RawCell) (d : Cell) (u : TaintedWord) → IsAccepted n → names_fault n ≡ None → fits_of n s ≡ true → Has (wanted_names n) (flag_name c.name) → d.name ≡ flag_name c.name → bits_of u.value ≡ bits_of []
    → bits_of (started_by (flat_map (augmented_line (netlist_of n) s.lines) s.lines) d u).value ≡ bits_of []
unfolding fits_of
flags_started n s c d u ok free fit wanted is r = started_alike AreClear n s.lines d d
    (λ name w u v fits r. let g = line_register n name w ok fits in flag_chosen (is_reset_named (netlist_of n) name && bytes_eq (stored_name name) d.name) (bytes_eq (taint_name name) d.name) (bytes_eq name d.name) (untainted w.value) (untainted w.taint) (untainted w.value) u (cond (bytes_eq name d.name) w v)
    (and_right (is_reset_named (netlist_of n) name) (bytes_eq (stored_name name) d.name) (other_name (stored_name name) d.name (λ e. stored_not_flag name c.name (e ∙ is))))
    (no_taint name)
    (ap (bytes_eq name) is ∙ not_cell n free name (flag_name c.name) g.cell g.stands g.named wanted)
    r)
    (λ name address w u v fits r x e. let g = line_memory n name address w ok fits in flag_row (bytes_eq (taint_name name) d.name) (bytes_eq name d.name) (with_rows d address (untainted w.value) u) (with_rows d address (untainted w.taint) x) u x (cond (bytes_eq name d.name) (with_rows d address w v) v)
    (no_taint name)
    (ap (bytes_eq name) is ∙ not_cell n free name (flag_name c.name) g.cell g.stands g.named wanted)
    r e)
    [] s.lines u u fit r
  where
    no_taint : (name : List ℕ) → bytes_eq (taint_name name) d.name ≡ false
    no_taint name = other_name (taint_name name) d.name (λ e. taint_not_flag name c.name (e ∙ is))
