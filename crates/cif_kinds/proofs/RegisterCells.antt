-- The widths of the operands of registers, and which row each kind takes.
use Rattle.std.specs.Prelude.{ℕ, zero, suc, ◌<◌, ◌≤◌, ◌≡◌, ◌≢◌, Bool, true, false, List, [], ◌∷◌, map, length, get_or, refl}
use Rattle.std.specs.List.{list_all}
use Rattle.std.proofs.lemmas.Bool.{and_parts}
use Rattle.std.proofs.lemmas.List.{length-map}
use Rattle.std.proofs.Common.{arith, sym, ap, ◌∙◌}
use Rattle.cif_defs.specs.Words.{Word, operand}
use Rattle.cif_defs.specs.Kinds.{role_of}
use Rattle.cif_defs.specs.Cells.{Cell, number_of, width}
use Rattle.cif_defs.specs.Fitted.{IsFitted, AllWithin, operand_widths, row_width}
use Rattle.cif_defs.specs.Table.{operands_of, outputs_of, width_by, width_limit, d_row, row}
use Rattle.cif_defs.specs.declared.kinds.Kind.{Kind}
use Rattle.cif_defs.specs.declared.kinds.Kind.TheVariants.{Dff, Dffe, Sdff, Sdffe, Sdffce, Adff, Adffe, Mem}
use Rattle.cif_defs.specs.declared.kinds.Param.{Param}
use Rattle.cif_defs.specs.declared.kinds.Param.TheVariants.{Width}
use Rattle.cif_defs.specs.declared.kinds.CellPort.TheVariants.{Q}
use Rattle.cif_defs.specs.declared.kinds.PortWidth.{PortWidth}
use Rattle.cif_defs.specs.declared.kinds.PortWidth.TheVariants.{One, Of}
use Rattle.cif_defs.specs.declared.kinds.PortRow.{PortRow}
use Rattle.cif_defs.specs.Kinds.{is_register}
use Rattle.cif_kinds.specs.StateCells.{HasRegisterPorts}
use Rattle.cif_kinds.proofs.OperandWidths.{length-at}
use Rattle.cif_kinds.proofs.OperandWidths.{map_width, outputs_within, widths_are}

abbrev is_single : PortWidth → Bool
is_single One = true
is_single _ = false

record IsRegisterKind (k : Kind) : Type 0 where
  pub further : List PortRow
  pub operands : operands_of k ≡ d_row ∷ further
  pub outputs : outputs_of k ≡ row Q (Of Width) ∷ []
  pub limit : width_limit k Q ≡ 4096
  pub no_memory : k ≢ Mem
  -- the enable and the reset
  pub controls : list_all (λ (r : PortRow). is_single r.width) further ≡ true

register_kind : (k : Kind) → is_register (role_of k) ≡ true → IsRegisterKind k
unfolding operands_of outputs_of width_limit
register_kind Dff h = record { further = _; operands = refl; outputs = refl; limit = refl; no_memory = λ e. cc; controls = refl }
register_kind Dffe h = record { further = _; operands = refl; outputs = refl; limit = refl; no_memory = λ e. cc; controls = refl }
register_kind Sdff h = record { further = _; operands = refl; outputs = refl; limit = refl; no_memory = λ e. cc; controls = refl }
register_kind Sdffe h = record { further = _; operands = refl; outputs = refl; limit = refl; no_memory = λ e. cc; controls = refl }
register_kind Sdffce h = record { further = _; operands = refl; outputs = refl; limit = refl; no_memory = λ e. cc; controls = refl }
register_kind Adff h = record { further = _; operands = refl; outputs = refl; limit = refl; no_memory = λ e. cc; controls = refl }
register_kind Adffe h = record { further = _; operands = refl; outputs = refl; limit = refl; no_memory = λ e. cc; controls = refl }
register_kind _ h = absurd (cc)

-- ---- widths

pub record IsRegisterWidth (c : Cell) : Type 0 where
  pub some : 1 ≤ width c
  pub limit : width c ≤ 4096

pub register_width_fits : (c : Cell) → is_register (role_of c.kind) ≡ true → IsFitted c → IsRegisterWidth c
register_width_fits c r f =
    let k : IsRegisterKind c.kind = register_kind c.kind r in
    let outs : AllWithin c (row Q (Of Width) ∷ []) = outputs_within c _ k.outputs k.no_memory f in
    let low : number_of c Width ≤ width_limit c.kind Q = outs.0.limit in
    record { some = outs.0.some; limit = omega (arith, k.limit) }

inside : (us : List Word) (n : ℕ) → 1 ≤ n → length (operand us 0) ≡ n → 0 < length us
inside [] n h e = absurd (let none : 0 ≡ n = e in omega arith)
inside (u ∷ us) n h e = omega arith

pub record IsRegisterFit (c : Cell) (us : List Word) : Type 0 where
  pub inside : 0 < length us
  pub d : 1 ≤ length (operand us 0)

pub register_fits : (c : Cell) (us : List Word) → is_register (role_of c.kind) ≡ true → IsFitted c → map length us ≡ operand_widths c → IsRegisterFit c us
register_fits c us r f h =
    let k : IsRegisterKind c.kind = register_kind c.kind r in
    let w : IsRegisterWidth c = register_width_fits c r f in
    let widths : map length us ≡ width c ∷ map (row_width c) k.further = widths_are c us (d_row ∷ k.further) k.operands f h in
    let d_is : length (operand us 0) ≡ width c = sym (map_width us 0) ∙ ap (λ ns. get_or ns 0 0) widths in
    record { inside = inside us (width c) w.some d_is; d = omega (arith, w.some) }

-- ---- all ports

single_width : (number : Param → ℕ) (w : PortWidth) → is_single w ≡ true → width_by number w ≡ 1
single_width number One h = refl
single_width number _ h = absurd (cc)

single_widths : (c : Cell) (rows : List PortRow) → list_all (λ (r : PortRow). is_single r.width) rows ≡ true → (p : ℕ) → p < length rows → get_or (map (row_width c) rows) p 0 ≡ 1
single_widths c [] h p l = absurd (omega arith)
single_widths c (r ∷ rows) h zero l = single_width (number_of c) r.width (and_parts (is_single r.width) (list_all (λ (q : PortRow). is_single q.width) rows) h).0
single_widths c (r ∷ rows) h (suc p) l = single_widths c rows (and_parts (is_single r.width) (list_all (λ (q : PortRow). is_single q.width) rows) h).1 p (omega arith)

control_width : (us : List Word) (d : ℕ) (ns : List ℕ) → map length us ≡ d ∷ ns → ((p : ℕ) → p < length ns → get_or ns p 0 ≡ 1) → (p : ℕ) → 1 ≤ p → p < length us → length (operand us p) ≡ 1
control_width us d ns e single zero one l = absurd (omega arith)
control_width us d ns e single (suc p) one l =
    let many : length us ≡ suc (length ns) = sym (length-map us length) ∙ ap length e in
    sym (map_width us (suc p)) ∙ ap (λ xs. get_or xs (suc p) 0) e ∙ single p (omega arith)

pub q_width : (c : Cell) → is_register (role_of c.kind) ≡ true → IsFitted c → length (get_or c.outputs 0 []) ≡ width c
q_width c r f = length-at c.outputs 0 ∙ ap (λ ns. get_or ns 0 0) (f.outputs ∙ ap (map (row_width c)) (register_kind c.kind r).outputs)

pub register_ports : (c : Cell) (us : List Word) → is_register (role_of c.kind) ≡ true → IsFitted c → map length us ≡ operand_widths c → HasRegisterPorts c us
register_ports c us r f h =
    let k : IsRegisterKind c.kind = register_kind c.kind r in
    let w : IsRegisterWidth c = register_width_fits c r f in
    let widths : map length us ≡ width c ∷ map (row_width c) k.further = widths_are c us (d_row ∷ k.further) k.operands f h in
    record {
      operands = sym (length-map us length) ∙ ap length (h ∙ f.operands) ∙ length-map (operands_of c.kind) (row_width c);
      d = sym (map_width us 0) ∙ ap (λ ns. get_or ns 0 0) widths;
      controls = control_width us (width c) (map (row_width c) k.further) widths (λ p l. single_widths c k.further k.controls p (let e = length-map k.further (row_width c) in omega arith));
      q = q_width c r f;
      some = w.some;
      limit = w.limit;
    }
