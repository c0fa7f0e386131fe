-- How long the words at operands are, and those that are stored.
use Rattle.std.specs.Prelude.{ℕ, zero, suc, ◌≡◌, Bool, List, [], ◌∷◌, length, map, Contains, Some, refl}
use Rattle.std.proofs.Common.{sym, ap, ◌∙◌}
use Rattle.std.proofs.lemmas.List.{length-map}
use Rattle.cif_defs.specs.Words.{Word}
use Rattle.cif_defs.specs.Kinds.{role_of}
use Rattle.cif_defs.specs.Order.{IsInOrder}
use Rattle.cif_defs.specs.Table.{kind_of, operands_of}
use Rattle.cif_defs.specs.RawModule.{port_bits}
use Rattle.cif_defs.specs.Cells.{Cell, shape_of, state_bits, state_bits_by, width}
use Rattle.cif_defs.specs.Fitted.{operand_widths}
use Rattle.cif_defs.specs.Memory.{memory_bits}
use Rattle.cif_defs.specs.Accepted.{cell_by, cell_of, source}
use Rattle.cif_defs.specs.Stimulus.{Stimulus}
use Rattle.cif_defs.specs.declared.kinds.Kind.{Kind}
use Rattle.cif_defs.specs.declared.kinds.Role.{Role}
use Rattle.cif_defs.specs.declared.kinds.Role.TheVariants.{Combinational, PlainRegister, ResetRegister, MemoryBlock, CarriedOver}
use Rattle.cif_defs.specs.declared.kinds.PortRow.{PortRow}
use Rattle.cif_defs.specs.declared.raw_module.RawBit.{RawBit}
use Rattle.cif_defs.specs.declared.raw_module.RawCell.{RawCell}
use Rattle.cif_defs.specs.declared.raw_module.Raw.{Raw}
use Rattle.cif_defs.proofs.NextAgree.{length-next_word}
use Rattle.cif_defs.proofs.WordLaws.{length-word}
use Rattle.cif_raw_runs.specs.Assigned.{raw_bit}
use Rattle.cif_raw_runs.specs.Places.{net_taint, net_value, stored_taint_word, stored_word}
use Rattle.cif_raw_runs.specs.Given.{AreAsLong, raw_taint, taint_next, word_next}
use Rattle.cif_raw_runs.proofs.Steps.{advances, starts}

-- ---- operands

row_lengths : (ns : List ℕ) (g : RawBit → Bool) (c : RawCell) (rows : List PortRow)
    → map length (map (λ (bits : List RawBit). map g bits) (map (port_bits c) rows)) ≡ map length (map (λ (r : PortRow). map (source ns) (port_bits c r)) rows)
row_lengths ns g c [] = refl
row_lengths ns g c (r ∷ rows) =
    ap (λ (n : ℕ). n ∷ map length (map (λ (bits : List RawBit). map g bits) (map (port_bits c) rows))) (length-map (port_bits c r) g ∙ sym (length-map (port_bits c r) (source ns)))
    ∙ ap (λ (ls : List ℕ). length (map (source ns) (port_bits c r)) ∷ ls) (row_lengths ns g c rows)

widths_are : (ns : List ℕ) (c : RawCell) (k : Kind) → kind_of c.kind ≡ Some k → operand_widths (cell_of ns c) ≡ map length (map (λ (r : PortRow). map (source ns) (port_bits c r)) (operands_of k))
unfolding cell_of
widths_are ns c k e = ap (λ o. operand_widths (cell_by ns c o)) e

-- ---- what is stored

length-word_next : (role : Role) (c : Cell) (us : List Word) (stored : Word) → length (word_next role c us stored) ≡ state_bits_by role c
length-word_next Combinational c us stored = refl
length-word_next PlainRegister c us stored = length-next_word c us stored
length-word_next ResetRegister c us stored = length-next_word c us stored
length-word_next MemoryBlock c us stored = length-word (memory_bits (shape_of c)) _
length-word_next CarriedOver c us stored = refl

length-taint_next : (role : Role) (c : Cell) (vs ts : List Word) (stored stored_taint : Word) → length (taint_next role c vs ts stored stored_taint) ≡ state_bits_by role c
length-taint_next Combinational c vs ts stored stored_taint = refl
length-taint_next PlainRegister c vs ts stored stored_taint = length-word (width c) _
length-taint_next ResetRegister c vs ts stored stored_taint = length-word (width c) _
length-taint_next MemoryBlock c vs ts stored stored_taint = length-word (memory_bits (shape_of c)) _
length-taint_next CarriedOver c vs ts stored stored_taint = refl

state_is : (ns : List ℕ) (c : RawCell) (k : Kind) → kind_of c.kind ≡ Some k → state_bits_by (role_of k) (cell_of ns c) ≡ state_bits (cell_of ns c)
unfolding cell_of
state_is ns c k e = ap (λ (role : Role). state_bits_by role (cell_by ns c (kind_of c.kind))) (sym (ap (λ o. role_of (cell_by ns c o).kind) e))

stored_long : (raw : Raw) (ns : List ℕ) (s : Stimulus) (k : ℕ) (c : RawCell) (kind : Kind) → IsInOrder raw → Contains raw.cells c → kind_of c.kind ≡ Some kind
    → (length (stored_word raw s k c.name) ≡ state_bits (cell_of ns c)) × (length (stored_taint_word raw s k c.name) ≡ state_bits (cell_of ns c))
stored_long raw ns s zero c kind h cell_in e = (let at = starts raw ns s c h cell_in in (
  ap length at.word ∙ length-word (state_bits (cell_of ns c)) _,
  ap length at.taint ∙ length-word (state_bits (cell_of ns c)) _,
))
stored_long raw ns s (suc k) c kind h cell_in e = (let next = advances raw ns s k (net_value raw s k) (net_taint raw s k) c kind h cell_in e (λ x n. refl) (λ x n. refl) in (
  ap length next.word ∙ length-word_next (role_of kind) (cell_of ns c) _ _ ∙ state_is ns c kind e,
  ap length next.taint ∙ length-taint_next (role_of kind) (cell_of ns c) _ _ _ _ ∙ state_is ns c kind e,
))

pub as_long : (raw : Raw) (ns : List ℕ) (s : Stimulus) (k : ℕ) (v t : ℕ → Bool) (c : RawCell) (kind : Kind) → IsInOrder raw → Contains raw.cells c → kind_of c.kind ≡ Some kind → AreAsLong ns raw s k v t c kind
as_long raw ns s k v t c kind h cell_in e = (let stored = stored_long raw ns s k c kind h cell_in e in record {
  operands = row_lengths ns (raw_bit v) c (operands_of kind) ∙ sym (widths_are ns c kind e);
  operand_taints = row_lengths ns (raw_taint t) c (operands_of kind) ∙ sym (widths_are ns c kind e);
  word = stored.0;
  taint = stored.1;
})
