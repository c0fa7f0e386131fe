-- The words with which the cells of a netlist start have as many bits as the cells store.
use Rattle.std.specs.Prelude.{ℕ, zero, suc, ◌<◌, ◌≡◌, List, [], ◌∷◌, length, map, get_or, refl}
use Rattle.std.proofs.Common.{arith, sym, ap, ◌∙◌}
use Rattle.std.proofs.lemmas.List.{length-map}
use Rattle.cif_defs.specs.Words.{bit}
use Rattle.cif_defs.specs.Kinds.{role_of}
use Rattle.cif_defs.specs.Cells.{Cell, state_bits, state_bits_by, width}
use Rattle.cif_defs.specs.RawModule.{net_numbers, digits_given, output_bits}
use Rattle.cif_defs.specs.Accepted.{netlist_of, cell_of, initial_by, initial_of, initial_bit, no_bit}
use Rattle.cif_defs.specs.Netlist.{cell_at, no_cell}
use Rattle.cif_defs.specs.declared.kinds.Role.{Role}
use Rattle.cif_defs.specs.declared.kinds.Role.TheVariants.{Combinational, PlainRegister, ResetRegister, MemoryBlock, CarriedOver}
use Rattle.cif_defs.specs.declared.kinds.Param.TheVariants.{Init}
use Rattle.cif_defs.specs.declared.raw_module.RawCell.{RawCell}
use Rattle.cif_defs.specs.declared.raw_module.RawName.{RawName}
use Rattle.cif_defs.specs.declared.raw_module.Raw.{Raw}
use Rattle.cif_defs.proofs.WordLaws.{length-word}

by_role : (names : List RawName) (c : RawCell) (cell : Cell) (role : Role) → role_of cell.kind ≡ role → length (initial_by names c cell role) ≡ state_bits cell
by_role names c cell PlainRegister e = length-word (width cell) (λ i. initial_bit names (get_or (output_bits c) i no_bit)) ∙ ap (λ (r : Role). state_bits_by r cell) (sym e)
by_role names c cell ResetRegister e = length-word (width cell) (λ i. initial_bit names (get_or (output_bits c) i no_bit)) ∙ ap (λ (r : Role). state_bits_by r cell) (sym e)
by_role names c cell MemoryBlock e = length-word (state_bits cell) (λ i. bit (digits_given c Init) i)
by_role names c cell Combinational e = ap (λ (r : Role). state_bits_by r cell) (sym e)
by_role names c cell CarriedOver e = ap (λ (r : Role). state_bits_by r cell) (sym e)

of_cell : (ns : List ℕ) (names : List RawName) (c : RawCell) → length (initial_of ns names c) ≡ state_bits (cell_of ns c)
unfolding initial_of
of_cell ns names c = by_role names c (cell_of ns c) (role_of (cell_of ns c).kind) refl

of_cells : (ns : List ℕ) (names : List RawName) (cells : List RawCell) (c : ℕ) → c < length (map (cell_of ns) cells)
    → length (get_or (map (initial_of ns names) cells) c []) ≡ state_bits (get_or (map (cell_of ns) cells) c no_cell)
of_cells ns names [] c l = absurd (omega arith)
of_cells ns names (cell ∷ cells) zero l = of_cell ns names cell
of_cells ns names (cell ∷ cells) (suc c) l = of_cells ns names cells c (omega arith)

-- one word for each cell
pub initial_words : (raw : Raw) → length (netlist_of raw).initial ≡ length (netlist_of raw).cells
unfolding netlist_of
initial_words raw = length-map raw.cells (initial_of (net_numbers raw) raw.names) ∙ sym (length-map raw.cells (cell_of (net_numbers raw)))

pub initial_bits : (raw : Raw) (c : ℕ) → c < length (netlist_of raw).cells → length (get_or (netlist_of raw).initial c []) ≡ state_bits (cell_at (netlist_of raw) c)
unfolding netlist_of
initial_bits raw c l = of_cells (net_numbers raw) raw.names raw.cells c l
