-- The support of a place: the places that can taint it, in a fixed order.
use Rattle.std.specs.Prelude.{ℕ, suc, ◌+◌, ◌-◌, ◌*◌, ◌/◌, ◌%◌, nat_lt, Bool, not, ◌&&◌, ◌==◌, List, [], ◌∷◌, ◌++◌, map, length, get_or, take, filter_map, flat_map, if◌then◌else◌}
use Rattle.std.specs.List.{range_with_len}
use Rattle.cif_defs.specs.Words.{has_one, number}
use Rattle.cif_defs.specs.Cells.{Cell, width, number_of, a_signed, both_signed, reset_operand, shape_of}
use Rattle.cif_defs.specs.Memory.{is_inside, read_address, write_address}
use Rattle.cif_defs.specs.Netlist.{Netlist, cell_at, operand_at}
use Rattle.cif_defs.specs.Run.{operand_words}
use Rattle.cif_defs.specs.TaintRun.{operand_taints}
use Rattle.cif_defs.specs.declared.kinds.Role.{Role}
use Rattle.cif_defs.specs.declared.kinds.Role.TheVariants.{Combinational, PlainRegister, ResetRegister, MemoryBlock, CarriedOver}
use Rattle.cif_defs.specs.declared.kinds.Kind.{Kind}
use Rattle.cif_defs.specs.declared.kinds.Kind.TheVariants.{Not, Pos, Neg, And, Or, Xor, Xnor, Add, Sub, Mul, Mux, Pmux, Concat, Slice, Fa, Alu}
use Rattle.cif_defs.specs.declared.kinds.Param.TheVariants.{AWidth, Offset, Abits, WrPorts}
use Rattle.cif_supports.specs.declared.places.Place.{Place}
use Rattle.cif_supports.specs.declared.places.Place.TheVariants.{Input, State, Word, Flag, Out}
use Rattle.cif_supports.specs.Places.{place_read}

-- ---- operand bits, each by its operand and its place in it

abbrev pub OperandBit : Type 0
OperandBit = ℕ × ℕ

-- count bits of operand p from a place on, lowest first
abbrev pub bits_from : ℕ → ℕ → ℕ → List OperandBit
bits_from p start count = map (λ i. (p, start + i)) (range_with_len 0 count)

-- the bits of operand p
abbrev pub bits_of : Cell → ℕ → List OperandBit
bits_of c p = bits_from p 0 (length (get_or c.operands p []))

-- all operand bits, operand by operand
abbrev pub all_bits : Cell → List OperandBit
all_bits c = flat_map (bits_of c) (range_with_len 0 (length c.operands))

-- the bit of operand p that extension puts at place i; none where it fills with 0
abbrev pub extended_at : Bool → Cell → ℕ → ℕ → List OperandBit
extended_at signed c p i =
    if nat_lt i (length (get_or c.operands p [])) then (p, i) ∷ []
    else (if signed then (p, length (get_or c.operands p []) - 1) ∷ [] else [])

-- the bits of operand p that extension puts at places 0 to i, each once
abbrev pub low_bits : Cell → ℕ → ℕ → List OperandBit
low_bits c p i = take (suc i) (bits_of c p)

-- ---- what bit i of an output of a combinational cell reads

abbrev pub pair_at : Cell → ℕ → List OperandBit
pair_at c i = extended_at (both_signed c) c 0 i ++ extended_at (both_signed c) c 1 i

abbrev pub low_pairs : Cell → ℕ → List OperandBit
low_pairs c i = low_bits c 0 i ++ low_bits c 1 i

-- bit i of A, bit i of each word of B, and all of S, which has a bit for each of these words
abbrev pub chosen_at : Cell → ℕ → List OperandBit
chosen_at c i = (0, i) ∷ map (λ k. (1, k * width c + i)) (range_with_len 0 (length (get_or c.operands 2 []))) ++ bits_of c 2

abbrev pub joined_at : Cell → ℕ → List OperandBit
joined_at c i = if nat_lt i (number_of c AWidth) then (0, i) ∷ [] else (1, i - number_of c AWidth) ∷ []

unfoldable pub bits_read : Kind → Cell → ℕ → List OperandBit
bits_read Not c i = extended_at (a_signed c) c 0 i
bits_read Pos c i = extended_at (a_signed c) c 0 i
bits_read And c i = pair_at c i
bits_read Or c i = pair_at c i
bits_read Xor c i = pair_at c i
bits_read Xnor c i = pair_at c i
bits_read Mux c i = chosen_at c i
bits_read Pmux c i = chosen_at c i
bits_read Fa c i = (0, i) ∷ (1, i) ∷ (2, i) ∷ []
bits_read Concat c i = joined_at c i
bits_read Slice c i = (0, number_of c Offset + i) ∷ []
bits_read Neg c i = low_bits c 0 i
bits_read Add c i = low_pairs c i
bits_read Sub c i = low_pairs c i
bits_read Mul c i = low_pairs c i
bits_read Alu c i = low_pairs c i ++ (2, 0) ∷ (3, 0) ∷ []
bits_read _ c i = all_bits c

-- ---- supports

-- the places that operand bits of a cell read
abbrev pub places_read : Netlist → Cell → List OperandBit → List Place
places_read n c bits = filter_map (λ b. place_read n (operand_at c b.0 b.1)) bits

-- bit i of the word that memory c holds at the address of read port r, where it lies inside
abbrev pub word_read : Netlist → (ℕ → Bool) → ℕ → ℕ → ℕ → List Place
word_read n v c r i =
    if is_inside (shape_of (cell_at n c)) (read_address (shape_of (cell_at n c)) (operand_words v (cell_at n c)) r)
    then Word c (number (read_address (shape_of (cell_at n c)) (operand_words v (cell_at n c)) r)) i ∷ [] else []

-- what bit i of an output of cell c follows in the same cycle, where the net bits have values v
unfoldable pub shown_support : Role → Netlist → (ℕ → Bool) → ℕ → ℕ → List Place
shown_support Combinational n v c i = places_read n (cell_at n c) (bits_read (cell_at n c).kind (cell_at n c) i)
shown_support PlainRegister n v c i = State c i ∷ []
shown_support ResetRegister n v c i = places_read n (cell_at n c) ((reset_operand (cell_at n c).kind, 0) ∷ []) ++ State c i ∷ []
shown_support MemoryBlock n v c i =
    places_read n (cell_at n c) (bits_from 0 (i / width (cell_at n c) * number_of (cell_at n c) Abits) (number_of (cell_at n c) Abits))
    ++ Flag c ∷ word_read n v c (i / width (cell_at n c)) (i % width (cell_at n c))
shown_support CarriedOver n v c i = []

-- what bit i of a register stores: D at that place, and each control
abbrev pub register_bits : Cell → ℕ → List OperandBit
register_bits c i = (0, i) ∷ map (λ p. (p, 0)) (range_with_len 1 (length c.operands - 1))

-- the enable and the datum of a write port for bit i of a word
abbrev pub lane_bits : Cell → ℕ → ℕ → List OperandBit
lane_bits c i port = (1, port * width c + i) ∷ (3, port * width c + i) ∷ []

-- what a write port gives to bit i of the word at an address, where its own address is untainted and is that one
abbrev pub written_bits : Cell → (ℕ → Bool) → (ℕ → Bool) → ℕ → ℕ → ℕ → List OperandBit
written_bits c v t address i port =
    if not (has_one (write_address (shape_of c) (operand_taints t c) port)) && number (write_address (shape_of c) (operand_words v c) port) == address
    then lane_bits c i port else []

-- the address and the enables of a write port
abbrev pub port_bits : Cell → ℕ → List OperandBit
port_bits c port = bits_from 2 (port * number_of c Abits) (number_of c Abits) ++ bits_from 1 (port * width c) (width c)

abbrev pub for_ports : Cell → (ℕ → List OperandBit) → List OperandBit
for_ports c bits = flat_map bits (range_with_len 0 (number_of c WrPorts))

-- what a stored bit or a flag follows in the cycle before, in which the net bits have values v and taints t
unfoldable pub stored_support : Netlist → (ℕ → Bool) → (ℕ → Bool) → Place → List Place
stored_support n v t (State c i) = places_read n (cell_at n c) (register_bits (cell_at n c) i) ++ State c i ∷ []
stored_support n v t (Word c address i) = places_read n (cell_at n c) (for_ports (cell_at n c) (written_bits (cell_at n c) v t address i)) ++ Word c address i ∷ []
stored_support n v t (Flag c) = places_read n (cell_at n c) (for_ports (cell_at n c) (port_bits (cell_at n c))) ++ Flag c ∷ []
stored_support n v t (Input p i) = []
stored_support n v t (Out c p i) = []
