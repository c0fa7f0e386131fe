-- What a run shows at the bits and in the cells of a raw module, by net numbers and names.
use Rattle.std.specs.Prelude.{ℕ, Bool, false, List, [], length, get_or, unwrap_or}
use Rattle.cif_defs.specs.Words.{Word, bit}
use Rattle.cif_defs.specs.Order.{place_among}
use Rattle.cif_defs.specs.RawModule.{net_numbers}
use Rattle.cif_defs.specs.Accepted.{place_of, source, netlist_of}
use Rattle.cif_defs.specs.Stimulus.{Stimulus, is_released}
use Rattle.cif_defs.specs.Run.{src_bit, state, value}
use Rattle.cif_defs.specs.TaintRun.{src_taint, taint, taint_state}
use Rattle.cif_defs.specs.declared.raw_module.RawBit.{RawBit}
use Rattle.cif_defs.specs.declared.raw_module.RawBit.TheVariants.{Net}
use Rattle.cif_defs.specs.declared.raw_module.RawCell.{RawCell}
use Rattle.cif_defs.specs.declared.raw_module.Raw.{Raw}

-- ---- bits

-- the value, and the taint, of a bit at cycle k
unfoldable pub value_at : Raw → Stimulus → ℕ → RawBit → Bool
value_at raw s k b = src_bit (value (netlist_of raw) s k) (source (net_numbers raw) b)

unfoldable pub taint_at : Raw → Stimulus → ℕ → RawBit → Bool
taint_at raw s k b = src_taint (taint (netlist_of raw) s k) (source (net_numbers raw) b)

-- the same of a net number
abbrev pub net_value : Raw → Stimulus → ℕ → ℕ → Bool
net_value raw s k x = value_at raw s k (Net x)

abbrev pub net_taint : Raw → Stimulus → ℕ → ℕ → Bool
net_taint raw s k x = taint_at raw s k (Net x)

-- whether a stimulus releases the net bit of a number
abbrev pub is_released_number : Raw → Stimulus → ℕ → Bool
is_released_number raw s x = is_released s.lines (place_of (net_numbers raw) x)

-- ---- cells

-- the number of the cell of a name; past the last one where there is none
abbrev pub cell_number : Raw → List ℕ → ℕ
cell_number raw name = unwrap_or (place_among (λ (c : RawCell). c.name) raw.cells name) (length raw.cells)

-- the word that the cell of a name stores at cycle k, its stored taint, and its flag
unfoldable pub stored_word : Raw → Stimulus → ℕ → List ℕ → Word
stored_word raw s k name = get_or (state (netlist_of raw) s k) (cell_number raw name) []

unfoldable pub stored_taint_word : Raw → Stimulus → ℕ → List ℕ → Word
stored_taint_word raw s k name = get_or (taint_state (netlist_of raw) s k).stored (cell_number raw name) []

unfoldable pub flag_at : Raw → Stimulus → ℕ → List ℕ → Bool
flag_at raw s k name = get_or (taint_state (netlist_of raw) s k).flags (cell_number raw name) false

-- bit i of them
abbrev pub stored_at : Raw → Stimulus → ℕ → List ℕ → ℕ → Bool
stored_at raw s k name i = bit (stored_word raw s k name) i

abbrev pub stored_taint_at : Raw → Stimulus → ℕ → List ℕ → ℕ → Bool
stored_taint_at raw s k name i = bit (stored_taint_word raw s k name) i
