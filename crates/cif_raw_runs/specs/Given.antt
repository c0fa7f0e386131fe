-- What is given to the net numbers of a raw module in a cycle, by its input ports and by its cells: equations, of which
-- none says in which order they are worked out. Cells are read with ns as the net numbers, on which nothing here depends.
use Rattle.std.specs.Prelude.{ℕ, suc, ◌*◌, ◌≡◌, Bool, true, false, List, [], ◌∷◌, map, length, get_or, take, drop, Contains, Some, if◌then◌else◌}
use Rattle.cif_defs.specs.Words.{Word, bit, operand}
use Rattle.cif_defs.specs.Kinds.{role_of}
use Rattle.cif_defs.specs.Table.{kind_of, operands_of, outputs_of}
use Rattle.cif_defs.specs.RawModule.{port_bits, output_bits, net_numbers}
use Rattle.cif_defs.specs.Cells.{Cell, width, meaning, next_word, shown_word, reset_operand, shape_of, state_bits}
use Rattle.cif_defs.specs.Fitted.{operand_widths}
use Rattle.cif_defs.specs.Memory.{read_word, read_taint, read_address, next_memory, next_memory_taint, next_flag}
use Rattle.cif_defs.specs.Completions.{can_differ}
use Rattle.cif_defs.specs.Taint.{output_taint, next_register_taint, shown_bit}
use Rattle.cif_defs.specs.Accepted.{cell_of, initial_of, is_clock, is_input, no_bit}
use Rattle.cif_defs.specs.Stimulus.{Stimulus, TaintedWord, held_by, started_by, sized, unset}
use Rattle.cif_defs.specs.declared.kinds.Kind.{Kind}
use Rattle.cif_defs.specs.declared.kinds.Role.{Role}
use Rattle.cif_defs.specs.declared.kinds.Role.TheVariants.{Combinational, PlainRegister, ResetRegister, MemoryBlock, CarriedOver}
use Rattle.cif_defs.specs.declared.raw_module.RawBit.{RawBit}
use Rattle.cif_defs.specs.declared.raw_module.RawBit.TheVariants.{Net, Zero, One, X, Z}
use Rattle.cif_defs.specs.declared.raw_module.RawPort.{RawPort}
use Rattle.cif_defs.specs.declared.raw_module.RawCell.{RawCell}
use Rattle.cif_defs.specs.declared.raw_module.Raw.{Raw}
use Rattle.cif_raw_runs.specs.Assigned.{words_read}
use Rattle.cif_raw_runs.specs.Places.{stored_word, stored_taint_word, flag_at, is_released_number}

-- ---- taints that are read

-- a bit that is read, under taints of the net numbers: constants are untainted
abbrev pub raw_taint : (ℕ → Bool) → RawBit → Bool
raw_taint t (Net x) = t x
raw_taint t Zero = false
raw_taint t One = false
raw_taint t X = false
raw_taint t Z = false

-- the taints of the words at the operands of a cell of kind k
abbrev pub taints_read : (ℕ → Bool) → RawCell → Kind → List Word
taints_read t c k = map (λ (bits : List RawBit). map (raw_taint t) bits) (map (port_bits c) (operands_of k))

-- ---- what a cell shows

abbrev pub word_width : RawCell → ℕ
word_width c = width (cell_of [] c)

-- the bits of word p that a cell shows: of output p, of a register, or of read port p of a memory
abbrev pub shown_bits : Role → RawCell → Kind → ℕ → List RawBit
shown_bits Combinational c k p = get_or (map (port_bits c) (outputs_of k)) p []
shown_bits PlainRegister c k p = output_bits c
shown_bits ResetRegister c k p = output_bits c
shown_bits MemoryBlock c k p = take (word_width c) (drop (p * word_width c) (output_bits c))
shown_bits CarriedOver c k p = []

-- the word, from the words at the operands and the word that is stored
abbrev pub word_given : Role → Cell → List Word → Word → ℕ → Word
word_given Combinational c us stored p = operand (meaning c us) p
word_given PlainRegister c us stored p = stored
word_given ResetRegister c us stored p = shown_word c (bit (operand us (reset_operand c.kind)) 0) stored
word_given MemoryBlock c us stored p = read_word (shape_of c) (read_address (shape_of c) us p) stored
word_given CarriedOver c us stored p = []

-- the taint of its bit i
abbrev pub taint_given : Role → Cell → List Word → List Word → Word → Word → Bool → ℕ → ℕ → Bool
taint_given Combinational c vs ts stored stored_taint flag p i = output_taint c p i vs ts
taint_given PlainRegister c vs ts stored stored_taint flag p i = bit stored_taint i
taint_given ResetRegister c vs ts stored stored_taint flag p i =
    can_differ (shown_bit c i) (operand vs (reset_operand c.kind) ∷ stored ∷ []) (operand ts (reset_operand c.kind) ∷ stored_taint ∷ [])
taint_given MemoryBlock c vs ts stored stored_taint flag p i =
    bit (read_taint (shape_of c) (read_address (shape_of c) vs p) (read_address (shape_of c) ts p) flag stored_taint) i
taint_given CarriedOver c vs ts stored stored_taint flag p i = false

-- ---- what all net numbers have

-- each net number has what is given to it: a bit that an input port holds, a bit that a cell gives, or 0 where it is the
-- clock; a cleared number has 0
pub record IsGiven (raw : Raw) (cleared : ℕ → Bool) (held : RawPort → ℕ → Bool) (given : RawCell → Kind → ℕ → ℕ → Bool) (v : ℕ → Bool) : Type 0 where
  pub input : (port : RawPort) (i x : ℕ) → Contains raw.ports port → is_input port ≡ true → is_clock raw x ≡ false → get_or port.bits i no_bit ≡ Net x
      → v x ≡ (if cleared x then false else held port i)
  pub cell : (c : RawCell) (k : Kind) (p i x : ℕ) → Contains raw.cells c → kind_of c.kind ≡ Some k → get_or (shown_bits (role_of k) c k p) i no_bit ≡ Net x
      → v x ≡ (if cleared x then false else given c k p i)
  pub clock : (x : ℕ) → Contains (net_numbers raw) x → is_clock raw x ≡ true → v x ≡ false

-- what an input port holds at cycle k
abbrev pub port_holds : Stimulus → ℕ → RawPort → TaintedWord
port_holds s k port = held_by s.lines port.name k unset

-- the values of a cycle
abbrev pub bit_given : List ℕ → Raw → Stimulus → ℕ → (ℕ → Bool) → RawCell → Kind → ℕ → ℕ → Bool
bit_given ns raw s k v c kind p i = bit (word_given (role_of kind) (cell_of ns c) (words_read v c kind) (stored_word raw s k c.name) p) i

abbrev pub AreValues : List ℕ → Raw → Stimulus → ℕ → (ℕ → Bool) → Type 0
AreValues ns raw s k v = IsGiven raw (λ x. false) (λ port i. bit (port_holds s k port).value i) (bit_given ns raw s k v) v

-- the taints of a cycle, beside its values v
abbrev pub bit_taint_given : List ℕ → Raw → Stimulus → ℕ → (ℕ → Bool) → (ℕ → Bool) → RawCell → Kind → ℕ → ℕ → Bool
bit_taint_given ns raw s k v t c kind p i =
    taint_given (role_of kind) (cell_of ns c) (words_read v c kind) (taints_read t c kind) (stored_word raw s k c.name) (stored_taint_word raw s k c.name) (flag_at raw s k c.name) p i

abbrev pub AreTaints : List ℕ → Raw → Stimulus → ℕ → (ℕ → Bool) → (ℕ → Bool) → Type 0
AreTaints ns raw s k v t = IsGiven raw (is_released_number raw s) (λ port i. bit (port_holds s k port).taint i) (bit_taint_given ns raw s k v t) t

-- ---- what cells store

-- what a cell starts with
abbrev pub cell_starts : List ℕ → Raw → Stimulus → RawCell → TaintedWord
cell_starts ns raw s c = sized (state_bits (cell_of ns c)) (started_by s.lines (cell_of ns c) (record { value = initial_of ns raw.names c; taint = [] }))

pub record Starts (ns : List ℕ) (raw : Raw) (s : Stimulus) (c : RawCell) : Type 0 where
  pub word : stored_word raw s 0 c.name ≡ (cell_starts ns raw s c).value
  pub taint : stored_taint_word raw s 0 c.name ≡ (cell_starts ns raw s c).taint
  pub flag : flag_at raw s 0 c.name ≡ false

-- what it stores next, from the words at its operands
abbrev pub word_next : Role → Cell → List Word → Word → Word
word_next Combinational c us stored = []
word_next PlainRegister c us stored = next_word c us stored
word_next ResetRegister c us stored = next_word c us stored
word_next MemoryBlock c us stored = next_memory (shape_of c) us stored
word_next CarriedOver c us stored = []

abbrev pub taint_next : Role → Cell → List Word → List Word → Word → Word → Word
taint_next Combinational c vs ts stored stored_taint = []
taint_next PlainRegister c vs ts stored stored_taint = next_register_taint c vs ts stored stored_taint
taint_next ResetRegister c vs ts stored stored_taint = next_register_taint c vs ts stored stored_taint
taint_next MemoryBlock c vs ts stored stored_taint = next_memory_taint (shape_of c) vs ts stored_taint
taint_next CarriedOver c vs ts stored stored_taint = []

abbrev pub flag_next : Role → Cell → List Word → List Word → Bool → Bool
flag_next MemoryBlock c vs ts flag = next_flag (shape_of c) vs ts flag
flag_next Combinational c vs ts flag = flag
flag_next PlainRegister c vs ts flag = flag
flag_next ResetRegister c vs ts flag = flag
flag_next CarriedOver c vs ts flag = flag

-- after cycle k, in which the net numbers have values v and taints t
pub record Advances (ns : List ℕ) (raw : Raw) (s : Stimulus) (k : ℕ) (v t : ℕ → Bool) (c : RawCell) (kind : Kind) : Type 0 where
  pub word : stored_word raw s (suc k) c.name ≡ word_next (role_of kind) (cell_of ns c) (words_read v c kind) (stored_word raw s k c.name)
  pub taint : stored_taint_word raw s (suc k) c.name
      ≡ taint_next (role_of kind) (cell_of ns c) (words_read v c kind) (taints_read t c kind) (stored_word raw s k c.name) (stored_taint_word raw s k c.name)
  pub flag : flag_at raw s (suc k) c.name ≡ flag_next (role_of kind) (cell_of ns c) (words_read v c kind) (taints_read t c kind) (flag_at raw s k c.name)

-- ---- how long words are

-- words at the operands, and what is stored, are as long as the cell says
pub record AreAsLong (ns : List ℕ) (raw : Raw) (s : Stimulus) (k : ℕ) (v t : ℕ → Bool) (c : RawCell) (kind : Kind) : Type 0 where
  pub operands : map length (words_read v c kind) ≡ operand_widths (cell_of ns c)
  pub operand_taints : map length (taints_read t c kind) ≡ operand_widths (cell_of ns c)
  pub word : length (stored_word raw s k c.name) ≡ state_bits (cell_of ns c)
  pub taint : length (stored_taint_word raw s k c.name) ≡ state_bits (cell_of ns c)
