-- What one write port does, and one read, is what the memory's own recursion over its ports says.
use Rattle.std.specs.Prelude.{ℕ, suc, ◌+◌, ◌-◌, ◌*◌, ◌/◌, ◌<◌, ◌≤◌, ◌≡◌, ◌≢◌, ◌==◌, nat_le, nat_lt, Bool, true, false, not, ◌&&◌, ◌||◌, List, [], ◌∷◌, map, length, refl, if◌then◌else◌}
use Rattle.std.specs.List.{list_any, range_with_len}
use Rattle.std.proofs.Common.{add-one, arith, sym, ap, ◌∙◌}
use Rattle.std.proofs.lemmas.Bool.Decides.{nat_tests}
use Rattle.std.proofs.lemmas.Nat.{div-mul-add, mod-mul-add, mul-add-lt}
use Rattle.cif_defs.specs.Cells.{Cell, shape_of}
use Rattle.cif_defs.specs.Memory.{MemoryShape, data_place, is_addressed, is_inside, is_on_or_tainted, memory_bits, next_memory_taint, read_taint, read_word, row_at, sets_flag, write_address, written_taint_bit}
use Rattle.cif_defs.specs.Words.{Word, bit, block, has_one, number, operand, word, zeros}
use Rattle.cif_defs.proofs.Numbers.{word-same}
use Rattle.cif_defs.proofs.WordLaws.{bit-word, length-word}
use Rattle.rule_state.specs.MemoryTaints.{HasPortWidths, IsPortOf, port_sets_flag, taint_after_port, taint_of_read, taint_row}
use Rattle.rule_state.proofs.BitChoices.{middle}
use Rattle.rule_state.specs.declared.memory.WritePort.{WritePort}

-- the words of such a port have the widths that the cell says
pub port_widths : (c : Cell) (vs ts : List Word) (p : ℕ) (port : WritePort) → IsPortOf (shape_of c) vs ts p port → HasPortWidths c port
port_widths c vs ts p port is = record {
  addr = ap length is.addr ∙ length-word _ _;
  addr_taint = ap length is.addr_taint ∙ length-word _ _;
  enable = ap length is.enable ∙ length-word _ _;
  enable_taint = ap length is.enable_taint ∙ length-word _ _;
  word = ap length is.word ∙ length-word _ _;
  word_taint = ap length is.word_taint ∙ length-word _ _;
}

-- ---- the flag

one_in : (f g : ℕ → Bool) (l : List ℕ) → (list_any (λ b. b) (map f l) || list_any (λ b. b) (map g l)) ≡ list_any (λ b. b) (map (λ i. f i || g i) l)
one_in f g [] = refl
one_in f g (x ∷ l) =
    middle (f x) (list_any (λ b. b) (map f l)) (g x) (list_any (λ b. b) (map g l)) ∙ ap (λ b. (f x || g x) || b) (one_in f g l)

pub port_flag : (m : MemoryShape) (vs ts : List Word) (p : ℕ) (port : WritePort) → IsPortOf m vs ts p port → port_sets_flag port ≡ sets_flag m vs ts p
port_flag m vs ts p port is =
    let e : has_one port.addr_taint ≡ has_one (write_address m ts p) = ap has_one is.addr_taint in
    let a : has_one port.enable ≡ has_one (block m.width p (operand vs 1)) = ap has_one is.enable in
    let b : has_one port.enable_taint ≡ has_one (block m.width p (operand ts 1)) = ap has_one is.enable_taint in
    ap (λ x. x && (has_one port.enable || has_one port.enable_taint)) e ∙ ap (λ x. has_one (write_address m ts p) && (x || has_one port.enable_taint)) a
    ∙ ap (λ x. has_one (write_address m ts p) && (has_one (block m.width p (operand vs 1)) || x)) b
    ∙ ap (λ x. has_one (write_address m ts p) && x) (one_in (λ i. bit (operand vs 1) (p * m.width + i)) (λ i. bit (operand ts 1) (p * m.width + i)) (range_with_len 0 m.width))

-- ---- the addressed row

-- a place of row r is addressed exactly where the address is r + OFFSET
row_test : (n o s r : ℕ) → r < s → (nat_le o n && nat_lt (n - o) s && r == n - o) ≡ (n == r + o)
row_test n o s r h = grind (arith, nat_tests)

addressed_row : (m : MemoryShape) (address : Word) (r i : ℕ) → r < m.size → i < m.width → is_addressed m address (r * m.width + i) ≡ (number address == r + m.offset)
addressed_row m address r i h l =
    ap (λ k. is_inside m address && k == row_at m address) (div-mul-add r m.width i l) ∙ row_test (number address) m.offset m.size r h

same_place : (m : MemoryShape) (p r i : ℕ) → i < m.width → data_place m p (r * m.width + i) ≡ p * m.width + i
same_place m p r i l = ap (λ k. p * m.width + k) (mod-mul-add r m.width i l)

-- a port turns the row at its own address, and any other, into the row after one more port
pub row_after_port : (m : MemoryShape) (vs ts : List Word) (p : ℕ) (port : WritePort) (taint : Word) (r : ℕ) → IsPortOf m vs ts p port → r < m.size
    → taint_after_port m.width port (r + m.offset) (taint_row m vs ts p taint r) ≡ taint_row m vs ts (suc p) taint r
unfolding written_taint_bit
row_after_port m vs ts p port taint r is h = word-same m.width _ _ (λ i l.
    let n : ℕ = m.width in
    let k : ℕ = r * n + i in
    let clean : has_one port.addr_taint ≡ has_one (write_address m ts p) = ap has_one is.addr_taint in
    let here : (number port.addr == r + m.offset) ≡ is_addressed m (write_address m vs p) k = ap (λ (w : Word). number w == r + m.offset) is.addr ∙ sym (addressed_row m (write_address m vs p) r i h l) in
    let place : p * n + i ≡ data_place m p k = sym (same_place m p r i l) in
    let on : bit port.enable i ≡ bit (operand vs 1) (data_place m p k) = ap (λ (w : Word). bit w i) is.enable ∙ bit-word n _ i false l ∙ ap (bit (operand vs 1)) place in
    let on_taint : bit port.enable_taint i ≡ bit (operand ts 1) (data_place m p k) = ap (λ (w : Word). bit w i) is.enable_taint ∙ bit-word n _ i false l ∙ ap (bit (operand ts 1)) place in
    let data_taint : bit port.word_taint i ≡ bit (operand ts 3) (data_place m p k) = ap (λ (w : Word). bit w i) is.word_taint ∙ bit-word n _ i false l ∙ ap (bit (operand ts 3)) place in
    let before : bit (taint_row m vs ts p taint r) i ≡ written_taint_bit m vs ts p taint k = bit-word n _ i false l in
    cc)

-- before the first port a row is that of the stored taint, and after the last that of the next stored taint
pub first_row : (m : MemoryShape) (vs ts : List Word) (taint : Word) (r : ℕ) → taint_row m vs ts 0 taint r ≡ word m.width (λ i. bit taint (r * m.width + i))
unfolding written_taint_bit
first_row m vs ts taint r = refl

pub last_row : (m : MemoryShape) (vs ts : List Word) (taint : Word) (r : ℕ) → r < m.size → taint_row m vs ts m.write_ports taint r ≡ word m.width (λ i. bit (next_memory_taint m vs ts taint) (r * m.width + i))
last_row m vs ts taint r h = word-same m.width _ _ (λ i l.
    sym (bit-word (memory_bits m) (λ k. written_taint_bit m vs ts m.write_ports taint k) (r * m.width + i) false (omega (arith, mul-add-lt r m.width i m.size h l))))

-- ---- all else stays

-- a place that a port doesn't write: bits of the test whether it is written
not_written : (m : MemoryShape) (vs ts : List Word) (p : ℕ) (taint : Word) (k : ℕ) → (not (has_one (write_address m ts p)) && is_addressed m (write_address m vs p) k) ≡ false
    → written_taint_bit m vs ts (suc p) taint k ≡ written_taint_bit m vs ts p taint k
unfolding written_taint_bit
not_written m vs ts p taint k h =
    ap (λ b. if b && is_on_or_tainted vs ts (data_place m p k) then bit (operand ts 3) (data_place m p k) || bit (operand ts 1) (data_place m p k) else written_taint_bit m vs ts p taint k) h

-- a port with a tainted address changes no stored taint
pub tainted_stays : (m : MemoryShape) (vs ts : List Word) (p : ℕ) (taint : Word) (k : ℕ) → has_one (write_address m ts p) ≡ true
    → written_taint_bit m vs ts (suc p) taint k ≡ written_taint_bit m vs ts p taint k
tainted_stays m vs ts p taint k h = not_written m vs ts p taint k (ap (λ b. not b && is_addressed m (write_address m vs p) k) h)

and_none : (a b : Bool) → b ≡ false → (a && b) ≡ false
and_none true b h = h
and_none false b h = refl

-- nor does one whose address lies outside
pub outside_stays : (m : MemoryShape) (vs ts : List Word) (p : ℕ) (taint : Word) (k : ℕ) → is_inside m (write_address m vs p) ≡ false
    → written_taint_bit m vs ts (suc p) taint k ≡ written_taint_bit m vs ts p taint k
outside_stays m vs ts p taint k h =
    not_written m vs ts p taint k (and_none (not (has_one (write_address m ts p))) (is_addressed m (write_address m vs p) k) (ap (λ b. b && k / m.width == row_at m (write_address m vs p)) h))

elsewhere : (n o s j : ℕ) → j + o ≢ n → (nat_le o n && nat_lt (n - o) s && j == n - o) ≡ false
elsewhere n o s j h = grind (arith, nat_tests)

-- and rows other than the addressed one stay
pub other_stays : (m : MemoryShape) (vs ts : List Word) (p : ℕ) (taint : Word) (k : ℕ) → k / m.width + m.offset ≢ number (write_address m vs p)
    → written_taint_bit m vs ts (suc p) taint k ≡ written_taint_bit m vs ts p taint k
other_stays m vs ts p taint k h =
    not_written m vs ts p taint k (and_none (not (has_one (write_address m ts p))) (is_addressed m (write_address m vs p) k) (elsewhere (number (write_address m vs p)) m.offset m.size (k / m.width) h))

-- the same row by row
pub row_tainted_stays : (m : MemoryShape) (vs ts : List Word) (p : ℕ) (taint : Word) (r : ℕ) → has_one (write_address m ts p) ≡ true → taint_row m vs ts (suc p) taint r ≡ taint_row m vs ts p taint r
row_tainted_stays m vs ts p taint r h = word-same m.width _ _ (λ i l. tainted_stays m vs ts p taint (r * m.width + i) h)

pub row_outside_stays : (m : MemoryShape) (vs ts : List Word) (p : ℕ) (taint : Word) (r : ℕ) → is_inside m (write_address m vs p) ≡ false → taint_row m vs ts (suc p) taint r ≡ taint_row m vs ts p taint r
row_outside_stays m vs ts p taint r h = word-same m.width _ _ (λ i l. outside_stays m vs ts p taint (r * m.width + i) h)

pub row_other_stays : (m : MemoryShape) (vs ts : List Word) (p : ℕ) (taint : Word) (r : ℕ) → r + m.offset ≢ number (write_address m vs p) → taint_row m vs ts (suc p) taint r ≡ taint_row m vs ts p taint r
row_other_stays m vs ts p taint r h = word-same m.width _ _ (λ i l. other_stays m vs ts p taint (r * m.width + i) (λ e. h (sym (ap (λ j. j + m.offset) (div-mul-add r m.width i l)) ∙ e)))

-- ---- reads

-- the stored taint of the addressed word, or zeros outside, is what a read of the stored taint gives
pub read_of_row : (m : MemoryShape) (address addr_taint : Word) (flag : Bool) (taint : Word) → taint_of_read addr_taint flag (read_word m address taint) ≡ read_taint m address addr_taint flag taint
unfolding read_word read_taint
read_of_row m address addr_taint flag taint =
    let stored : ℕ → Bool = λ i. is_inside m address && bit taint (row_at m address * m.width + i) in
    ap (λ n. word n (λ i. has_one addr_taint || flag || bit (word m.width stored) i)) (length-word m.width stored)
    ∙ word-same m.width _ _ (λ i l. ap (λ b. has_one addr_taint || flag || b) (bit-word m.width stored i false l))

pub read_inside : (m : MemoryShape) (address addr_taint : Word) (flag : Bool) (taint : Word) → is_inside m address ≡ true
    → taint_of_read addr_taint flag (word m.width (λ i. bit taint (row_at m address * m.width + i))) ≡ read_taint m address addr_taint flag taint
unfolding read_word
read_inside m address addr_taint flag taint h =
    ap (λ (w : Word). taint_of_read addr_taint flag w) (ap (λ b. word m.width (λ i. b && bit taint (row_at m address * m.width + i))) (sym h)) ∙ read_of_row m address addr_taint flag taint

pub read_outside : (m : MemoryShape) (address addr_taint : Word) (flag : Bool) (taint : Word) → is_inside m address ≡ false
    → taint_of_read addr_taint flag (zeros m.width) ≡ read_taint m address addr_taint flag taint
unfolding read_word
read_outside m address addr_taint flag taint h =
    ap (λ (w : Word). taint_of_read addr_taint flag w) (ap (λ b. word m.width (λ i. b && bit taint (row_at m address * m.width + i))) (sym h)) ∙ read_of_row m address addr_taint flag taint

-- ---- what the calls give

pub flag_defined : (port : WritePort) (flag : Bool) → flag ≡ port_sets_flag port
    → (m : MemoryShape) (vs ts : List Word) (p : ℕ) → IsPortOf m vs ts p port → flag ≡ sets_flag m vs ts p
flag_defined port flag h m vs ts p is = h ∙ port_flag m vs ts p port is

pub write_defined : (m : MemoryShape) (port : WritePort) (address : ℕ) (old new : Word) → m.offset ≤ address → address < m.offset + m.size → new ≡ taint_after_port m.width port address old
    → (vs ts : List Word) (p : ℕ) (taint : Word) → IsPortOf m vs ts p port → old ≡ taint_row m vs ts p taint (address - m.offset) → new ≡ taint_row m vs ts (p + 1) taint (address - m.offset)
write_defined m port address old new from inside h vs ts p taint is before =
    let r : ℕ = address - m.offset in
    let place : address ≡ r + m.offset = omega arith in
    rw add-one
    (h ∙ ap (λ (w : Word). taint_after_port m.width port address w) before ∙ ap (λ a. taint_after_port m.width port a (taint_row m vs ts p taint r)) place
    ∙ row_after_port m vs ts p port taint r is (omega arith))

pub read_defined : (addr_taint : Word) (flag : Bool) (stored w : Word) → w ≡ taint_of_read addr_taint flag stored
    → (m : MemoryShape) (address taint : Word) → stored ≡ read_word m address taint → w ≡ read_taint m address addr_taint flag taint
read_defined addr_taint flag stored w h m address taint is = h ∙ ap (λ (x : Word). taint_of_read addr_taint flag x) is ∙ read_of_row m address addr_taint flag taint
