-- What a write port leaves of a memory.
use Rattle.std.specs.Prelude.{ℕ, suc, ◌+◌, ◌-◌, ◌*◌, ◌/◌, ◌%◌, ◌<◌, ◌≤◌, ◌≡◌, ◌≢◌, ◌==◌, nat_le, nat_lt, Bool, true, false, ◌&&◌, ◌||◌, List, [], length, get_or, if◌then◌else◌, refl}
use Rattle.std.proofs.Common.{arith, ap, sym, ◌∙◌, cond, subst, add-one}
use Rattle.std.proofs.lemmas.Bool.Decides.{nat_tests}
use Rattle.std.proofs.lemmas.List.{get_or_default}
use Rattle.std.proofs.lemmas.Nat.{div-add-mod', row_fits, mod_below}
use Rattle.cif_defs.specs.Words.{Word, bit, word, block, operand, number}
use Rattle.cif_defs.specs.Meanings.{slice_word}
use Rattle.cif_defs.specs.Memory.{MemoryShape, memory_bits, write_address, is_inside, row_at, data_place, written_bit, written_taint_bit, flag_after, sets_flag}
use Rattle.cif_defs.proofs.Numbers.{word-same}
use Rattle.cif_defs.proofs.WordLaws.{length-word, bit-word, same_words}
use Rattle.rule_state.specs.MemoryTaints.{IsPortOf, taint_after_port, taint_row}
use Rattle.rule_state.specs.declared.memory.WritePort.{WritePort}
use Rattle.rule_state.proofs.MemoryLaws.{row_after_port, other_stays, outside_stays}
use Rattle.cif_cycle.specs.Rows.{IsPutAt}
use Rattle.cif_cycle.specs.Memories.{values_after, taints_after, row_written}
use Rattle.cif_cycle.proofs.PutRows.{put_bit, row_step}

-- ---- before the first port

pub none_written : (m : MemoryShape) (us : List Word) (stored : Word) → length stored ≡ memory_bits m → stored ≡ values_after m us stored 0
unfolding written_bit
none_written m us stored h = same_words stored (word (memory_bits m) (λ k. bit stored k)) (h ∙ sym (length-word (memory_bits m) _)) (λ k l. sym (bit-word (memory_bits m) _ k false (omega arith)))

pub none_tainted : (m : MemoryShape) (vs ts : List Word) (taint : Word) → length taint ≡ memory_bits m → taint ≡ taints_after m vs ts taint 0
unfolding written_taint_bit
none_tainted m vs ts taint h = same_words taint (word (memory_bits m) (λ k. bit taint k)) (h ∙ sym (length-word (memory_bits m) _)) (λ k l. sym (bit-word (memory_bits m) _ k false (omega arith)))

-- ---- the bits of a port

block_bit : (w p : ℕ) (u b : Word) (i : ℕ) → i < w → b ≡ block w p u → bit b i ≡ bit u (p * w + i)
block_bit w p u b i h e = ap (λ x. bit x i) e ∙ bit-word w (λ j. bit u (p * w + j)) i false h

chosen : (a b c d e f : Bool) → a ≡ b → c ≡ d → e ≡ f → cond a c e ≡ cond b d f
chosen a b c d e f p q r = cc

-- ---- values

value_row : (m : MemoryShape) (vs ts : List Word) (p n : ℕ) (port : WritePort) (place : ℕ) (old : Word) → IsPortOf m vs ts p port → n ≡ m.width
    → row_written n port (λ i. bit old (place + i)) ≡ word m.width (λ i. if bit (operand vs 1) (p * m.width + i) then bit (operand vs 3) (p * m.width + i) else bit old (place + i))
value_row m vs ts p n port place old h e =
    ap (λ w. row_written w port (λ i. bit old (place + i))) e
    ∙ word-same m.width _ _ (λ i l. chosen _ _ _ _ _ _ (block_bit m.width p (operand vs 1) port.enable i l h.enable) (block_bit m.width p (operand vs 3) port.word i l h.word) refl)

value_after : (hit here on d f : Bool) → here ≡ true → (if (here && hit) && on then d else f) ≡ cond hit (if on then d else f) f
value_after true true on d f e = refl
value_after false true on d f e = refl
value_after hit false on d f e = absurd (cc)

pub value_next : (m : MemoryShape) (vs ts : List Word) (p n r place : ℕ) (port : WritePort) (stored old new : Word) → 0 < m.width → IsPortOf m vs ts p port → n ≡ m.width
    → is_inside m port.addr ≡ true → r ≡ row_at m port.addr → place ≡ r * m.width
    → old ≡ values_after m vs stored p → IsPutAt place (row_written n port (λ i. bit old (place + i))) old new → new ≡ values_after m vs stored (p + 1)
unfolding written_bit
value_next m vs ts p n r place port stored old new pos h e inside row at before put =
    let w : ℕ = m.width in
    let address : Word = write_address m vs p in
    let here : is_inside m address ≡ true = ap (λ a. is_inside m a) (sym h.addr) ∙ inside in
    let row_is : r ≡ row_at m address = row ∙ ap (λ a. row_at m a) h.addr in
    let place_is : place ≡ row_at m address * w = at ∙ ap (λ k. k * w) row_is in
    rw add-one
    (row_step (memory_bits m) w (row_at m address) (λ k. written_bit m vs p stored k) (λ k. written_bit m vs (suc p) stored k) (λ i. bit (operand vs 1) (p * w + i)) (λ i. bit (operand vs 3) (p * w + i)) old new
    (row_written n port (λ i. bit old (place + i))) pos before
    (value_row m vs ts p n port place old h e ∙ ap (λ q. word w (λ i. if bit (operand vs 1) (p * w + i) then bit (operand vs 3) (p * w + i) else bit old (q + i))) place_is)
    (subst (λ q. IsPutAt q (row_written n port (λ i. bit old (place + i))) old new) place_is put)
    (λ k. value_after (k / w == row_at m address) (is_inside m address) (bit (operand vs 1) (data_place m p k)) (bit (operand vs 3) (data_place m p k)) (written_bit m vs p stored k) here))

outside_value : (hit here on d f : Bool) → here ≡ false → f ≡ (if (here && hit) && on then d else f)
outside_value hit false on d f e = refl
outside_value hit true on d f e = absurd (cc)

-- an address outside writes nothing
pub value_stays : (m : MemoryShape) (vs ts : List Word) (p : ℕ) (port : WritePort) (stored old : Word) → IsPortOf m vs ts p port → is_inside m port.addr ≡ false → old ≡ values_after m vs stored p → old ≡ values_after m vs stored (p + 1)
unfolding written_bit
value_stays m vs ts p port stored old h outside before =
    let out : is_inside m (write_address m vs p) ≡ false = ap (λ a. is_inside m a) (sym h.addr) ∙ outside in
    rw add-one
    (before ∙ word-same (memory_bits m) (λ k. written_bit m vs p stored k) (λ k. written_bit m vs (suc p) stored k)
    (λ k l. outside_value (k / m.width == row_at m (write_address m vs p)) (is_inside m (write_address m vs p)) (bit (operand vs 1) (data_place m p k)) (bit (operand vs 3) (data_place m p k)) (written_bit m vs p stored k) out))

-- ---- taints

inside_row : (n o s : ℕ) → (nat_le o n && nat_lt (n - o) s) ≡ true → (n - o < s) × (n ≡ n - o + o)
inside_row n o s h = grind (arith, nat_tests)

-- the row at an address inside
pub row_inside_of : (m : MemoryShape) (address : Word) (r : ℕ) → is_inside m address ≡ true → r ≡ row_at m address → (r < m.size) × (number address ≡ r + m.offset)
row_inside_of m address r h e = let k = inside_row (number address) m.offset m.size h in (omega (arith, k.0, k.1), omega (arith, k.0, k.1))

taint_hit : (m : MemoryShape) (vs ts : List Word) (p r : ℕ) (stored row : Word) (k : ℕ) → 0 < m.width → row ≡ taint_row m vs ts (suc p) stored r → k / m.width ≡ r → bit row (k % m.width) ≡ written_taint_bit m vs ts (suc p) stored k
taint_hit m vs ts p r stored row k pos e same =
    let w : ℕ = m.width in
    let place : r * w + k % w ≡ k = ap (λ q. q * w + k % w) (sym same) ∙ div-add-mod' k w in
    ap (λ (x : Word). bit x (k % w)) e ∙ bit-word w (λ i. written_taint_bit m vs ts (suc p) stored (r * w + i)) (k % w) false (mod_below k w pos) ∙ ap (λ i. written_taint_bit m vs ts (suc p) stored i) place

taint_by : (m : MemoryShape) (vs ts : List Word) (p r : ℕ) (stored row : Word) (k : ℕ) (t b : Bool) → 0 < m.width → row ≡ taint_row m vs ts (suc p) stored r → number (write_address m vs p) ≡ r + m.offset → (k / m.width == r) ≡ t
    → b ≡ written_taint_bit m vs ts p stored k → cond t (bit row (k % m.width)) b ≡ written_taint_bit m vs ts (suc p) stored k
taint_by m vs ts p r stored row k true b pos e at hit before = taint_hit m vs ts p r stored row k pos e (grind (arith, nat_tests))
taint_by m vs ts p r stored row k false b pos e at hit before = before ∙ sym (other_stays m vs ts p stored k (let other : k / m.width ≢ r = grind (arith, nat_tests) in λ q. other (omega arith)))

pub taint_next : (m : MemoryShape) (vs ts : List Word) (p n r place address : ℕ) (port : WritePort) (stored old new : Word) → 0 < m.width → IsPortOf m vs ts p port → n ≡ m.width
    → is_inside m port.addr ≡ true → r ≡ row_at m port.addr → place ≡ r * m.width → address ≡ r + m.offset
    → old ≡ taints_after m vs ts stored p → IsPutAt place (taint_after_port n port address (word n (λ i. bit old (place + i)))) old new → new ≡ taints_after m vs ts stored (p + 1)
taint_next m vs ts p n r place address port stored old new pos h e inside row at is before put =
    let w : ℕ = m.width in
    let size : ℕ = memory_bits m in
    let row_is = row_inside_of m port.addr r inside row in
    let number_is : number (write_address m vs p) ≡ r + m.offset = ap number (sym h.addr) ∙ row_is.1 in
    let low : r < m.size = row_is.0 in
    let whole : length old ≡ size = ap length before ∙ length-word size _ in
    let seen : word n (λ i. bit old (place + i)) ≡ taint_row m vs ts p stored r =
    ap (λ x. word x (λ i. bit old (place + i))) e ∙ word-same w _ _ (λ i l.
    let inside_i : r * w + i < size = (let fits = row_fits r w m.size w low (omega arith) in omega arith) in
    ap (λ q. bit old (q + i)) at ∙ ap (λ (x : Word). bit x (r * w + i)) before ∙ bit-word size _ (r * w + i) false inside_i) in
    let made : taint_after_port n port address (word n (λ i. bit old (place + i))) ≡ taint_row m vs ts (suc p) stored r =
    ap (λ (x : Word). taint_after_port n port address x) seen ∙ ap (λ x. taint_after_port x port address (taint_row m vs ts p stored r)) e ∙ ap (λ x. taint_after_port w port x (taint_row m vs ts p stored r)) is
    ∙ row_after_port m vs ts p port stored r h low in
    let put_at : IsPutAt (r * w) (taint_after_port n port address (word n (λ i. bit old (place + i)))) old new = subst (λ q. IsPutAt q (taint_after_port n port address (word n (λ i. bit old (place + i)))) old new) at put in
    rw add-one
    (same_words new (word size (λ k. written_taint_bit m vs ts (suc p) stored k)) (put.as_long ∙ whole ∙ sym (length-word size _)) (λ k l.
    let below : k < size = (let q : length new ≡ size = put.as_long ∙ whole in omega arith) in
    put_bit w r _ old new pos (ap length made ∙ length-word w _) put_at k
    ∙ taint_by m vs ts p r stored _ k (k / w == r) (bit old k) pos made number_is refl (ap (λ (x : Word). bit x k) before ∙ bit-word size _ k false below)
    ∙ sym (bit-word size (λ j. written_taint_bit m vs ts (suc p) stored j) k false below)))

pub taint_stays : (m : MemoryShape) (vs ts : List Word) (p : ℕ) (port : WritePort) (stored old : Word) → IsPortOf m vs ts p port → is_inside m port.addr ≡ false → old ≡ taints_after m vs ts stored p → old ≡ taints_after m vs ts stored (p + 1)
taint_stays m vs ts p port stored old h outside before =
    rw add-one (before ∙ word-same (memory_bits m) _ _ (λ k l. sym (outside_stays m vs ts p stored k (ap (λ a. is_inside m a) (sym h.addr) ∙ outside))))

-- ---- the flag

pub flag_more : (m : MemoryShape) (vs ts : List Word) (p : ℕ) (first old sets new : Bool) → old ≡ flag_after m vs ts p first → sets ≡ sets_flag m vs ts p → new ≡ (old || sets) → new ≡ flag_after m vs ts (p + 1) first
unfolding flag_after
flag_more m vs ts p first old sets new before e is = rw add-one (is ∙ ap (λ b. b || sets) before ∙ ap (λ b. flag_after m vs ts p first || b) e)

pub flag_none : (m : MemoryShape) (vs ts : List Word) (first : Bool) → first ≡ flag_after m vs ts 0 first
unfolding flag_after
flag_none m vs ts first = refl

-- ---- as the code has the parts

pub block_is : (n at k : ℕ) (words : List Word) (joined b : Word) → at < length words → joined ≡ get_or words at joined → b ≡ slice_word n (k * n) joined → b ≡ block n k (operand words at)
block_is n at k words joined b h is e = e ∙ ap (λ (x : Word). slice_word n (k * n) x) (is ∙ get_or_default words at joined [] h)

pub joined_long : (words : List Word) (at n : ℕ) (joined : Word) → at < length words → joined ≡ get_or words at joined → n ≤ length (operand words at) → n ≤ length joined
joined_long words at n joined h is l = (let e : length joined ≡ length (operand words at) = ap length (is ∙ get_or_default words at joined [] h) in omega arith)

pub sized_block : (k : ℕ) (w b : Word) (n m : ℕ) → b ≡ block n k w → n ≡ m → b ≡ block m k w
sized_block k w b n m e is = e ∙ ap (λ x. block x k w) is
