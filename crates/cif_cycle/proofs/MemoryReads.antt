-- The addresses and the joined words of the read ports of a memory.
use Rattle.std.specs.Prelude.{ℕ, zero, suc, ◌+◌, ◌-◌, ◌*◌, ◌/◌, ◌%◌, ◌<◌, ◌≤◌, ◌≡◌, Bool, true, false, ◌&&◌, List, [], ◌∷◌, ◌++◌, map, length, get_or, take, drop, refl}
use Rattle.std.proofs.Common.{arith, ap, sym, ◌∙◌, inl, inr}
use Rattle.std.proofs.Math.Nat.{mul-le-mul_right}
use Rattle.std.proofs.lemmas.Nat.{div-mul-add, mod-mul-add}
use Rattle.std.proofs.lemmas.List.{get_or-drop, get_or-take, get_or_append_left, get_or-append_right, length-append, length-drop, length-map, length-take-le}
use Rattle.cif_defs.specs.Words.{Word, bit, block, word, operand, zeros}
use Rattle.cif_defs.specs.Kinds.{role_of}
use Rattle.cif_defs.specs.Cells.{Cell, number_of, shape_of, width}
use Rattle.cif_defs.specs.Memory.{MemoryShape, is_inside, read_address, read_taint, read_word, row_at}
use Rattle.cif_defs.specs.Fitted.{IsFitted}
use Rattle.cif_defs.specs.Run.{operand_words, src_bit, src_word}
use Rattle.cif_defs.specs.TaintRun.{operand_taints, src_taint, taint_word}
use Rattle.cif_defs.specs.declared.kinds.Param.TheVariants.{Abits, RdPorts}
use Rattle.cif_defs.specs.declared.kinds.Role.TheVariants.{MemoryBlock}
use Rattle.cif_defs.specs.declared.nets.Src.{Src}
use Rattle.cif_defs.specs.declared.nets.Src.TheVariants.{Zero}
use Rattle.cif_defs.proofs.Levels.{operand-words_under}
use Rattle.cif_defs.proofs.TaintSettles.{operand-taints_under}
use Rattle.cif_defs.proofs.WordLaws.{bit-word, le_or_lt, length-word, same_words}
use Rattle.cif_kinds.specs.StateCells.{HasMemoryPorts}
use Rattle.cif_cells.proofs.MemoryCells.{memory_ports}
use Rattle.cif_cycle.specs.CellWords.{read_taints, read_words}
use Rattle.cif_register_bits.proofs.SourceWidths.{length-source, length-taint, words_wide}

-- ---- the address of a port

source_at : (v : ℕ → Bool) (ss : List Src) (i : ℕ) → bit (src_word v ss) i ≡ src_bit v (get_or ss i Zero)
source_at v [] i = refl
source_at v (s ∷ ss) zero = refl
source_at v (s ∷ ss) (suc i) = source_at v ss i

taint_at : (v : ℕ → Bool) (ss : List Src) (i : ℕ) → bit (taint_word v ss) i ≡ src_taint v (get_or ss i Zero)
taint_at v [] i = refl
taint_at v (s ∷ ss) zero = refl
taint_at v (s ∷ ss) (suc i) = taint_at v ss i

length-part : (ss : List Src) (a m : ℕ) → a + m ≤ length ss → length (take m (drop a ss)) ≡ m
length-part ss a m h = length-take-le m (drop a ss) (let e : length (drop a ss) ≡ length ss - a = length-drop a ss in omega arith)

part_at : (ss : List Src) (a m i : ℕ) → i < m → get_or (take m (drop a ss)) i Zero ≡ get_or ss (a + i) Zero
part_at ss a m i l = get_or-take m (drop a ss) i Zero l ∙ get_or-drop a ss i Zero

length-take-bound : {A : Type 0} (n : ℕ) (xs : List A) → length (take n xs) ≤ n
length-take-bound zero xs = omega arith
length-take-bound (suc n) [] = omega arith
length-take-bound (suc n) (x ∷ xs) = let l : length (take n xs) ≤ n = length-take-bound n xs in omega arith

-- a part has few bits
pub narrow_part : (ss us : List Src) (a m n : ℕ) → us ≡ take m (drop a ss) → m ≡ n → n ≤ 32 → length us ≤ 65536
narrow_part ss us a m n e h l = let e : length us ≡ length (take m (drop a ss)) = ap length e in let low : length (take m (drop a ss)) ≤ m = length-take-bound m (drop a ss) in omega arith

-- the word of a part of what is read is a part of the word
source_part : (v : ℕ → Bool) (ss : List Src) (a m : ℕ) → a + m ≤ length ss → src_word v (take m (drop a ss)) ≡ word m (λ i. bit (src_word v ss) (a + i))
source_part v ss a m h =
    let size : length (src_word v (take m (drop a ss))) ≡ m = length-source v (take m (drop a ss)) ∙ length-part ss a m h in
    same_words (src_word v (take m (drop a ss))) (word m (λ i. bit (src_word v ss) (a + i))) (size ∙ sym (length-word m _)) (λ i l.
    let low : i < m = omega arith in
    source_at v (take m (drop a ss)) i ∙ ap (src_bit v) (part_at ss a m i low) ∙ sym (source_at v ss (a + i)) ∙ sym (bit-word m _ i false low))

taint_part : (v : ℕ → Bool) (ss : List Src) (a m : ℕ) → a + m ≤ length ss → taint_word v (take m (drop a ss)) ≡ word m (λ i. bit (taint_word v ss) (a + i))
taint_part v ss a m h =
    let size : length (taint_word v (take m (drop a ss))) ≡ m = length-taint v (take m (drop a ss)) ∙ length-part ss a m h in
    same_words (taint_word v (take m (drop a ss))) (word m (λ i. bit (taint_word v ss) (a + i))) (size ∙ sym (length-word m _)) (λ i l.
    let low : i < m = omega arith in
    taint_at v (take m (drop a ss)) i ∙ ap (src_taint v) (part_at ss a m i low) ∙ sym (taint_at v ss (a + i)) ∙ sym (bit-word m _ i false low))

pub ports_of_memory : (c : Cell) (v : ℕ → Bool) → role_of c.kind ≡ MemoryBlock → IsFitted c → HasMemoryPorts c (operand_words v c)
ports_of_memory c v e f = memory_ports c (operand_words v c) e f (words_wide v c.operands)

pub part_ends : (port ports m : ℕ) → port < ports → port * m + m ≤ ports * m
part_ends port ports m l =
    let more : suc port ≤ ports = omega arith in
    let low : suc port * m ≤ ports * m = mul-le-mul_right m more in omega arith

-- the bits of the read addresses of a memory
pub addresses_long : (c : Cell) → role_of c.kind ≡ MemoryBlock → IsFitted c → length (get_or c.operands 0 []) ≡ number_of c RdPorts * number_of c Abits
addresses_long c e f =
    let v : ℕ → Bool = λ b. false in
    sym (length-source v (get_or c.operands 0 [])) ∙ sym (ap length (operand-words_under v c.operands 0)) ∙ (ports_of_memory c v e f).read_address

-- a memory has its read addresses
pub has_operand : (c : Cell) → role_of c.kind ≡ MemoryBlock → IsFitted c → 0 < length c.operands
has_operand c e f =
    let v : ℕ → Bool = λ b. false in
    let four : length (operand_words v c) ≡ 4 = (ports_of_memory c v e f).operands in
    let same : length (map length (operand_words v c)) ≡ length (map length c.operands) = ap length (words_wide v c.operands) in
    let first : length (map length (operand_words v c)) ≡ length (operand_words v c) = length-map (operand_words v c) length in
    let second : length (map length c.operands) ≡ length c.operands = length-map c.operands length in
    omega arith

-- the part of a port lies inside them
pub port_inside : (c : Cell) (ss : List Src) (port m : ℕ) → role_of c.kind ≡ MemoryBlock → IsFitted c → ss ≡ get_or c.operands 0 [] → m ≡ number_of c Abits → port < number_of c RdPorts → port * m + m ≤ length ss
port_inside c ss port m e f h q l =
    let long : length ss ≡ number_of c RdPorts * number_of c Abits = ap length h ∙ addresses_long c e f in
    let ends : port * number_of c Abits + number_of c Abits ≤ number_of c RdPorts * number_of c Abits = part_ends port (number_of c RdPorts) (number_of c Abits) l in
    let same : port * m + m ≡ port * number_of c Abits + number_of c Abits = ap (λ k. port * k + k) q in
    omega arith

pub address_value : (c : Cell) (v : ℕ → Bool) (joined ss : List Src) (w : Word) (port m : ℕ) → joined ≡ get_or c.operands 0 [] → ss ≡ take m (drop (port * m) joined) → m ≡ number_of c Abits → port * m + m ≤ length joined → w ≡ src_word v ss
    → w ≡ read_address (shape_of c) (operand_words v c) port
address_value c v joined ss w port m j h e l g =
    g ∙ ap (src_word v) h ∙ source_part v joined (port * m) m l
    ∙ ap (λ (u : Word). word m (λ i. bit u (port * m + i))) (ap (src_word v) j ∙ sym (operand-words_under v c.operands 0)) ∙ ap (λ k. block k port (operand (operand_words v c) 0)) e

pub address_taint : (c : Cell) (v : ℕ → Bool) (joined ss : List Src) (w : Word) (port m : ℕ) → joined ≡ get_or c.operands 0 [] → ss ≡ take m (drop (port * m) joined) → m ≡ number_of c Abits → port * m + m ≤ length joined → w ≡ taint_word v ss
    → w ≡ read_address (shape_of c) (operand_taints v c) port
address_taint c v joined ss w port m j h e l g =
    g ∙ ap (taint_word v) h ∙ taint_part v joined (port * m) m l
    ∙ ap (λ (u : Word). word m (λ i. bit u (port * m + i))) (ap (taint_word v) j ∙ sym (operand-taints_under v c.operands 0)) ∙ ap (λ k. block k port (operand (operand_taints v c) 0)) e

-- ---- the row at an address

same_word : (n : ℕ) (f g : ℕ → Bool) → ((i : ℕ) → i < n → f i ≡ g i) → word n f ≡ word n g
same_word n f g h = same_words (word n f) (word n g) (length-word n f ∙ sym (length-word n g)) (λ i l.
    let low : i < n = (let e : length (word n f) ≡ n = length-word n f in omega arith) in
    bit-word n f i false low ∙ h i low ∙ sym (bit-word n g i false low))

with_true : (t x : Bool) → t ≡ true → x ≡ (t && x)
with_true true x e = refl
with_true false x e = absurd (cc)

with_false : (t x : Bool) → t ≡ false → false ≡ (t && x)
with_false true x e = absurd (cc)
with_false false x e = refl

pub row_outside : (m : MemoryShape) (address stored w : Word) → is_inside m address ≡ false → w ≡ zeros m.width → w ≡ read_word m address stored
unfolding read_word
row_outside m address stored w e h = h ∙ same_word m.width (λ i. false) _ (λ i l. with_false (is_inside m address) _ e)

pub row_inside : (m : MemoryShape) (address stored w : Word) (at : ℕ) → is_inside m address ≡ true → at ≡ row_at m address * m.width → w ≡ word m.width (λ i. bit stored (at + i)) → w ≡ read_word m address stored
unfolding read_word
row_inside m address stored w at e q h =
    h ∙ same_word m.width (λ i. bit stored (at + i)) _ (λ i l. ap (λ (x : ℕ). bit stored (x + i)) q ∙ with_true (is_inside m address) _ e)

-- ---- joined words

word_append : (n m : ℕ) (f : ℕ → Bool) (u : Word) → length u ≡ m → ((i : ℕ) → i < m → bit u i ≡ f (n + i)) → word n f ++ u ≡ word (n + m) f
word_append n m f u e h =
    let size : length (word n f ++ u) ≡ n + m = length-append (word n f) u ∙ ap (λ x. x + length u) (length-word n f) ∙ ap (λ x. n + x) e in
    same_words (word n f ++ u) (word (n + m) f) (size ∙ sym (length-word (n + m) f)) (λ i l.
    elim (le_or_lt i n) [
      | inl low ↦ get_or_append_left (word n f) u false i (let q : length (word n f) ≡ n = length-word n f in omega arith) ∙ bit-word n f i false low ∙ sym (bit-word (n + m) f i false (omega arith))
      | inr high ↦ get_or-append_right (word n f) u n i false (length-word n f) high ∙ h (i - n) (omega arith) ∙ ap f (omega arith) ∙ sym (bit-word (n + m) f i false (omega arith))
    ])

pub joined_more : (m port : ℕ) (f : ℕ → ℕ → Bool) (old new u : Word) → old ≡ word (port * m) (λ k. f (k / m) (k % m)) → new ≡ old ++ u → length u ≡ m → ((i : ℕ) → i < m → bit u i ≡ f port i) → new ≡ word ((port + 1) * m) (λ k. f (k / m) (k % m))
joined_more m port f old new u e q l h =
    q ∙ ap (λ (x : Word). x ++ u) e
    ∙ word_append (port * m) m (λ k. f (k / m) (k % m)) u l (λ i low. h i low ∙ sym (ap (λ x. f x ((port * m + i) % m)) (div-mul-add port m i low) ∙ ap (f port) (mod-mul-add port m i low)))
    ∙ ap (λ k. word k (λ j. f (j / m) (j % m))) (omega arith)

pub reads_more : (c : Cell) (port : ℕ) (us : List Word) (stored old new u : Word) → old ≡ read_words c port us stored → new ≡ old ++ u → u ≡ read_word (shape_of c) (read_address (shape_of c) us port) stored → new ≡ read_words c (port + 1) us stored
unfolding read_word
reads_more c port us stored old new u e q h =
    joined_more (width c) port (λ r i. bit (read_word (shape_of c) (read_address (shape_of c) us r) stored) i) old new u e q (ap length h ∙ length-word (width c) _) (λ i l. ap (λ (x : Word). bit x i) h)

pub taints_more : (c : Cell) (port : ℕ) (vs ts : List Word) (flag : Bool) (taint old new u : Word) → old ≡ read_taints c port vs ts flag taint → new ≡ old ++ u
    → u ≡ read_taint (shape_of c) (read_address (shape_of c) vs port) (read_address (shape_of c) ts port) flag taint → new ≡ read_taints c (port + 1) vs ts flag taint
unfolding read_taint
taints_more c port vs ts flag taint old new u e q h =
    joined_more (width c) port (λ r i. bit (read_taint (shape_of c) (read_address (shape_of c) vs r) (read_address (shape_of c) ts r) flag taint) i) old new u e q (ap length h ∙ length-word (width c) _) (λ i l. ap (λ (x : Word). bit x i) h)

-- the same, at an address that is known
pub at_address : (c : Cell) (stored address known u : Word) → address ≡ known → u ≡ read_word (shape_of c) address stored → u ≡ read_word (shape_of c) known stored
at_address c stored address known u e h = h ∙ ap (λ (a : Word). read_word (shape_of c) a stored) e

pub at_addresses : (c : Cell) (flag : Bool) (taint address known address_taint known_taint u : Word) → address ≡ known → address_taint ≡ known_taint → u ≡ read_taint (shape_of c) address address_taint flag taint → u ≡ read_taint (shape_of c) known known_taint flag taint
at_addresses c flag taint address known address_taint known_taint u e f h =
    h ∙ ap (λ (a : Word). read_taint (shape_of c) a address_taint flag taint) e ∙ ap (λ (a : Word). read_taint (shape_of c) known a flag taint) f

-- a row has few bits
pub narrow_row : (n m : ℕ) (f : ℕ → Bool) (w : Word) → w ≡ word n f → n ≡ m → m ≤ 4096 → length w ≤ 65536
narrow_row n m f w e h l = let q : length w ≡ n = ap length e ∙ length-word n f in omega arith
