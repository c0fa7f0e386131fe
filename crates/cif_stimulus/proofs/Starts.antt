-- What a cell starts with, line by line and bit by bit.
use Rattle.std.specs.Prelude.{ℕ, zero, suc, ◌+◌, ◌-◌, ◌*◌, ◌/◌, ◌%◌, ◌<◌, ◌≤◌, ◌≡◌, ◌≢◌, nat_lt, ◌==◌, Bool, true, false, List, [], ◌∷◌, ◌++◌, map, length, get_or, take, drop, bytes_eq, refl}
use Rattle.std.proofs.Common.{arith, sym, ap, subst, ◌∙◌, if◌then◌else◌}
use Rattle.std.specs.List.{list_any}
use Rattle.std.proofs.lemmas.List.{take_more, take_all, take-append-drop, map-append, get_or_default, length-map}
use Rattle.std.proofs.lemmas.Bool.Decides.{nat_tests}
use Rattle.std.proofs.Math.Nat.{mul-zero}
use Rattle.cif_defs.specs.Words.{bit}
use Rattle.cif_defs.proofs.WordLaws.{bit-word, past_word}
use Rattle.cif_defs.specs.Kinds.{role_of}
use Rattle.cif_defs.specs.declared.kinds.Role.{Role}
use Rattle.cif_defs.specs.declared.kinds.Role.TheVariants.{Combinational, PlainRegister, ResetRegister, MemoryBlock, CarriedOver}
use Rattle.cif_defs.specs.Cells.{Cell, width, number_of, state_bits, state_bits_by}
use Rattle.cif_defs.specs.declared.kinds.Param.TheVariants.{Offset}
use Rattle.cif_defs.specs.Stimulus.{Stimulus, TaintedWord, StimLine as LineData, reg_line, mem_line, release_line, cycle_line, set_line, started_by, with_row, start_at}
use Rattle.cif_defs.specs.Netlist.{Netlist, no_cell, cell_at}
use Rattle.cif_defs.specs.Accepted.{netlist_of}
use Rattle.cif_defs.specs.declared.raw_module.Raw.{Raw}
use Rattle.cif_stimulus.specs.StimulusView.{line_seen, is_start, tainted}
use Rattle.cif_stimulus.specs.Held.{HasBits, Starts}
use Rattle.cif_stimulus.specs.declared.line.Pair.{Pair}
use Rattle.cif_stimulus.specs.declared.line.StimLine.{StimLine}
use Rattle.cif_stimulus.specs.declared.line.StimLine.TheVariants.{Reg, Mem, Release, Cycle, Set}

pub started-append : (xs ys : List LineData) (c : Cell) (w : TaintedWord) → started_by (xs ++ ys) c w ≡ started_by ys c (started_by xs c w)
started-append [] ys c w = refl
started-append (reg_line name v ∷ xs) ys c w = started-append xs ys c _
started-append (mem_line name a v ∷ xs) ys c w = started-append xs ys c _
started-append (release_line name bits ∷ xs) ys c w = started-append xs ys c w
started-append (cycle_line k ∷ xs) ys c w = started-append xs ys c w
started-append (set_line name v ∷ xs) ys c w = started-append xs ys c w

-- lines that name no register and no memory change nothing
pub started-none : (ls : List StimLine) (c : Cell) (w : TaintedWord) → list_any is_start ls ≡ false → started_by (map line_seen ls) c w ≡ w
started-none [] c w h = refl
started-none (Reg cell value taint ∷ ls) c w h = absurd (cc)
started-none (Mem cell address value taint ∷ ls) c w h = absurd (cc)
started-none (Release name wire ∷ ls) c w h = started-none ls c w h
started-none (Cycle k ∷ ls) c w h = started-none ls c w h
started-none (Set port value taint ∷ ls) c w h = started-none ls c w h

-- one more line
starts_more_at : (ls : List StimLine) (i : ℕ) (d : StimLine) (c : Cell) (place : ℕ) (given now next : Pair) → i < length ls → Starts (map line_seen (take i ls)) c place given now → Starts (line_seen (get_or ls i d) ∷ []) c place now next → Starts (map line_seen (take (i + 1) ls)) c place given next
starts_more_at ls i d c place given now next h before step = λ w had.
    let seen : map line_seen (take (i + 1) ls) ≡ map line_seen (take i ls) ++ line_seen (get_or ls i d) ∷ [] =
    ap (map line_seen) (take_more ls i d h) ∙ map-append line_seen (take i ls) (get_or ls i d ∷ []) in
    let whole : started_by (map line_seen (take (i + 1) ls)) c w ≡ started_by (line_seen (get_or ls i d) ∷ []) c (started_by (map line_seen (take i ls)) c w) =
    ap (λ (xs : List LineData). started_by xs c w) seen ∙ started-append (map line_seen (take i ls)) _ c w in
    let P : TaintedWord → Type 0 = λ u. HasBits u place next in
    subst P (sym whole) (step _ (before w had))

pub starts_more : (ls : List StimLine) (i : ℕ) (x : StimLine) (c : Cell) (place : ℕ) (given now next : Pair) → i < length ls → x ≡ get_or ls i x → Starts (map line_seen (take i ls)) c place given now → Starts (line_seen x ∷ []) c place now next → Starts (map line_seen (take (i + 1) ls)) c place given next
starts_more ls i x c place given now next h is before step =
    let P : StimLine → Type 0 = λ l. Starts (line_seen l ∷ []) c place now next in
    starts_more_at ls i x c place given now next h before (subst P is step)

pub starts_all : (ls : List StimLine) (i : ℕ) (c : Cell) (place : ℕ) (given now : Pair) → length ls ≤ i → Starts (map line_seen (take i ls)) c place given now → Starts (map line_seen ls) c place given now
starts_all ls i c place given now h all =
    let P : List StimLine → Type 0 = λ xs. Starts (map line_seen xs) c place given now in
    subst P (take_all i ls h) all

-- only the lines before place n can name a register or a memory
pub started-front : (ls : List StimLine) (n : ℕ) (c : Cell) (w : TaintedWord) → list_any is_start (drop n ls) ≡ false → started_by (map line_seen ls) c w ≡ started_by (map line_seen (take n ls)) c w
started-front ls n c w h =
    ap (λ (xs : List StimLine). started_by (map line_seen xs) c w) (sym (take-append-drop n ls))
    ∙ ap (λ (xs : List LineData). started_by xs c w) (map-append line_seen (take n ls) (drop n ls))
    ∙ started-append (map line_seen (take n ls)) (map line_seen (drop n ls)) c w
    ∙ started-none (drop n ls) c _ h

-- the bit of a row
pub row_bit : (size n row : ℕ) (w given : List Bool) (i : ℕ) → i < size → bit (with_row size n row w given) i ≡ (if i / n == row then bit w (i % n) else bit given i)
row_bit size n row w given i h = bit-word size (λ i. if i / n == row then bit w (i % n) else bit given i) i false h

positive_factor : (s w i : ℕ) → i < s * w → 0 < w
positive_factor s zero i h = absurd (omega (arith, mul-zero s))
positive_factor s (suc w) i h = omega arith

positive_by : (r : Role) (c : Cell) (i : ℕ) → i < state_bits_by r c → 0 < width c
positive_by PlainRegister c i h = omega arith
positive_by ResetRegister c i h = omega arith
positive_by MemoryBlock c i h = positive_factor _ (width c) i h
positive_by Combinational c i h = absurd (omega arith)
positive_by CarriedOver c i h = absurd (omega arith)

-- what stores bits has a width
pub positive_width : (c : Cell) (i : ℕ) → i < state_bits c → 0 < width c
positive_width c i h = positive_by (role_of c.kind) c i h

-- a bit in the row that a memory's line gives
pub row_hit : (line : StimLine) (c : Cell) (name : List ℕ) (v t : List Bool) (a i : ℕ) (given result : Pair) → line ≡ Mem name a v t → i < state_bits c → bytes_eq name c.name ≡ true → i / width c ≡ a - number_of c Offset → result.value ≡ bit v (i % width c) → result.taint ≡ bit t (i % width c) → Starts (line_seen line ∷ []) c i given result
row_hit line c name v t a i given result is h same row e f = λ w had.
    let test : (i / width c == a - number_of c Offset) ≡ true = grind (arith, nat_tests) in
    let P : StimLine → Type 0 = λ l. HasBits (started_by (line_seen l ∷ []) c w) i result in
    subst P (sym is) (record {
      value = ap (λ b. bit (if b then tainted (with_row (state_bits c) (width c) (a - number_of c Offset) v w.value) (with_row (state_bits c) (width c) (a - number_of c Offset) t w.taint) else w).value i) same
          ∙ row_bit (state_bits c) (width c) (a - number_of c Offset) v w.value i h
          ∙ ap (λ b. if b then bit v (i % width c) else bit w.value i) test ∙ sym e;
      taint = ap (λ b. bit (if b then tainted (with_row (state_bits c) (width c) (a - number_of c Offset) v w.value) (with_row (state_bits c) (width c) (a - number_of c Offset) t w.taint) else w).taint i) same
          ∙ row_bit (state_bits c) (width c) (a - number_of c Offset) t w.taint i h
          ∙ ap (λ b. if b then bit t (i % width c) else bit w.taint i) test ∙ sym f;
    })

-- a bit in another row
pub row_miss : (line : StimLine) (c : Cell) (name : List ℕ) (v t : List Bool) (a i : ℕ) (given : Pair) → line ≡ Mem name a v t → i < state_bits c → bytes_eq name c.name ≡ true → i / width c ≢ a - number_of c Offset → Starts (line_seen line ∷ []) c i given given
row_miss line c name v t a i given is h same row = λ w had.
    let test : (i / width c == a - number_of c Offset) ≡ false = grind (arith, nat_tests) in
    let P : StimLine → Type 0 = λ l. HasBits (started_by (line_seen l ∷ []) c w) i given in
    subst P (sym is) (record {
      value = ap (λ b. bit (if b then tainted (with_row (state_bits c) (width c) (a - number_of c Offset) v w.value) (with_row (state_bits c) (width c) (a - number_of c Offset) t w.taint) else w).value i) same
          ∙ row_bit (state_bits c) (width c) (a - number_of c Offset) v w.value i h
          ∙ ap (λ b. if b then bit v (i % width c) else bit w.value i) test ∙ had.value;
      taint = ap (λ b. bit (if b then tainted (with_row (state_bits c) (width c) (a - number_of c Offset) v w.value) (with_row (state_bits c) (width c) (a - number_of c Offset) t w.taint) else w).taint i) same
          ∙ row_bit (state_bits c) (width c) (a - number_of c Offset) t w.taint i h
          ∙ ap (λ b. if b then bit t (i % width c) else bit w.taint i) test ∙ had.taint;
    })

-- ---- the whole

-- the cell that is read from a netlist's cells
pub owner_is : (n : Netlist) (cells : List Cell) (i : ℕ) (owner : Cell) → i < length n.cells → cells ≡ n.cells → owner ≡ get_or cells i owner → owner ≡ cell_at n i
owner_is n cells i owner h same is =
    is ∙ ap (λ (xs : List Cell). get_or xs i owner) same ∙ get_or_default n.cells i owner no_cell h

-- a bit that the cell doesn't store
pub starts_out : (n : Netlist) (s : Stimulus) (cell i : ℕ) (owner : Cell) (stored : Bool) → owner ≡ cell_at n cell → stored ≡ nat_lt i (state_bits owner) → stored ≡ false → HasBits (start_at n s cell) i (record { value = false; taint = false })
starts_out n s cell i owner stored is test out =
    let past : state_bits (cell_at n cell) ≤ i = (let e : nat_lt i (state_bits (cell_at n cell)) ≡ false = ap (λ (c : Cell). nat_lt i (state_bits c)) (sym is) ∙ sym test ∙ out in grind (arith, nat_tests)) in
    record { value = past_word _ _ i false past; taint = past_word _ _ i false past }

-- a bit that it stores, by the lines that may name it
pub starts_in : (n : Netlist) (s : Stimulus) (cell i starts : ℕ) (owner : Cell) (stored : Bool) (lines : List StimLine) (given pair : Pair) → owner ≡ cell_at n cell → stored ≡ nat_lt i (state_bits owner) → stored ≡ true
    → s.lines ≡ map line_seen lines → list_any is_start (drop starts lines) ≡ false
    → bit (get_or n.initial cell []) i ≡ given.value → false ≡ given.taint
    → Starts (map line_seen (take starts lines)) owner i given pair → HasBits (start_at n s cell) i pair
starts_in n s cell i starts owner stored lines given pair is test kept seen later value taint step =
    let first : TaintedWord = record { value = get_or n.initial cell []; taint = [] } in
    let within : i < state_bits (cell_at n cell) = (let e : nat_lt i (state_bits (cell_at n cell)) ≡ true = ap (λ (c : Cell). nat_lt i (state_bits c)) (sym is) ∙ sym test ∙ kept in grind (arith, nat_tests)) in
    let P : Cell → Type 0 = λ c. Starts (map line_seen (take starts lines)) c i given pair in
    let stepped : Starts (map line_seen (take starts lines)) (cell_at n cell) i given pair = subst P is step in
    let got = stepped first (record { value = value; taint = taint }) in
    let whole : started_by s.lines (cell_at n cell) first ≡ started_by (map line_seen (take starts lines)) (cell_at n cell) first =
    ap (λ (xs : List LineData). started_by xs (cell_at n cell) first) seen ∙ started-front lines starts (cell_at n cell) first later in
    record {
      value = bit-word _ _ i false within ∙ ap (λ (w : TaintedWord). bit w.value i) whole ∙ got.value;
      taint = bit-word _ _ i false within ∙ ap (λ (w : TaintedWord). bit w.taint i) whole ∙ got.taint;
    }

-- each cell has an initial word
pub length-initial : (raw : Raw) → length (netlist_of raw).initial ≡ length (netlist_of raw).cells
unfolding netlist_of
length-initial raw = simp length-map
