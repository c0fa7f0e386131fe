-- What the bits of registers read: for each row one bit of D, of each control and of the stored word.
use Rattle.std.specs.Prelude.{ℕ, ◌<◌, ◌≡◌, Bool, false, List, [], ◌∷◌, map, length, take, get_or, refl}
use Rattle.std.proofs.Common.{arith, sym, ap, ◌∙◌}
use Rattle.std.proofs.lemmas.List.{get_or-take}
use Rattle.cif_defs.specs.declared.kinds.Param.{Param}
use Rattle.cif_defs.specs.declared.kinds.Param.TheVariants.{EnPolarity, ArstPolarity, ArstValue}
use Rattle.cif_defs.specs.Cells.{Cell, digits_of, is_active_operand, next_word, number_of, shown_word, width}
use Rattle.cif_defs.specs.Completions.{can_differ}
use Rattle.cif_defs.specs.Registers.{is_active, dff_next, dffe_next, sdff_next, sdffe_next, sdffce_next}
use Rattle.cif_defs.specs.Taint.{next_bit, shown_bit}
use Rattle.cif_defs.specs.Words.{Word, bit, operand}
use Rattle.cif_defs.proofs.WordLaws.{bit-word}
use Rattle.rule_state.proofs.Columns.{bit-bits_at, bits_at, differs_by_bits}
use Rattle.rule_state.proofs.RegisterBits.{dff_of, dff_table, dffe_of, dffe_table, enabled_taint, enabled_value, reset_taint, reset_value, sdff_of, sdff_table, sdffce_of, sdffce_table, sdffe_of, sdffe_table, shown_of, shown_table}

-- ---- which row a register has

abbrev pub HasRow : Cell → (List Word → Word → Word) → Type 0
HasRow c row = (us : List Word) (s : Word) → next_word c us s ≡ row us s

abbrev pub dff_row : Cell → List Word → Word → Word
dff_row c us s = dff_next (width c) (operand us 0)

abbrev pub dffe_row : Cell → List Word → Word → Word
dffe_row c us s = dffe_next (width c) (is_active_operand c EnPolarity us 1) (operand us 0) s

abbrev pub sdff_row : Param → Param → Cell → List Word → Word → Word
sdff_row polarity value c us s = sdff_next (width c) (is_active_operand c polarity us 1) (digits_of c value) (operand us 0)

abbrev pub sdffe_row : Param → Param → Cell → List Word → Word → Word
sdffe_row polarity value c us s = sdffe_next (width c) (is_active_operand c EnPolarity us 1) (is_active_operand c polarity us 2) (digits_of c value) (operand us 0) s

abbrev pub sdffce_row : Param → Param → Cell → List Word → Word → Word
sdffce_row polarity value c us s = sdffce_next (width c) (is_active_operand c EnPolarity us 1) (is_active_operand c polarity us 2) (digits_of c value) (operand us 0) s

-- which bits of an enable, and of a reset by its polarity, are active
abbrev pub enabling : Cell → Bool → Bool
enabling c = is_active (number_of c EnPolarity)

abbrev pub resetting : Cell → Param → Bool → Bool
resetting c polarity = is_active (number_of c polarity)

-- ---- operands are read place by place

-- a bit of one of the first n operands
first_bit : (us : List Word) (n p i : ℕ) (places : List ℕ) → p < n → p < length places → get_or places p 0 ≡ i → bit (operand (take n us) p) i ≡ bit (bits_at places us) p
first_bit us n p i places h l e = ap (λ (w : Word). bit w i) (get_or-take n us p [] h) ∙ ap (bit (operand us p)) (sym e) ∙ sym (bit-bits_at places us p l)

-- a bit of the operand after them, which is the stored word
last_bit : (us : List Word) (n i : ℕ) (places : List ℕ) → n < length places → get_or places n 0 ≡ i → bit (operand us n) i ≡ bit (bits_at places us) n
last_bit us n i places l e = ap (bit (operand us n)) (sym e) ∙ sym (bit-bits_at places us n l)

dff_reads : (c : Cell) (i : ℕ) (us : List Word) → HasRow c (dff_row c) → i < width c → next_bit c 1 i us ≡ dff_of (bits_at (i ∷ i ∷ []) us)
dff_reads c i us row h =
    ap (λ (w : Word). bit w i) (row (take 1 us) (operand us 1)) ∙ bit-word (width c) (λ k. bit (operand (take 1 us) 0) k) i false h
    ∙ first_bit us 1 0 i (i ∷ i ∷ []) (omega arith) (omega arith) refl

dffe_reads : (c : Cell) (i : ℕ) (us : List Word) → HasRow c (dffe_row c) → i < width c → next_bit c 2 i us ≡ dffe_of (enabling c) (bits_at (i ∷ 0 ∷ i ∷ []) us)
dffe_reads c i us row h =
    let places : List ℕ = i ∷ 0 ∷ i ∷ [] in
    let d : bit (operand (take 2 us) 0) i ≡ bit (bits_at places us) 0 = first_bit us 2 0 i places (omega arith) (omega arith) refl in
    let e : bit (operand (take 2 us) 1) 0 ≡ bit (bits_at places us) 1 = first_bit us 2 1 0 places (omega arith) (omega arith) refl in
    let s : bit (operand us 2) i ≡ bit (bits_at places us) 2 = last_bit us 2 i places (omega arith) refl in
    ap (λ (w : Word). bit w i) (row (take 2 us) (operand us 2))
    ∙ bit-word (width c) (λ k. enabled_value (enabling c) (bit (operand (take 2 us) 0) k) (bit (operand (take 2 us) 1) 0) (bit (operand us 2) k)) i false h
    ∙ cc

sdff_reads : (polarity value : Param) (c : Cell) (i : ℕ) (us : List Word) → HasRow c (sdff_row polarity value c) → i < width c
    → next_bit c 2 i us ≡ sdff_of (resetting c polarity) (bit (digits_of c value) i) (bits_at (i ∷ 0 ∷ i ∷ []) us)
sdff_reads polarity value c i us row h =
    let places : List ℕ = i ∷ 0 ∷ i ∷ [] in
    let d : bit (operand (take 2 us) 0) i ≡ bit (bits_at places us) 0 = first_bit us 2 0 i places (omega arith) (omega arith) refl in
    let x : bit (operand (take 2 us) 1) 0 ≡ bit (bits_at places us) 1 = first_bit us 2 1 0 places (omega arith) (omega arith) refl in
    ap (λ (w : Word). bit w i) (row (take 2 us) (operand us 2))
    ∙ bit-word (width c) (λ k. reset_value (resetting c polarity) (bit (digits_of c value) k) (bit (operand (take 2 us) 0) k) (bit (operand (take 2 us) 1) 0)) i false h
    ∙ cc

sdffe_reads : (polarity value : Param) (c : Cell) (i : ℕ) (us : List Word) → HasRow c (sdffe_row polarity value c) → i < width c
    → next_bit c 3 i us ≡ sdffe_of (enabling c) (resetting c polarity) (bit (digits_of c value) i) (bits_at (i ∷ 0 ∷ 0 ∷ i ∷ []) us)
sdffe_reads polarity value c i us row h =
    let places : List ℕ = i ∷ 0 ∷ 0 ∷ i ∷ [] in
    let d : bit (operand (take 3 us) 0) i ≡ bit (bits_at places us) 0 = first_bit us 3 0 i places (omega arith) (omega arith) refl in
    let e : bit (operand (take 3 us) 1) 0 ≡ bit (bits_at places us) 1 = first_bit us 3 1 0 places (omega arith) (omega arith) refl in
    let x : bit (operand (take 3 us) 2) 0 ≡ bit (bits_at places us) 2 = first_bit us 3 2 0 places (omega arith) (omega arith) refl in
    let s : bit (operand us 3) i ≡ bit (bits_at places us) 3 = last_bit us 3 i places (omega arith) refl in
    ap (λ (w : Word). bit w i) (row (take 3 us) (operand us 3))
    ∙ bit-word (width c) (λ k. reset_value (resetting c polarity) (bit (digits_of c value) k) (enabled_value (enabling c) (bit (operand (take 3 us) 0) k) (bit (operand (take 3 us) 1) 0) (bit (operand us 3) k)) (bit (operand (take 3 us) 2) 0)) i false h
    ∙ cc

sdffce_reads : (polarity value : Param) (c : Cell) (i : ℕ) (us : List Word) → HasRow c (sdffce_row polarity value c) → i < width c
    → next_bit c 3 i us ≡ sdffce_of (enabling c) (resetting c polarity) (bit (digits_of c value) i) (bits_at (i ∷ 0 ∷ 0 ∷ i ∷ []) us)
sdffce_reads polarity value c i us row h =
    let places : List ℕ = i ∷ 0 ∷ 0 ∷ i ∷ [] in
    let d : bit (operand (take 3 us) 0) i ≡ bit (bits_at places us) 0 = first_bit us 3 0 i places (omega arith) (omega arith) refl in
    let e : bit (operand (take 3 us) 1) 0 ≡ bit (bits_at places us) 1 = first_bit us 3 1 0 places (omega arith) (omega arith) refl in
    let x : bit (operand (take 3 us) 2) 0 ≡ bit (bits_at places us) 2 = first_bit us 3 2 0 places (omega arith) (omega arith) refl in
    let s : bit (operand us 3) i ≡ bit (bits_at places us) 3 = last_bit us 3 i places (omega arith) refl in
    ap (λ (w : Word). bit w i) (row (take 3 us) (operand us 3))
    ∙ bit-word (width c) (λ k. enabled_value (enabling c) (reset_value (resetting c polarity) (bit (digits_of c value) k) (bit (operand (take 3 us) 0) k) (bit (operand (take 3 us) 2) 0)) (bit (operand (take 3 us) 1) 0) (bit (operand us 3) k)) i false h
    ∙ cc

shown_reads : (c : Cell) (i : ℕ) (us : List Word) → i < width c → shown_bit c i us ≡ shown_of (resetting c ArstPolarity) (bit (digits_of c ArstValue) i) (bits_at (0 ∷ i ∷ []) us)
unfolding shown_word
shown_reads c i us h =
    let places : List ℕ = 0 ∷ i ∷ [] in
    let x : bit (operand us 0) 0 ≡ bit (bits_at places us) 0 = last_bit us 0 0 places (omega arith) refl in
    let s : bit (operand us 1) i ≡ bit (bits_at places us) 1 = last_bit us 1 i places (omega arith) refl in
    bit-word (width c) (λ k. reset_value (resetting c ArstPolarity) (bit (digits_of c ArstValue) k) (bit (operand us 1) k) (bit (operand us 0) 0)) i false h ∙ cc

-- ---- so whether such a bit can differ is known by their values and taints

pub dff_differs : (c : Cell) (i : ℕ) (d td s ts : Word) → HasRow c (dff_row c) → i < width c → map length (td ∷ ts ∷ []) ≡ map length (d ∷ s ∷ [])
    → can_differ (next_bit c 1 i) (d ∷ s ∷ []) (td ∷ ts ∷ []) ≡ bit td i
dff_differs c i d td s ts row h l =
    differs_by_bits (next_bit c 1 i) dff_of (i ∷ i ∷ []) (d ∷ s ∷ []) (td ∷ ts ∷ []) refl l (λ us. dff_reads c i us row h) ∙ dff_table (bit d i) (bit td i) (bit s i) (bit ts i)

pub dffe_differs : (c : Cell) (i : ℕ) (d td e te s ts : Word) → HasRow c (dffe_row c) → i < width c → map length (td ∷ te ∷ ts ∷ []) ≡ map length (d ∷ e ∷ s ∷ [])
    → can_differ (next_bit c 2 i) (d ∷ e ∷ s ∷ []) (td ∷ te ∷ ts ∷ []) ≡ enabled_taint (enabling c) (bit d i) (bit td i) (bit e 0) (bit te 0) (bit s i) (bit ts i)
dffe_differs c i d td e te s ts row h l =
    differs_by_bits (next_bit c 2 i) (dffe_of (enabling c)) (i ∷ 0 ∷ i ∷ []) (d ∷ e ∷ s ∷ []) (td ∷ te ∷ ts ∷ []) refl l (λ us. dffe_reads c i us row h)
    ∙ dffe_table (enabling c) (bit d i) (bit td i) (bit e 0) (bit te 0) (bit s i) (bit ts i)

pub sdff_differs : (polarity value : Param) (c : Cell) (i : ℕ) (d td x tx s ts : Word) → HasRow c (sdff_row polarity value c) → i < width c → map length (td ∷ tx ∷ ts ∷ []) ≡ map length (d ∷ x ∷ s ∷ [])
    → can_differ (next_bit c 2 i) (d ∷ x ∷ s ∷ []) (td ∷ tx ∷ ts ∷ []) ≡ reset_taint (resetting c polarity) (bit (digits_of c value) i) (bit d i) (bit td i) (bit x 0) (bit tx 0)
sdff_differs polarity value c i d td x tx s ts row h l =
    differs_by_bits (next_bit c 2 i) (sdff_of (resetting c polarity) (bit (digits_of c value) i)) (i ∷ 0 ∷ i ∷ []) (d ∷ x ∷ s ∷ []) (td ∷ tx ∷ ts ∷ []) refl l (λ us. sdff_reads polarity value c i us row h)
    ∙ sdff_table (resetting c polarity) (bit (digits_of c value) i) (bit d i) (bit td i) (bit x 0) (bit tx 0) (bit s i) (bit ts i)

pub sdffe_differs : (polarity value : Param) (c : Cell) (i : ℕ) (d td e te x tx s ts : Word) → HasRow c (sdffe_row polarity value c) → i < width c → map length (td ∷ te ∷ tx ∷ ts ∷ []) ≡ map length (d ∷ e ∷ x ∷ s ∷ [])
    → can_differ (next_bit c 3 i) (d ∷ e ∷ x ∷ s ∷ []) (td ∷ te ∷ tx ∷ ts ∷ [])
    ≡ reset_taint (resetting c polarity) (bit (digits_of c value) i) (enabled_value (enabling c) (bit d i) (bit e 0) (bit s i)) (enabled_taint (enabling c) (bit d i) (bit td i) (bit e 0) (bit te 0) (bit s i) (bit ts i)) (bit x 0) (bit tx 0)
sdffe_differs polarity value c i d td e te x tx s ts row h l =
    differs_by_bits (next_bit c 3 i) (sdffe_of (enabling c) (resetting c polarity) (bit (digits_of c value) i)) (i ∷ 0 ∷ 0 ∷ i ∷ []) (d ∷ e ∷ x ∷ s ∷ []) (td ∷ te ∷ tx ∷ ts ∷ []) refl l (λ us. sdffe_reads polarity value c i us row h)
    ∙ sdffe_table (enabling c) (resetting c polarity) (bit (digits_of c value) i) (bit d i) (bit td i) (bit e 0) (bit te 0) (bit x 0) (bit tx 0) (bit s i) (bit ts i)

pub sdffce_differs : (polarity value : Param) (c : Cell) (i : ℕ) (d td e te x tx s ts : Word) → HasRow c (sdffce_row polarity value c) → i < width c → map length (td ∷ te ∷ tx ∷ ts ∷ []) ≡ map length (d ∷ e ∷ x ∷ s ∷ [])
    → can_differ (next_bit c 3 i) (d ∷ e ∷ x ∷ s ∷ []) (td ∷ te ∷ tx ∷ ts ∷ [])
    ≡ enabled_taint (enabling c) (reset_value (resetting c polarity) (bit (digits_of c value) i) (bit d i) (bit x 0)) (reset_taint (resetting c polarity) (bit (digits_of c value) i) (bit d i) (bit td i) (bit x 0) (bit tx 0)) (bit e 0) (bit te 0) (bit s i) (bit ts i)
sdffce_differs polarity value c i d td e te x tx s ts row h l =
    differs_by_bits (next_bit c 3 i) (sdffce_of (enabling c) (resetting c polarity) (bit (digits_of c value) i)) (i ∷ 0 ∷ 0 ∷ i ∷ []) (d ∷ e ∷ x ∷ s ∷ []) (td ∷ te ∷ tx ∷ ts ∷ []) refl l (λ us. sdffce_reads polarity value c i us row h)
    ∙ sdffce_table (enabling c) (resetting c polarity) (bit (digits_of c value) i) (bit d i) (bit td i) (bit e 0) (bit te 0) (bit x 0) (bit tx 0) (bit s i) (bit ts i)

pub shown_differs : (c : Cell) (i : ℕ) (x tx s ts : Word) → i < width c → map length (tx ∷ ts ∷ []) ≡ map length (x ∷ s ∷ [])
    → can_differ (shown_bit c i) (x ∷ s ∷ []) (tx ∷ ts ∷ []) ≡ reset_taint (resetting c ArstPolarity) (bit (digits_of c ArstValue) i) (bit s i) (bit ts i) (bit x 0) (bit tx 0)
shown_differs c i x tx s ts h l =
    differs_by_bits (shown_bit c i) (shown_of (resetting c ArstPolarity) (bit (digits_of c ArstValue) i)) (0 ∷ i ∷ []) (x ∷ s ∷ []) (tx ∷ ts ∷ []) refl l (λ us. shown_reads c i us h)
    ∙ shown_table (resetting c ArstPolarity) (bit (digits_of c ArstValue) i) (bit x 0) (bit tx 0) (bit s i) (bit ts i)
