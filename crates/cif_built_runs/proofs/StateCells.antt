-- What the cells of a module show that store for another: the words that they store.
use Rattle.std.specs.Prelude.{ℕ, suc, ◌+◌, ◌-◌, ◌*◌, ◌<◌, ◌≤◌, ◌≡◌, Bool, true, false, List, [], ◌∷◌, map, length, get_or, take, drop, Contains, Some, refl}
use Rattle.std.specs.List.{flat_map}
use Rattle.std.proofs.Common.{arith, sym, ap, subst, ◌∙◌}
use Rattle.std.proofs.Math.Nat.{mul-le-mul_right}
use Rattle.std.proofs.lemmas.List.{append-nil, get_or-drop, get_or-take, length-drop, length-map, length-take-le}
use Rattle.cif_defs.specs.Words.{Word, bit, operand}
use Rattle.cif_defs.specs.Kinds.{is_register, role_of}
use Rattle.cif_defs.specs.Table.{kind_of, operands_of}
use Rattle.cif_defs.specs.RawModule.{is_net, operand_bits, output_bits, bits_by, port_bits}
use Rattle.cif_defs.specs.Cells.{Cell, next_by, next_word, number_of, shape_of, width}
use Rattle.cif_defs.specs.Memory.{MemoryShape, next_memory, read_address, read_word}
use Rattle.cif_defs.specs.Registers.{dff_next}
use Rattle.cif_defs.specs.Accepted.{cell_of, no_bit}
use Rattle.cif_defs.specs.Stimulus.{Stimulus}
use Rattle.cif_defs.specs.declared.kinds.Kind.{Kind}
use Rattle.cif_defs.specs.declared.kinds.Kind.TheVariants.{Dff, Mem}
use Rattle.cif_defs.specs.declared.kinds.Role.{Role}
use Rattle.cif_defs.specs.declared.kinds.Role.TheVariants.{MemoryBlock, PlainRegister}
use Rattle.cif_defs.specs.declared.kinds.Param.TheVariants.{RdPorts}
use Rattle.cif_defs.specs.declared.kinds.PortRow.{PortRow}
use Rattle.cif_defs.specs.declared.raw_module.RawBit.{RawBit}
use Rattle.cif_defs.specs.declared.raw_module.RawBit.TheVariants.{Net}
use Rattle.cif_defs.specs.declared.raw_module.RawCell.{RawCell}
use Rattle.cif_defs.specs.declared.raw_module.Raw.{Raw}
use Rattle.cif_defs.proofs.WordLaws.{length-word, same_words, bit-word}
use Rattle.cif_raw_runs.specs.Assigned.{raw_bit, raw_word, words_read}
use Rattle.cif_raw_runs.specs.Places.{net_taint, net_value, stored_word}
use Rattle.cif_raw_runs.specs.Ranks.{IsRunnable}
use Rattle.cif_raw_runs.specs.Given.{shown_bits, word_given, word_width}
use Rattle.cif_raw_runs.proofs.Lengths.{as_long}
use Rattle.cif_raw_runs.proofs.Steps.{advances}
use Rattle.cif_raw_runs.proofs.Values.{values_given}
use Rattle.cif_built_runs.proofs.Lists.{all_nets, word_held}
use Rattle.cif_built_runs.proofs.Cells.{Passes, cell_as, memory_length, operand_lengths, register_length, register_state}
use Rattle.cif_built_runs.proofs.Standing.{Stores}

-- ---- in a cycle

-- a bit that a register without asynchronous reset shows is one that it stores
pub plain_bit : (a : Raw) (q : ℕ → ℕ) (t : Stimulus) (k : ℕ) (d : RawCell) (kind : Kind) (i x : ℕ) → IsRunnable a q → Contains a.cells d → kind_of d.kind ≡ Some kind → role_of kind ≡ PlainRegister
    → get_or (output_bits d) i no_bit ≡ Net x → net_value a t k x ≡ bit (stored_word a t k d.name) i
plain_bit a q t k d kind i x h d_in e r at =
    let role : Role = role_of kind in
    let P : Role → Type 0 = λ role. get_or (shown_bits role d kind 0) i no_bit ≡ Net x in
    (values_given a q [] t k h).cell d kind 0 i x d_in e (subst P (sym r) at)
    ∙ ap (λ (role : Role). bit (word_given role (cell_of [] d) (words_read (net_value a t k) d kind) (stored_word a t k d.name) 0) i) r

-- so does a new one everywhere
pub register_shows : (a : Raw) (q : ℕ → ℕ) (t : Stimulus) (k : ℕ) (d : RawCell) (kind : Kind) → IsRunnable a q → Stores a d → kind_of d.kind ≡ Some kind → role_of kind ≡ PlainRegister
    → raw_word (net_value a t k) (output_bits d) ≡ stored_word a t k d.name
register_shows a q t k d kind h s e r =
    let passes : Passes d kind = record { kind = e; passes = s.state.passes } in
    let register : is_register (role_of kind) ≡ true = ap is_register r in
    let long = as_long a [] t k (net_value a t k) (net_taint a t k) d kind h.in_order s.in_module e in
    word_held (net_value a t k) (output_bits d) (stored_word a t k d.name) (λ i l. all_nets (output_bits d) i s.state.nets l)
    (register_length d kind register passes ∙ sym (register_state d kind e register) ∙ sym long.word)
    (λ i x at. plain_bit a q t k d kind i x h s.in_module e r at)

length-read : (m : MemoryShape) (address stored : Word) → length (read_word m address stored) ≡ m.width
unfolding read_word
length-read m address stored = length-word m.width _

-- a new memory shows at each read port the word there
pub memory_shows : (a : Raw) (q : ℕ → ℕ) (t : Stimulus) (k : ℕ) (d : RawCell) (p : ℕ) → IsRunnable a q → Stores a d → kind_of d.kind ≡ Some Mem → p < number_of (cell_of [] d) RdPorts
    → raw_word (net_value a t k) (shown_bits MemoryBlock d Mem p)
    ≡ read_word (shape_of (cell_of [] d)) (read_address (shape_of (cell_of [] d)) (words_read (net_value a t k) d Mem) p) (stored_word a t k d.name)
memory_shows a q t k d p h s e l =
    let passes : Passes d Mem = record { kind = e; passes = s.state.passes } in
    let n : ℕ = word_width d in
    let bits : List RawBit = output_bits d in
    let long : length bits ≡ number_of (cell_of [] d) RdPorts * n = memory_length d passes in
    let fits : suc p * n ≤ number_of (cell_of [] d) RdPorts * n = mul-le-mul_right n (let r : suc p ≤ number_of (cell_of [] d) RdPorts = omega arith in r) in
    let next : suc p * n ≡ p * n + n = omega arith in
    let left : length (drop (p * n) bits) ≡ length bits - p * n = length-drop (p * n) bits in
    let word_long : length (take n (drop (p * n) bits)) ≡ n = length-take-le n (drop (p * n) bits) (omega arith) in
    word_held (net_value a t k) (take n (drop (p * n) bits)) _
    (λ i j. (let inside : i < n = omega arith in
    ap is_net (get_or-take n (drop (p * n) bits) i no_bit inside ∙ get_or-drop (p * n) bits i no_bit) ∙ all_nets bits (p * n + i) s.state.nets (omega arith)))
    (word_long ∙ sym (length-read (shape_of (cell_of [] d)) _ (stored_word a t k d.name)))
    (λ i x at. (values_given a q [] t k h).cell d Mem p i x s.in_module e at)

-- ---- in the next cycle

one_row : (v : ℕ → Bool) (c : RawCell) (rows : List PortRow) (r : PortRow) → rows ≡ r ∷ [] → operand (map (raw_word v) (map (port_bits c) rows)) 0 ≡ raw_word v (flat_map (port_bits c) rows)
one_row v c [] r e = absurd (cc)
one_row v c (q ∷ []) r e = ap (raw_word v) (sym (append-nil (port_bits c q)))
one_row v c (q ∷ s ∷ rows) r e = absurd (cc)

dff_operand : (v : ℕ → Bool) (d : RawCell) → kind_of d.kind ≡ Some Dff → operand (words_read v d Dff) 0 ≡ raw_word v (operand_bits d)
unfolding operands_of
dff_operand v d e = one_row v d (operands_of Dff) _ refl ∙ ap (λ o. raw_word v (bits_by operands_of d o)) (sym e)

dff_width : (d : RawCell) → Passes d Dff → length (operand_bits d) ≡ width (cell_of [] d)
unfolding operands_of
dff_width d h =
    ap (λ o. length (bits_by operands_of d o)) h.kind
    ∙ ap length (append-nil _)
    ∙ ap (λ (ns : List ℕ). get_or ns 0 0) (operand_lengths d Dff h)
    ∙ ap width (sym (cell_as d Dff h.kind))

dff_row : (d : RawCell) (us : List Word) (stored : Word) → kind_of d.kind ≡ Some Dff → next_word (cell_of [] d) us stored ≡ dff_next (width (cell_of [] d)) (operand us 0)
unfolding next_by
dff_row d us stored e = ap (λ (c : Cell). next_by c.kind c us stored) (cell_as d Dff e) ∙ ap (λ (c : Cell). dff_next (width c) (operand us 0)) (sym (cell_as d Dff e))

whole_word : (w : Word) (n : ℕ) → length w ≡ n → dff_next n w ≡ w
whole_word w n e = same_words (dff_next n w) w (length-word n (λ i. bit w i) ∙ sym e) (λ i l. bit-word n (λ j. bit w j) i false (let m = length-word n (λ j. bit w j) in omega arith))

-- a $dff stores what its D has
pub dff_goes : (a : Raw) (q : ℕ → ℕ) (t : Stimulus) (k : ℕ) (d : RawCell) → IsRunnable a q → Stores a d → kind_of d.kind ≡ Some Dff → stored_word a t (suc k) d.name ≡ raw_word (net_value a t k) (operand_bits d)
dff_goes a q t k d h s e =
    let v : ℕ → Bool = net_value a t k in
    let passes : Passes d Dff = record { kind = e; passes = s.state.passes } in
    (advances a [] t k v (net_taint a t k) d Dff h.in_order s.in_module e (λ x n. refl) (λ x n. refl)).word
    ∙ dff_row d (words_read v d Dff) (stored_word a t k d.name) e
    ∙ ap (dff_next (width (cell_of [] d))) (dff_operand v d e)
    ∙ whole_word (raw_word v (operand_bits d)) (width (cell_of [] d)) (length-map (operand_bits d) (raw_bit v) ∙ dff_width d passes)

pub memory_goes : (a : Raw) (q : ℕ → ℕ) (t : Stimulus) (k : ℕ) (d : RawCell) → IsRunnable a q → Stores a d → kind_of d.kind ≡ Some Mem
    → stored_word a t (suc k) d.name ≡ next_memory (shape_of (cell_of [] d)) (words_read (net_value a t k) d Mem) (stored_word a t k d.name)
memory_goes a q t k d h s e = (advances a [] t k (net_value a t k) (net_taint a t k) d Mem h.in_order s.in_module e (λ x n. refl) (λ x n. refl)).word
