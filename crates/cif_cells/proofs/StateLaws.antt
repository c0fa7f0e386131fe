-- How many bits cells store.
use Rattle.std.specs.Prelude.{ℕ, zero, suc, ◌+◌, ◌*◌, ◌<◌, ◌≤◌, ◌≡◌, ◌⊎◌, Bool, true, false, not, ◌&&◌, List, [], ◌∷◌, length, map, filter, get_or, sum, unwrap_or, option_map, Option, Some, None, refl}
use Rattle.std.specs.List.{cons_option, filter_map, sum_by}
use Rattle.std.proofs.Common.{arith, rules, sym, ap, ◌∙◌, cond, inl, inr, lit≤}
use Rattle.std.proofs.lemmas.List.{length-map}
use Rattle.std.proofs.lemmas.List.Sums.{sum_by-cons, sum-map}
use denote.Enum.Bare.{same_true}
use Rattle.cif_defs.specs.contracts.kinds.Param.{the_type}
use Rattle.cif_defs.specs.Kinds.{is_same_param, role_of}
use Rattle.cif_defs.specs.Table.{is_mask, is_table, kind_of, parameters_of}
use Rattle.cif_defs.specs.RawModule.{net_numbers, number_given}
use Rattle.cif_defs.specs.Cells.{number_in, number_of, state_bits, state_bits_by}
use Rattle.cif_defs.specs.Accepted.{cell_by, cell_of, netlist_of}
use Rattle.cif_defs.specs.Netlist.{cell_at, no_cell}
use Rattle.cif_defs.specs.declared.kinds.Kind.{Kind}
use Rattle.cif_defs.specs.declared.kinds.Role.{Role}
use Rattle.cif_defs.specs.declared.kinds.Role.TheVariants.{Combinational, PlainRegister, ResetRegister, MemoryBlock, CarriedOver}
use Rattle.cif_defs.specs.declared.kinds.Param.{Param}
use Rattle.cif_defs.specs.declared.kinds.Param.TheVariants.{Width, Size}
use Rattle.cif_defs.specs.declared.raw_module.RawCell.{RawCell}
use Rattle.cif_defs.specs.declared.raw_module.Raw.{Raw}
use Rattle.cif_checks.specs.Checks.{IsAccepted, cell_fault, first_fault, memory_size, memory_size_by, number_or_0}
use Rattle.std.proofs.Math.Nat.{mul-le-mul_left, mul-le-mul_right}
use Rattle.cif_cells.proofs.CountLaws.{accepted_apart}
use Rattle.cif_cells.proofs.FittedCells.{cell_fitted}
use Rattle.cif_nets.proofs.Passed.{first_passes, next_passes, passed}
use Rattle.cif_kinds.proofs.RegisterCells.{register_width_fits}
use Rattle.cif_defs.specs.Kinds.{is_register}

-- ---- numbers of a cell

found_by : (b : Bool) (c : RawCell) (q p : Param) (o : Option ℕ) (rest : List (Param × ℕ)) → is_same_param q p ≡ b → number_given c q ≡ o → number_in rest p ≤ number_or_0 c p → number_in (cons_option (option_map (λ x. (q, x)) o) rest) p ≤ number_or_0 c p
found_by b c q p None rest e g h = h
found_by true c q p (Some x) rest e g h =
    let same : q ≡ p = same_true the_type (search rules) q p e in
    let here : number_in ((q, x) ∷ rest) p ≡ x = ap (λ t. cond t x (number_in rest p)) e in
    let given : number_or_0 c p ≡ x = ap (number_or_0 c) (sym same) ∙ ap (λ (o : Option ℕ). unwrap_or o 0) g in
    omega arith
found_by false c q p (Some x) rest e g h = (let here : number_in ((q, x) ∷ rest) p ≡ number_in rest p = ap (λ t. cond t x (number_in rest p)) e in omega arith)

number_le : (c : RawCell) (ps : List Param) (p : Param) → number_in (filter_map (λ q. option_map (λ x. (q, x)) (number_given c q)) ps) p ≤ number_or_0 c p
number_le c [] p = omega arith
number_le c (q ∷ ps) p = found_by (is_same_param q p) c q p (number_given c q) (filter_map (λ q. option_map (λ x. (q, x)) (number_given c q)) ps) refl refl (number_le c ps p)

number_by : (ns : List ℕ) (c : RawCell) (o : Option Kind) (p : Param) → number_of (cell_by ns c o) p ≤ number_or_0 c p
number_by ns c None p = omega arith
number_by ns c (Some k) p = number_le c (filter (λ p. not (is_table p) && not (is_mask p)) (parameters_of k)) p

number_of_cell : (ns : List ℕ) (c : RawCell) (p : Param) → number_of (cell_of ns c) p ≤ number_or_0 c p
unfolding cell_of
number_of_cell ns c p = number_by ns c (kind_of c.kind) p

-- ---- how many bits a cell stores

abbrev size_as : RawCell → Role → ℕ
size_as c MemoryBlock = number_or_0 c Size * number_or_0 c Width
size_as c _ = 0

memory_is : (c : RawCell) (k : Kind) → memory_size_by c (Some k) ≡ size_as c (role_of k)
memory_is c k = refl

memory_of : (c : RawCell) (k : Kind) → kind_of c.kind ≡ Some k → role_of k ≡ MemoryBlock → memory_size c ≡ number_or_0 c Size * number_or_0 c Width
memory_of c k e r = ap (memory_size_by c) e ∙ memory_is c k ∙ ap (size_as c) r

-- a cell that isn't carried over has a kind of the table
kind_by : (ns : List ℕ) (c : RawCell) (o : Option Kind) (role : Role) → (CarriedOver ≡ role → ⊥) → role_of (cell_by ns c o).kind ≡ role → o ≡ Some (cell_by ns c o).kind
kind_by ns c None role apart h = absurd (apart h)
kind_by ns c (Some k) role apart h = refl

pub kind_is : (ns : List ℕ) (c : RawCell) (role : Role) → (CarriedOver ≡ role → ⊥) → role_of (cell_of ns c).kind ≡ role → kind_of c.kind ≡ Some (cell_of ns c).kind
unfolding cell_of
kind_is ns c role apart h = kind_by ns c (kind_of c.kind) role apart h

product_le : (a b c d : ℕ) → a ≤ b → c ≤ d → a * c ≤ b * d
product_le a b c d h k = omega (arith, mul-le-mul_right c h, mul-le-mul_left b k)

memory_stores : (ns : List ℕ) (c : RawCell) → role_of (cell_of ns c).kind ≡ MemoryBlock → number_of (cell_of ns c) Size * number_of (cell_of ns c) Width ≤ memory_size c
memory_stores ns c e =
    let k = kind_is ns c MemoryBlock (λ q. absurd (cc)) e in
    let m : memory_size c ≡ number_or_0 c Size * number_or_0 c Width = memory_of c (cell_of ns c).kind k e in
    let l : number_of (cell_of ns c) Size * number_of (cell_of ns c) Width ≤ number_or_0 c Size * number_or_0 c Width = product_le (number_of (cell_of ns c) Size) (number_or_0 c Size) (number_of (cell_of ns c) Width) (number_or_0 c Width) (number_of_cell ns c Size) (number_of_cell ns c Width) in
    omega arith

register_stores : (ns : List ℕ) (c : RawCell) → is_register (role_of (cell_of ns c).kind) ≡ true → cell_fault c ≡ None → number_of (cell_of ns c) Width ≤ 4096
register_stores ns c r h = (register_width_fits (cell_of ns c) r (cell_fitted ns c h)).limit

stored_by : (ns : List ℕ) (c : RawCell) (role : Role) → role_of (cell_of ns c).kind ≡ role → cell_fault c ≡ None → (state_bits_by role (cell_of ns c) ≤ 4096) ⊎ (state_bits_by role (cell_of ns c) ≤ memory_size c)
stored_by ns c PlainRegister e h = inl (register_stores ns c (ap is_register e) h)
stored_by ns c ResetRegister e h = inl (register_stores ns c (ap is_register e) h)
stored_by ns c MemoryBlock e h = inr (memory_stores ns c e)
stored_by ns c Combinational e h = inl (lit≤ tt)
stored_by ns c CarriedOver e h = inl (lit≤ tt)

-- a register stores at most 4,096 bits, a memory its own
stored : (ns : List ℕ) (c : RawCell) → cell_fault c ≡ None → (state_bits (cell_of ns c) ≤ 4096) ⊎ (state_bits (cell_of ns c) ≤ memory_size c)
stored ns c h = stored_by ns c (role_of (cell_of ns c).kind) refl h

total_le : (ns : List ℕ) (cells : List RawCell) → first_fault cell_fault cells ≡ None → sum_by state_bits (map (cell_of ns) cells) ≤ 4096 * length cells + sum_by memory_size cells
total_le ns [] h = omega arith
total_le ns (c ∷ cs) h =
    let a : sum_by state_bits (map (cell_of ns) (c ∷ cs)) ≡ state_bits (cell_of ns c) + sum_by state_bits (map (cell_of ns) cs) = sum_by-cons state_bits (cell_of ns c) (map (cell_of ns) cs) in
    let b : sum_by memory_size (c ∷ cs) ≡ memory_size c + sum_by memory_size cs = sum_by-cons memory_size c cs in
    let rest = total_le ns cs (next_passes (cell_fault c) (first_fault cell_fault cs) h) in
    let n : 4096 * suc (length cs) ≡ 4096 + 4096 * length cs = omega arith in
    elim (stored ns c (first_passes (cell_fault c) (first_fault cell_fault cs) h)) [ inl s ↦ omega arith | inr s ↦ omega arith ]

each_le : (ns : List ℕ) (cells : List RawCell) → first_fault cell_fault cells ≡ None → sum_by memory_size cells ≤ 16777216
    → (i : ℕ) → i < length (map (cell_of ns) cells) → state_bits (get_or (map (cell_of ns) cells) i no_cell) ≤ 16777216
each_le ns [] h m i l = absurd (omega arith)
each_le ns (c ∷ cs) h m zero l =
    let b : sum_by memory_size (c ∷ cs) ≡ memory_size c + sum_by memory_size cs = sum_by-cons memory_size c cs in
    elim (stored ns c (first_passes (cell_fault c) (first_fault cell_fault cs) h)) [ inl s ↦ omega arith | inr s ↦ omega arith ]
each_le ns (c ∷ cs) h m (suc i) l =
    let b : sum_by memory_size (c ∷ cs) ≡ memory_size c + sum_by memory_size cs = sum_by-cons memory_size c cs in
    each_le ns cs (next_passes (cell_fault c) (first_fault cell_fault cs) h) (omega arith) i (omega arith)

memory_small : (raw : Raw) → IsAccepted raw → sum_by memory_size raw.cells ≤ 16777216
memory_small raw h =
    let few : sum (map memory_size raw.cells) ≤ 16777216 = ((accepted_apart raw).0 h).0.memory in
    let same = sum-map memory_size raw.cells in
    omega arith

-- ---- how many bits the cells of an accepted module store

pub few_state_bits : (raw : Raw) → IsAccepted raw → (i : ℕ) → i < length (netlist_of raw).cells → state_bits (cell_at (netlist_of raw) i) ≤ 16777216
unfolding netlist_of
few_state_bits raw h i l = each_le (net_numbers raw) raw.cells (passed raw h).cells (memory_small raw h) i l

pub cells_small : (raw : Raw) → IsAccepted raw → length (netlist_of raw).cells ≤ 400000 → sum_by state_bits (netlist_of raw).cells ≤ 1655177216
unfolding netlist_of
cells_small raw h few =
    let e : length (map (cell_of (net_numbers raw)) raw.cells) ≡ length raw.cells = length-map raw.cells (cell_of (net_numbers raw)) in
    let t = total_le (net_numbers raw) raw.cells (passed raw h).cells in
    let m = memory_small raw h in
    omega arith
