-- The names of the new cells for each cell, and of their netnames, as often as they stand.
use Rattle.std.specs.Prelude.{ℕ, ◌+◌, ◌≤◌, ◌≡◌, Bool, true, false, ◌||◌, List, [], ◌∷◌, ◌++◌, Option, Some, None, option_map, option_to_list, IsNone, IsSomeAnd, MatchBool, refl}
use Rattle.std.specs.List.{flat_map, zip, AllZip}
use Rattle.std.proofs.Common.{arith, ap}
use Rattle.cif_defs.specs.Kinds.{is_register, is_memory}
use Rattle.cif_defs.specs.declared.raw_module.RawCell.{RawCell}
use Rattle.cif_defs.specs.declared.raw_module.RawName.{RawName}
use Rattle.cif_defs.specs.declared.raw_module.Raw.{Raw}
use Rattle.cif_augment.specs.Names.{taint_name, flag_name, stored_name, has_role, has_flag, is_reset_register}
use Rattle.cif_augment.specs.Refusals.{name_if, wanted_for}
use Rattle.cif_augment.specs.Additions.{Block, IsBlock, IsTaintRegister, IsTaintMemory, IsFlag, IsCopy, block_cells, nets_of_block, net_of_copy}
use Rattle.cif_built_names.proofs.NameCounts.{hit, times, times-append}

abbrev pub cell_name : RawCell → List ℕ
cell_name c = c.name

abbrev pub net_name : RawName → List ℕ
net_name x = x.name

-- how often a name stands among names
abbrev pub times_in : List ℕ → List (List ℕ) → ℕ
times_in name names = times (λ x. x) name names

-- ---- one block

one_cell : (name called : List ℕ) (d : RawCell) → d.name ≡ called → times cell_name name (d ∷ []) ≡ times_in name (called ∷ [])
unfolding times
one_cell name called d e = ap (λ x. hit name x + 0) e

no_cell : (name : List ℕ) → times cell_name name [] ≡ times_in name []
unfolding times
no_cell name = refl

some_cell : (name called : List ℕ) (P : RawCell → Type 0) (b : Bool) (o : Option RawCell) → ((d : RawCell) → P d → d.name ≡ called) → MatchBool b (IsSomeAnd o P) (IsNone o)
    → times cell_name name (option_to_list o) ≡ times_in name (name_if b called)
some_cell name called P true None f h = absurd h
some_cell name called P true (Some d) f h = one_cell name called d (f d h)
some_cell name called P false None f h = no_cell name
some_cell name called P false (Some d) f h = absurd (cc)

taint_cell : (name : List ℕ) (c : RawCell) (r m : Bool) (o : Option RawCell) → MatchBool r (IsSomeAnd o (IsTaintRegister c)) (MatchBool m (IsSomeAnd o (IsTaintMemory c)) (IsNone o))
    → times cell_name name (option_to_list o) ≡ times_in name (name_if (r || m) (taint_name c.name))
taint_cell name c true m o h = some_cell name (taint_name c.name) (IsTaintRegister c) true o (λ d k. k.is_new.name) h
taint_cell name c false m o h = some_cell name (taint_name c.name) (IsTaintMemory c) m o (λ d k. k.is_new.name) h

-- the names of new cells that store are those that are wanted; the others are those of further cells
block_times : (name : List ℕ) (n : Raw) (c : RawCell) (b : Block) → IsBlock n c b → times cell_name name (block_cells b) ≡ times_in name (wanted_for c) + times cell_name name b.further
block_times name n c b h =
    let taint = taint_cell name c (has_role is_register c) (has_role is_memory c) b.taint h.taint in
    let flag = some_cell name (flag_name c.name) (IsFlag c) (has_flag c) b.flag (λ d k. k.is_new.name) h.flag in
    let copy = some_cell name (stored_name c.name) (IsCopy c) (has_role is_reset_register c) b.copy (λ d k. k.is_new.name) h.copy in
    let taints = name_if (has_role is_register c || has_role is_memory c) (taint_name c.name) in
    let copies = name_if (has_role is_reset_register c) (stored_name c.name) in
    let flags = name_if (has_flag c) (flag_name c.name) in
    let cells3 = times-append cell_name name (option_to_list b.taint ++ option_to_list b.flag ++ option_to_list b.copy) b.further in
    let cells2 = times-append cell_name name (option_to_list b.taint ++ option_to_list b.flag) (option_to_list b.copy) in
    let cells1 = times-append cell_name name (option_to_list b.taint) (option_to_list b.flag) in
    let names2 = times-append (λ x. x) name (taints ++ copies) flags in
    let names1 = times-append (λ x. x) name taints copies in
    omega arith

copy_net : (name : List ℕ) (n : Raw) (c : RawCell) (o : Option RawCell) → times net_name name (option_to_list (option_map (net_of_copy n c) o)) ≡ times cell_name name (option_to_list o)
unfolding times
copy_net name n c None = refl
copy_net name n c (Some v) = refl

-- the netnames have names that are wanted
block_net_times : (name : List ℕ) (n : Raw) (c : RawCell) (b : Block) → IsBlock n c b → times net_name name (nets_of_block n (c, b)) ≤ times_in name (wanted_for c)
block_net_times name n c b h =
    let same = copy_net name n c b.copy in
    let copy = some_cell name (stored_name c.name) (IsCopy c) (has_role is_reset_register c) b.copy (λ d k. k.is_new.name) h.copy in
    let taints = name_if (has_role is_register c || has_role is_memory c) (taint_name c.name) in
    let copies = name_if (has_role is_reset_register c) (stored_name c.name) in
    let flags = name_if (has_flag c) (flag_name c.name) in
    let names2 = times-append (λ x. x) name (taints ++ copies) flags in
    let names1 = times-append (λ x. x) name taints copies in
    omega arith

-- ---- all blocks

abbrev pub further_cells : List Block → List RawCell
further_cells blocks = flat_map (λ (b : Block). b.further) blocks

pub cells_times : (name : List ℕ) (n : Raw) (cells : List RawCell) (blocks : List Block) → AllZip (IsBlock n) cells blocks
    → times cell_name name (flat_map block_cells blocks) ≡ times_in name (flat_map wanted_for cells) + times cell_name name (further_cells blocks)
unfolding times
cells_times name n [] [] h = refl
cells_times name n [] (b ∷ blocks) h = absurd h
cells_times name n (c ∷ cells) [] h = absurd h
cells_times name n (c ∷ cells) (b ∷ blocks) h =
    let first = block_times name n c b h.0 in
    let rest = cells_times name n cells blocks h.1 in
    let all = times-append cell_name name (block_cells b) (flat_map block_cells blocks) in
    let wanted = times-append (λ x. x) name (wanted_for c) (flat_map wanted_for cells) in
    let further = times-append cell_name name b.further (further_cells blocks) in
    omega arith

pub nets_times : (name : List ℕ) (n : Raw) (cells : List RawCell) (blocks : List Block) → AllZip (IsBlock n) cells blocks
    → times net_name name (flat_map (nets_of_block n) (zip cells blocks)) ≤ times_in name (flat_map wanted_for cells)
unfolding times
nets_times name n [] [] h = omega arith
nets_times name n [] (b ∷ blocks) h = absurd h
nets_times name n (c ∷ cells) [] h = absurd h
nets_times name n (c ∷ cells) (b ∷ blocks) h =
    let first = block_net_times name n c b h.0 in
    let rest = nets_times name n cells blocks h.1 in
    let all = times-append net_name name (nets_of_block n (c, b)) (flat_map (nets_of_block n) (zip cells blocks)) in
    let wanted = times-append (λ x. x) name (wanted_for c) (flat_map wanted_for cells) in
    omega arith
