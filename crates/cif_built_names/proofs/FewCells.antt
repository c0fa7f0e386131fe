-- A module that is built has few cells, where the cells of the other and their weights are few.
use Rattle.std.specs.Prelude.{ℕ, ◌+◌, ◌≤◌, ◌≡◌, Bool, true, false, nat_lt, List, [], ◌∷◌, ◌++◌, map, length, Some, None, refl, if◌then◌else◌}
use Rattle.std.specs.List.{flat_map, sum_by, AllZip}
use Rattle.std.proofs.Common.{arith}
use Rattle.std.proofs.lemmas.Bool.{ltb-false}
use Rattle.std.proofs.lemmas.List.{length-append}
use Rattle.std.proofs.lemmas.List.Sorted.{length_permutation}
use Rattle.std.proofs.lemmas.List.Sums.{sum_by-cons}
use Rattle.cif_defs.specs.RawModule.{net_numbers}
use Rattle.cif_defs.specs.Accepted.{cell_of, netlist_of}
use Rattle.cif_defs.specs.Weights.{weight}
use Rattle.cif_defs.specs.declared.raw_module.RawCell.{RawCell}
use Rattle.cif_defs.specs.declared.raw_module.Raw.{Raw}
use Rattle.cif_checks.specs.Checks.{cell_limit}
use Rattle.cif_augment.specs.Refusals.{augmented_size, size_fault}
use Rattle.cif_augment.specs.Additions.{Block, IsBlock, block_cells}
use Rattle.cif_built.specs.Makings.{block_of}
use Rattle.cif_built.specs.Built.{IsBuilt}
use Rattle.cif_augment.specs.declared.fault.InstrumentFault.{InstrumentFault}
use Rattle.cif_built_names.proofs.BuiltNames.{blocks_are}

blocks_light : (n : Raw) (cells : List RawCell) (blocks : List Block) → AllZip (IsBlock n) cells blocks → length (flat_map block_cells blocks) ≤ sum_by weight (map (cell_of (net_numbers n)) cells)
blocks_light n [] [] h = omega arith
blocks_light n [] (b ∷ blocks) h = absurd h
blocks_light n (c ∷ cells) [] h = absurd h
blocks_light n (c ∷ cells) (b ∷ blocks) h =
    let first : length (block_cells b) ≤ weight (cell_of (net_numbers n) c) = h.0.count in
    let rest = blocks_light n cells blocks h.1 in
    let all = length-append (block_cells b) (flat_map block_cells blocks) in
    let sum = sum_by-cons weight (cell_of (net_numbers n) c) (map (cell_of (net_numbers n)) cells) in
    omega arith

no_fault_if : (b : Bool) (fault : InstrumentFault) → (if b then Some fault else None) ≡ None → b ≡ false
no_fault_if true fault h = absurd (cc)
no_fault_if false fault h = refl

size_small : (n : Raw) → size_fault n ≡ None → augmented_size n ≤ cell_limit
unfolding size_fault
size_small n h = ltb-false cell_limit (augmented_size n) (no_fault_if (nat_lt cell_limit (augmented_size n)) _ h)

size_is : (n : Raw) → augmented_size n ≡ length n.cells + sum_by weight (map (cell_of (net_numbers n)) n.cells)
unfolding augmented_size netlist_of
size_is n = refl

pub few_cells : (n a : Raw) (released : List ℕ) → size_fault n ≡ None → IsBuilt n released a → length a.cells ≤ cell_limit
few_cells n a released small h =
    let blocks = map block_of h.makings in
    let light = blocks_light n n.cells blocks (blocks_are n released h.shadow h.makings h.are_makings) in
    let moved = length_permutation (n.cells ++ flat_map block_cells blocks) a.cells h.has_cells in
    let all = length-append n.cells (flat_map block_cells blocks) in
    let limit = size_small n small in
    let size = size_is n in
    omega arith
