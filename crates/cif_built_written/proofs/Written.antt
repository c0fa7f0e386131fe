-- A module that is built to augment another can be written where the other can, and the new cells that store can.
use Rattle.std.specs.Prelude.{ℕ, List, [], ◌∷◌, ◌++◌, map, Option, Some, None, option_map, option_to_list, IsUtf8}
use Rattle.std.specs.List.{flat_map, zip, AllByRecursion}
use Rattle.std.proofs.Common.{subst, sym}
use Rattle.std.proofs.lemmas.List.Elements.{All-filter, All-from_recursion, recursion_from_All}
use Rattle.cif_defs.specs.Accepted.{initial_of}
use Rattle.cif_defs.specs.Order.{IsInOrder}
use Rattle.cif_defs.specs.RawModule.{net_numbers}
use Rattle.cif_defs.specs.declared.raw_module.RawPort.{RawPort}
use Rattle.cif_defs.specs.declared.raw_module.RawCell.{RawCell}
use Rattle.cif_defs.specs.declared.raw_module.RawName.{RawName}
use Rattle.cif_defs.specs.declared.raw_module.Raw.{Raw}
use Rattle.cif_json.specs.Writable.{AreParamsWritable, IsCellWritable, IsNetWritable, IsPortWritable, IsWritable}
use Rattle.cif_augment.specs.Names.{data_ports, is_data_port}
use Rattle.cif_augment.specs.Additions.{block_cells, net_of_copy, net_of_port, nets_of_block}
use Rattle.cif_built.specs.Built.{IsBuilt, IsMaking, IsShadowPort}
use Rattle.cif_built.specs.Makings.{Making, block_of, state_cells}
use Rattle.cif_built_names.proofs.Zips.{all_append, all_moved, all_weaker}
use Rattle.cif_built_written.proofs.Cells.{block_written}
use Rattle.cif_built_written.proofs.Lists.{all_after, all_beside, all_both, all_joined, all_mapped}
use Rattle.cif_built_written.proofs.Texts.{init-IsUtf8, taint_name-IsUtf8, text_of-IsUtf8}

-- ---- ports

data_ports_written : (n : Raw) → AllByRecursion IsPortWritable n.ports → AllByRecursion IsPortWritable (data_ports n)
unfolding data_ports
data_ports_written n h = recursion_from_All IsPortWritable (data_ports n) (All-filter (is_data_port n) IsPortWritable n.ports (All-from_recursion IsPortWritable n.ports h))

taint_ports_written : (n a : Raw) (released : List ℕ) (b : IsBuilt n released a) → AllByRecursion IsPortWritable n.ports → AllByRecursion IsPortWritable b.ports
taint_ports_written n a released b h =
    all_beside IsPortWritable (IsShadowPort n released b.shadow) IsPortWritable (data_ports n) b.ports (λ p q name shadow. subst IsUtf8 (sym shadow.port.name) (taint_name-IsUtf8 p.name name))
    (data_ports_written n h) b.are_ports

ports_written : (n a : Raw) (released : List ℕ) (b : IsBuilt n released a) → AllByRecursion IsPortWritable n.ports → AllByRecursion IsPortWritable a.ports
ports_written n a released b h =
    all_moved IsPortWritable (n.ports ++ b.ports) a.ports b.has_ports (all_append IsPortWritable n.ports b.ports h (taint_ports_written n a released b h))

-- ---- cells

abbrev AreStatesWritten : List Making → Type 0
AreStatesWritten makings = AllByRecursion (λ (m : Making). AllByRecursion IsCellWritable (state_cells m)) makings

blocks_written : (n a : Raw) (released : List ℕ) (b : IsBuilt n released a) → AreStatesWritten b.makings → AllByRecursion IsCellWritable n.cells
    → AllByRecursion IsCellWritable (flat_map block_cells (map block_of b.makings))
blocks_written n a released b states h =
    let States : Making → Type 0 = λ m. AllByRecursion IsCellWritable (state_cells m) in
    let Blocks : Making → Type 0 = λ m. AllByRecursion IsCellWritable (block_cells (block_of m)) in
    let made : AllByRecursion (λ m. States m → Blocks m) b.makings =
    all_beside IsCellWritable (IsMaking n released b.shadow) (λ m. States m → Blocks m) n.cells b.makings (λ c m cell making. block_written n c m cell.name making.block making.plain) h b.are_makings in
    all_joined IsCellWritable block_cells (map block_of b.makings)
    (all_mapped (λ x. AllByRecursion IsCellWritable (block_cells x)) block_of b.makings (all_both States (λ m. States m → Blocks m) Blocks b.makings (λ m s f. f s) states made))

cells_written : (n a : Raw) (released : List ℕ) (b : IsBuilt n released a) → AreStatesWritten b.makings → AllByRecursion IsCellWritable n.cells → AllByRecursion IsCellWritable a.cells
cells_written n a released b states h =
    let new : List RawCell = flat_map block_cells (map block_of b.makings) in
    all_moved IsCellWritable (n.cells ++ new) a.cells b.has_cells (all_append IsCellWritable n.cells new h (blocks_written n a released b states h))

-- ---- netnames

port_net_written : (q : RawPort) → IsPortWritable q → IsNetWritable (net_of_port q)
port_net_written q h = record { name = h; attributes = tt }

copy_net_written : (n : Raw) (c : RawCell) (copy : Option RawCell) → AllByRecursion IsCellWritable (option_to_list copy) → AllByRecursion IsNetWritable (option_to_list (option_map (net_of_copy n c) copy))
copy_net_written n c None h = tt
copy_net_written n c (Some v) h =
    (record { name = h.0.name; attributes = (record { name = init-IsUtf8; value = text_of-IsUtf8 (initial_of (net_numbers n) n.names c) }, tt) }, tt)

copy_of_states : (m : Making) → AllByRecursion IsCellWritable (state_cells m) → AllByRecursion IsCellWritable (option_to_list m.copy)
copy_of_states m h = all_after IsCellWritable (option_to_list m.taint ++ option_to_list m.flag) (option_to_list m.copy) h

copy_nets_written : (n : Raw) (cells : List RawCell) (makings : List Making) → AreStatesWritten makings → AllByRecursion IsNetWritable (flat_map (nets_of_block n) (zip cells (map block_of makings)))
copy_nets_written n [] makings h = tt
copy_nets_written n (c ∷ cells) [] h = tt
copy_nets_written n (c ∷ cells) (m ∷ makings) h =
    all_append IsNetWritable (nets_of_block n (c, block_of m)) (flat_map (nets_of_block n) (zip cells (map block_of makings)))
    (copy_net_written n c m.copy (copy_of_states m h.0)) (copy_nets_written n cells makings h.1)

nets_written : (n a : Raw) (released : List ℕ) (b : IsBuilt n released a) → AreStatesWritten b.makings → IsWritable n → AllByRecursion IsNetWritable a.names
nets_written n a released b states h =
    let of_ports : List RawName = map net_of_port b.ports in
    let of_copies : List RawName = flat_map (nets_of_block n) (zip n.cells (map block_of b.makings)) in
    let ports : AllByRecursion IsNetWritable of_ports =
    all_mapped IsNetWritable net_of_port b.ports (all_weaker IsPortWritable (λ q. IsNetWritable (net_of_port q)) b.ports port_net_written (taint_ports_written n a released b h.ports)) in
    all_moved IsNetWritable (n.names ++ of_ports ++ of_copies) a.names b.has_names
    (all_append IsNetWritable (n.names ++ of_ports) of_copies (all_append IsNetWritable n.names of_ports h.nets ports) (copy_nets_written n n.cells b.makings states))

-- ---- the module

pub written : (n a : Raw) (released : List ℕ) (b : IsBuilt n released a) → IsInOrder a → AreStatesWritten b.makings → IsWritable n → IsWritable a
written n a released b sorted states h = record {
  in_order = sorted;
  name = subst IsUtf8 (sym b.name) h.name;
  attributes = subst AreParamsWritable (sym b.attributes) h.attributes;
  ports = ports_written n a released b h.ports;
  cells = cells_written n a released b states h.cells;
  nets = nets_written n a released b states h;
}
