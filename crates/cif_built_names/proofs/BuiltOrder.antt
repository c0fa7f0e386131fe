-- A module that is built has all its names in order, and has what augmentation adds.
use Rattle.std.specs.Prelude.{ℕ, List, [], ◌++◌, map, Option, Some, None, option_map, option_to_list}
use Rattle.std.specs.List.{flat_map, zip, AllByRecursion, AllZip}
use Rattle.std.specs.List.Sorted.{IsStrictlySortedBy}
use Rattle.std.proofs.Common.{sym, subst}
use Rattle.cif_defs.specs.Order.{AreInOrder, IsCellInOrder, IsInOrder, IsNetInOrder, param_names}
use Rattle.cif_defs.specs.declared.raw_module.RawBit.{RawBit}
use Rattle.cif_defs.specs.declared.raw_module.RawCell.{RawCell}
use Rattle.cif_defs.specs.declared.raw_module.Raw.{Raw}
use Rattle.cif_checks.specs.Checks.{IsAccepted}
use Rattle.cif_emit.specs.Emitted.{IsPlainCell}
use Rattle.cif_augment.specs.Names.{data_ports}
use Rattle.cif_augment.specs.Additions.{Block, IsTaintPort, block_cells, net_of_copy, net_of_port, nets_of_block}
use Rattle.cif_augment.specs.Augmented.{Adds}
use Rattle.cif_built.specs.Makings.{IsStateCell, Making, block_of, state_cells}
use Rattle.cif_built.specs.Built.{IsBuilt, IsMaking, IsShadowPort}
use Rattle.cif_built_names.proofs.NameCounts.{sorted_in_order}
use Rattle.cif_built_names.proofs.WantedNames.{AreFree}
use Rattle.cif_built_names.proofs.BlockNames.{cell_name, net_name}
use Rattle.cif_built_names.proofs.BuiltNames.{blocks_are, cells_once, names_once, port_name, ports_once}
use Rattle.cif_built_names.proofs.NewNets.{new_nets}
use Rattle.cif_built_names.proofs.Zips.{all_append, all_flat_map, all_map, all_moved, all_weaker, zip_flat_map, zip_mapped, zip_weaker}

-- ---- names within cells

block_in_order : (n : Raw) (released : List ℕ) (shadow : ℕ → RawBit) (c : RawCell) (m : Making) → IsMaking n released shadow c m → AllByRecursion IsCellInOrder (block_cells (block_of m))
block_in_order n released shadow c m h = all_append IsCellInOrder (state_cells m) (m.showing ++ m.storing)
    (all_weaker IsStateCell IsCellInOrder (state_cells m) (λ d k. k.in_order) h.state)
    (all_weaker IsPlainCell IsCellInOrder (m.showing ++ m.storing) (λ d k. k.in_order) h.plain)

blocks_in_order : (n : Raw) (released : List ℕ) (shadow : ℕ → RawBit) (cells : List RawCell) (makings : List Making) → AllZip (IsMaking n released shadow) cells makings
    → AllByRecursion IsCellInOrder (flat_map block_cells (map block_of makings))
blocks_in_order n released shadow cells makings h =
    let InOrder : RawCell → Block → Type 0 = λ c b. AllByRecursion IsCellInOrder (block_cells b) in
    let each : AllZip (λ c m. InOrder c (block_of m)) cells makings = zip_weaker (IsMaking n released shadow) (λ c m. InOrder c (block_of m)) cells makings (λ c m has k. block_in_order n released shadow c m k) h in
    zip_flat_map IsCellInOrder InOrder block_cells cells (map block_of makings) (λ c b k. k) (zip_mapped InOrder block_of cells makings each)

-- ---- names within netnames

no_params : AreInOrder (param_names [])
unfolding IsStrictlySortedBy
no_params = tt

copy_in_order : (n : Raw) (c v : RawCell) → IsNetInOrder (net_of_copy n c v)
unfolding IsStrictlySortedBy
copy_in_order n c v = (tt, tt)

copies_in_order : (n : Raw) (c : RawCell) (o : Option RawCell) → AllByRecursion IsNetInOrder (option_to_list (option_map (net_of_copy n c) o))
copies_in_order n c None = tt
copies_in_order n c (Some v) = (copy_in_order n c v, tt)

-- ---- all names

pub in_order : (n a : Raw) (released : List ℕ) → IsInOrder n → IsAccepted n → AreFree n → IsBuilt n released a → IsInOrder a
in_order n a released order accepted free h =
    let blocks = map block_of h.makings in
    let nets = flat_map (nets_of_block n) (zip n.cells blocks) in
    record {
      attributes = subst (λ params. AreInOrder (param_names params)) (sym h.attributes) order.attributes;
      ports = sorted_in_order port_name a.ports h.ports_by_name (ports_once n a released order free h);
      cells = sorted_in_order cell_name a.cells h.cells_by_name (cells_once n a released order accepted free h);
      each_cell = all_moved IsCellInOrder (n.cells ++ flat_map block_cells blocks) a.cells h.has_cells
          (all_append IsCellInOrder n.cells (flat_map block_cells blocks) order.each_cell (blocks_in_order n released h.shadow n.cells h.makings h.are_makings));
      nets = sorted_in_order net_name a.names h.names_by_name (names_once n a released order free h);
      each_net = all_moved IsNetInOrder (n.names ++ map net_of_port h.ports ++ nets) a.names h.has_names
          (all_append IsNetInOrder (n.names ++ map net_of_port h.ports) nets
          (all_append IsNetInOrder n.names (map net_of_port h.ports) order.each_net (all_map IsNetInOrder net_of_port h.ports (λ p. no_params)))
          (all_flat_map IsNetInOrder (nets_of_block n) (zip n.cells blocks) (λ x. copies_in_order n x.0 x.1.copy)));
    }

pub adds : (n a : Raw) (released : List ℕ) → IsInOrder n → IsAccepted n → AreFree n → IsBuilt n released a → Adds n a
adds n a released order accepted free h = record {
  taint_ports = h.ports;
  blocks = map block_of h.makings;
  are_taint_ports = zip_weaker (IsShadowPort n released h.shadow) IsTaintPort (data_ports n) h.ports (λ p q has k. k.port) h.are_ports;
  are_blocks = blocks_are n released h.shadow h.makings h.are_makings;
  name = h.name;
  attributes = h.attributes;
  ports = h.has_ports;
  cells = h.has_cells;
  names = h.has_names;
  in_order = in_order n a released order accepted free h;
  nets = new_nets n a released h;
}
