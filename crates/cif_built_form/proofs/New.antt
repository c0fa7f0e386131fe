-- The new ports and cells of a module that is built to augment another.
use Rattle.std.specs.Prelude.{ℕ, ◌⊎◌, List, ◌++◌, filter, map}
use Rattle.std.specs.List.{flat_map}
use Rattle.std.proofs.Common.{inl, inr}
use Rattle.cif_defs.specs.declared.raw_module.RawPort.{RawPort}
use Rattle.cif_defs.specs.declared.raw_module.RawCell.{RawCell}
use Rattle.cif_defs.specs.declared.raw_module.Raw.{Raw}
use Rattle.cif_nets.proofs.Places.{Has, Has-append, Has-left, Has-right}
use Rattle.cif_augment.specs.Names.{data_ports, is_data_port}
use Rattle.cif_augment.specs.Additions.{Block, block_cells}
use Rattle.cif_built.specs.Makings.{Making, block_of, state_cells}
use Rattle.cif_built.specs.Built.{IsBuilt, IsMaking, IsShadowPort}
use Rattle.cif_built_form.proofs.Lists.{beside_second, from_flat_map, from_map, has_before}

pub data_has : (raw : Raw) (p : RawPort) → Has (data_ports raw) p → Has (filter (is_data_port raw) raw.ports) p
unfolding data_ports
data_has raw p h = h

module _ (n : Raw) (released : List ℕ) (a : Raw) (b : IsBuilt n released a) where
  abbrev pub blocks : List Block
  blocks = map block_of b.makings

  abbrev pub new_cells : List RawCell
  new_cells = flat_map block_cells blocks

  -- a new cell for cell `cell`: one that stores, or a further one
  pub record IsNew (d : RawCell) : Type 0 where
    pub cell : RawCell
    pub making : Making
    pub has_cell : Has n.cells cell
    pub has_making : Has b.makings making
    pub is_making : IsMaking n released b.shadow cell making
    pub place : Has (state_cells making) d ⊎ Has (making.showing ++ making.storing) d

  pub is_new : (d : RawCell) → Has new_cells d → IsNew d
  is_new d h =
      let found = from_flat_map block_cells blocks d h in
      let m = from_map block_of b.makings found.0 found.1 in
      let beside = beside_second (IsMaking n released b.shadow) n.cells b.makings m.0 b.are_makings m.1 in
      let here : Has (block_cells (block_of m.0)) d = rw (← m.2) at found.2 in
      record { cell = beside.0; making = m.0; has_cell = beside.1; has_making = m.1; is_making = beside.2; place = Has-append (state_cells m.0) (m.0.showing ++ m.0.storing) d here }

  pub of_block : (d : RawCell) (is : IsNew d) → Has (block_cells (block_of is.making)) d
  of_block d is = elim is.place [
    | inl h ↦ Has-left (state_cells is.making) (is.making.showing ++ is.making.storing) d h
    | inr h ↦ Has-right (state_cells is.making) (is.making.showing ++ is.making.storing) d h
  ]

  -- a cell of the module is one of the first module, or new
  pub old_or_new : (d : RawCell) → Has a.cells d → Has n.cells d ⊎ IsNew d
  old_or_new d h = elim (Has-append n.cells new_cells d (has_before (n.cells ++ new_cells) a.cells d b.has_cells h)) [ inl k ↦ inl k | inr k ↦ inr (is_new d k) ]

  pub record IsNewPort (q : RawPort) : Type 0 where
    pub port : RawPort
    pub has_port : Has (data_ports n) port
    pub has_new : Has b.ports q
    pub is_shadow : IsShadowPort n released b.shadow port q

  pub is_new_port : (q : RawPort) → Has b.ports q → IsNewPort q
  is_new_port q h = (let beside = beside_second (IsShadowPort n released b.shadow) (data_ports n) b.ports q b.are_ports h in record { port = beside.0; has_port = beside.1; has_new = h; is_shadow = beside.2 })

  pub old_or_new_port : (q : RawPort) → Has a.ports q → Has n.ports q ⊎ IsNewPort q
  old_or_new_port q h = elim (Has-append n.ports b.ports q (has_before (n.ports ++ b.ports) a.ports q b.has_ports h)) [ inl k ↦ inl k | inr k ↦ inr (is_new_port q k) ]
