-- What a maker hands out for one cell, and the cell that is made with it.
use Rattle.std.specs.Prelude.{ℕ, ◌+◌, ◌≡◌, true, List, [], ◌∷◌, ◌++◌, length}
use Rattle.std.specs.List.{list_all}
use Rattle.cif_defs.specs.RawModule.{nets_in, is_net}
use Rattle.cif_defs.specs.declared.raw_module.RawBit.{RawBit}
use Rattle.cif_defs.specs.declared.raw_module.RawCell.{RawCell}
use Rattle.cif_emit.specs.Makers.{Maker, RiseBetween}

-- the same cell, and the same numbers that stood from the beginning
pub record IsKept (before after : Maker) : Type 0 where
  pub used : after.used ≡ before.used
  pub cell : after.cell ≡ before.cell

-- bits that are new nets
pub record AreNewNets (before after : Maker) (width : ℕ) (bits : List RawBit) : Type 0 where
  pub numbers : RiseBetween before.used before.next after.next (nets_in bits)
  pub nets : list_all is_net bits ≡ true
  pub as_wide : length bits ≡ width
  pub handed : after.handed ≡ before.handed + width
  pub made : after.made ≡ before.made

-- one cell that was appended, and its output bits, which are new nets
pub record IsAdded (before after : Maker) (old new : List RawCell) (c : RawCell) (width : ℕ) (y : List RawBit) : Type 0 where
  pub appended : new ≡ old ++ c ∷ []
  pub nets : AreNewNets before (record after { made = before.made }) width y
  pub made : after.made ≡ before.made + 1
  pub kept : IsKept before after
