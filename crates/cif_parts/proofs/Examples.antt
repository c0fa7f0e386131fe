-- The example three-cells-two-parts: of three cells and two parts, part 0 owns cells 0 and 1, and part 1 cell 2.
use Rattle.std.specs.Prelude.{◌≡◌, refl}
use Rattle.cif_pieces.specs.Parts.{owner}

pub three_cells_two_parts : (owner 3 2 0 ≡ 0) × (owner 3 2 1 ≡ 0) × (owner 3 2 2 ≡ 1)
three_cells_two_parts = (refl, refl, refl)
