-- Things by name: the place of the first that has a name, and the places of what lines name.
use Rattle.std.specs.Prelude.{ℕ, List, get_or, Option, None}
use Rattle.cif_defs.specs.Cells.{Cell}
use Rattle.cif_defs.specs.Order.{place_among}
use Rattle.cif_defs.specs.Stimulus.{StimLine as LineData, reg_line, mem_line, release_line, cycle_line, set_line}
use Rattle.cif_defs.specs.declared.nets.Wire.{Wire}

abbrev pub port_name : Wire → List ℕ
port_name w = w.name

abbrev pub cell_name : Cell → List ℕ
cell_name c = c.name

-- the place of the first port of a name
abbrev pub place_named : List Wire → List ℕ → Option ℕ
place_named ports name = place_among port_name ports name

-- the place of the port that a line sets
abbrev pub target_of : List Wire → LineData → Option ℕ
target_of ports (set_line name w) = place_named ports name
target_of ports (reg_line name w) = None
target_of ports (mem_line name address w) = None
target_of ports (release_line name bits) = None
target_of ports (cycle_line k) = None

-- the place of the cell of which a line says what it starts with
abbrev pub owner_of : List Cell → LineData → Option ℕ
owner_of cells (reg_line name w) = place_among cell_name cells name
owner_of cells (mem_line name address w) = place_among cell_name cells name
owner_of cells (release_line name bits) = None
owner_of cells (cycle_line k) = None
owner_of cells (set_line name w) = None

abbrev pub line_at : List LineData → ℕ → LineData
line_at lines i = get_or lines i (cycle_line 0)
