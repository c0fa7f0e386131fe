-- The wires that are kept: of netnames and of ports, in their order.
use Rattle.std.specs.Prelude.{◌≡◌, map, Option}
use Rattle.cif_defs.specs.declared.nets.Wire.{Wire}
use Rattle.cif_defs.specs.declared.raw_module.RawName.{RawName}
use Rattle.cif_defs.specs.declared.raw_module.RawPort.{RawPort}
use Rattle.cif_defs.specs.declared.raw_module.Raw.{Raw}
use Rattle.cif_cells.specs.Finding.{FoundOf, a_wire, not_two_valued, missing, wire_if}
use Rattle.cif_cells.specs.declared.finding.Wires.{Wires}
use Rattle.cif_cells.specs.declared.finding.Found.{Found}
use Rattle.cif_cells.specs.declared.finding.Found.TheVariants.{Wire as WireFound, NotTwoValued, Missing}

-- none where a wire isn't two-valued
abbrev pub wire_of_name : Raw → RawName → Option Wire
wire_of_name raw n = wire_if raw n.name n.bits

abbrev pub wire_of_port : Raw → RawPort → Option Wire
wire_of_port raw p = wire_if raw p.name p.bits

pub record HoldsWires (raw : Raw) (wires : Wires) : Type 0 where
  pub names : wires.names.items ≡ map (wire_of_name raw) raw.names
  pub ports : wires.ports.items ≡ map (wire_of_port raw) raw.ports

-- an answer, as contracts see it
abbrev pub found_seen : Found → FoundOf
found_seen (WireFound w) = a_wire w.now
found_seen NotTwoValued = not_two_valued
found_seen Missing = missing
