-- Cases and frames, as contracts see them.
use Rattle.std.specs.Prelude.{ℕ, List}
use Rattle.cif_defs.specs.Accepted.{netlist_of}
use Rattle.cif_defs.specs.Netlist.{Netlist}
use Rattle.cif_defs.specs.Stimulus.{Stimulus}
use Rattle.cif_defs.specs.declared.raw_module.Raw.{Raw}

-- an accepted module, a levelled order of its cells, and a stimulus
pub record CaseOf : Type 0 where
  pub raw : Raw
  pub order : List ℕ
  pub stimulus : Stimulus

abbrev pub net_of : CaseOf → Netlist
net_of c = netlist_of c.raw

-- a frame is known by its case and its cycle
pub record FrameOf : Type 0 where
  pub case : CaseOf
  pub cycle : ℕ

abbrev pub frame_of : CaseOf → ℕ → FrameOf
frame_of c k = record { case = c; cycle = k }
