use Rattle.std.proofs.Common.{◌≡◌, ◌∷◌, map, take, codes}
use Rattle.cif_defs.specs.Accepted.{netlist_of}
use Rattle.cif_desk.specs.Pieces.{piece_text}
use Rattle.cif_desk.specs.Refusals.{names_of}
use Rattle.cif_desk.proofs.refusal.loop_line.Given as goal

abbrev pub invariant-loop-cell : goal.invariant-loop-cell
invariant-loop-cell l = map piece_text l.words.items ≡ codes "loop" ∷ names_of (netlist_of l.netlist) (take l.cell-index l.cells)
