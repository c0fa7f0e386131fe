use Rattle.std.proofs.Common.{◌≡◌, map, take}
use Rattle.cif_defs.specs.Accepted.{initial_of}
use Rattle.cif_nets.proofs.inits.initial_words.Given as goal

abbrev pub invariant-loop-cell : goal.invariant-loop-cell
invariant-loop-cell l = l.words.items ≡ map (initial_of l.numbers l.known.names) (take l.cell-index l.known.cells)
