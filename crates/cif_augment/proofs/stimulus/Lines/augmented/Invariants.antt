use Rattle.std.proofs.Common.{◌≡◌}
use Rattle.cif_defs.specs.Accepted.{netlist_of}
use Rattle.cif_augment.proofs.Lines.{augmented_upto}
use Rattle.cif_augment.proofs.stimulus.Lines.augmented.Given as goal

abbrev pub invariant-loop-line : goal.invariant-loop-line
invariant-loop-line l = l.made ≡ augmented_upto (netlist_of l.self.netlist.now) l.self.stimulus.now l.line-index
