use Rattle.std.proofs.Common.{◌≡◌, ℕ, ◌<◌, [], true}
use Rattle.cif_defs.specs.Accepted.{netlist_of}
use Rattle.cif_defs.specs.Loop.{is_passing}
use Rattle.cif_defs.specs.Netlist.{role_at}
use Rattle.cif_level.specs.declared.feeders.Mark.TheVariants.{Placed}
use Rattle.cif_level.specs.Searching.{mark_of, Keeps}
use Rattle.cif_level.proofs.search.searched.Given as goal

abbrev pub invariant-loop-cell : goal.invariant-loop-cell
invariant-loop-cell l = record {
  keeps : Keeps (netlist_of l.netlist) l.search;
  no_path : l.search.path.items ≡ [];
  placed : (c : ℕ) → c < l.cell → is_passing (role_at (netlist_of l.netlist) c) ≡ true → mark_of l.search.marks.items c ≡ Placed;
}
