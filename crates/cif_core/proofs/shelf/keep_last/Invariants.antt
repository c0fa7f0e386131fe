use Rattle.std.proofs.Common.{◌≡◌, ◌≤◌, ◌-◌, drop, length}
use Rattle.cif_core.proofs.shelf.keep_last.Given as goal

abbrev pub invariant-loop-frame : goal.invariant-loop-frame
invariant-loop-frame l =
    (l.shelf.frames ≡ drop (l._frame - l.count) l.initial.shelf.frames) × (l.shelf.room ≡ l.initial.shelf.room)
    × (l._frame - l.count ≤ length l.initial.shelf.frames - l.count)
