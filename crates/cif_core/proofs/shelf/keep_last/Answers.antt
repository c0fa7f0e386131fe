use Rattle.std.proofs.Common.{◌≡◌, ◌+◌, ◌-◌, drop, ap, ◌∙◌, arith}
use Rattle.cif_core.proofs.Facts.{drop-drop}
use Rattle.cif_core.proofs.shelf.keep_last.Goals as goal

pub loop-frame-preserved : goal.loop-frame-preserved
loop-frame-preserved c =
    let inv = c.loop-frame.invariant in
    let xs = c.args.shelf.now.frames in
    let m = c.loop-frame._frame - c.args.count in
    let next : m + 1 ≡ c.loop-frame._frame + 1 - c.args.count = omega arith in (
      c.drop_first.ensures.frames ∙ ap (drop 1) inv.0 ∙ drop-drop m 1 xs ∙ ap (λ k. drop k xs) next,
      c.drop_first.ensures.room ∙ inv.1,
      omega arith,
    )
