use Rattle.std.proofs.Common.{◌∙◌, ◌++◌, ap, arith}
use Rattle.cif_bits.proofs.WordForms.{filled_from}
use Rattle.cif_bits.proofs.lists.filled.Goals as goal

pub returns : goal.returns
returns c = filled_from _ _ _ _ _ _
    (c.in_ok-extend_from_slice.ensures.items ∙ ap (λ u. u ++ c.args.bits.now) c.in_ok-all.ensures.items)
    (omega (arith, c.in_ok-extend_from_slice.ensures.len, c.in_ok-all.ensures.len))
    c.in_ok-resize.ensures.items
    c.requires
