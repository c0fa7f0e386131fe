use Rattle.std.proofs.Common.{◌++◌, ◌-◌, ◌∙◌, length, take, ap}
use Rattle.cif_bits.proofs.WordForms.{fill_from, raised_is}
use Rattle.cif_bits.proofs.lists.raised.Goals as goal

pub returns : goal.returns
returns c =
    c.in_ok-extend_from_slice.ensures.items
    ∙ ap (λ u. u ++ take (length c.args.bits.now - c.min-zeros.result) c.args.bits.now) (fill_from _ _ _ _ _ c.in_ok-all.ensures.items c.in_ok-all.ensures.len c.in_ok-resize.ensures.items)
    ∙ raised_is c.args.bits.now c.args.by _ c.min-zeros.ensures
