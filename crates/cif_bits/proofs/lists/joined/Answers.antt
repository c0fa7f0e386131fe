use Rattle.std.proofs.Common.{◌++◌, ◌∙◌, ap}
use Rattle.cif_bits.proofs.WordForms.{joined_is}
use Rattle.cif_bits.proofs.lists.joined.Goals as goal

pub returns : goal.returns
returns c =
    c.in_ok-extend_from_slice-2.ensures.items
    ∙ ap (λ u. u ++ c.args.high.now) (c.in_ok-extend_from_slice.ensures.items ∙ ap (λ u. u ++ c.args.low.now) c.in_ok-bits.ensures.items)
    ∙ joined_is c.args.low.now c.args.high.now
