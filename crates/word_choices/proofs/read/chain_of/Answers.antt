use Rattle.std.proofs.Common.{◌*◌, ◌≤◌, ◌≡◌, ◌∙◌, ap, subst, sym}
use Rattle.cif_defs.specs.Cells.{number_of, width}
use Rattle.cif_defs.specs.declared.kinds.Param.TheVariants.{SWidth}
use Rattle.word_choices.proofs.NarrowWidths.{pmux_narrow}
use Rattle.word_choices.proofs.read.chain_of.Goals as goal

pub narrow_number-width-requires : goal.narrow_number-width-requires
narrow_number-width-requires c = (pmux_narrow c.args.cell.now c.requires.fitted c.requires.narrow c.requires.kind).few

pub narrow_number-selects-requires : goal.narrow_number-selects-requires
narrow_number-selects-requires c = (pmux_narrow c.args.cell.now c.requires.fitted c.requires.narrow c.requires.kind).selects

pub invariant_of-result : goal.invariant_of-result
invariant_of-result c =
    let cell = pmux_narrow c.args.cell.now c.requires.fitted c.requires.narrow c.requires.kind in
    let product : c.narrow_number-width.result * c.narrow_number-selects.result ≡ width c.args.cell.now * number_of c.args.cell.now SWidth =
    ap (λ n. n * c.narrow_number-selects.result) c.narrow_number-width.ensures ∙ ap (λ n. width c.args.cell.now * n) c.narrow_number-selects.ensures in
    record {
      some = subst (λ n. 1 ≤ n) (sym c.narrow_number-width.ensures) cell.some;
      some_selects = subst (λ n. 1 ≤ n) (sym c.narrow_number-selects.ensures) cell.selects_some;
      limit = subst (λ n. n ≤ 128) (sym product) cell.limit;
    }
