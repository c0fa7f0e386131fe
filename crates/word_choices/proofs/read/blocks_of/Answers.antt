use Rattle.std.proofs.Common.{◌*◌, ◌^◌, ◌≤◌, ◌≡◌, ◌∙◌, ap, subst, sym}
use Rattle.cif_defs.specs.Cells.{number_of, width}
use Rattle.cif_defs.specs.declared.kinds.Param.TheVariants.{SWidth}
use Rattle.word_choices.proofs.NarrowWidths.{narrow_blocks}
use Rattle.word_choices.proofs.read.blocks_of.Goals as goal

pub narrow_number-width-requires : goal.narrow_number-width-requires
narrow_number-width-requires c = (narrow_blocks c.args.cell.now c.requires.fitted c.requires.narrow c.requires.kind).few

pub narrow_number-selects-requires : goal.narrow_number-selects-requires
narrow_number-selects-requires c = (narrow_blocks c.args.cell.now c.requires.fitted c.requires.narrow c.requires.kind).selects

pub invariant_of-result : goal.invariant_of-result
invariant_of-result c =
    let cell = narrow_blocks c.args.cell.now c.requires.fitted c.requires.narrow c.requires.kind in
    let product : c.narrow_number-width.result * 2 ^ c.narrow_number-selects.result ≡ width c.args.cell.now * 2 ^ number_of c.args.cell.now SWidth =
    ap (λ n. n * 2 ^ c.narrow_number-selects.result) c.narrow_number-width.ensures ∙ ap (λ n. width c.args.cell.now * 2 ^ n) c.narrow_number-selects.ensures in
    record {
      some = subst (λ n. 1 ≤ n) (sym c.narrow_number-width.ensures) cell.some;
      limit = subst (λ n. n ≤ 128) (sym product) cell.limit;
    }
