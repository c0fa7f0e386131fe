-- Each digit is pushed in its place.
use Rattle.std.specs.Prelude.{◌≡◌, ◌≤◌, length}
use Rattle.std.proofs.Common.{arith, ap, ◌∙◌}
use Rattle.cif_defs.specs.declared.kinds.Param.TheVariants.{Lut}
use Rattle.cif_defs.specs.Cells.{digits_of}
use Rattle.cif_defs.specs.Words.{Word, bit}
use Rattle.cif_defs.proofs.WordLaws.{length-word, word_push}
use Rattle.rule_select.proofs.selections.table.Goals as goal

pub loop-place-preserved : goal.loop-place-preserved
loop-place-preserved c = word_push (bit (digits_of c.args.cell.now Lut)) _ _ _ _ c.loop-place.invariant c.in_ok-push.ensures.items c.digit.ensures

pub of-requires : goal.of-requires
of-requires c =
    let long : length c.loop-place.bits.items ≡ c.loop-place.place = ap (λ (w : Word). length w) c.loop-place.invariant ∙ length-word c.loop-place.place (bit (digits_of c.args.cell.now Lut)) in
    let last : c.loop-place.place ≤ c.args.size = c.loop-place.auto.place-end in
    let few : c.args.size ≤ 65536 = c.requires in
    omega arith
