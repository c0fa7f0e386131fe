use Rattle.std.proofs.Common.{arith, ap, refl, subst, ◌∙◌, List, []}
use Rattle.std.specs.Prelude.{Contains, map}
use Rattle.cif_defs.specs.Cells.{Cell}
use Rattle.cif_defs.specs.declared.nets.Src.{Src}
use Rattle.cif_defs.specs.declared.nets.Src.TheVariants.{Bit}
use Rattle.cif_shadows.specs.Tables.{taint_of_source}
use Rattle.cif_shadows.proofs.OperandLaws.{all_copied, copied_more, none_copied, read_at}
use Rattle.cif_shadows.proofs.operands.operand_pairs.Goals as goal

pub loop-place-init : goal.loop-place-init
loop-place-init c =
    none_copied c.requires.same.0 c.args.known.now _ _ c.args.shadows.now _ c.operands-ports.ensures (c.operands-operands.ensures ∙ ap (λ (d : Cell). d.operands) c.requires.same.1) c.in_ok-pairs.ensures.items

pub bounds-operands-place : goal.bounds-operands-place
bounds-operands-place c = omega (arith, c.loop-place-test.true, c.loop-place.invariant.as_many)

pub taints_of-requires : goal.taints_of-requires
taints_of-requires c =
    let here = read_at c.operands-operands.result.now c.args.cell.now.operands c.loop-place.place _ _ [] (omega (arith, c.loop-place-test.true, c.loop-place.invariant.as_many))
    c.items-in-loop-place.ensures c.index-operands-place.is c.operands-operands.ensures in
    record { inside = λ b contains. c.requires.inside c.loop-place.place b (subst (λ (sources : List Src). Contains sources (Bit b)) here contains) }

pub loop-place-preserved : goal.loop-place-preserved
loop-place-preserved c =
    let values = read_at c.operands-ports.result.now c.operands-ports.result.now c.loop-place.place _ _ [] c.loop-place-test.true c.items.ensures c.index-ports-place.is refl in
    let sources = read_at c.operands-operands.result.now c.operands-operands.result.now c.loop-place.place _ _ [] (omega (arith, c.loop-place-test.true, c.loop-place.invariant.as_many))
    c.items-in-loop-place.ensures c.index-operands-place.is refl in
    copied_more _ _ c.args.shadows.now c.loop-place.place c.loop-place.pairs.items _ _ c.loop-place-test.true c.in_ok-push.ensures.items (c.of.ensures ∙ c.in_ok-values.ensures.items ∙ values)
    (c.of-in-loop-place.ensures ∙ c.in_ok-taints.ensures.is ∙ ap (map (taint_of_source c.args.shadows.now)) sources) c.loop-place.invariant

pub returns-clause-taints : goal.returns-clause-taints
returns-clause-taints c k ns is same =
    all_copied ns c.args.shadows.now c.args.known.now k c.operands-operands.result.now c.operands-ports.result.now c.loop-place.pairs.items c.loop-place.place is
    (c.operands-operands.ensures ∙ ap (λ (d : Cell). d.operands) same) c.loop-place-test.false c.loop-place.invariant
