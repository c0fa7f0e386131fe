use Rattle.std.proofs.Common.{ap, subst, ◌∙◌}
use Rattle.std.proofs.lemmas.List.{take_all}
use Rattle.std.proofs.lemmas.List.Elements.{Contains-get_or}
use Rattle.std.specs.Prelude.{Contains, map}
use Rattle.cif_defs.specs.declared.nets.Src.{Src}
use Rattle.cif_defs.specs.declared.nets.Src.TheVariants.{Bit}
use Rattle.cif_shadows.specs.Tables.{taint_of_source}
use Rattle.cif_shadows.proofs.OperandLaws.{taints_by_numbers}
use Rattle.cif_shadows.proofs.operands.taints_of.Goals as goal

pub taint_of-requires : goal.taint_of-requires
taint_of-requires c b e =
    c.requires.inside b (subst (λ (s : Src). Contains c.args.sources.now s) e (Contains-get_or c.args.sources.now c.loop-source.source-index (Bit 0) c.loop-source-test.true))

pub returns-clause-by_numbers : goal.returns-clause-by_numbers
returns-clause-by_numbers c ns bits is =
    taints_by_numbers ns c.args.shadows.now bits c.args.sources.now c.loop-source.taints.items
    (c.loop-source.invariant ∙ ap (map (taint_of_source c.args.shadows.now)) (take_all c.loop-source.source-index c.args.sources.now c.loop-source-test.false)) is
