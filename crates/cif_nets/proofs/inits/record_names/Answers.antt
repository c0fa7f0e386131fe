use Rattle.std.proofs.Common.{List, refl, ◌∙◌}
use Rattle.std.specs.List.{flat_map}
use Rattle.cif_defs.specs.declared.raw_module.RawName.{RawName}
use Rattle.cif_nets.specs.Inits.{init_more, told_by_name}
use Rattle.cif_nets.proofs.InitLaws.{told_next, told_last}
use Rattle.cif_nets.proofs.inits.record_names.Goals as goal

pub loop-name-preserved : goal.loop-name-preserved
loop-name-preserved c =
    told_next init_more (λ _ (ns : List RawName). flat_map told_by_name ns) (λ _ (n : RawName). told_by_name n) (λ _ _ _. refl)
    c.args.numbers.now c.loop-name.inits c.record_name.new.inits c.args.names.now c.loop-name.name-index c.name-item.result _ c.loop-name-test.true c.name-item.is c.record_name.ensures ∙ c.loop-name.invariant

pub returns : goal.returns
returns c = told_last init_more (λ _ (ns : List RawName). flat_map told_by_name ns) (λ _. refl) c.args.numbers.now c.loop-name.inits _ c.args.names.now c.loop-name.name-index c.loop-name-test.false (c.loop-name.auto.inits ∙ c.requires.same) c.loop-name.invariant
