use Rattle.std.proofs.Common.{Option, [], ap, ◌∙◌}
use Rattle.std.specs.Prelude.{option_map, unwrap_or}
use Rattle.cif_defs.specs.Words.{bit}
use Rattle.cif_defs.specs.RawModule.{digits_given, digits_read}
use Rattle.cif_defs.specs.declared.kinds.Param.TheVariants.{Init}
use Rattle.cif_defs.specs.declared.raw_module.ParamValue.{ParamValue}
use Rattle.cif_defs.proofs.WordLaws.{word_push}
use Rattle.cif_nets.proofs.inits.memory_word.Goals as goal

pub loop-index-preserved : goal.loop-index-preserved
loop-index-preserved c =
    word_push (λ i. bit (digits_given c.args.cell.now Init) i) c.loop-index.index c.loop-index.started.items _ c.optional_digit.result c.loop-index.invariant c.in_ok-push.ensures.items
    (c.optional_digit.ensures ∙ ap (λ (o : Option ParamValue). bit (unwrap_or (option_map digits_read o) []) c.loop-index.index) c.value-value.ensures)
