-- What is written is what the memory shows at its read ports.
use Rattle.std.proofs.Common.{◌∙◌, ◌<◌, ap, arith, length, [], false}
use Rattle.std.proofs.lemmas.List.{get_or_read}
use Rattle.cif_defs.specs.Cells.{Cell}
use Rattle.cif_defs.specs.Kinds.{role_of}
use Rattle.cif_defs.specs.Stimulus.{is_released}
use Rattle.cif_seq.specs.Cases.{net_of}
use Rattle.cif_seq.proofs.CaseLaws.{memory_output}
use Rattle.cif_seq.proofs.Found.{memory_taints_found, memory_values_found}
use Rattle.cif_seq.proofs.memory.evaluate_memory.Goals as goal

pub output-requires : goal.output-requires
output-requires c = memory_output c.cell-cell.result.now (ap (λ (z : Cell). role_of z.kind) c.cell-cell.ensures.is ∙ c.requires.role) c.cell-cell.ensures.fitted

pub returns-clause-values : goal.returns-clause-values
returns-clause-values c = λ _.
    let many : c.args.number < length c.args.stored.now.values.items = c.requires.stored.value_place in
    let here = get_or_read c.args.stored.now.values.items c.args.number _ (omega arith) c.index-stored_value.ensures [] in
    memory_values_found (net_of c.args.case.now) c.args.number c.cell-cell.result.now c.args.stored.now.values.items c.index-stored_value.result.now _ c.deref.result.now c.output.result.now c.args.values.now _ c.cell-cell.ensures.wired c.requires.role c.requires.as_many_values
    c.cell-cell.ensures.is c.cell-cell.ensures.fitted (c.cell-cell.ensures.numbers (ap (λ (z : Cell). role_of z.kind) c.cell-cell.ensures.is ∙ c.requires.role)) c.output.ensures here c.in_ok-read.ensures.value c.deref.ensures.value c.write_word.ensures.values

pub returns-clause-taints : goal.returns-clause-taints
returns-clause-taints c = λ _.
    let many : c.args.number < length c.args.stored.now.flags.items = c.requires.stored.flag_place in
    let flag = get_or_read c.args.stored.now.flags.items c.args.number _ (omega arith) c.index-flag.ensures false in
    let many_taints : c.args.number < length c.args.stored.now.taints.items = c.requires.stored.taint_place in
    let taint = get_or_read c.args.stored.now.taints.items c.args.number _ (omega arith) c.index-stored_taint.ensures [] in
    memory_taints_found (net_of c.args.case.now) c.args.number c.cell-cell.result.now c.args.stored.now.values.items _ (is_released c.args.case.now.stimulus.lines) c.index-stored_taint.result.now _ c.deref-2.result.now c.index-flag.result.now c.output.result.now
    c.released-released.result.now c.args.values.now c.args.taints.now _ c.cell-cell.ensures.wired c.requires.role c.requires.as_many_taints c.released-released.ensures c.cell-cell.ensures.is c.cell-cell.ensures.fitted (c.cell-cell.ensures.numbers (ap (λ (z : Cell). role_of z.kind) c.cell-cell.ensures.is ∙ c.requires.role)) c.output.ensures taint flag c.in_ok-read.ensures.taint c.deref-2.ensures.value c.write_word.ensures.taints
