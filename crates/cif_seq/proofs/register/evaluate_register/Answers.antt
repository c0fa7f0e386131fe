-- What is written is what the register shows.
use Rattle.std.proofs.Common.{◌∙◌, ◌<◌, ◌≡◌, ap, arith, length, []}
use Rattle.std.proofs.lemmas.List.{get_or_read}
use Rattle.cif_defs.specs.Cells.{Cell, width}
use Rattle.cif_defs.specs.Kinds.{role_of}
use Rattle.cif_defs.specs.Stimulus.{is_released}
use Rattle.cif_defs.specs.declared.kinds.Role.TheVariants.{ResetRegister}
use Rattle.cif_cycle.specs.ShownBits.{shown_taints, shown_values}
use Rattle.cif_seq.specs.Cases.{net_of}
use Rattle.cif_seq.proofs.CaseLaws.{register_narrow, register_output, register_wide}
use Rattle.cif_seq.proofs.Found.{register_taints_found, register_values_found}
use Rattle.cif_seq.proofs.register.evaluate_register.Goals as goal

pub output-targets-requires : goal.output-targets-requires
output-targets-requires c = register_output c.cell-cell.result.now (ap (λ (z : Cell). role_of z.kind) c.cell-cell.ensures.is ∙ c.requires.role) c.cell-cell.ensures.fitted

pub write_shown-requires-clause-few : goal.write_shown-requires-clause-few
write_shown-requires-clause-few c = register_narrow c.cell-cell.result.now c.output-targets.result.now (ap (λ (z : Cell). role_of z.kind) c.cell-cell.ensures.is ∙ c.requires.role) c.cell-cell.ensures.fitted c.output-targets.ensures

pub returns-clause-values : goal.returns-clause-values
returns-clause-values c =
    let many : c.args.number < length c.args.stored.now.values.items = c.requires.stored.value_place in
    let here = get_or_read c.args.stored.now.values.items c.args.number _ (omega arith) c.index.ensures [] in
    let role : role_of c.cell-cell.result.now.kind ≡ ResetRegister = ap (λ (z : Cell). role_of z.kind) c.cell-cell.ensures.is ∙ c.requires.role in
    let wide : length c.output-targets.result.now ≡ width c.cell-cell.result.now = register_wide c.cell-cell.result.now c.output-targets.result.now role c.cell-cell.ensures.fitted c.output-targets.ensures in
    register_values_found (net_of c.args.case.now) c.args.number c.cell-cell.result.now c.args.stored.now.values.items c.index.result.now _ _ c.output-targets.result.now c.args.values.now _ c.cell-cell.ensures.wired c.requires.role c.requires.as_many_values
    c.cell-cell.ensures.is c.output-targets.ensures here c.of-shown.ensures.value (ap (shown_values c.of-shown.result) wide) c.write_shown.ensures.values

pub returns-clause-taints : goal.returns-clause-taints
returns-clause-taints c =
    let many : c.args.number < length c.args.stored.now.values.items = c.requires.stored.value_place in
    let here = get_or_read c.args.stored.now.values.items c.args.number _ (omega arith) c.index.ensures [] in
    let many_taints : c.args.number < length c.args.stored.now.taints.items = c.requires.stored.taint_place in
    let taint = get_or_read c.args.stored.now.taints.items c.args.number _ (omega arith) c.index-2.ensures [] in
    let role : role_of c.cell-cell.result.now.kind ≡ ResetRegister = ap (λ (z : Cell). role_of z.kind) c.cell-cell.ensures.is ∙ c.requires.role in
    let wide : length c.output-targets.result.now ≡ width c.cell-cell.result.now = register_wide c.cell-cell.result.now c.output-targets.result.now role c.cell-cell.ensures.fitted c.output-targets.ensures in
    register_taints_found (net_of c.args.case.now) c.args.number c.cell-cell.result.now c.args.stored.now.values.items _ (is_released c.args.case.now.stimulus.lines) c.index.result.now c.index-2.result.now _ _ c.output-targets.result.now
    c.released-released.result.now c.args.values.now c.args.taints.now _ c.cell-cell.ensures.wired c.requires.role c.requires.as_many_taints c.released-released.ensures c.cell-cell.ensures.is c.cell-cell.ensures.fitted c.output-targets.ensures here taint c.of-shown.ensures.taint
    (ap (shown_taints c.of-shown.result) wide) c.write_shown.ensures.taints
