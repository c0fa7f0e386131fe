use Rattle.std.proofs.Common.{ap, ◌∙◌}
use Rattle.cif_defs.specs.Words.{Word}
use Rattle.cif_defs.specs.Cells.{digits_of, is_active_operand, next_by, width}
use Rattle.cif_defs.specs.Registers.{dff_next, dffe_next, sdff_next, sdffe_next, sdffce_next}
use Rattle.cif_defs.specs.Table.{operands_of}
use Rattle.cif_defs.specs.declared.kinds.Kind.{Kind}
use Rattle.cif_defs.specs.declared.kinds.Kind.TheVariants.{Dffe, Sdff, Sdffe, Sdffce, Adff, Adffe}
use Rattle.cif_defs.specs.declared.kinds.Param.TheVariants.{ArstPolarity, ArstValue, EnPolarity, SrstPolarity, SrstValue}
use Rattle.cif_meanings.proofs.NumberMeanings.{gives}
use Rattle.cif_kinds.proofs.OperandWidths.{operand_width}
use Rattle.cif_registers.proofs.registers.next_by_kind.Goals as goal

pub returns-in-Dff : goal.returns-in-Dff
unfolding next_by
returns-in-Dff c =
    gives c.dff_next.result _ _ c.dff_next.ensures
    (ap (λ (d : Word). dff_next (width c.args.cell.now) d) c.requires.at_d
    ∙ ap (λ (k : Kind). next_by k c.args.cell.now c.args.operands.now c.args.stored.now) c.in-Dff.ensures)

pub is_active_operand-enabled-requires : goal.is_active_operand-enabled-requires
unfolding operands_of
is_active_operand-enabled-requires c = operand_width c.args.cell.now c.args.operands.now Dffe 1 c.in-Dffe.ensures c.requires.fitted c.requires.operands

pub returns-in-Dffe : goal.returns-in-Dffe
unfolding next_by
returns-in-Dffe c =
    gives c.dffe_next.result _ _ c.dffe_next.ensures
    (ap (λ b. dffe_next (width c.args.cell.now) b c.args.d.now c.args.stored.now) c.is_active_operand-enabled.ensures
    ∙ ap (λ (d : Word). dffe_next (width c.args.cell.now) (is_active_operand c.args.cell.now EnPolarity c.args.operands.now 1) d c.args.stored.now) c.requires.at_d
    ∙ ap (λ (k : Kind). next_by k c.args.cell.now c.args.operands.now c.args.stored.now) c.in-Dffe.ensures)

pub is_active_operand-reset-requires : goal.is_active_operand-reset-requires
unfolding operands_of
is_active_operand-reset-requires c = operand_width c.args.cell.now c.args.operands.now Sdff 1 c.in-Sdff.ensures c.requires.fitted c.requires.operands

pub returns-in-Sdff : goal.returns-in-Sdff
unfolding next_by
returns-in-Sdff c =
    gives c.sdff_next.result _ _ c.sdff_next.ensures
    (ap (λ b. sdff_next (width c.args.cell.now) b (digits_of c.args.cell.now SrstValue) c.args.d.now) c.is_active_operand-reset.ensures
    ∙ ap (λ (d : Word). sdff_next (width c.args.cell.now) (is_active_operand c.args.cell.now SrstPolarity c.args.operands.now 1) (digits_of c.args.cell.now SrstValue) d) c.requires.at_d
    ∙ ap (λ (k : Kind). next_by k c.args.cell.now c.args.operands.now c.args.stored.now) c.in-Sdff.ensures)

pub is_active_operand-reset-requires-in-Adff : goal.is_active_operand-reset-requires-in-Adff
unfolding operands_of
is_active_operand-reset-requires-in-Adff c = operand_width c.args.cell.now c.args.operands.now Adff 1 c.in-Adff.ensures c.requires.fitted c.requires.operands

pub returns-in-Adff : goal.returns-in-Adff
unfolding next_by
returns-in-Adff c =
    gives c.sdff_next-in-Adff.result _ _ c.sdff_next-in-Adff.ensures
    (ap (λ b. sdff_next (width c.args.cell.now) b (digits_of c.args.cell.now ArstValue) c.args.d.now) c.is_active_operand-reset-in-Adff.ensures
    ∙ ap (λ (d : Word). sdff_next (width c.args.cell.now) (is_active_operand c.args.cell.now ArstPolarity c.args.operands.now 1) (digits_of c.args.cell.now ArstValue) d) c.requires.at_d
    ∙ ap (λ (k : Kind). next_by k c.args.cell.now c.args.operands.now c.args.stored.now) c.in-Adff.ensures)

pub is_active_operand-enabled-requires-in-Sdffe : goal.is_active_operand-enabled-requires-in-Sdffe
unfolding operands_of
is_active_operand-enabled-requires-in-Sdffe c = operand_width c.args.cell.now c.args.operands.now Sdffe 1 c.in-Sdffe.ensures c.requires.fitted c.requires.operands

pub is_active_operand-reset-requires-in-Sdffe : goal.is_active_operand-reset-requires-in-Sdffe
unfolding operands_of
is_active_operand-reset-requires-in-Sdffe c = operand_width c.args.cell.now c.args.operands.now Sdffe 2 c.in-Sdffe.ensures c.requires.fitted c.requires.operands

pub returns-in-Sdffe : goal.returns-in-Sdffe
unfolding next_by
returns-in-Sdffe c =
    gives c.sdffe_next.result _ _ c.sdffe_next.ensures
    (ap (λ b. sdffe_next (width c.args.cell.now) b c.is_active_operand-reset-in-Sdffe.result (digits_of c.args.cell.now SrstValue) c.args.d.now c.args.stored.now) c.is_active_operand-enabled-in-Sdffe.ensures
    ∙ ap (λ b. sdffe_next (width c.args.cell.now) (is_active_operand c.args.cell.now EnPolarity c.args.operands.now 1) b (digits_of c.args.cell.now SrstValue) c.args.d.now c.args.stored.now) c.is_active_operand-reset-in-Sdffe.ensures
    ∙ ap (λ (d : Word). sdffe_next (width c.args.cell.now) (is_active_operand c.args.cell.now EnPolarity c.args.operands.now 1) (is_active_operand c.args.cell.now SrstPolarity c.args.operands.now 2) (digits_of c.args.cell.now SrstValue) d c.args.stored.now) c.requires.at_d
    ∙ ap (λ (k : Kind). next_by k c.args.cell.now c.args.operands.now c.args.stored.now) c.in-Sdffe.ensures)

pub is_active_operand-enabled-requires-in-Adffe : goal.is_active_operand-enabled-requires-in-Adffe
unfolding operands_of
is_active_operand-enabled-requires-in-Adffe c = operand_width c.args.cell.now c.args.operands.now Adffe 1 c.in-Adffe.ensures c.requires.fitted c.requires.operands

pub is_active_operand-reset-requires-in-Adffe : goal.is_active_operand-reset-requires-in-Adffe
unfolding operands_of
is_active_operand-reset-requires-in-Adffe c = operand_width c.args.cell.now c.args.operands.now Adffe 2 c.in-Adffe.ensures c.requires.fitted c.requires.operands

pub returns-in-Adffe : goal.returns-in-Adffe
unfolding next_by
returns-in-Adffe c =
    gives c.sdffe_next-in-Adffe.result _ _ c.sdffe_next-in-Adffe.ensures
    (ap (λ b. sdffe_next (width c.args.cell.now) b c.is_active_operand-reset-in-Adffe.result (digits_of c.args.cell.now ArstValue) c.args.d.now c.args.stored.now) c.is_active_operand-enabled-in-Adffe.ensures
    ∙ ap (λ b. sdffe_next (width c.args.cell.now) (is_active_operand c.args.cell.now EnPolarity c.args.operands.now 1) b (digits_of c.args.cell.now ArstValue) c.args.d.now c.args.stored.now) c.is_active_operand-reset-in-Adffe.ensures
    ∙ ap (λ (d : Word). sdffe_next (width c.args.cell.now) (is_active_operand c.args.cell.now EnPolarity c.args.operands.now 1) (is_active_operand c.args.cell.now ArstPolarity c.args.operands.now 2) (digits_of c.args.cell.now ArstValue) d c.args.stored.now) c.requires.at_d
    ∙ ap (λ (k : Kind). next_by k c.args.cell.now c.args.operands.now c.args.stored.now) c.in-Adffe.ensures)

pub is_active_operand-enabled-requires-in-Sdffce : goal.is_active_operand-enabled-requires-in-Sdffce
unfolding operands_of
is_active_operand-enabled-requires-in-Sdffce c = operand_width c.args.cell.now c.args.operands.now Sdffce 1 c.in-Sdffce.ensures c.requires.fitted c.requires.operands

pub is_active_operand-reset-requires-in-Sdffce : goal.is_active_operand-reset-requires-in-Sdffce
unfolding operands_of
is_active_operand-reset-requires-in-Sdffce c = operand_width c.args.cell.now c.args.operands.now Sdffce 2 c.in-Sdffce.ensures c.requires.fitted c.requires.operands

pub returns-in-Sdffce : goal.returns-in-Sdffce
unfolding next_by
returns-in-Sdffce c =
    gives c.sdffce_next.result _ _ c.sdffce_next.ensures
    (ap (λ b. sdffce_next (width c.args.cell.now) b c.is_active_operand-reset-in-Sdffce.result (digits_of c.args.cell.now SrstValue) c.args.d.now c.args.stored.now) c.is_active_operand-enabled-in-Sdffce.ensures
    ∙ ap (λ b. sdffce_next (width c.args.cell.now) (is_active_operand c.args.cell.now EnPolarity c.args.operands.now 1) b (digits_of c.args.cell.now SrstValue) c.args.d.now c.args.stored.now) c.is_active_operand-reset-in-Sdffce.ensures
    ∙ ap (λ (d : Word). sdffce_next (width c.args.cell.now) (is_active_operand c.args.cell.now EnPolarity c.args.operands.now 1) (is_active_operand c.args.cell.now SrstPolarity c.args.operands.now 2) (digits_of c.args.cell.now SrstValue) d c.args.stored.now) c.requires.at_d
    ∙ ap (λ (k : Kind). next_by k c.args.cell.now c.args.operands.now c.args.stored.now) c.in-Sdffce.ensures)
