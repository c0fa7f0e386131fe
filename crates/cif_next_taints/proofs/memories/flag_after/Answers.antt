-- The cells of the flag's term compute the flag after a port.
use Rattle.std.proofs.Common.{◌∙◌, ◌++◌, ◌∷◌, [], List, ap, get_or}
use Rattle.cif_defs.specs.declared.raw_module.RawBit.{RawBit}
use Rattle.cif_defs.specs.declared.raw_module.RawBit.TheVariants.{Net}
use Rattle.cif_emit.specs.declared.terms.OperandPair.{OperandPair}
use Rattle.cif_term.specs.TermView.{formula_of}
use Rattle.cif_next_taints.proofs.PortLaws.{flag_emitted, flag_formed_over, flag_shape}
use Rattle.cif_next_taints.proofs.memories.flag_after.Goals as goal

pub emit-requires : goal.emit-requires
emit-requires c =
    let all = c.in_ok-operands.ensures ∙ ap (λ (o : OperandPair). c.args.operands.now ++ o ∷ []) c.in_ok-flag.ensures in
    let formed = flag_formed_over (formula_of c.args.terms.now.flag) c.args.operands.now c.args.flag c.in_ok-operands.operands all c.requires.formed in
    record {
      formed = (1, formed.width);
      shape = flag_shape c.args.operands.now c.args.flag c.in_ok-operands.operands all c.requires.shape;
      begun = c.requires.begun;
    }

pub returns-clause-ok : goal.returns-clause-ok
returns-clause-ok c =
    let all = c.in_ok-operands.ensures ∙ ap (λ (o : OperandPair). c.args.operands.now ++ o ∷ []) c.in_ok-flag.ensures in
    flag_emitted (formula_of c.args.terms.now.flag) c.args.operands.now c.args.flag (get_or c.items.result.now 0 (Net 0)) (Net 0) c.in_ok-operands.operands all c.requires.formed c.in_ok-bits.ensures.ok
    (ap (λ (l : List RawBit). get_or l 0 (Net 0)) c.items.ensures)
