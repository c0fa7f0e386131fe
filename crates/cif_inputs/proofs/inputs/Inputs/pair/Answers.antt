use Rattle.std.proofs.Common.{arith, ap, ◌∙◌}
use Rattle.cif_defs.specs.Words.{bit}
use Rattle.cif_defs.specs.Stimulus.{TaintedWord}
use Rattle.cif_inputs.proofs.Cursors.{held_is}
use Rattle.cif_inputs.proofs.inputs.Inputs.pair.Goals as goal

pub index-requires : goal.index-requires
index-requires c =
    let long = c.requires.at.as_many in
    omega (arith, c.args.self.now.setters.ok.0)

pub returns-clause-value : goal.returns-clause-value
returns-clause-value c =
    c.set_pair.ensures.value
    ∙ ap (λ (w : TaintedWord). bit w.value c.args.index)
    (held_is _ _ c.args._names.now c.args.self.now _ c.args.port _ c.requires.at c.lines.ensures.value c.requires.port c.index.ensures)

pub returns-clause-taint : goal.returns-clause-taint
returns-clause-taint c =
    c.set_pair.ensures.taint
    ∙ ap (λ (w : TaintedWord). bit w.taint c.args.index)
    (held_is _ _ c.args._names.now c.args.self.now _ c.args.port _ c.requires.at c.lines.ensures.value c.requires.port c.index.ensures)
