use Rattle.std.proofs.Common.{[], List, subst}
use Rattle.cif_defs.specs.declared.raw_module.RawBit.{RawBit}
use Rattle.cif_term.specs.TermView.{formula_of}
use Rattle.cif_emit.specs.Emitted.{IsEmittedIn, IsValue}
use Rattle.cif_emit.proofs.Emissions.{moved_emitted}
use Rattle.cif_emit.proofs.Views.{named_in-Outside}
use Rattle.cif_emit.proofs.terms.emit_whole.Goals as goal

pub returns-clause-ok : goal.returns-clause-ok
returns-clause-ok c =
    moved_emitted (IsValue (formula_of c.args.term.now) c.args.ports.now []) c.new-added.ensures.items c.in_ok-append.ensures.items
    (subst (λ (l : List (List RawBit)). IsEmittedIn c.args.names.now c.emit_in.new.names c.new-added.result.items c.emit_in.new.cells.items (formula_of c.args.term.now) c.args.ports.now l c.in_ok-bits.bits.items)
    named_in-Outside c.in_ok-bits.ensures.ok)
