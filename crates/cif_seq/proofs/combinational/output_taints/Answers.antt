-- Where no bit that is read is tainted, no bit that is given is.
use Rattle.cif_defs.specs.Words.{bit}
use Rattle.cif_defs.specs.Netlist.{cell_at}
use Rattle.cif_seq.specs.Cases.{net_of}
use Rattle.cif_seq.proofs.CaseLaws.{narrow_found, taints_found}
use Rattle.cif_seq.proofs.CleanOperands.{no_words}
use Rattle.cif_seq.proofs.combinational.output_taints.Goals as goal

pub returns-then-not-reads_taint : goal.returns-then-not-reads_taint
returns-then-not-reads_taint c = no_words (bit c.args.taints.now) c.cell-cell.result.now (cell_at (net_of c.args.case.now) c.args.number) c.args.operands.now _ _ c.if-not-reads_taint.true c.reads_taint.ensures c.cell-cell.ensures.is c.new.ensures.items

pub taint_words-requires : goal.taint_words-requires
taint_words-requires c = narrow_found c.cell-cell.result.now _ c.cell-cell.ensures.is c.cell-cell.ensures.fitted c.requires.role

pub taint_of-requires-clause-taints : goal.taint_of-requires-clause-taints
taint_of-requires-clause-taints c = taints_found (bit c.args.taints.now) c.cell-cell.result.now _ _ c.deref.ensures.value c.in_ok-operand_taints.ensures
