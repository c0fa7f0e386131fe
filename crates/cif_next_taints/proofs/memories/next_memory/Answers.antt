-- The cells at all ports together.
use Rattle.std.proofs.Common.{arith, ◌∙◌, ◌++◌, ◌*◌, ◌<◌, List, ap, length, refl}
use Rattle.cif_defs.specs.Cells.{number_of, width}
use Rattle.cif_defs.specs.declared.kinds.Param.TheVariants.{WrPorts}
use Rattle.cif_defs.specs.declared.raw_module.RawBit.{RawBit}
use Rattle.rule_memory.specs.MemoryTermView.{formulas_of}
use Rattle.cif_next_taints.proofs.WriteLaws.{all_written, bits_more, formed_at, none_written, port_written}
use Rattle.cif_next_taints.proofs.memories.next_memory.Goals as goal

pub loop-port-init : goal.loop-port-init
loop-port-init c = record {
  emitted = none_written c.args.names.now c.args.cells.now.items c.args.cell.now c.args.writes.now c.args.flag (record { enables = c.new.result; words = c.new-2.result; flag = c.args.flag }) c.new.ensures.items c.new-2.ensures.items refl;
  enables = ap length c.new.ensures.items ∙ (omega arith);
  words = ap length c.new-2.ensures.items ∙ (omega arith);
}

pub next_at_port-requires-clause-formed : goal.next_at_port-requires-clause-formed
next_at_port-requires-clause-formed c =
    formed_at c.args.cell.now (formulas_of c.in_ok-terms.terms) c.args.writes.now c.loop-port.port c.in_ok-operands.operands c.in_ok-terms.ensures.defined c.requires.writes (omega (arith, c.loop-port-test.true)) c.in_ok-operands.ensures

pub loop-port-preserved : goal.loop-port-preserved
loop-port-preserved c =
    let inside : c.loop-port.port < number_of c.args.cell.now WrPorts = omega (arith, c.loop-port-test.true) in
    let enables = c.in_ok-extend_from_slice.ensures.items ∙ ap (λ (l : List RawBit). c.loop-port.next.enables.items ++ l) c.items.ensures in
    let words = c.in_ok-extend_from_slice-2.ensures.items ∙ ap (λ (l : List RawBit). c.loop-port.next.words.items ++ l) c.items-in-loop-port.ensures in
    record {
      emitted = port_written c.args.cell.now c.args.writes.now c.args.flag c.loop-port.port c.loop-port.next
          (record { enables = c.extend_from_slice.new.self; words = c.extend_from_slice-in-loop-port.new.self; flag = c.in_ok-written.written.flag })
          c.in_ok-written.written c.in_ok-operands.operands (formulas_of c.in_ok-terms.terms) c.in_ok-terms.ensures.is c.requires.writes inside c.in_ok-operands.ensures enables words refl
          c.loop-port.invariant.emitted c.in_ok-written.ensures.ok;
      enables = bits_more c.args.cell.now c.args.writes.now c.loop-port.port c.in_ok-operands.operands c.loop-port.next.enables.items c.in_ok-written.written.enables _ c.requires.writes inside c.in_ok-operands.ensures
          c.loop-port.invariant.enables c.in_ok-written.ensures.enables enables;
      words = bits_more c.args.cell.now c.args.writes.now c.loop-port.port c.in_ok-operands.operands c.loop-port.next.words.items c.in_ok-written.written.words _ c.requires.writes inside c.in_ok-operands.ensures
          c.loop-port.invariant.words c.in_ok-written.ensures.words words;
    }

pub returns-clause-ok : goal.returns-clause-ok
returns-clause-ok c = all_written c.args.cell.now c.args.writes.now c.args.flag c.loop-port.port c.loop-port.next (omega arith) c.loop-port.invariant.enables c.loop-port.invariant.words c.loop-port.invariant.emitted

pub returns-clause-enables : goal.returns-clause-enables
returns-clause-enables c = c.loop-port.invariant.enables ∙ ap (λ k. k * width c.args.cell.now) (omega arith)

pub returns-clause-words : goal.returns-clause-words
returns-clause-words c = c.loop-port.invariant.words ∙ ap (λ k. k * width c.args.cell.now) (omega arith)
