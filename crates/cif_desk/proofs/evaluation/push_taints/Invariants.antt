use Rattle.std.proofs.Common.{◌≡◌, ◌++◌, map, take, reverse}
use Rattle.cif_defs.specs.WordText.{byte_of_bit}
use Rattle.cif_defs.specs.TaintRun.{taint, taint_word}
use Rattle.cif_seq.specs.Cases.{net_of}
use Rattle.cif_desk.proofs.evaluation.push_taints.Given as goal

abbrev pub invariant-loop-i : goal.invariant-loop-i
invariant-loop-i l = l.text.items ≡ l.fn.text.items ++ map byte_of_bit (take l.i (reverse (taint_word (taint (net_of l.frame.case) l.frame.case.stimulus l.frame.cycle) l.bits)))
