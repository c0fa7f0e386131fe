use Rattle.std.proofs.Common.{◌≡◌, take}
use Rattle.cif_seq.proofs.state.shared_words.Given as goal

abbrev pub invariant-loop-i : goal.invariant-loop-i
invariant-loop-i l = l.shared.items ≡ take l.i l.words
