use Rattle.std.proofs.Common.{ℕ, ◌≡◌, ◌<◌, ◌||◌, length, drop}
use Rattle.std.specs.List.{list_any}
use Rattle.cif_defs.specs.Words.{bit}
use Rattle.cif_defs.specs.Stimulus.{is_bit}
use Rattle.cif_seq.proofs.case.mark.Given as goal

abbrev pub invariant-loop-source : goal.invariant-loop-source
invariant-loop-source l = (b : ℕ) → b < length l.marks → (list_any (is_bit b) (drop l.source-index l.sources) || bit l.marks b) ≡ (list_any (is_bit b) l.sources || bit l.initial.marks b)
