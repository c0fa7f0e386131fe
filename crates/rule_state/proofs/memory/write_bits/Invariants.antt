-- The bits below the index are written, and the others are as they were.
use Rattle.std.proofs.Common.{◌≡◌, ℕ, ◌<◌, ◌≤◌, ◌||◌, length, if◌then◌else◌}
use Rattle.cif_defs.specs.Words.{bit}
use Rattle.rule_state.specs.MemoryTaints.{may_write}
use Rattle.rule_state.proofs.memory.write_bits.Given as goal

abbrev pub invariant-loop-index : goal.invariant-loop-index
invariant-loop-index l =
    (length l.stored ≡ l.width)
    × ((i : ℕ) → i < l.index → bit l.stored i ≡ (if may_write l.port i then bit l.port.word_taint i || bit l.port.enable_taint i else bit l.initial.stored i))
    × ((i : ℕ) → l.index ≤ i → bit l.stored i ≡ bit l.initial.stored i)
