use Rattle.std.proofs.Common.{ℕ, ◌<◌, ◌≡◌, length, get_or, take}
use Rattle.std.specs.Prelude.{◌||◌, ◌==◌, false}
use Rattle.std.specs.List.{list_any}
use Rattle.cif_shadows.proofs.table.bar.Given as goal

abbrev pub invariant-loop-bit : goal.invariant-loop-bit
invariant-loop-bit l = (b : ℕ) → b < length l.initial.barred → get_or l.barred b false ≡ (list_any (λ d. d == b) (take l.bit-index l.released) || get_or l.initial.barred b false)
