-- What one cell writes to the net bits.
use Rattle.std.specs.Prelude.{ℕ, ◌<◌, ◌≡◌, Bool, false, List, length, if◌then◌else◌}
use Rattle.cif_defs.specs.Words.{Word, bit}
use Rattle.cif_defs.specs.Netlist.{Netlist, driver_of}
use Rattle.cif_defs.specs.Run.{driver_value}
use Rattle.cif_defs.specs.TaintRun.{TaintState, driver_taint}
use Rattle.cif_defs.specs.Evaluation.{evaluate_one}

-- marks are the released net bits
abbrev pub Marks : Netlist → List Bool → (ℕ → Bool) → Type 0
Marks n marks released = (b : ℕ) → b < length n.drivers → bit marks b ≡ released b

-- ---- one cell

-- cell c is evaluated: each bit that it drives gets what its driver gives under the bits before, and every other bit stays
unfoldable pub EvaluatesValues : Netlist → List Word → ℕ → List Bool → List Bool → Type 0
EvaluatesValues n stored c old new = (input : ℕ → ℕ → Bool) (b : ℕ) → bit new b ≡ evaluate_one n (λ v x. driver_value n stored input v (driver_of n x)) c (bit old) b

-- the same for taints, beside the values before; a released bit is untainted
unfoldable pub EvaluatesTaints : Netlist → List Word → List Bool → TaintState → (ℕ → Bool) → ℕ → List Bool → List Bool → Type 0
EvaluatesTaints n stored values t released c old new =
    (input : ℕ → ℕ → Bool) (b : ℕ) → bit new b ≡ evaluate_one n (λ v x. if released x then false else driver_taint n stored (bit values) t input v (driver_of n x)) c (bit old) b
