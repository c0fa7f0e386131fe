-- What is given in a cycle of a case, by the words that the cells store and the cursor over the stimulus.
use Rattle.std.specs.Prelude.{ℕ, Bool, List}
use Rattle.cif_defs.specs.Words.{Word}
use Rattle.cif_defs.specs.Run.{input_value}
use Rattle.cif_defs.specs.Stimulus.{is_released}
use Rattle.cif_defs.specs.TaintRun.{input_taint}
use Rattle.cif_cycle.specs.declared.stored.StoredWords.{StoredWords}
use Rattle.cif_inputs.specs.Cursor.{cycle_of}
use Rattle.cif_inputs.specs.declared.inputs.Inputs.{Inputs}
use Rattle.cif_seq.specs.Cases.{CaseOf, net_of}
use Rattle.cif_shown.specs.Shown.{Given}

-- by stored words, their taints, flags, and some inputs
abbrev pub given_by : CaseOf → List Word → List Word → List Bool → (ℕ → ℕ → Bool) → (ℕ → ℕ → Bool) → Given
given_by c stored taints flags input taint_input = record {
  stored = stored;
  state = record { stored = taints; flags = flags };
  input = input;
  taint_input = taint_input;
  released = is_released c.stimulus.lines;
}

abbrev pub given_with : CaseOf → StoredWords → (ℕ → ℕ → Bool) → (ℕ → ℕ → Bool) → Given
given_with c stored input taint_input = given_by c stored.values.items stored.taints.items stored.flags.items input taint_input

-- by the inputs of the cycle at which a cursor stands
abbrev pub given_at : CaseOf → StoredWords → Inputs → Given
given_at c stored inputs = given_with c stored (input_value (net_of c) c.stimulus (cycle_of inputs)) (input_taint (net_of c) c.stimulus (cycle_of inputs))
