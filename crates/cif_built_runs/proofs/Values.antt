-- Within a cycle both modules have the same values at the net numbers of the other.
use Rattle.std.specs.Prelude.{ℕ, ◌≡◌, List, [], Contains}
use Rattle.std.proofs.Common.{ap, ◌∙◌}
use Rattle.cif_defs.specs.Words.{Word, bit}
use Rattle.cif_defs.specs.Kinds.{role_of}
use Rattle.cif_defs.specs.RawModule.{net_numbers}
use Rattle.cif_defs.specs.Accepted.{cell_of}
use Rattle.cif_defs.specs.Stimulus.{Stimulus}
use Rattle.cif_defs.specs.declared.raw_module.RawCell.{RawCell}
use Rattle.cif_defs.specs.declared.raw_module.Raw.{Raw}
use Rattle.cif_raw_runs.specs.Assigned.{words_read}
use Rattle.cif_raw_runs.specs.Places.{net_value}
use Rattle.cif_raw_runs.specs.Given.{AreValues, word_given}
use Rattle.cif_raw_runs.proofs.Values.{values_given, values_unique}
use Rattle.cif_built_runs.proofs.Standing.{own_cell, own_number, own_port}
use Rattle.cif_built_runs.proofs.Clocks.{same_clock}
use Rattle.cif_built_runs.proofs.Agreement.{Agrees, Setting}

-- the values of the module that is built have what is given to the other
are_values : {n a : Raw} {released : List ℕ} {r q : ℕ → ℕ} {s t : Stimulus} (k : ℕ) → Setting n a released r q s t → ((c : RawCell) → Contains n.cells c → Agrees n a s t k c) → AreValues [] n s k (net_value a t k)
are_values {a = a} {q = q} {t = t} k h agrees = (let all = values_given a q [] t k h.built_runs in record {
  input = λ port i x port_in is free at.
      all.input port i x (own_port port h.built port_in) is (same_clock x h.runs.form h.built_runs.form h.built ∙ free) at
      ∙ (h.inputs k).values port i port_in is;
  cell = λ c kind p i x c_in e at.
      all.cell c kind p i x (own_cell c h.built c_in) e at
      ∙ ap (λ (w : Word). bit (word_given (role_of kind) (cell_of [] c) (words_read (net_value a t k) c kind) w p) i) (agrees c c_in).word;
  clock = λ x number e. all.clock x (own_number x h.built number) (same_clock x h.runs.form h.built_runs.form h.built ∙ e);
})

pub values_agree : {n a : Raw} {released : List ℕ} {r q : ℕ → ℕ} {s t : Stimulus} (k : ℕ) → Setting n a released r q s t → ((c : RawCell) → Contains n.cells c → Agrees n a s t k c)
    → (x : ℕ) → Contains (net_numbers n) x → net_value a t k x ≡ net_value n s k x
values_agree {n = n} {a = a} {r = r} {s = s} {t = t} k h agrees = values_unique n r [] s k (net_value a t k) h.runs (are_values k h agrees)
