use Rattle.cif_defs.specs.Accepted.{netlist_of}
use Rattle.cif_defs.specs.Stimulus.{Stimulus}
use Rattle.cif_augment.specs.Stimuli.{augmented}
use Rattle.cif_built_runs.proofs.Agreement.{Setting}
use Rattle.cif_built_runs.proofs.Shown.{shows_taint}
use Rattle.cif_built_runs.proofs.built_modules_show_taint.Goals as goal

pub returns : goal.returns
returns c = λ n a released r q s k accepted runs built_runs names adds built fits releases.
    (let given = c.augmented_stimuli_give_taints_as_values.ensures in
    let t : Stimulus = augmented (netlist_of n) s in
    let setting : Setting n a released r q s t = record {
      runs = runs;
      built_runs = built_runs;
      built = built;
      releases = releases;
      inputs = λ j. given.inputs n a s j runs.in_order accepted names adds fits;
      starts = given.starts n a released s runs.in_order accepted names adds built fits;
    } in
    shows_taint k setting)
