use Rattle.cif_built_inputs.proofs.Inputs.{gives_inputs}
use Rattle.cif_built_inputs.proofs.Starts.{gives_starts}
use Rattle.cif_built_inputs.proofs.augmented_stimuli_give_taints_as_values.Goals as goal

pub returns-clause-inputs : goal.returns-clause-inputs
returns-clause-inputs c = λ n a s k order ok free adds fit. gives_inputs n a s k order free fit

pub returns-clause-starts : goal.returns-clause-starts
returns-clause-starts c = λ n a released s order ok free adds built fit. gives_starts n a released s order ok free adds.in_order built fit
