-- The faults of a file's value are faults of its bytes.
use Rattle.std.specs.Prelude.{ℕ, List}
use Rattle.serde_json.specs.Data.{Data}
use Rattle.cif_json.specs.declared.fault.JsonFault.{JsonFault}
use Rattle.cif_json.specs.declared.fault.JsonFault.TheVariants.{BadJson, NoModules, NoTop, BadShape, Memory}
use Rattle.cif_json.specs.Top.{netlist_of}
use Rattle.cif_json.specs.Answers.{IsFirst, ReadsAs, IsRefused}

pub refused : (bytes : List ℕ) (d : Data) → ReadsAs bytes d → (e : JsonFault) → IsFirst (netlist_of d) e → IsRefused bytes e
refused bytes d reads BadJson h = absurd h
refused bytes d reads NoModules h = (d, reads, h)
refused bytes d reads NoTop h = (d, reads, h)
refused bytes d reads (BadShape path) h = (d, reads, h)
refused bytes d reads Memory h = tt
