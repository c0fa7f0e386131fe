use Rattle.std.proofs.Common.{◌≡◌, ◌<◌, ◌^◌, drop}
use Rattle.cif_defs.specs.RawModule.{needed_number}
use Rattle.cif_defs.specs.declared.raw_module.ParamValue.TheVariants.{Text}
use Rattle.cif_json.proofs.Binary.{number_after}
use Rattle.cif_json.proofs.top.binary_number.Given as goal

abbrev pub invariant-loop-byte : goal.invariant-loop-byte
invariant-loop-byte l = record {
  small : l.number < 2 ^ 32;
  rest : needed_number (Text l.text) ≡ number_after l.number (drop l.byte-index l.text);
}
