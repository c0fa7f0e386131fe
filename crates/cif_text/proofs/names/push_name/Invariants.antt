use Rattle.std.proofs.Common.{◌≡◌, ◌++◌, true, take}
use Rattle.std.specs.List.{flat_map, list_all}
use Rattle.cif_defs.specs.Text.{coded_byte}
use Rattle.cif_text.specs.Bytes.{is_byte}
use Rattle.cif_text.proofs.names.push_name.Given as goal

abbrev pub invariant-loop-byte : goal.invariant-loop-byte
invariant-loop-byte l = record {
  text : l.text.items ≡ l.fn.text.items ++ flat_map coded_byte (take l.byte-index l.name);
  bytes : list_all is_byte (take l.byte-index l.name) ≡ true;
}
