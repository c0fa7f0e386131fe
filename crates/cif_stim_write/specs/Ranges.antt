-- Lines whose names are bytes, and whose numbers have at most 64 bits.
use Rattle.std.specs.Prelude.{◌^◌, nat_lt, Bool, ◌&&◌}
use Rattle.cif_defs.specs.Stimulus.{StimLine as LineData, reg_line, mem_line, release_line, cycle_line, set_line}
use Rattle.cif_text.specs.Bytes.{are_bytes}

abbrev pub is_in_range : LineData → Bool
is_in_range (reg_line name w) = are_bytes name
is_in_range (mem_line name address w) = are_bytes name && nat_lt address (2 ^ 64)
is_in_range (release_line name bits) = are_bytes name
is_in_range (cycle_line k) = nat_lt k (2 ^ 64)
is_in_range (set_line name w) = are_bytes name
