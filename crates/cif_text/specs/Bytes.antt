-- Names that are bytes.
use Rattle.std.specs.Prelude.{ℕ, nat_lt, Bool, List}
use Rattle.std.specs.List.{list_all}

abbrev pub is_byte : ℕ → Bool
is_byte b = nat_lt b 256

abbrev pub are_bytes : List ℕ → Bool
are_bytes name = list_all is_byte name
