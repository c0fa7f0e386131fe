-- A write at a tainted address, by computation: a memory of 4 words of 2 bits, with no stored taint.
use Rattle.std.specs.Prelude.{◌≡◌, true, false, [], ◌∷◌, refl}
use Rattle.cif_defs.specs.Words.{zeros}
use Rattle.cif_term.specs.Formulas.{value_of}
use Rattle.rule_memory.specs.MemoryFormulas.{enable_formula, flag_formula, read_formula}

-- a write at 01/01 of 11/00 with enable 11/00 sets the flag
flag_is_set : value_of flag_formula ((true ∷ true ∷ []) ∷ (true ∷ false ∷ []) ∷ (true ∷ true ∷ []) ∷ (false ∷ []) ∷ []) (zeros 2 ∷ (true ∷ false ∷ []) ∷ zeros 2 ∷ zeros 1 ∷ []) [] ≡ true ∷ []
flag_is_set = refl

-- and no stored taint
nothing_is_stored : value_of (enable_formula 2) ((true ∷ true ∷ []) ∷ (true ∷ false ∷ []) ∷ (true ∷ true ∷ []) ∷ []) (zeros 2 ∷ (true ∷ false ∷ []) ∷ zeros 2 ∷ []) [] ≡ zeros 2
nothing_is_stored = refl

-- a read at 11/00 in the next cycle has taint 11
read_is_tainted : value_of (read_formula 2) ((true ∷ true ∷ []) ∷ (true ∷ []) ∷ zeros 2 ∷ []) (zeros 2 ∷ zeros 1 ∷ zeros 2 ∷ []) [] ≡ true ∷ true ∷ []
read_is_tainted = refl

-- with enable 00/00 the flag stays clear, and the read has taint 00
flag_stays_clear : value_of flag_formula (zeros 2 ∷ (true ∷ false ∷ []) ∷ (true ∷ true ∷ []) ∷ (false ∷ []) ∷ []) (zeros 2 ∷ (true ∷ false ∷ []) ∷ zeros 2 ∷ zeros 1 ∷ []) [] ≡ false ∷ []
flag_stays_clear = refl

read_is_clean : value_of (read_formula 2) ((true ∷ true ∷ []) ∷ (false ∷ []) ∷ zeros 2 ∷ []) (zeros 2 ∷ zeros 1 ∷ zeros 2 ∷ []) [] ≡ zeros 2
read_is_clean = refl
