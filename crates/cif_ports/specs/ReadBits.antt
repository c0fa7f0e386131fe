-- The bits that a port reads, of values or of taints.
use Rattle.std.specs.Prelude.{ℕ, Bool, false, List, [], ◌∷◌}
use Rattle.cif_defs.specs.Words.{Word}
use Rattle.cif_defs.specs.declared.nets.Src.{Src}
use Rattle.cif_defs.specs.declared.nets.Src.TheVariants.{Bit, Zero, One}

-- a bit that is read, where a constant 1 reads as one: true among values, and false among taints
abbrev pub read_bit : Bool → (ℕ → Bool) → Src → Bool
read_bit one v (Bit b) = v b
read_bit one v Zero = false
read_bit one v One = one

abbrev pub read_word : Bool → (ℕ → Bool) → List Src → Word
read_word one v [] = []
read_word one v (s ∷ ss) = read_bit one v s ∷ read_word one v ss
