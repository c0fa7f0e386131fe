-- What cells read, and what memories show.
use Rattle.std.specs.Prelude.{ℕ, ◌≤◌, ◌*◌, ◌/◌, ◌%◌, Bool, List, [], length, get_or}
use Rattle.cif_defs.specs.Words.{Word, bit, word}
use Rattle.cif_defs.specs.Cells.{Cell, width, shape_of}
use Rattle.cif_defs.specs.Memory.{read_word, read_taint, read_address}
use Rattle.cif_defs.specs.declared.nets.Src.{Src}

-- operands of at most 65,536 bits each
unfoldable pub AreNarrow : List (List Src) → Type 0
AreNarrow operands = (p : ℕ) → length (get_or operands p []) ≤ 65536

-- the joined words of the first n read ports, in which port 0 is lowest
abbrev pub read_words : Cell → ℕ → List Word → Word → Word
read_words c n us stored = word (n * width c) (λ k. bit (read_word (shape_of c) (read_address (shape_of c) us (k / width c)) stored) (k % width c))

-- and their joined taints
abbrev pub read_taints : Cell → ℕ → List Word → List Word → Bool → Word → Word
read_taints c n vs ts flag taint = word (n * width c) (λ k. bit (read_taint (shape_of c) (read_address (shape_of c) vs (k / width c)) (read_address (shape_of c) ts (k / width c)) flag taint) (k % width c))
