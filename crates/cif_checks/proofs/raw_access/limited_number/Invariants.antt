use Rattle.std.proofs.Common.{◌≡◌, take, min}
use Rattle.cif_defs.specs.Words.{number as number_of_word}
use Rattle.cif_defs.specs.WordText.{word_of_text}
use Rattle.cif_checks.proofs.raw_access.limited_number.Given as goal

abbrev pub invariant-loop-byte : goal.invariant-loop-byte
invariant-loop-byte l = l.number ≡ min 4294967296 (number_of_word (word_of_text (take l.byte-index l.text)))
