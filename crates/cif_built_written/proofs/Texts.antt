-- Texts that are UTF-8: the name of a port of taint, names of further cells, and the digits of a word.
use Rattle.std.specs.Prelude.{ℕ, nat_lt, ◌≡◌, true, false, List, [], ◌∷◌, map, reverse, codes, IsUtf8, refl}
use Rattle.std.specs.Fmt.{decimal}
use Rattle.std.specs.List.{list_all}
use Rattle.std.proofs.Common.{append_assoc, subst, sym}
use Rattle.std.proofs.lemmas.Str.{IsUtf8-append}
use Rattle.cif_defs.specs.Words.{Word}
use Rattle.cif_defs.specs.WordText.{byte_of_bit, text_of}
use Rattle.cif_augment.specs.Names.{numbered_name, taint_name}
use Rattle.cif_emit.proofs.NameLaws.{further_name-IsUtf8}
use Rattle.cif_emit.proofs.TextLaws.{utf8_by}

pub taint_name-IsUtf8 : (name : List ℕ) → IsUtf8 name → IsUtf8 (taint_name name)
taint_name-IsUtf8 name h = IsUtf8-append name (codes "__t") h (utf8_by (codes "__t") refl)

pub numbered_name-IsUtf8 : (name : List ℕ) (i : ℕ) → IsUtf8 name → IsUtf8 (numbered_name name i)
numbered_name-IsUtf8 name i h = subst IsUtf8 (sym (append_assoc name (codes "__t") (decimal i))) (further_name-IsUtf8 name i h)

are_ascii : (w : Word) → list_all (λ b. nat_lt b 128) (map byte_of_bit w) ≡ true
are_ascii [] = refl
are_ascii (true ∷ w) = are_ascii w
are_ascii (false ∷ w) = are_ascii w

pub text_of-IsUtf8 : (w : Word) → IsUtf8 (text_of w)
text_of-IsUtf8 w = utf8_by (text_of w) (are_ascii (reverse w))

pub init-IsUtf8 : IsUtf8 (codes "init")
init-IsUtf8 = utf8_by (codes "init") refl
