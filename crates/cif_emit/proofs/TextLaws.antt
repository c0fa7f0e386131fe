-- The texts of a cell that is appended, its name left out, are UTF-8: they are texts of the table of kinds.
use Rattle.std.specs.Prelude.{ℕ, ◌≡◌, ◌&&◌, Bool, true, false, List, [], ◌∷◌, nat_lt, bytes_eq, Option, Some, None, option_map, IsUtf8, cond, refl}
use Rattle.std.specs.List.{find, list_all}
use Rattle.std.specs.Str.{IsAscii}
use Rattle.std.proofs.Common.{arith, subst}
use Rattle.std.proofs.lemmas.Bool.Decides.{nat_tests}
use Rattle.std.proofs.lemmas.Slice.Eq.{bytes_eq-Decides}
use Rattle.std.proofs.lemmas.Str.{IsUtf8-from_ascii}
use Rattle.std.proofs.lemmas.Str.Ascii.{IsAscii-nil, IsAscii-cons}
use Rattle.cif_defs.specs.Kinds.{role_of}
use Rattle.cif_defs.specs.Table.{all_kinds, kind_of, type_text, param_text, port_text}
use Rattle.cif_defs.specs.declared.kinds.Kind.{Kind}
use Rattle.cif_defs.specs.declared.kinds.Kind.TheVariants.{Not}
use Rattle.cif_defs.specs.declared.kinds.Role.TheVariants.{Combinational}
use Rattle.cif_defs.specs.declared.kinds.Param.{Param}
use Rattle.cif_defs.specs.declared.kinds.Param.TheVariants.{Width}
use Rattle.cif_defs.specs.declared.kinds.CellPort.{CellPort}
use Rattle.cif_defs.specs.declared.kinds.CellPort.TheVariants.{Y}
use Rattle.cif_defs.specs.declared.raw_module.RawCell.{RawCell}
use Rattle.cif_emit.specs.Emitted.{IsPlainCell}

-- ---- lists of ASCII bytes

abbrev are_below_128 : List ℕ → Bool
are_below_128 bs = list_all (λ b. nat_lt b 128) bs

ascii_from : (b : ℕ) (bs : List ℕ) (test rest : Bool) → nat_lt b 128 ≡ test → (rest ≡ true → IsAscii bs) → (test && rest) ≡ true → IsAscii (b ∷ bs)
ascii_from b bs true rest e f h = IsAscii-cons b bs (grind (arith, nat_tests)) (f h)
ascii_from b bs false rest e f h = absurd (cc)

ascii_by : (bs : List ℕ) → are_below_128 bs ≡ true → IsAscii bs
ascii_by [] h = IsAscii-nil
ascii_by (b ∷ bs) h = ascii_from b bs (nat_lt b 128) (are_below_128 bs) refl (ascii_by bs) h

pub utf8_by : (bs : List ℕ) → list_all (λ b. nat_lt b 128) bs ≡ true → IsUtf8 bs
utf8_by bs h = IsUtf8-from_ascii bs (ascii_by bs h)

-- ---- texts of the table

type_test : (k : Kind) → are_below_128 (type_text k) ≡ true
type_test Not = refl
type_test _ = refl

param_test : (p : Param) → are_below_128 (param_text p) ≡ true
param_test Width = refl
param_test _ = refl

port_test : (p : CellPort) → are_below_128 (port_text p) ≡ true
port_test Y = refl
port_test _ = refl

pub param_text-IsUtf8 : (p : Param) → IsUtf8 (param_text p)
param_text-IsUtf8 p = utf8_by (param_text p) (param_test p)

pub port_text-IsUtf8 : (p : CellPort) → IsUtf8 (port_text p)
port_text-IsUtf8 p = utf8_by (port_text p) (port_test p)

-- ---- the type of a cell

same_text : (k : Kind) (text : List ℕ) → bytes_eq (type_text k) text ≡ true → IsUtf8 text
same_text k text e = subst IsUtf8 ((bytes_eq-Decides (type_text k) text).0 e) (utf8_by (type_text k) (type_test k))

found_by : (test : Bool) (text : List ℕ) (j k : Kind) (rest : Option Kind) → (test ≡ true → IsUtf8 text) → (rest ≡ Some k → IsUtf8 text) → cond test (Some j) rest ≡ Some k → IsUtf8 text
found_by true text j k rest h r e = h refl
found_by false text j k rest h r e = r e

found_in : (text : List ℕ) (kinds : List Kind) (k : Kind) → find (λ j. bytes_eq (type_text j) text) kinds ≡ Some k → IsUtf8 text
found_in text [] k e = absurd (cc)
found_in text (j ∷ kinds) k e = found_by (bytes_eq (type_text j) text) text j k _ (same_text j text) (found_in text kinds k) e

has_kind : (text : List ℕ) (found : Option Kind) → kind_of text ≡ found → option_map role_of found ≡ Some Combinational → IsUtf8 text
has_kind text None e h = absurd (cc)
has_kind text (Some k) e h = found_in text all_kinds k e

pub plain_kind-IsUtf8 : (c : RawCell) → IsPlainCell c → IsUtf8 c.kind
plain_kind-IsUtf8 c h = has_kind c.kind (kind_of c.kind) refl h.computes
