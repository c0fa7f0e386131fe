-- A module that was written is read again.
use Rattle.std.specs.Prelude.{ℕ, ◌≡◌, List, [], ◌∷◌, ◌++◌, Ok, Some, refl}
use Rattle.std.proofs.Common.{ap, sym, ◌∙◌, subst, arith}
use Rattle.std.proofs.lemmas.Str.{IsUtf8-append}
use Rattle.std.specs.Str.{IsUtf8}
use Rattle.json.specs.Token.{Token}
use Rattle.json.specs.Print.{print}
use Rattle.json.proofs.Printed.Utf8.{IsUtf8-are_ascii}
use Rattle.serde_json.proofs.Texts.{print-outline}
use Rattle.serde_json.specs.Read.{read}
use Rattle.cif_defs.specs.Text.{line_end}
use Rattle.cif_defs.specs.declared.raw_module.Raw.{Raw}
use Rattle.cif_json.specs.Answers.{ComesTo}
use Rattle.cif_json.specs.WrittenNetlist.{file_data, data_tokens, netlist_text}
use Rattle.cif_json.specs.Writable.{IsWritable, HasSmallNets}
use Rattle.cif_json.proofs.ReadBack.{read_back}
use Rattle.cif_json.proofs.PlainFile.{file_plain, file_levels}
use Rattle.cif_json.proofs.FileNetlist.{file_back}

-- what is printed for a file's tokens, with a line end
pub is_text : (raw : Raw) (ts : List Token) (text bytes : List ℕ) → ts ≡ data_tokens (file_data raw) → text ≡ print ts → bytes ≡ text ++ line_end ∷ [] → bytes ≡ netlist_text raw
unfolding netlist_text
is_text raw ts text bytes tokens printed e = e ∙ ap (λ s. s ++ line_end ∷ []) (printed ∙ ap print tokens ∙ print-outline (file_data raw))

pub is_utf8 : (text bytes : List ℕ) → IsUtf8 text → bytes ≡ text ++ line_end ∷ [] → IsUtf8 bytes
is_utf8 text bytes h e = subst IsUtf8 (sym e) (IsUtf8-append text (line_end ∷ []) h (IsUtf8-are_ascii (line_end ∷ []) refl))

pub round_trip : (raw : Raw) (bytes : List ℕ) → bytes ≡ netlist_text raw → IsUtf8 bytes → IsWritable raw → HasSmallNets raw → ComesTo bytes (Ok raw)
unfolding netlist_text
round_trip raw bytes e utf8 h small =
    (file_data raw, (utf8, subst (λ b. read b ≡ Some (file_data raw)) (sym e) (read_back file_levels (file_data raw) (omega arith) (file_plain raw h small))), file_back raw small)
