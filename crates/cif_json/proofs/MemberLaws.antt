-- Maps of JSON values beside the members that they stand for.
use Rattle.std.specs.Prelude.{ℕ, ◌≡◌, List, Bool, true, false, bytes_eq, String, Option, None, option_map, if◌then◌else◌, string_bytes, refl}
use Rattle.std.proofs.Common.{ap, sym, ◌∙◌, Global, nat_cmp, string_cmp}
use Rattle.std.proofs.lemmas.Map.Text.{btree_map_updates_text}
use Rattle.std.specs.Cmp.Lexicographic.{slice_cmp}
use Rattle.std.specs.BTreeMap.{UpdatesBy}
use Rattle.serde_json.specs.Data.{Data}
use Rattle.serde_json.specs.View.{view}
use Rattle.serde_json.specs.declared.value.Value.{Value}
use Rattle.serde_json.proofs.Views.{view-lookup}
use Rattle.cif_json.specs.SeenMembers.{Object, IsWithout}

view_of_choice : (b : Bool) (found : Option Value) (d : Option Data) → option_map view found ≡ d → option_map view (if b then None else found) ≡ (if b then None else d)
view_of_choice true found d e = refl
view_of_choice false found d e = e

-- taking out a name leaves the others
pub without_name : (name : List ℕ) (old new : Object) → UpdatesBy string_cmp (λ (k : String Global). slice_cmp nat_cmp name (string_bytes k)) old new None → IsWithout name old new
without_name name old new u = record {
  finds = λ q. sym (view-lookup q new.entries) ∙ ap (option_map view) (btree_map_updates_text name old new None u q) ∙ view_of_choice (bytes_eq name q) _ _ (view-lookup q old.entries);
}
