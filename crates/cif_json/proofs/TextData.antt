-- The names and texts in a `Value` are UTF-8.
use Rattle.std.specs.Prelude.{List, [], ◌∷◌, map, String, IsUtf8, ⊤}
use Rattle.std.proofs.Common.{Global, subst, sym}
use Rattle.std.proofs.lemmas.Str.{IsUtf8-string_bytes}
use Rattle.serde_json.specs.Data.{Data, null, boolean, number, string, array, object, Items, no_items, item, Members, no_members, member}
use Rattle.serde_json.specs.View.{view, view_step, items_of, members_of}
use Rattle.serde_json.specs.declared.value.Value.{Value, map-Value}
use Rattle.serde_json.specs.declared.value.Value.TheOpen.{Value-F}
use Rattle.serde_json.specs.declared.value.Value.TheFolds.{fold-roll-Value, ind-Value}

-- names and texts are UTF-8
abbrev mutual
  pub IsText : Data → Type 0
  IsText null = ⊤
  IsText (boolean b) = ⊤
  IsText (number n) = ⊤
  IsText (string s) = IsUtf8 s
  IsText (array ds) = ItemsAreText ds
  IsText (object ms) = MembersAreText ms

  pub ItemsAreText : Items → Type 0
  ItemsAreText no_items = ⊤
  ItemsAreText (item d ds) = IsText d × ItemsAreText ds

  pub MembersAreText : Members → Type 0
  MembersAreText no_members = ⊤
  MembersAreText (member k d ms) = IsUtf8 k × IsText d × MembersAreText ms

abbrev IsSeenAsText : Value → Type 0
IsSeenAsText v = IsText (view v)

abbrev Known : Type 0
Known = (v : Value) × IsSeenAsText v

items_are_text : (es : List Known) → ItemsAreText (items_of (map view (map (λ e. e.0) es)))
items_are_text [] = tt
items_are_text (e ∷ es) = (e.1, items_are_text es)

members_are_text : (es : List (String Global × Known)) → MembersAreText (members_of (map (λ (m : String Global × Value). (m.0, view m.1)) (map (λ (m : String Global × Known). (m.0, m.1.0)) es)))
members_are_text [] = tt
members_are_text (e ∷ es) = (IsUtf8-string_bytes e.0, e.1.1, members_are_text es)

-- a value whose parts are seen as text is so itself

layer : (y : Value-F Known) → IsText (view_step (map-Value Value Data view (map-Value Known Value (λ e. e.0) y)))
layer Value-F.Null = tt
layer (Value-F.Bool b) = tt
layer (Value-F.Number n) = tt
layer (Value-F.String s) = IsUtf8-string_bytes s
layer (Value-F.Array v) = items_are_text v.items
layer (Value-F.Object m) = members_are_text m.entries

pub value_is_text : (v : Value) → IsSeenAsText v
value_is_text = ind-Value IsSeenAsText (λ x y is.
    subst IsText (sym (fold-roll-Value Data view_step x)) (subst (λ z. IsText (view_step (map-Value Value Data view z))) is (layer y)))
