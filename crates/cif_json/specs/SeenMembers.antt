-- Maps of JSON values, as the members that they stand for.
use Rattle.std.specs.Prelude.{ℕ, ◌≡◌, List, bytes_eq, String, None, Result, Ok, Err, if◌then◌else◌}
use Rattle.std.specs.BTreeMap.{BTreeMap}
use Rattle.std.specs.declared.alloc.Global.{Global}
use Rattle.serde_json.specs.Data.{Members}
use Rattle.serde_json.specs.View.{members_view}
use Rattle.serde_json.specs.Find.{get_member}
use Rattle.serde_json.specs.declared.value.Value.{Value}
use Rattle.cif_json.specs.declared.misfit.Misfit.{Misfit}

abbrev pub Object : Type 0
Object = BTreeMap (String Global) Value

abbrev pub members_seen : Result Object Misfit → Result Members Misfit
members_seen (Ok m) = Ok (members_view m.entries)
members_seen (Err misfit) = Err misfit

-- new has the members of old but the one of this name
pub record IsWithout (name : List ℕ) (old new : Object) : Type 0 where
  pub finds : (q : List ℕ) → get_member q (members_view new.entries) ≡ (if bytes_eq name q then None else get_member q (members_view old.entries))
