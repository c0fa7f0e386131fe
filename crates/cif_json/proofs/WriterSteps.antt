-- An object that is written member by member: the members that are left end it well.
use Rattle.std.proofs.Common.{◌≡◌, ℕ, List, [], ◌∷◌, ◌++◌, ap, ◌∙◌, append_assoc}
use Rattle.json.specs.Token.{begin_object, end_object, key}
use Rattle.json.specs.Tree.{members_tokens}
use Rattle.json.specs.Written.{Written as Writing}
use Rattle.serde_json.specs.Data.{Data, null, boolean, number, string, array, object, Members, no_members, member}
use Rattle.serde_json.specs.Written.{members_outline}
use Rattle.cif_json.specs.WrittenNetlist.{data_tokens}

abbrev pub members_in : Data → Members
members_in null = no_members
members_in (boolean b) = no_members
members_in (number n) = no_members
members_in (string s) = no_members
members_in (array ds) = no_members
members_in (object ms) = ms

-- with these members after what is written, the whole object is written
pub record IsLeft (old now : Writing) (all left : Members) : Type 0 where
  pub before : now.before ≡ old.before
  pub tokens : now.tokens ++ members_tokens (members_outline left) ≡ old.tokens ++ data_tokens (object all)

pub opened : (old now : Writing) (all : Members) → now.before ≡ old.before → now.tokens ≡ old.tokens ++ begin_object ∷ [] → IsLeft old now all all
opened old now all before tokens = record {
  before = before;
  tokens = ap (λ ts. ts ++ members_tokens (members_outline all)) tokens ∙ append_assoc old.tokens (begin_object ∷ []) _;
}

pub member_done : {old now : Writing} {all left : Members} {k : List ℕ} {d e : Data} → IsLeft old now all (member k d left) → (named next : Writing)
    → named.before ≡ now.before → named.tokens ≡ now.tokens ++ key k ∷ [] → e ≡ d → (next.before ≡ named.before) × (next.tokens ≡ named.tokens ++ data_tokens e) → IsLeft old next all left
member_done {old} {now} {all} {left} {k} {d} {e} h named next same name is value = record {
  before = value.0 ∙ same ∙ h.before;
  tokens =
      let rest = members_tokens (members_outline left) in
      ap (λ ts. ts ++ rest) (value.1 ∙ ap (λ x. named.tokens ++ data_tokens x) is) ∙ append_assoc named.tokens (data_tokens d) rest
      ∙ ap (λ ts. ts ++ (data_tokens d ++ rest)) name ∙ append_assoc now.tokens (key k ∷ []) (data_tokens d ++ rest)
      ∙ h.tokens;
}

pub closed : {old now : Writing} {all : Members} → IsLeft old now all no_members → (last : Writing)
    → last.before ≡ now.before → last.tokens ≡ now.tokens ++ end_object ∷ [] → (last.before ≡ old.before) × (last.tokens ≡ old.tokens ++ data_tokens (object all))
closed h last same tokens = (same ∙ h.before, tokens ∙ h.tokens)
