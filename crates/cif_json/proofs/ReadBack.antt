-- A value without floats, whose members stand in order, is read back from its tokens.
use Rattle.std.proofs.Common.{◌≡◌, ℕ, zero, suc, ◌<◌, ◌≤◌, ◌^◌, pos, negsuc, List, [], ◌∷◌, ◌++◌, Option, Some, option_map, option_and_then, Less, Greater, refl, sym, ap, ◌∙◌, arith, append-nil}
use Rattle.std.proofs.lemmas.Cmp.{nat_list_cmp_total}
use Rattle.std.specs.Ordering.{ordering_reverse}
use Rattle.std.specs.Prelude.{⊤}
use Rattle.json.specs.Token.{Token}
use Rattle.json.specs.Lex.{tokens}
use Rattle.json.specs.Json as json
use Rattle.json.specs.Print.{print}
use Rattle.json.specs.Tree.{HasNumbers, ItemsHaveNumbers, MembersHaveNumbers}
use Rattle.json.specs.Tree as tree
use Rattle.json.proofs.Printed.Decimals.{IsNumber-decimal, IsNumber-signed_decimal}
use Rattle.json.proofs.Printed.Trees.{value-json_tokens, ArePrintable-json_tokens}
use Rattle.serde_json.specs.Data.{Num, unsigned, negative, float, Data, null, boolean, number, string, array, object, Items, no_items, item, Members, no_members, member, put}
use Rattle.serde_json.specs.Read.{number_of, of_json, of_items, of_members, max_depth, read}
use Rattle.serde_json.specs.Written.{number_text, outline, items_outline, members_outline, compact_text}
use Rattle.serde_json.proofs.Numbers.{number_of-decimal, number_of-negative}
use Rattle.serde_json.proofs.Texts.{print-outline}
use Rattle.cif_defs.specs.Text.{line_end}
use Rattle.cif_json.specs.WrittenNetlist.{data_tokens}
use Rattle.cif_json.proofs.OrderedData.{compared, IsBelowAll, member_names}
use Rattle.cif_json.proofs.LineEnd.{tokens_with_line_end}

-- ---- values that are read back

-- a whole number of 64 bits, in its own spelling
abbrev pub IsWhole : Num → Type 0
IsWhole (unsigned n) = n < 2 ^ 64
IsWhole (negative (pos n)) = ⊥
IsWhole (negative (negsuc n)) = n < 2 ^ 63
IsWhole (float x) = ⊥

-- a value of at most n levels, with whole numbers, whose members stand in order
abbrev mutual
  pub IsPlain : ℕ → Data → Type 0
  IsPlain n null = ⊤
  IsPlain n (boolean b) = ⊤
  IsPlain n (number x) = IsWhole x
  IsPlain n (string s) = ⊤
  IsPlain zero (array ds) = ⊥
  IsPlain (suc n) (array ds) = ItemsArePlain n ds
  IsPlain zero (object ms) = ⊥
  IsPlain (suc n) (object ms) = MembersArePlain n ms

  pub ItemsArePlain : ℕ → Items → Type 0
  ItemsArePlain n no_items = ⊤
  ItemsArePlain n (item d ds) = IsPlain n d × ItemsArePlain n ds

  pub MembersArePlain : ℕ → Members → Type 0
  MembersArePlain n no_members = ⊤
  MembersArePlain n (member k d ms) = IsBelowAll k (member_names ms) × IsPlain n d × MembersArePlain n ms

-- ---- members that are put in one after another

abbrev joined : Members → Members → Members
joined no_members ms = ms
joined (member k d rest) ms = member k d (joined rest ms)

joined_none : (ms : Members) → joined ms no_members ≡ ms
joined_none no_members = refl
joined_none (member k d ms) = ap (member k d) (joined_none ms)

joined_step : (old : Members) (k : List ℕ) (d : Data) (ms : Members) → joined (joined old (member k d no_members)) ms ≡ joined old (member k d ms)
joined_step no_members k d ms = refl
joined_step (member l e old) k d ms = ap (member l e) (joined_step old k d ms)

-- each name lies below k
abbrev AreBelow : Members → List ℕ → Type 0
AreBelow no_members k = ⊤
AreBelow (member l e ms) k = (compared l k ≡ Less) × AreBelow ms k

-- each name of the first lies below each of the second
abbrev AllBelow : Members → Members → Type 0
AllBelow old no_members = ⊤
AllBelow old (member k d ms) = AreBelow old k × AllBelow old ms

above : (k l : List ℕ) → compared l k ≡ Less → compared k l ≡ Greater
above k l h = nat_list_cmp_total.antisymm k l ∙ ap ordering_reverse h

put_last : (old : Members) (k : List ℕ) (d : Data) → AreBelow old k → put k d old ≡ joined old (member k d no_members)
put_last no_members k d h = refl
put_last (member l e old) k d h = rw (above k l h.0) (ap (member l e) (put_last old k d h.1))

one_more_below : (old : Members) (k l : List ℕ) (d : Data) → AreBelow old l → compared k l ≡ Less → AreBelow (joined old (member k d no_members)) l
one_more_below no_members k l d h below = (below, tt)
one_more_below (member m e old) k l d h below = (h.0, one_more_below old k l d h.1 below)

below_all : (old ms : Members) (k : List ℕ) (d : Data) → AllBelow old ms → IsBelowAll k (member_names ms) → AllBelow (joined old (member k d no_members)) ms
below_all old no_members k d h below = tt
below_all old (member l e ms) k d h below = (one_more_below old k l d h.0 below.0, below_all old ms k d h.1 below.1)

none_below : (ms : Members) → AllBelow no_members ms
none_below no_members = tt
none_below (member k d ms) = (tt, none_below ms)

-- ---- a value from its outline

number_back : (x : Num) → IsWhole x → number_of (number_text x) ≡ Some x
number_back (unsigned n) h = number_of-decimal n h
number_back (negative (pos n)) h = absurd h
number_back (negative (negsuc n)) h = number_of-negative n h
number_back (float x) h = absurd h

mutual
  value_back : (n : ℕ) (d : Data) → IsPlain n d → of_json (outline d) ≡ Some d
  value_back n null h = refl
  value_back n (boolean b) h = refl
  value_back n (number x) h = ap (option_map number) (number_back x h)
  value_back n (string s) h = refl
  value_back zero (array ds) h = absurd h
  value_back (suc n) (array ds) h = ap (option_map array) (items_back n ds h)
  value_back zero (object ms) h = absurd h
  value_back (suc n) (object ms) h = ap (option_map object) (members_back n ms no_members h (none_below ms))

  items_back : (n : ℕ) (ds : Items) → ItemsArePlain n ds → of_items (items_outline ds) ≡ Some ds
  items_back n no_items h = refl
  items_back n (item d ds) h =
      ap (option_and_then (λ x. option_map (item x) (of_items (items_outline ds)))) (value_back n d h.0)
      ∙ ap (option_map (item d)) (items_back n ds h.1)

  members_back : (n : ℕ) (ms old : Members) → MembersArePlain n ms → AllBelow old ms → of_members (members_outline ms) old ≡ Some (joined old ms)
  members_back n no_members old h below = ap Some (sym (joined_none old))
  members_back n (member k d ms) old h below =
      ap (option_and_then (λ x. of_members (members_outline ms) (put k x old))) (value_back n d h.1)
      ∙ ap (of_members (members_outline ms)) (put_last old k d below.0)
      ∙ members_back n ms (joined old (member k d no_members)) h.2 (below_all old ms k d below.1 h.0)
      ∙ ap Some (joined_step old k d ms)

-- ---- its outline is one that is written and read

number_is_number : (x : Num) → IsWhole x → HasNumbers (json.number (number_text x))
number_is_number (unsigned n) h = IsNumber-decimal n h
number_is_number (negative (pos n)) h = absurd h
number_is_number (negative (negsuc n)) h = IsNumber-signed_decimal (negsuc n) h
number_is_number (float x) h = absurd h

mutual
  has_numbers : (n : ℕ) (d : Data) → IsPlain n d → HasNumbers (outline d)
  has_numbers n null h = tt
  has_numbers n (boolean b) h = tt
  has_numbers n (number x) h = number_is_number x h
  has_numbers n (string s) h = tt
  has_numbers zero (array ds) h = absurd h
  has_numbers (suc n) (array ds) h = items_have_numbers n ds h
  has_numbers zero (object ms) h = absurd h
  has_numbers (suc n) (object ms) h = members_have_numbers n ms h

  items_have_numbers : (n : ℕ) (ds : Items) → ItemsArePlain n ds → ItemsHaveNumbers (items_outline ds)
  items_have_numbers n no_items h = tt
  items_have_numbers n (item d ds) h = (has_numbers n d h.0, items_have_numbers n ds h.1)

  members_have_numbers : (n : ℕ) (ms : Members) → MembersArePlain n ms → MembersHaveNumbers (members_outline ms)
  members_have_numbers n no_members h = tt
  members_have_numbers n (member k d ms) h = (has_numbers n d h.1, members_have_numbers n ms h.2)

mutual
  levels : (n : ℕ) (d : Data) → IsPlain n d → tree.depth (outline d) ≤ n
  levels n null h = omega arith
  levels n (boolean b) h = omega arith
  levels n (number x) h = omega arith
  levels n (string s) h = omega arith
  levels zero (array ds) h = absurd h
  levels (suc n) (array ds) h = let below = item_levels n ds h in omega (arith, below)
  levels zero (object ms) h = absurd h
  levels (suc n) (object ms) h = let below = member_levels n ms h in omega (arith, below)

  item_levels : (n : ℕ) (ds : Items) → ItemsArePlain n ds → tree.items_depth (items_outline ds) ≤ n
  item_levels n no_items h = omega arith
  item_levels n (item d ds) h = let first = levels n d h.0 in let rest = item_levels n ds h.1 in omega (arith, first, rest)

  member_levels : (n : ℕ) (ms : Members) → MembersArePlain n ms → tree.members_depth (members_outline ms) ≤ n
  member_levels n no_members h = omega arith
  member_levels n (member k d ms) h = let first = levels n d h.1 in let rest = member_levels n ms h.2 in omega (arith, first, rest)

-- ---- the text

abbrev whole : Option (json.Json × List Token) → Option Data
whole o = option_and_then of_json (option_and_then (λ p. json.if_last p.0 p.1) o)

from_tokens : (n : ℕ) (d : Data) (text : List ℕ) → n ≤ max_depth → IsPlain n d → tokens text ≡ data_tokens d → read text ≡ Some d
from_tokens n d text few h same =
    let shallow = levels n d h in
    ap whole (ap (json.value max_depth) (same ∙ sym (append-nil _)) ∙ value-json_tokens (outline d) max_depth [] (omega (arith, shallow, few))) ∙ value_back n d h

-- the compact text of a value and a line end are read as the value
pub read_back : (n : ℕ) (d : Data) → n ≤ max_depth → IsPlain n d → read (compact_text d ++ line_end ∷ []) ≡ Some d
read_back n d few h =
    let printed : compact_text d ++ line_end ∷ [] ≡ print (data_tokens d) ++ line_end ∷ [] = ap (λ s. s ++ line_end ∷ []) (sym (print-outline d)) in
    from_tokens n d _ few h (ap tokens printed ∙ tokens_with_line_end (data_tokens d) (ArePrintable-json_tokens (outline d) (has_numbers n d h)))
