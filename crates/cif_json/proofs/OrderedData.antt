-- What is read as JSON has the members of each object in byte order of name, each name once, and whole numbers of at
-- most 64 bits.
use Rattle.std.specs.Prelude.{ℕ, zero, suc, ◌<◌, ◌≤◌, ◌^◌, ◌&&◌, ◌==◌, pos, neg_ℤ, Bool, true, false, Float, ◌≡◌, List, [], ◌∷◌, drop, slice_index, nat_lt, nat_le, Option, Some, None, option_map, option_and_then, if◌then◌else◌, ⊤, refl}
use Rattle.std.proofs.Common.{ap, ◌∙◌, subst, arith, Ordering, Less, Equal, Greater, nat_cmp}
use Rattle.std.proofs.lemmas.Bool.{and_parts, ltb-true, leb-true}
use Rattle.std.proofs.lemmas.Cmp.{nat_list_cmp_total}
use Rattle.std.specs.Cmp.Lexicographic.{slice_cmp}
use Rattle.std.specs.List.{AllByRecursion}
use Rattle.std.specs.List.Sorted.{IsStrictlySortedBy}
use Rattle.std.specs.Ordering.{match_ordering, ordering_reverse}
use Rattle.std.specs.Float.{binary64, float_is_finite}
use Rattle.fast_float.specs.Text.{minus, Parts, scan, digits_of, nearest, with_sign}
use Rattle.json.specs.Lex.{tokens}
use Rattle.json.specs.Json as json
use Rattle.serde_json.specs.Data.{Num, unsigned, negative, float, Data, null, boolean, number, string, array, object, Items, no_items, item, Members, no_members, member, put}
use Rattle.serde_json.specs.Read.{is_integer, float_of, number_from, number_of, of_json, of_items, of_members, max_depth, read}
use Rattle.serde_json.specs.Find.{get_member, as_object}
use Rattle.cif_defs.specs.Order.{AreInOrder}
use Rattle.cif_json.specs.Writable.{Fits}

abbrev pub compared : List ℕ → List ℕ → Ordering
compared = slice_cmp nat_cmp

-- a name is below all of these
abbrev pub IsBelowAll : List ℕ → List (List ℕ) → Type 0
IsBelowAll name names = AllByRecursion (λ other. compared name other ≡ Less) names

abbrev pub member_names : Members → List (List ℕ)
member_names no_members = []
member_names (member k d ms) = k ∷ member_names ms

-- a whole number is one of at most 64 bits
abbrev pub IsNumberFit : Num → Type 0
IsNumberFit (unsigned n) = n < 2 ^ 64
IsNumberFit (negative z) = Fits z
IsNumberFit (float x) = ⊤

abbrev mutual
  pub IsOrdered : Data → Type 0
  IsOrdered null = ⊤
  IsOrdered (boolean b) = ⊤
  IsOrdered (number n) = IsNumberFit n
  IsOrdered (string s) = ⊤
  IsOrdered (array ds) = ItemsAreOrdered ds
  IsOrdered (object ms) = AreOrdered ms

  pub ItemsAreOrdered : Items → Type 0
  ItemsAreOrdered no_items = ⊤
  ItemsAreOrdered (item d ds) = IsOrdered d × ItemsAreOrdered ds

  pub AreOrdered : Members → Type 0
  AreOrdered no_members = ⊤
  AreOrdered (member k d ms) = IsBelowAll k (member_names ms) × IsOrdered d × AreOrdered ms

pub names_in_order : (ms : Members) → AreOrdered ms → AreInOrder (member_names ms)
unfolding IsStrictlySortedBy
names_in_order no_members h = tt
names_in_order (member k d ms) h = (h.0, names_in_order ms h.2)

-- ---- a member put in at its place

below_all_above : (low name : List ℕ) (names : List (List ℕ)) → compared low name ≡ Less → IsBelowAll name names → IsBelowAll low names
below_all_above low name [] h hs = tt
below_all_above low name (other ∷ names) h hs = (nat_list_cmp_total.trans low name other h hs.0, below_all_above low name names h hs.1)

below_put_at : (o : Ordering) (low k l : List ℕ) (d e : Data) (ms rest : Members) → compared low k ≡ Less → compared low l ≡ Less
    → IsBelowAll low (member_names ms) → IsBelowAll low (member_names rest)
    → IsBelowAll low (member_names (match_ordering o (member k d (member l e ms)) (member l d ms) (member l e rest)))
below_put_at Less low k l d e ms rest below above hs more = (below, (above, hs))
below_put_at Equal low k l d e ms rest below above hs more = (above, hs)
below_put_at Greater low k l d e ms rest below above hs more = (above, more)

below_put : (low k : List ℕ) (d : Data) (ms : Members) → compared low k ≡ Less → IsBelowAll low (member_names ms) → IsBelowAll low (member_names (put k d ms))
below_put low k d no_members h hs = (h, tt)
below_put low k d (member l e ms) h hs = below_put_at (compared k l) low k l d e ms (put k d ms) h hs.0 hs.1 (below_put low k d ms h hs.1)

put_ordered_at : (o : Ordering) (k l : List ℕ) (d e : Data) (ms : Members) → compared k l ≡ o → IsOrdered d → AreOrdered (member l e ms) → AreOrdered (put k d ms)
    → AreOrdered (match_ordering o (member k d (member l e ms)) (member l d ms) (member l e (put k d ms)))
put_ordered_at Less k l d e ms is hd h more = ((is, below_all_above k l (member_names ms) is h.0), hd, h)
put_ordered_at Equal k l d e ms is hd h more = (h.0, hd, h.2)
put_ordered_at Greater k l d e ms is hd h more =
    let below : compared l k ≡ Less = nat_list_cmp_total.antisymm l k ∙ ap ordering_reverse is in
    (below_put l k d ms below h.0, h.1, more)

put_ordered : (k : List ℕ) (d : Data) (ms : Members) → IsOrdered d → AreOrdered ms → AreOrdered (put k d ms)
put_ordered k d no_members hd h = (tt, hd, tt)
put_ordered k d (member l e ms) hd h = put_ordered_at (compared k l) k l d e ms refl hd h (put_ordered k d ms hd h.2)

-- ---- what is read

-- one of two ways gave n
either : {n : Num} (b : Bool) (x y : Option Num) → (b ≡ true → x ≡ Some n → IsNumberFit n) → (y ≡ Some n → IsNumberFit n) → (if b then x else y) ≡ Some n → IsNumberFit n
either true x y first second e = first refl e
either false x y first second e = second e

negative_fits : (m : ℕ) → m ≤ 2 ^ 63 → Fits (neg_ℤ (pos m))
negative_fits zero h = omega arith
negative_fits (suc m) h = omega (arith, h)

unsigned_fits : (m : ℕ) (n : Num) → nat_lt m (2 ^ 64) ≡ true → Some (unsigned m) ≡ Some n → IsNumberFit n
unsigned_fits m n h e = let is : unsigned m ≡ n = (cc) in subst IsNumberFit is (ltb-true m (2 ^ 64) h)

negative_number_fits : (m : ℕ) (n : Num) → nat_le m (2 ^ 63) ≡ true → Some (negative (neg_ℤ (pos m))) ≡ Some n → IsNumberFit n
negative_number_fits m n h e = let is : negative (neg_ℤ (pos m)) ≡ n = (cc) in subst IsNumberFit is (negative_fits m (leb-true m (2 ^ 63) h))

is_float_fit : (x : Float) (n : Num) → Some (float x) ≡ Some n → IsNumberFit n
is_float_fit x n e = let is : float x ≡ n = (cc) in subst IsNumberFit is tt

float_fits : (b : Bool) (x : Float) (n : Num) → (if b then Some (float x) else None) ≡ Some n → IsNumberFit n
float_fits b x n e = either b (Some (float x)) None (λ h. is_float_fit x n) (λ none. absurd (cc)) e

number_from_fits : (sign : Bool) (p : Parts) (n : Num) → number_from sign p ≡ Some n → IsNumberFit n
number_from_fits true p n e =
    either (is_integer p && nat_lt 0 (digits_of p) && nat_le (digits_of p) (2 ^ 63)) (Some (negative (with_sign true (digits_of p)))) (float_of true p)
    (λ h is. negative_number_fits (digits_of p) n ((and_parts (is_integer p && nat_lt 0 (digits_of p)) _ h).1) is) (float_fits (float_is_finite (nearest binary64 true p)) (nearest binary64 true p) n) e
number_from_fits false p n e =
    either (is_integer p && nat_lt (digits_of p) (2 ^ 64)) (Some (unsigned (digits_of p))) (float_of false p)
    (λ h is. unsigned_fits (digits_of p) n ((and_parts (is_integer p) _ h).1) is) (float_fits (float_is_finite (nearest binary64 false p)) (nearest binary64 false p) n) e

number_fits : (s : List ℕ) (n : Num) → number_of s ≡ Some n → IsNumberFit n
unfolding number_of
number_fits s n e =
    either (slice_index s 0 == minus) (number_from true (scan (drop 1 s))) (number_from false (scan s))
    (λ h is. number_from_fits true (scan (drop 1 s)) n is) (number_from_fits false (scan s) n) e

number_ordered : (o : Option Num) (d : Data) → ((n : Num) → o ≡ Some n → IsNumberFit n) → option_map number o ≡ Some d → IsOrdered d
number_ordered None d h e = absurd (cc)
number_ordered (Some n) d h e = let is : number n ≡ d = (cc) in subst IsOrdered is (h n refl)

array_ordered : (o : Option Items) (d : Data) → ((ds : Items) → o ≡ Some ds → ItemsAreOrdered ds) → option_map array o ≡ Some d → IsOrdered d
array_ordered None d h e = absurd (cc)
array_ordered (Some ds) d h e = let is : array ds ≡ d = (cc) in subst IsOrdered is (h ds refl)

object_ordered : (o : Option Members) (d : Data) → ((ms : Members) → o ≡ Some ms → AreOrdered ms) → option_map object o ≡ Some d → IsOrdered d
object_ordered None d h e = absurd (cc)
object_ordered (Some ms) d h e = let is : object ms ≡ d = (cc) in subst IsOrdered is (h ms refl)

more_ordered : (o : Option Items) (d : Data) (out : Items) → IsOrdered d → ((ds : Items) → o ≡ Some ds → ItemsAreOrdered ds) → option_map (item d) o ≡ Some out → ItemsAreOrdered out
more_ordered None d out hd h e = absurd (cc)
more_ordered (Some ds) d out hd h e = let is : item d ds ≡ out = (cc) in subst ItemsAreOrdered is (hd, h ds refl)

item_ordered : (o : Option Data) (rest : Option Items) (out : Items) → ((d : Data) → o ≡ Some d → IsOrdered d) → ((ds : Items) → rest ≡ Some ds → ItemsAreOrdered ds)
    → option_and_then (λ d. option_map (item d) rest) o ≡ Some out → ItemsAreOrdered out
item_ordered None rest out h hs e = absurd (cc)
item_ordered (Some d) rest out h hs e = more_ordered rest d out (h d refl) hs e

member_ordered : (o : Option Data) (next : Data → Option Members) (out : Members) → ((d : Data) → o ≡ Some d → IsOrdered d) → ((d : Data) → IsOrdered d → next d ≡ Some out → AreOrdered out)
    → option_and_then next o ≡ Some out → AreOrdered out
member_ordered None next out h hs e = absurd (cc)
member_ordered (Some d) next out h hs e = hs d (h d refl) e

mutual
  value_ordered : (j : json.Json) (d : Data) → of_json j ≡ Some d → IsOrdered d
  value_ordered json.null d e = let is : null ≡ d = (cc) in subst IsOrdered is tt
  value_ordered (json.boolean b) d e = let is : boolean b ≡ d = (cc) in subst IsOrdered is tt
  value_ordered (json.number s) d e = number_ordered (number_of s) d (number_fits s) e
  value_ordered (json.string s) d e = let is : string s ≡ d = (cc) in subst IsOrdered is tt
  value_ordered (json.array js) d e = array_ordered (of_items js) d (λ ds h. items_ordered js ds h) e
  value_ordered (json.object ms) d e = object_ordered (of_members ms no_members) d (λ found h. members_ordered ms no_members found tt h) e

  items_ordered : (js : json.Items) (ds : Items) → of_items js ≡ Some ds → ItemsAreOrdered ds
  items_ordered json.no_items ds e = let is : no_items ≡ ds = (cc) in subst ItemsAreOrdered is tt
  items_ordered (json.item j js) ds e = item_ordered (of_json j) (of_items js) ds (λ d h. value_ordered j d h) (λ rest h. items_ordered js rest h) e

  members_ordered : (ms : json.Members) (found out : Members) → AreOrdered found → of_members ms found ≡ Some out → AreOrdered out
  members_ordered json.no_members found out h e = let is : found ≡ out = (cc) in subst AreOrdered is h
  members_ordered (json.member k j ms) found out h e =
      member_ordered (of_json j) (λ d. of_members ms (put k d found)) out (λ d is. value_ordered j d is)
      (λ d hd more. members_ordered ms (put k d found) out (put_ordered k d found hd h) more) e

from_json : (o : Option json.Json) (d : Data) → option_and_then of_json o ≡ Some d → IsOrdered d
from_json None d e = absurd (cc)
from_json (Some j) d e = value_ordered j d e

pub read_ordered : (bytes : List ℕ) (d : Data) → read bytes ≡ Some d → IsOrdered d
read_ordered bytes d e = from_json (option_and_then (λ p. json.if_last p.0 p.1) (json.value max_depth (tokens bytes))) d e

-- ---- what is found

found_ordered : (o : Ordering) (e d : Data) (rest : Option Data) → IsOrdered e → (rest ≡ Some d → IsOrdered d) → match_ordering o rest (Some e) rest ≡ Some d → IsOrdered d
found_ordered Less e d rest he h is = h is
found_ordered Equal e d rest he h is = let same : e ≡ d = (cc) in subst IsOrdered same he
found_ordered Greater e d rest he h is = h is

pub get_ordered : (k : List ℕ) (ms : Members) (d : Data) → AreOrdered ms → get_member k ms ≡ Some d → IsOrdered d
get_ordered k no_members d h is = absurd (cc)
get_ordered k (member l e ms) d h is = found_ordered (compared k l) e d (get_member k ms) h.1 (λ more. get_ordered k ms d h.2 more) is

pub object_members_ordered : (d : Data) (ms : Members) → IsOrdered d → as_object d ≡ Some ms → AreOrdered ms
object_members_ordered (object os) ms h is = let same : os ≡ ms = (cc) in subst AreOrdered same h
object_members_ordered null ms h is = absurd (cc)
object_members_ordered (boolean b) ms h is = absurd (cc)
object_members_ordered (number n) ms h is = absurd (cc)
object_members_ordered (string s) ms h is = absurd (cc)
object_members_ordered (array ds) ms h is = absurd (cc)
