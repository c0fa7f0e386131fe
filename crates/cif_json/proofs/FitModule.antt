-- A module that was read can be written: its names and texts are UTF-8, and its numbers fit.
use Rattle.std.specs.Prelude.{ℕ, ◌^◌, ◌≡◌, pos, Bool, true, false, List, [], ◌∷◌, codes, bytes_eq, nat_lt, Option, Some, None, option_map, Result, Ok, if◌then◌else◌, IsUtf8, ⊤, refl}
use Rattle.std.proofs.Common.{subst, Ordering, Less, Equal, Greater}
use Rattle.std.proofs.lemmas.Bool.{ltb-true}
use Rattle.std.specs.List.{AllByRecursion}
use Rattle.std.specs.Ordering.{match_ordering}
use Rattle.serde_json.specs.Data.{unsigned, negative, float, Data, null, boolean, number, string, array, object, Items, no_items, item, Members, no_members, member}
use Rattle.serde_json.specs.Find.{get_member, as_str, as_object, as_array}
use Rattle.cif_defs.specs.declared.raw_module.RawBit.{RawBit}
use Rattle.cif_defs.specs.declared.raw_module.RawBit.TheVariants.{Net, Zero, One, X, Z}
use Rattle.cif_defs.specs.declared.raw_module.ParamValue.{ParamValue}
use Rattle.cif_defs.specs.declared.raw_module.ParamValue.TheVariants.{Text, Number}
use Rattle.cif_defs.specs.declared.raw_module.RawParam.{RawParam}
use Rattle.cif_defs.specs.declared.raw_module.Connection.{Connection}
use Rattle.cif_defs.specs.declared.raw_module.RawPort.{RawPort}
use Rattle.cif_defs.specs.declared.raw_module.RawCell.{RawCell}
use Rattle.cif_defs.specs.declared.raw_module.RawName.{RawName}
use Rattle.cif_defs.specs.declared.raw_module.Raw.{Raw}
use Rattle.cif_defs.specs.Order.{IsInOrder}
use Rattle.cif_json.specs.WrongPlace.{Place, ◌and_then◌, within, needed, members_of, members_if_any, each}
use Rattle.cif_json.specs.Shape.{bit_of, bits_of_items, bits_of, value_of, param_of, parameter, kept, attributes_of, connection, needed_in, things_in, attributes_in, direction_of, port, cell, named_net, module_of}
use Rattle.cif_json.specs.Top.{some_members, modules_of, is_top, with_module, tops_of, only_one, chosen, netlist_of}
use Rattle.cif_json.specs.Writable.{IsValueWritable, IsParamWritable, AreParamsWritable, IsConnectionWritable, IsPortWritable, IsCellWritable, IsNetWritable, IsWritable, IsBitSmall, AreBitsSmall, AreConnectionsSmall, HasSmallNets}
use Rattle.cif_json.proofs.OrderedData.{IsNumberFit, IsOrdered, AreOrdered}
use Rattle.cif_json.proofs.OrderedModule.{then_gave, ok_gave, within_gave, needed_gave, file_gave, there, some_gave, some_members_same}
use Rattle.cif_json.proofs.TextData.{IsText, MembersAreText}

-- ---- values whose names and texts are UTF-8 and whose numbers fit, down through objects

abbrev mutual
  IsFit : Data → Type 0
  IsFit null = ⊤
  IsFit (boolean b) = ⊤
  IsFit (number n) = IsNumberFit n
  IsFit (string s) = IsUtf8 s
  IsFit (array ds) = ⊤
  IsFit (object ms) = AreFit ms

  AreFit : Members → Type 0
  AreFit no_members = ⊤
  AreFit (member k d ms) = IsUtf8 k × IsFit d × AreFit ms

mutual
  value_fits : (d : Data) → IsOrdered d → IsText d → IsFit d
  value_fits null h t = tt
  value_fits (boolean b) h t = tt
  value_fits (number n) h t = h
  value_fits (string s) h t = t
  value_fits (array ds) h t = tt
  value_fits (object ms) h t = members_fit ms h t

  members_fit : (ms : Members) → AreOrdered ms → MembersAreText ms → AreFit ms
  members_fit no_members h t = tt
  members_fit (member k d ms) h t = (t.0, value_fits d h.1 t.1, members_fit ms h.2 t.2)

object_fits : (d : Data) (ms : Members) → IsFit d → as_object d ≡ Some ms → AreFit ms
object_fits (object os) ms h is = let same : os ≡ ms = (cc) in subst AreFit same h
object_fits null ms h is = absurd (cc)
object_fits (boolean b) ms h is = absurd (cc)
object_fits (number n) ms h is = absurd (cc)
object_fits (string s) ms h is = absurd (cc)
object_fits (array ds) ms h is = absurd (cc)

found_fits : (o : Ordering) (e d : Data) (rest : Option Data) → IsFit e → (rest ≡ Some d → IsFit d) → match_ordering o rest (Some e) rest ≡ Some d → IsFit d
found_fits Less e d rest he h is = h is
found_fits Equal e d rest he h is = let same : e ≡ d = (cc) in subst IsFit same he
found_fits Greater e d rest he h is = h is

member_fits : (k : List ℕ) (ms : Members) (d : Data) → AreFit ms → get_member k ms ≡ Some d → IsFit d
member_fits k no_members d h is = absurd (cc)
member_fits k (member l e ms) d h is = found_fits _ e d (get_member k ms) h.1 (λ more. member_fits k ms d h.2 more) is

members_of_fit : (d : Data) (ms : Members) → IsFit d → members_of d ≡ Ok ms → AreFit ms
members_of_fit d ms h e = object_fits d ms h (needed_gave (as_object d) ms e)

if_any_fit : (o : Option Data) (ms : Members) → ((d : Data) → o ≡ Some d → IsFit d) → members_if_any o ≡ Ok ms → AreFit ms
if_any_fit None ms h e = let is : no_members ≡ ms = (cc) in subst AreFit is tt
if_any_fit (Some d) ms h e = members_of_fit d ms (h d refl) e

-- ---- bits

net_small : (n : ℕ) (small : Bool) (b : RawBit) → nat_lt n (2 ^ 32) ≡ small → (if small then Some (Net n) else None) ≡ Some b → IsBitSmall b
net_small n true b h e = let is : Net n ≡ b = (cc) in subst IsBitSmall is (ltb-true n (2 ^ 32) h)
net_small n false b h e = absurd (cc)

constant_small : (zero one x z : Bool) (b : RawBit) → (if zero then Some Zero else if one then Some One else if x then Some X else if z then Some Z else None) ≡ Some b → IsBitSmall b
constant_small true one x z b e = let is : Zero ≡ b = (cc) in subst IsBitSmall is tt
constant_small false true x z b e = let is : One ≡ b = (cc) in subst IsBitSmall is tt
constant_small false false true z b e = let is : X ≡ b = (cc) in subst IsBitSmall is tt
constant_small false false false true b e = let is : Z ≡ b = (cc) in subst IsBitSmall is tt
constant_small false false false false b e = absurd (cc)

bit_small : (d : Data) (b : RawBit) → bit_of d ≡ Some b → IsBitSmall b
bit_small (number (unsigned n)) b e = net_small n (nat_lt n (2 ^ 32)) b refl e
bit_small (number (negative z)) b e = absurd (cc)
bit_small (number (float x)) b e = absurd (cc)
bit_small (string s) b e = constant_small (bytes_eq s (codes "0")) (bytes_eq s (codes "1")) (bytes_eq s (codes "x")) (bytes_eq s (codes "z")) b e
bit_small null b e = absurd (cc)
bit_small (boolean f) b e = absurd (cc)
bit_small (array ds) b e = absurd (cc)
bit_small (object ms) b e = absurd (cc)

more_small : (b : RawBit) (o : Option (List RawBit)) (bits : List RawBit) → IsBitSmall b → ((bs : List RawBit) → o ≡ Some bs → AreBitsSmall bs) → option_map (λ bs. b ∷ bs) o ≡ Some bits → AreBitsSmall bits
more_small b None bits h hs e = absurd (cc)
more_small b (Some bs) bits h hs e = let is : b ∷ bs ≡ bits = (cc) in subst AreBitsSmall is (h, hs bs refl)

items_small : (ds : Items) (bits : List RawBit) → bits_of_items ds ≡ Some bits → AreBitsSmall bits
items_small no_items bits e = let is : [] ≡ bits = (cc) in subst AreBitsSmall is tt
items_small (item d ds) bits e =
    let b = some_gave (bit_of d) (λ b. option_map (λ bs. b ∷ bs) (bits_of_items ds)) bits e in
    more_small b.0 (bits_of_items ds) bits (bit_small d b.0 b.1) (λ bs more. items_small ds bs more) b.2

bits_small : (d : Data) (bits : List RawBit) → bits_of d ≡ Some bits → AreBitsSmall bits
bits_small d bits e = let ds = some_gave (as_array d) bits_of_items bits e in items_small ds.0 bits ds.2

bits_in_small : (ms : Members) (name : List ℕ) (bits : List RawBit) → needed_in ms name bits_of ≡ Ok bits → AreBitsSmall bits
bits_in_small ms name bits e =
    let found = some_gave (get_member name ms) bits_of bits (needed_gave _ bits (within_gave name _ bits e)) in
    bits_small found.0 bits found.2

-- ---- parameters and attributes

value_writable : (d : Data) (v : ParamValue) → IsFit d → value_of d ≡ Some v → IsValueWritable v
value_writable (number (unsigned n)) v h e = let is : Number (pos n) ≡ v = (cc) in subst IsValueWritable is h
value_writable (number (negative z)) v h e = let is : Number z ≡ v = (cc) in subst IsValueWritable is h
value_writable (number (float x)) v h e = absurd (cc)
value_writable (string s) v h e = let is : Text s ≡ v = (cc) in subst IsValueWritable is h
value_writable null v h e = absurd (cc)
value_writable (boolean b) v h e = absurd (cc)
value_writable (array ds) v h e = absurd (cc)
value_writable (object ms) v h e = absurd (cc)

kept_writable : (name : List ℕ) (o : Option ParamValue) (params : List RawParam) → IsUtf8 name → ((v : ParamValue) → o ≡ Some v → IsValueWritable v) → AreParamsWritable params → AreParamsWritable (kept name o params)
kept_writable name None params h hv hs = hs
kept_writable name (Some v) params h hv hs = (record { name = h; value = hv v refl }, hs)

attributes_writable : (ms : Members) → AreFit ms → AreParamsWritable (attributes_of ms)
attributes_writable no_members h = tt
attributes_writable (member name d ms) h = kept_writable name (value_of d) (attributes_of ms) h.0 (λ v is. value_writable d v h.1 is) (attributes_writable ms h.2)

attributes_found : (ms : Members) (params : List RawParam) → AreFit ms → attributes_in ms ≡ Ok params → AreParamsWritable params
attributes_found ms params h e =
    let found = get_member (codes "attributes") ms in
    let a = then_gave (members_if_any found) (λ os. Ok (attributes_of os)) params (within_gave (codes "attributes") _ params e) in
    let is : attributes_of a.0 ≡ params = (cc) in
    subst AreParamsWritable is (attributes_writable a.0 (if_any_fit found a.0 (λ d more. member_fits (codes "attributes") ms d h more) a.1))

-- ---- things

-- P holds of what is read of a fit value under a name
abbrev Reads : {A : Type 0} → (List ℕ → Data → Result A Place) → (A → Type 0) → Type 0
Reads {A} read P = (name : List ℕ) (d : Data) (x : A) → IsUtf8 name → IsFit d → read name d ≡ Ok x → P x

each_read : {A : Type 0} (read : List ℕ → Data → Result A Place) (P : A → Type 0) → Reads read P → (ms : Members) (xs : List A) → AreFit ms → each read ms ≡ Ok xs → AllByRecursion P xs
each_read read P good no_members xs h e = let is : [] ≡ xs = (cc) in subst (AllByRecursion P) is tt
each_read read P good (member name d ms) xs h e =
    let a = then_gave (within name (read name d)) (λ x. each read ms and_then (λ ys. Ok (x ∷ ys))) xs e in
    let b = then_gave (each read ms) (λ ys. Ok (a.0 ∷ ys)) xs a.2 in
    let is : a.0 ∷ b.0 ≡ xs = (cc) in
    subst (AllByRecursion P) is (good name d a.0 h.0 h.1 (within_gave name (read name d) a.0 a.1), each_read read P good ms b.0 h.2 b.1)

things_read : {A : Type 0} (read : List ℕ → Data → Result A Place) (P : A → Type 0) → Reads read P → (ms : Members) (name : List ℕ) (xs : List A) → AreFit ms → things_in ms name read ≡ Ok xs → AllByRecursion P xs
things_read read P good ms name xs h e =
    let found = get_member name ms in
    let a = then_gave (members_if_any found) (each read) xs (within_gave name _ xs e) in
    each_read read P good a.0 xs (if_any_fit found a.0 (λ d more. member_fits name ms d h more) a.1) a.2

both : {A : Type 0} (P Q : A → Type 0) (xs : List A) → AllByRecursion (λ x. P x × Q x) xs → AllByRecursion P xs × AllByRecursion Q xs
both P Q [] h = (tt, tt)
both P Q (x ∷ xs) h = let more = both P Q xs h.1 in ((h.0.0, more.0), (h.0.1, more.1))

reads_parameter : Reads parameter IsParamWritable
reads_parameter name d x utf8 h e =
    let a = then_gave (needed (value_of d)) (λ v. Ok (param_of name v)) x e in
    subst IsParamWritable (ok_gave _ _ x refl a.2) (record { name = utf8; value = value_writable d a.0 h (needed_gave (value_of d) a.0 a.1) })

abbrev AreBitsOfConnectionSmall : Connection → Type 0
AreBitsOfConnectionSmall x = AreBitsSmall x.bits

abbrev IsGoodConnection : Connection → Type 0
IsGoodConnection x = IsConnectionWritable x × AreBitsOfConnectionSmall x

reads_connection : Reads connection IsGoodConnection
reads_connection name d x utf8 h e =
    let a = then_gave (needed (bits_of d)) _ x e in
    subst IsGoodConnection (ok_gave _ _ x refl a.2) (utf8, bits_small d a.0 (needed_gave (bits_of d) a.0 a.1))

abbrev AreBitsOfPortSmall : RawPort → Type 0
AreBitsOfPortSmall p = AreBitsSmall p.bits

abbrev IsGoodPort : RawPort → Type 0
IsGoodPort p = IsPortWritable p × AreBitsOfPortSmall p

reads_port : Reads port IsGoodPort
reads_port name d x utf8 h e =
    let members = then_gave (members_of d) _ x e in
    let direction = then_gave (needed_in members.0 (codes "direction") direction_of) _ x members.2 in
    let bits = then_gave (needed_in members.0 (codes "bits") bits_of) _ x direction.2 in
    subst IsGoodPort (ok_gave _ _ x refl bits.2) (utf8, bits_in_small members.0 (codes "bits") bits.0 bits.1)

text_fits : (d : Data) (s : List ℕ) → IsFit d → as_str d ≡ Some s → IsUtf8 s
text_fits (string t) s h e = let is : t ≡ s = (cc) in subst IsUtf8 is h
text_fits null s h e = absurd (cc)
text_fits (boolean b) s h e = absurd (cc)
text_fits (number n) s h e = absurd (cc)
text_fits (array ds) s h e = absurd (cc)
text_fits (object ms) s h e = absurd (cc)

kind_fits : (ms : Members) (kind : List ℕ) → AreFit ms → needed_in ms (codes "type") as_str ≡ Ok kind → IsUtf8 kind
kind_fits ms kind h e =
    let found = some_gave (get_member (codes "type") ms) as_str kind (needed_gave _ kind (within_gave (codes "type") _ kind e)) in
    text_fits found.0 kind (member_fits (codes "type") ms found.0 h found.1) found.2

abbrev IsGoodCell : RawCell → Type 0
IsGoodCell c = IsCellWritable c × AreConnectionsSmall c

reads_cell : Reads cell IsGoodCell
reads_cell name d x utf8 h e =
    let members = then_gave (members_of d) _ x e in
    let kind = then_gave (needed_in members.0 (codes "type") as_str) _ x members.2 in
    let parameters = then_gave (things_in members.0 (codes "parameters") parameter) _ x kind.2 in
    let attributes = then_gave (attributes_in members.0) _ x parameters.2 in
    let connections = then_gave (things_in members.0 (codes "connections") connection) _ x attributes.2 in
    let fit = members_of_fit d members.0 h members.1 in
    let connected = both IsConnectionWritable AreBitsOfConnectionSmall connections.0 (things_read connection IsGoodConnection reads_connection members.0 (codes "connections") connections.0 fit connections.1) in
    subst IsGoodCell (ok_gave _ _ x refl connections.2) (
      record {
        name = utf8;
        kind = kind_fits members.0 kind.0 fit kind.1;
        parameters = things_read parameter IsParamWritable reads_parameter members.0 (codes "parameters") parameters.0 fit parameters.1;
        attributes = attributes_found members.0 attributes.0 fit attributes.1;
        connections = connected.0;
      },
      connected.1,
    )

abbrev AreBitsOfNetSmall : RawName → Type 0
AreBitsOfNetSmall n = AreBitsSmall n.bits

abbrev IsGoodNet : RawName → Type 0
IsGoodNet n = IsNetWritable n × AreBitsOfNetSmall n

reads_net : Reads named_net IsGoodNet
reads_net name d x utf8 h e =
    let members = then_gave (members_of d) _ x e in
    let bits = then_gave (needed_in members.0 (codes "bits") bits_of) _ x members.2 in
    let attributes = then_gave (attributes_in members.0) _ x bits.2 in
    let fit = members_of_fit d members.0 h members.1 in
    subst IsGoodNet (ok_gave _ _ x refl attributes.2) (
      record { name = utf8; attributes = attributes_found members.0 attributes.0 fit attributes.1 },
      bits_in_small members.0 (codes "bits") bits.0 bits.1,
    )

-- ---- the module

-- what is asked of a module besides order
record IsGoodModule (raw : Raw) : Type 0 where
  pub writable : IsInOrder raw → IsWritable raw
  pub small : HasSmallNets raw

module_good : (name : List ℕ) (d : Data) (raw : Raw) → IsUtf8 name → IsFit d → module_of name d ≡ Ok raw → IsGoodModule raw
unfolding module_of
module_good name d raw utf8 h e =
    let members = then_gave (members_of d) _ raw e in
    let attributes = then_gave (attributes_in members.0) _ raw members.2 in
    let ports = then_gave (things_in members.0 (codes "ports") port) _ raw attributes.2 in
    let cells = then_gave (things_in members.0 (codes "cells") cell) _ raw ports.2 in
    let nets = then_gave (things_in members.0 (codes "netnames") named_net) _ raw cells.2 in
    let fit = members_of_fit d members.0 h members.1 in
    let of_ports = both IsPortWritable AreBitsOfPortSmall ports.0 (things_read port IsGoodPort reads_port members.0 (codes "ports") ports.0 fit ports.1) in
    let of_cells = both IsCellWritable AreConnectionsSmall cells.0 (things_read cell IsGoodCell reads_cell members.0 (codes "cells") cells.0 fit cells.1) in
    let of_nets = both IsNetWritable AreBitsOfNetSmall nets.0 (things_read named_net IsGoodNet reads_net members.0 (codes "netnames") nets.0 fit nets.1) in
    subst IsGoodModule (ok_gave _ _ raw refl nets.2) (record {
      writable = λ order. record {
        in_order = order;
        name = utf8;
        attributes = attributes_found members.0 attributes.0 fit attributes.1;
        ports = of_ports.0;
        cells = of_cells.0;
        nets = of_nets.0;
      };
      small = record { ports = of_ports.1; cells = of_cells.1; nets = of_nets.1 };
    })

-- ---- the chosen module

abbrev IsFitModule : List ℕ × Data → Type 0
IsFitModule m = IsUtf8 m.0 × IsFit m.1

with_fit : (b : Bool) (m : List ℕ × Data) (tops : List (List ℕ × Data)) → IsFitModule m → AllByRecursion IsFitModule tops → AllByRecursion IsFitModule (with_module b m tops)
with_fit true m tops h hs = (h, hs)
with_fit false m tops h hs = hs

tops_fit : (ms : Members) → AreFit ms → AllByRecursion IsFitModule (tops_of ms)
tops_fit no_members h = tt
tops_fit (member name d ms) h = with_fit (is_top d) (name, d) (tops_of ms) (h.0, h.1) (tops_fit ms h.2)

one_fits : (tops : List (List ℕ × Data)) (m : List ℕ × Data) → AllByRecursion IsFitModule tops → only_one tops ≡ Some m → IsFitModule m
one_fits [] m h e = absurd (cc)
one_fits (t ∷ []) m h e = let is : t ≡ m = (cc) in subst IsFitModule is h.0
one_fits (t ∷ u ∷ tops) m h e = absurd (cc)

chosen_fits : (ms : Members) (m : List ℕ × Data) → AreFit ms → chosen ms ≡ Some m → IsFitModule m
chosen_fits no_members m h e = absurd (cc)
chosen_fits (member name d no_members) m h e = let is : (name, d) ≡ m = (cc) in subst IsFitModule is (h.0, h.1)
chosen_fits (member name d (member other f ms)) m h e = one_fits _ m (tops_fit (member name d (member other f ms)) h) e

modules_fit : (d : Data) (ms : Members) → IsFit d → modules_of d ≡ Some ms → AreFit ms
modules_fit d ms h e =
    let a = some_gave _ some_members ms e in
    let b = some_gave _ as_object a.0 a.1 in
    let file = some_gave (as_object d) (get_member (codes "modules")) b.0 b.1 in
    let fit = member_fits (codes "modules") file.0 b.0 (object_fits d file.0 h file.1) file.2 in
    subst AreFit (some_members_same a.0 ms a.2) (object_fits b.0 a.0 fit b.2)

netlist_good : (d : Data) (raw : Raw) → IsFit d → netlist_of d ≡ Ok raw → IsGoodModule raw
unfolding netlist_of
netlist_good d raw h e =
    let modules = then_gave _ _ raw e in
    let m = then_gave _ _ raw modules.2 in
    let fit = chosen_fits modules.0 m.0 (modules_fit d modules.0 h (there _ _ modules.0 modules.1)) (there _ _ m.0 m.1) in
    module_good m.0.0 m.0.1 raw fit.0 fit.1 (within_gave m.0.0 _ raw (file_gave _ raw m.2))

pub is_writable : (d : Data) (raw : Raw) → IsOrdered d → IsText d → IsInOrder raw → netlist_of d ≡ Ok raw → IsWritable raw
is_writable d raw h text order e = (netlist_good d raw (value_fits d h text) e).writable order

pub has_small_nets : (d : Data) (raw : Raw) → IsOrdered d → IsText d → netlist_of d ≡ Ok raw → HasSmallNets raw
has_small_nets d raw h text e = (netlist_good d raw (value_fits d h text) e).small
