-- The names of a module that was read stand in byte order, each once.
use Rattle.std.specs.Prelude.{ℕ, ◌≡◌, Bool, true, false, List, [], ◌∷◌, map, codes, Option, Some, None, option_and_then, Result, Ok, Err, ok_or, ⊤, refl}
use Rattle.std.proofs.Common.{sym, ap, ◌∙◌, subst, Less}
use Rattle.std.specs.List.{AllByRecursion}
use Rattle.std.specs.List.Sorted.{IsStrictlySortedBy}
use Rattle.serde_json.specs.Data.{Data, Members, no_members, member}
use Rattle.serde_json.specs.Find.{get_member, as_str, as_object}
use Rattle.cif_defs.specs.declared.raw_module.ParamValue.{ParamValue}
use Rattle.cif_defs.specs.declared.raw_module.RawParam.{RawParam}
use Rattle.cif_defs.specs.declared.raw_module.Connection.{Connection}
use Rattle.cif_defs.specs.declared.raw_module.RawPort.{RawPort}
use Rattle.cif_defs.specs.declared.raw_module.RawCell.{RawCell}
use Rattle.cif_defs.specs.declared.raw_module.RawName.{RawName}
use Rattle.cif_defs.specs.declared.raw_module.Raw.{Raw}
use Rattle.cif_json.specs.WrongPlace.{Place, ◌and_then◌, within, needed, members_of, members_if_any, each}
use Rattle.cif_json.specs.Shape.{value_of, parameter, kept, attributes_of, bits_of, connection, needed_in, things_in, attributes_in, direction_of, port, cell, named_net, module_of}
use Rattle.cif_json.specs.Top.{some_members, modules_of, is_top, with_module, tops_of, only_one, chosen, from_file, netlist_of}
use Rattle.cif_json.specs.Answers.{ComesTo}
use Rattle.cif_defs.specs.Order.{AreInOrder, param_names, IsCellInOrder, IsNetInOrder, IsInOrder}
use Rattle.cif_json.proofs.OrderedData.{compared, IsBelowAll, member_names, IsOrdered, AreOrdered, names_in_order, read_ordered, get_ordered, object_members_ordered}

-- ---- a reading that came to something

pub then_gave : {A B E : Type 0} (r : Result A E) (next : A → Result B E) (y : B) → (r and_then next) ≡ Ok y → (x : A) × (r ≡ Ok x) × (next x ≡ Ok y)
then_gave (Ok x) next y e = (x, refl, e)
then_gave (Err fault) next y e = absurd (cc)

pub ok_gave : {A E : Type 0} (r : Result A E) (x y : A) → r ≡ Ok x → r ≡ Ok y → x ≡ y
ok_gave r x y e f = (cc)

pub within_gave : {A : Type 0} (name : List ℕ) (r : Result A Place) (x : A) → within name r ≡ Ok x → r ≡ Ok x
within_gave name (Ok y) x e = e
within_gave name (Err place) x e = absurd (cc)

pub needed_gave : {A : Type 0} (o : Option A) (x : A) → needed o ≡ Ok x → o ≡ Some x
needed_gave None x e = absurd (cc)
needed_gave (Some y) x e = let is : y ≡ x = (cc) in ap Some is

pub file_gave : {A : Type 0} (r : Result A Place) (x : A) → from_file r ≡ Ok x → r ≡ Ok x
file_gave (Ok y) x e = let is : y ≡ x = (cc) in ap Ok is
file_gave (Err place) x e = absurd (cc)

pub there : {A E : Type 0} (o : Option A) (fault : E) (x : A) → ok_or o fault ≡ Ok x → o ≡ Some x
there None fault x e = absurd (cc)
there (Some y) fault x e = let is : y ≡ x = (cc) in ap Some is

-- ---- the members of a value

members_ordered : (d : Data) (ms : Members) → IsOrdered d → members_of d ≡ Ok ms → AreOrdered ms
members_ordered d ms h e = object_members_ordered d ms h (needed_gave (as_object d) ms e)

if_any_ordered : (o : Option Data) (ms : Members) → ((d : Data) → o ≡ Some d → IsOrdered d) → members_if_any o ≡ Ok ms → AreOrdered ms
if_any_ordered None ms h e = let is : no_members ≡ ms = (cc) in subst AreOrdered is tt
if_any_ordered (Some d) ms h e = members_ordered d ms (h d refl) e

-- ---- attributes

below_kept : (low name : List ℕ) (v : Option ParamValue) (params : List RawParam) → compared low name ≡ Less → IsBelowAll low (param_names params) → IsBelowAll low (param_names (kept name v params))
below_kept low name None params h hs = hs
below_kept low name (Some v) params h hs = (h, hs)

below_attributes : (low : List ℕ) (ms : Members) → IsBelowAll low (member_names ms) → IsBelowAll low (param_names (attributes_of ms))
below_attributes low no_members h = tt
below_attributes low (member name d ms) h = below_kept low name (value_of d) (attributes_of ms) h.0 (below_attributes low ms h.1)

kept_in_order : (name : List ℕ) (v : Option ParamValue) (params : List RawParam) → IsBelowAll name (param_names params) → AreInOrder (param_names params) → AreInOrder (param_names (kept name v params))
unfolding IsStrictlySortedBy
kept_in_order name None params h hs = hs
kept_in_order name (Some v) params h hs = (h, hs)

attributes_in_order : (ms : Members) → AreOrdered ms → AreInOrder (param_names (attributes_of ms))
unfolding IsStrictlySortedBy
attributes_in_order no_members h = tt
attributes_in_order (member name d ms) h = kept_in_order name (value_of d) (attributes_of ms) (below_attributes name ms h.0) (attributes_in_order ms h.2)

attributes_found : (ms : Members) (params : List RawParam) → AreOrdered ms → attributes_in ms ≡ Ok params → AreInOrder (param_names params)
attributes_found ms params h e =
    let found = get_member (codes "attributes") ms in
    let a = then_gave (members_if_any found) (λ os. Ok (attributes_of os)) params (within_gave (codes "attributes") _ params e) in
    let is : attributes_of a.0 ≡ params = (cc) in
    subst (λ ps. AreInOrder (param_names ps)) is (attributes_in_order a.0 (if_any_ordered found a.0 (λ d more. get_ordered (codes "attributes") ms d h more) a.1))

-- ---- things

-- a reading of things keeps their names, and P holds of what it reads
abbrev Reads : {A : Type 0} → (List ℕ → Data → Result A Place) → (A → List ℕ) → (A → Type 0) → Type 0
Reads {A} read name_of P = (name : List ℕ) (d : Data) (x : A) → IsOrdered d → read name d ≡ Ok x → (name_of x ≡ name) × P x

-- things with the names of some members, of which P holds
abbrev HaveNames : {A : Type 0} → (A → List ℕ) → (A → Type 0) → List (List ℕ) → List A → Type 0
HaveNames name_of P names xs = (map name_of xs ≡ names) × AllByRecursion P xs

each_named : {A : Type 0} (read : List ℕ → Data → Result A Place) (name_of : A → List ℕ) (P : A → Type 0) → Reads read name_of P
    → (ms : Members) (xs : List A) → AreOrdered ms → each read ms ≡ Ok xs → HaveNames name_of P (member_names ms) xs
each_named read name_of P good no_members xs h e = let is : [] ≡ xs = (cc) in subst (HaveNames name_of P []) is (refl, tt)
each_named {A} read name_of P good (member name d ms) xs h e =
    let a = then_gave (within name (read name d)) (λ x. each read ms and_then (λ ys. Ok (x ∷ ys))) xs e in
    let b = then_gave (each read ms) (λ ys. Ok (a.0 ∷ ys)) xs a.2 in
    let is : a.0 ∷ b.0 ≡ xs = (cc) in
    let this = good name d a.0 h.1 (within_gave name (read name d) a.0 a.1) in
    let rest = each_named read name_of P good ms b.0 h.2 b.1 in
    let names : name_of a.0 ∷ map name_of b.0 ≡ name ∷ member_names ms = ap (λ (n : List ℕ). n ∷ map name_of b.0) this.0 ∙ ap (λ (ns : List (List ℕ)). name ∷ ns) rest.0 in
    subst (HaveNames name_of P (name ∷ member_names ms)) is (names, (this.1, rest.1))

things_found : {A : Type 0} (read : List ℕ → Data → Result A Place) (name_of : A → List ℕ) (P : A → Type 0) → Reads read name_of P
    → (ms : Members) (name : List ℕ) (xs : List A) → AreOrdered ms → things_in ms name read ≡ Ok xs → AreInOrder (map name_of xs) × AllByRecursion P xs
things_found read name_of P good ms name xs h e =
    let found = get_member name ms in
    let a = then_gave (members_if_any found) (each read) xs (within_gave name _ xs e) in
    let ordered = if_any_ordered found a.0 (λ d more. get_ordered name ms d h more) a.1 in
    let b = each_named read name_of P good a.0 xs ordered a.2 in
    (subst AreInOrder (sym b.0) (names_in_order a.0 ordered), b.1)

reads_parameter : Reads parameter (λ (p : RawParam). p.name) (λ p. ⊤)
reads_parameter name d x h e =
    let a = then_gave (needed (value_of d)) _ x e in
    (sym (ap (λ (p : RawParam). p.name) (ok_gave _ _ x refl a.2)), tt)

reads_connection : Reads connection (λ (x : Connection). x.name) (λ x. ⊤)
reads_connection name d x h e =
    let a = then_gave (needed (bits_of d)) _ x e in
    (sym (ap (λ (p : Connection). p.name) (ok_gave _ _ x refl a.2)), tt)

reads_port : Reads port (λ (p : RawPort). p.name) (λ p. ⊤)
reads_port name d x h e =
    let members = then_gave (members_of d) _ x e in
    let direction = then_gave (needed_in members.0 (codes "direction") direction_of) _ x members.2 in
    let bits = then_gave (needed_in members.0 (codes "bits") bits_of) _ x direction.2 in
    (sym (ap (λ (p : RawPort). p.name) (ok_gave _ _ x refl bits.2)), tt)

reads_cell : Reads cell (λ (c : RawCell). c.name) IsCellInOrder
reads_cell name d x h e =
    let members = then_gave (members_of d) _ x e in
    let kind = then_gave (needed_in members.0 (codes "type") as_str) _ x members.2 in
    let parameters = then_gave (things_in members.0 (codes "parameters") parameter) _ x kind.2 in
    let attributes = then_gave (attributes_in members.0) _ x parameters.2 in
    let connections = then_gave (things_in members.0 (codes "connections") connection) _ x attributes.2 in
    let ordered = members_ordered d members.0 h members.1 in
    let is = ok_gave _ _ x refl connections.2 in (
      sym (ap (λ (c : RawCell). c.name) is),
      subst IsCellInOrder is (record {
        parameters = (things_found parameter (λ (p : RawParam). p.name) (λ p. ⊤) reads_parameter members.0 (codes "parameters") parameters.0 ordered parameters.1).0;
        attributes = attributes_found members.0 attributes.0 ordered attributes.1;
        connections = (things_found connection (λ (p : Connection). p.name) (λ p. ⊤) reads_connection members.0 (codes "connections") connections.0 ordered connections.1).0;
      }),
    )

reads_net : Reads named_net (λ (n : RawName). n.name) IsNetInOrder
reads_net name d x h e =
    let members = then_gave (members_of d) _ x e in
    let bits = then_gave (needed_in members.0 (codes "bits") bits_of) _ x members.2 in
    let attributes = then_gave (attributes_in members.0) _ x bits.2 in
    let is = ok_gave _ _ x refl attributes.2 in
    (sym (ap (λ (n : RawName). n.name) is), subst IsNetInOrder is (attributes_found members.0 attributes.0 (members_ordered d members.0 h members.1) attributes.1))

module_in_order : (name : List ℕ) (d : Data) (raw : Raw) → IsOrdered d → module_of name d ≡ Ok raw → IsInOrder raw
unfolding module_of
module_in_order name d raw h e =
    let members = then_gave (members_of d) _ raw e in
    let attributes = then_gave (attributes_in members.0) _ raw members.2 in
    let ports = then_gave (things_in members.0 (codes "ports") port) _ raw attributes.2 in
    let cells = then_gave (things_in members.0 (codes "cells") cell) _ raw ports.2 in
    let nets = then_gave (things_in members.0 (codes "netnames") named_net) _ raw cells.2 in
    let ordered = members_ordered d members.0 h members.1 in
    let cells_read = things_found cell (λ (c : RawCell). c.name) IsCellInOrder reads_cell members.0 (codes "cells") cells.0 ordered cells.1 in
    let nets_read = things_found named_net (λ (n : RawName). n.name) IsNetInOrder reads_net members.0 (codes "netnames") nets.0 ordered nets.1 in
    subst IsInOrder (ok_gave _ _ raw refl nets.2) (record {
      attributes = attributes_found members.0 attributes.0 ordered attributes.1;
      ports = (things_found port (λ (p : RawPort). p.name) (λ p. ⊤) reads_port members.0 (codes "ports") ports.0 ordered ports.1).0;
      cells = cells_read.0;
      each_cell = cells_read.1;
      nets = nets_read.0;
      each_net = nets_read.1;
    })

-- ---- the chosen module

abbrev HoldsOrdered : List ℕ × Data → Type 0
HoldsOrdered m = IsOrdered m.1

with_ordered : (b : Bool) (m : List ℕ × Data) (tops : List (List ℕ × Data)) → HoldsOrdered m → AllByRecursion HoldsOrdered tops → AllByRecursion HoldsOrdered (with_module b m tops)
with_ordered true m tops h hs = (h, hs)
with_ordered false m tops h hs = hs

tops_ordered : (ms : Members) → AreOrdered ms → AllByRecursion HoldsOrdered (tops_of ms)
tops_ordered no_members h = tt
tops_ordered (member name d ms) h = with_ordered (is_top d) (name, d) (tops_of ms) h.1 (tops_ordered ms h.2)

one_ordered : (tops : List (List ℕ × Data)) (m : List ℕ × Data) → AllByRecursion HoldsOrdered tops → only_one tops ≡ Some m → HoldsOrdered m
one_ordered [] m h e = absurd (cc)
one_ordered (t ∷ []) m h e = let is : t ≡ m = (cc) in subst HoldsOrdered is h.0
one_ordered (t ∷ u ∷ tops) m h e = absurd (cc)

chosen_ordered : (ms : Members) (m : List ℕ × Data) → AreOrdered ms → chosen ms ≡ Some m → HoldsOrdered m
chosen_ordered no_members m h e = absurd (cc)
chosen_ordered (member name d no_members) m h e = let is : (name, d) ≡ m = (cc) in subst HoldsOrdered is h.1
chosen_ordered (member name d (member other f ms)) m h e = one_ordered _ m (tops_ordered (member name d (member other f ms)) h) e

pub some_gave : {A B : Type 0} (o : Option A) (next : A → Option B) (y : B) → option_and_then next o ≡ Some y → (x : A) × (o ≡ Some x) × (next x ≡ Some y)
some_gave None next y e = absurd (cc)
some_gave (Some x) next y e = (x, refl, e)

pub some_members_same : (ms out : Members) → some_members ms ≡ Some out → ms ≡ out
some_members_same no_members out e = absurd (cc)
some_members_same (member name d ms) out e = (cc)

modules_ordered : (d : Data) (ms : Members) → IsOrdered d → modules_of d ≡ Some ms → AreOrdered ms
modules_ordered d ms h e =
    let a = some_gave _ some_members ms e in
    let b = some_gave _ as_object a.0 a.1 in
    let file = some_gave (as_object d) (get_member (codes "modules")) b.0 b.1 in
    let ordered = get_ordered (codes "modules") file.0 b.0 (object_members_ordered d file.0 h file.1) file.2 in
    subst AreOrdered (some_members_same a.0 ms a.2) (object_members_ordered b.0 a.0 ordered b.2)

netlist_in_order : (d : Data) (raw : Raw) → IsOrdered d → netlist_of d ≡ Ok raw → IsInOrder raw
unfolding netlist_of
netlist_in_order d raw h e =
    let modules = then_gave _ _ raw e in
    let m = then_gave _ _ raw modules.2 in
    let ordered = modules_ordered d modules.0 h (there _ _ modules.0 modules.1) in
    module_in_order m.0.0 m.0.1 raw (chosen_ordered modules.0 m.0 ordered (there _ _ m.0 m.1)) (within_gave m.0.0 _ raw (file_gave _ raw m.2))

-- what a file stands for has its names in byte order
pub in_order : (bytes : List ℕ) (raw : Raw) → ComesTo bytes (Ok raw) → IsInOrder raw
in_order bytes raw h = netlist_in_order h.0 raw (read_ordered bytes h.0 h.1.1) h.2
