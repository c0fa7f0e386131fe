-- What is found of a cell: values of parameters, bits of ports, and whether they are connected, in the order of the table of kinds.
use Rattle.std.specs.Prelude.{ℕ, ◌<◌, ◌≡◌, Bool, true, List, [], ◌++◌, length, get_or, map, Option, Some, None, refl}
use Rattle.std.proofs.Common.{ap, ◌∙◌}
use Rattle.std.proofs.lemmas.List.{get_or-map}
use Rattle.std.proofs.lemmas.List.Folds.{flat_map-map}
use denote.Enum.Bare.{same_true}
use Rattle.cif_defs.specs.Kinds.{is_same_param}
use Rattle.cif_defs.specs.Table.{kind_of, operands_of, outputs_of, clocks_of}
use Rattle.cif_defs.specs.RawModule.{bits_by, port_bits}
use Rattle.cif_defs.specs.declared.kinds.Kind.{Kind}
use Rattle.cif_defs.specs.declared.kinds.Param.{Param}
use Rattle.cif_defs.specs.contracts.kinds.Param.{the_type}
use Rattle.cif_defs.specs.declared.kinds.PortRow.{PortRow}
use Rattle.cif_defs.specs.declared.raw_module.ParamValue.{ParamValue}
use Rattle.cif_defs.specs.declared.raw_module.RawBit.{RawBit}
use Rattle.cif_defs.specs.declared.raw_module.RawCell.{RawCell}
use Rattle.cif_checks.specs.Known.{IsKnown, bits_at, joined, rows_by, parameters_by, value_at, is_connected}

-- ---- ports joined

joined_by : (rows : Kind → List PortRow) (c : RawCell) (o : Option Kind) → joined (map (port_bits c) (rows_by rows o)) ≡ bits_by rows c o
joined_by rows c None = refl
joined_by rows c (Some k) = flat_map-map (λ (bits : List RawBit). bits) (port_bits c) (rows k)

pub joined_is : (rows : Kind → List PortRow) (c : RawCell) (ports : List (List RawBit)) → ports ≡ bits_at rows c → joined ports ≡ bits_by rows c (kind_of c.kind)
joined_is rows c ports e = ap joined e ∙ joined_by rows c (kind_of c.kind)

-- ---- gathered

gathered : {B : Type 0} (f : PortRow → B) (kind wanted : Option Kind) (xs ys zs : List PortRow) (start one two three : List B) → kind ≡ wanted
    → xs ≡ rows_by operands_of kind → ys ≡ rows_by outputs_of kind → zs ≡ rows_by clocks_of kind
    → start ≡ [] → one ≡ start ++ map f xs → two ≡ one ++ map f ys → three ≡ two ++ map f zs
    → (one ≡ map f (rows_by operands_of wanted)) × ((two ≡ map f (rows_by operands_of wanted) ++ map f (rows_by outputs_of wanted))
    × (three ≡ map f (rows_by operands_of wanted) ++ map f (rows_by outputs_of wanted) ++ map f (rows_by clocks_of wanted)))
gathered {B} f kind wanted xs ys zs start one two three k x y z n p q r =
    let a : one ≡ map f (rows_by operands_of wanted) = p ∙ ap (λ (ps : List B). ps ++ map f xs) n ∙ ap (map f) (x ∙ ap (rows_by operands_of) k) in
    let b : two ≡ map f (rows_by operands_of wanted) ++ map f (rows_by outputs_of wanted) =
    q ∙ ap (λ (ps : List B). ps ++ map f ys) a ∙ ap (λ (rs : List PortRow). map f (rows_by operands_of wanted) ++ map f rs) (y ∙ ap (rows_by outputs_of) k) in
    (a, (b, r ∙ ap (λ (ps : List B). ps ++ map f zs) b ∙ ap (λ (rs : List PortRow). map f (rows_by operands_of wanted) ++ map f (rows_by outputs_of wanted) ++ map f rs) (z ∙ ap (rows_by clocks_of) k)))

-- what three calls append to two lists: the bits of ports, and whether they are connected
pub record Appended (c : RawCell) (rows : List PortRow) (ports : List (List RawBit)) (ports_after : List (List RawBit)) (are_connected : List Bool) (are_connected_after : List Bool) : Type 0 where
  pub bits : ports_after ≡ ports ++ map (port_bits c) rows
  pub flags : are_connected_after ≡ are_connected ++ map (is_connected c) rows

pub known_is : (c : RawCell) (text : List ℕ) (kind : Option Kind) (params : List Param) (values : List (Option ParamValue)) (xs ys zs : List PortRow) (start one two three : List (List RawBit)) (start' one' two' three' : List Bool) (i j : ℕ)
    → kind ≡ kind_of text → text ≡ c.kind → params ≡ parameters_by kind → values ≡ map (value_at c) params
    → xs ≡ rows_by operands_of kind → ys ≡ rows_by outputs_of kind → zs ≡ rows_by clocks_of kind
    → start ≡ [] → start' ≡ [] → Appended c xs start one start' one' → Appended c ys one two one' two' → Appended c zs two three two' three' → i ≡ length one → j ≡ length two
    → IsKnown c kind values three three' i j
known_is c text kind params values xs ys zs start one two three start' one' two' three' i j e t g v x y z n n' p q r li lj =
    let k : kind ≡ kind_of c.kind = e ∙ ap kind_of t in
    let bits = gathered (port_bits c) kind (kind_of c.kind) xs ys zs start one two three k x y z n p.bits q.bits r.bits in
    let flags = gathered (is_connected c) kind (kind_of c.kind) xs ys zs start' one' two' three' k x y z n' p.flags q.flags r.flags in
    record {
      same_kind = k;
      same_values = v ∙ ap (map (value_at c)) g;
      same_ports = bits.1.1;
      same_connected = flags.1.1;
      operands = li ∙ ap length bits.0;
      outputs = lj ∙ ap length bits.1.0;
    }

-- ---- found for a parameter

same_param : (p q : Param) → is_same_param p q ≡ true → p ≡ q
same_param p q e = same_true the_type tt p q e

pub value_found : (c : RawCell) (params : List Param) (values : List (Option ParamValue)) (i : ℕ) (d param : Param) (e : Option ParamValue) → values ≡ map (value_at c) params → i < length params
    → is_same_param (get_or params i d) param ≡ true → get_or values i e ≡ value_at c param
value_found c params values i d param e v h same =
    ap (λ (vs : List (Option ParamValue)). get_or vs i e) v ∙ get_or-map (value_at c) params i d e h ∙ ap (value_at c) (same_param (get_or params i d) param same)

-- ---- by the kind of a cell

pub ports_are : (rows : Kind → List PortRow) (c : RawCell) (k : Kind) (ports : List (List RawBit)) → ports ≡ bits_at rows c → kind_of c.kind ≡ Some k → ports ≡ map (port_bits c) (rows k)
ports_are rows c k ports e is = e ∙ ap (λ o. map (port_bits c) (rows_by rows o)) is
