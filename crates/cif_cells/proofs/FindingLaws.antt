-- What stands under a name, found by its place among names in byte order.
use Rattle.std.specs.Prelude.{ℕ, suc, ◌+◌, ◌<◌, ◌≡◌, Bool, true, false, not, ◌&&◌, List, [], ◌∷◌, ◌++◌, length, get_or, map, bytes_eq, Option, Some, None, option_map, is_some, refl}
use Rattle.std.specs.List.{position_from}
use Rattle.std.proofs.Common.{arith, sym, ap, ◌∙◌, subst, cond}
use Rattle.std.proofs.lemmas.List.{append-nil, get_or-map, length-map}
use Rattle.std.proofs.lemmas.Slice.Eq.{bytes_eq-Decides}
use Rattle.cif_defs.specs.Accepted.{all_clock_bits, driven, driver_in, is_clock}
use Rattle.cif_defs.specs.Order.{place_among}
use Rattle.cif_defs.specs.declared.nets.Wire.{Wire}
use Rattle.cif_defs.specs.declared.raw_module.Direction.TheVariants.{Input}
use Rattle.cif_defs.specs.declared.raw_module.RawBit.{RawBit}
use Rattle.cif_defs.specs.declared.raw_module.RawBit.TheVariants.{Net}
use Rattle.cif_defs.specs.declared.raw_module.RawName.{RawName}
use Rattle.cif_defs.specs.declared.raw_module.RawPort.{RawPort}
use Rattle.cif_defs.specs.declared.raw_module.Raw.{Raw}
use Rattle.cif_cells.specs.Building.{clock_number, is_number}
use Rattle.cif_nets.specs.Drives.{driven_by}
use Rattle.cif_cells.specs.Finding.{Named, all_named, bits_under, found_as, found_of, is_two_valued, missing, port_named, wire_if}
use Rattle.cif_nets.specs.Nets.{is_driven}
use Rattle.cif_nets.specs.declared.drives.DrivenBy.{DrivenBy}
use Rattle.cif_cells.specs.Wires.{HoldsWires}
use Rattle.cif_cells.specs.declared.finding.Wires.{Wires}
use Rattle.cif_cells.proofs.BuildLaws.{first_is_number}
use Rattle.cif_nets.proofs.NetLaws.{driven_has_driver}

-- ---- numbers

pub clock_is_number : (raw : Raw) (clock : Option ℕ) (x : ℕ) → clock ≡ clock_number raw → is_number clock x ≡ is_clock raw x
clock_is_number raw clock x e = ap (λ (o : Option ℕ). is_number o x) e ∙ first_is_number x (all_clock_bits raw)

has_driver : (raw : Raw) (x : ℕ) → is_driven (driven_by raw x) ≡ is_some (driver_in (driven raw) x)
has_driver raw x = driven_has_driver (driven raw) x

pub number_has_value : (raw : Raw) (clock : Option ℕ) (bit : RawBit) (x : ℕ) (at_clock value : Bool) (drive : DrivenBy) → bit ≡ Net x → clock ≡ clock_number raw → at_clock ≡ is_number clock x → at_clock ≡ false
    → drive ≡ driven_by raw x → value ≡ is_driven drive → value ≡ is_two_valued raw bit
number_has_value raw clock bit x at_clock value drive is e at other d v =
    let here : is_clock raw x ≡ false = sym (clock_is_number raw clock x e) ∙ sym at ∙ other in
    v ∙ ap is_driven d ∙ has_driver raw x ∙ sym (ap (λ b. not b && is_some (driver_in (driven raw) x)) here) ∙ ap (is_two_valued raw) (sym is)

-- ---- the bits under a name, by its place

abbrev has_name : {A : Type 0} → (A → List ℕ) → List ℕ → A → Bool
has_name name_of name x = bytes_eq (name_of x) name

-- where a name stands, and what stands under it
record StandsAt {A : Type 0} (name_of : A → List ℕ) (bits_of : A → List RawBit) (xs : List A) (rest : List Named) (name : List ℕ) (d : A) (q : ℕ) : Type 0 where
  inside : q < length xs
  named : name_of (get_or xs q d) ≡ name
  bits : bits_under name (map (λ x. (name_of x, bits_of x)) xs ++ rest) ≡ Some (bits_of (get_or xs q d))

abbrev StandsFrom : {A : Type 0} → (A → List ℕ) → (A → List RawBit) → List A → List Named → List ℕ → A → ℕ → ℕ → Type 0
StandsFrom name_of bits_of xs rest name d i p = (q : ℕ) × (p ≡ i + q) × StandsAt name_of bits_of xs rest name d q

stands_by : {A : Type 0} (name_of : A → List ℕ) (bits_of : A → List RawBit) (x : A) (xs : List A) (rest : List Named) (name : List ℕ) (d : A) (i p : ℕ) (b : Bool) → has_name name_of name x ≡ b
    → cond b (Some i) (position_from (has_name name_of name) (i + 1) xs) ≡ Some p
    → (position_from (has_name name_of name) (i + 1) xs ≡ Some p → StandsFrom name_of bits_of xs rest name d (i + 1) p)
    → StandsFrom name_of bits_of (x ∷ xs) rest name d i p
stands_by name_of bits_of x xs rest name d i p true e h later =
    let at : i ≡ p = (cc) in (
      0,
      (let z : p ≡ i + 0 = omega arith in z),
      record {
        inside = omega arith;
        named = (bytes_eq-Decides (name_of x) name).0 e;
        bits = ap (λ b. cond b (Some (bits_of x)) (bits_under name (map (λ y. (name_of y, bits_of y)) xs ++ rest))) e;
      },
    )
stands_by name_of bits_of x xs rest name d i p false e h later =
    let r = later h in (
      suc r.0,
      (let z : p ≡ i + 1 + r.0 = r.1 in let y : p ≡ i + suc r.0 = omega arith in y),
      record {
        inside = (let l : r.0 < length xs = r.2.inside in omega arith);
        named = r.2.named;
        bits = ap (λ b. cond b (Some (bits_of x)) (bits_under name (map (λ y. (name_of y, bits_of y)) xs ++ rest))) e ∙ r.2.bits;
      },
    )

stands_from : {A : Type 0} (name_of : A → List ℕ) (bits_of : A → List RawBit) (xs : List A) (rest : List Named) (name : List ℕ) (d : A) (i p : ℕ) → position_from (has_name name_of name) i xs ≡ Some p → StandsFrom name_of bits_of xs rest name d i p
stands_from name_of bits_of [] rest name d i p h = absurd (cc)
stands_from name_of bits_of (x ∷ xs) rest name d i p h = stands_by name_of bits_of x xs rest name d i p (has_name name_of name x) refl h (λ k. stands_from name_of bits_of xs rest name d (i + 1) p k)

stands_at : {A : Type 0} (name_of : A → List ℕ) (bits_of : A → List RawBit) (xs : List A) (rest : List Named) (name : List ℕ) (d : A) (p : ℕ) → place_among name_of xs name ≡ Some p → StandsAt name_of bits_of xs rest name d p
unfolding place_among
stands_at name_of bits_of xs rest name d p h =
    let r = stands_from name_of bits_of xs rest name d 0 p h in
    let same : r.0 ≡ p = (let e : p ≡ 0 + r.0 = r.1 in omega arith) in
    subst (StandsAt name_of bits_of xs rest name d) same r.2

absent_by : {A : Type 0} (name_of : A → List ℕ) (bits_of : A → List RawBit) (x : A) (xs : List A) (rest : List Named) (name : List ℕ) (i : ℕ) (b : Bool) → has_name name_of name x ≡ b
    → cond b (Some i) (position_from (has_name name_of name) (i + 1) xs) ≡ None
    → (position_from (has_name name_of name) (i + 1) xs ≡ None → bits_under name (map (λ y. (name_of y, bits_of y)) xs ++ rest) ≡ bits_under name rest)
    → bits_under name (map (λ y. (name_of y, bits_of y)) (x ∷ xs) ++ rest) ≡ bits_under name rest
absent_by name_of bits_of x xs rest name i true e h later = absurd (cc)
absent_by name_of bits_of x xs rest name i false e h later = ap (λ b. cond b (Some (bits_of x)) (bits_under name (map (λ y. (name_of y, bits_of y)) xs ++ rest))) e ∙ later h

absent_from : {A : Type 0} (name_of : A → List ℕ) (bits_of : A → List RawBit) (xs : List A) (rest : List Named) (name : List ℕ) (i : ℕ) → position_from (has_name name_of name) i xs ≡ None → bits_under name (map (λ y. (name_of y, bits_of y)) xs ++ rest) ≡ bits_under name rest
absent_from name_of bits_of [] rest name i h = refl
absent_from name_of bits_of (x ∷ xs) rest name i h = absent_by name_of bits_of x xs rest name i (has_name name_of name x) refl h (λ k. absent_from name_of bits_of xs rest name (i + 1) k)

absent : {A : Type 0} (name_of : A → List ℕ) (bits_of : A → List RawBit) (xs : List A) (rest : List Named) (name : List ℕ) → place_among name_of xs name ≡ None → bits_under name (map (λ y. (name_of y, bits_of y)) xs ++ rest) ≡ bits_under name rest
unfolding place_among
absent name_of bits_of xs rest name h = absent_from name_of bits_of xs rest name 0 h

-- ---- what is found

abbrev name_of_net : RawName → List ℕ
name_of_net n = n.name

abbrev bits_of_net : RawName → List RawBit
bits_of_net n = n.bits

abbrev name_of_port : RawPort → List ℕ
name_of_port p = p.name

abbrev bits_of_port : RawPort → List RawBit
bits_of_port p = p.bits

-- what is kept of some names, each with its bits
abbrev wires_from : {A : Type 0} → Raw → (A → List ℕ) → (A → List RawBit) → List A → List (Option Wire)
wires_from {A} raw name_of bits_of xs = map (λ (x : A). wire_if raw (name_of x) (bits_of x)) xs

is_inside : {A : Type 0} (raw : Raw) (name_of : A → List ℕ) (bits_of : A → List RawBit) (xs : List A) (name : List ℕ) (d : A) (p : ℕ) (wires : List (Option Wire)) → wires ≡ wires_from raw name_of bits_of xs → place_among name_of xs name ≡ Some p → p < length wires
is_inside raw name_of bits_of xs name d p wires e h =
    let stands = stands_at name_of bits_of xs [] name d p h in
    let long : length wires ≡ length xs = ap length e ∙ length-map xs (λ x. wire_if raw (name_of x) (bits_of x)) in
    let inside : p < length xs = stands.inside in
    omega arith

kept_is : {A : Type 0} (raw : Raw) (name_of : A → List ℕ) (bits_of : A → List RawBit) (xs : List A) (rest : List Named) (name : List ℕ) (d : A) (p : ℕ) (wires : List (Option Wire)) (kept : Option Wire)
    → wires ≡ wires_from raw name_of bits_of xs → kept ≡ get_or wires p kept → place_among name_of xs name ≡ Some p
    → option_map (wire_if raw name) (bits_under name (map (λ x. (name_of x, bits_of x)) xs ++ rest)) ≡ Some kept
kept_is raw name_of bits_of xs rest name d p wires kept e k h =
    let stands = stands_at name_of bits_of xs rest name d p h in
    let here : kept ≡ wire_if raw (name_of (get_or xs p d)) (bits_of (get_or xs p d)) =
    k ∙ ap (λ (ws : List (Option Wire)). get_or ws p kept) e ∙ get_or-map (λ x. wire_if raw (name_of x) (bits_of x)) xs p d kept stands.inside in
    let named : wire_if raw (name_of (get_or xs p d)) (bits_of (get_or xs p d)) ≡ wire_if raw name (bits_of (get_or xs p d)) =
    ap (λ n. wire_if raw n (bits_of (get_or xs p d))) stands.named in
    ap (option_map (wire_if raw name)) stands.bits ∙ ap (λ (w : Option Wire). Some w) (sym (here ∙ named))

no_net : RawName
no_net = record { name = []; hide = false; bits = []; attributes = [] }

no_port : RawPort
no_port = record { name = []; direction = Input; bits = [] }

pub name_inside : (raw : Raw) (wires : Wires) (names : List RawName) (name : List ℕ) (p : ℕ) → names ≡ raw.names → HoldsWires raw wires → place_among name_of_net names name ≡ Some p → p < length wires.names.items
name_inside raw wires names name p e h at = is_inside raw name_of_net bits_of_net raw.names name no_net p wires.names.items h.names (ap (λ (ns : List RawName). place_among name_of_net ns name) (sym e) ∙ at)

pub port_inside : (raw : Raw) (wires : Wires) (ports : List RawPort) (name : List ℕ) (p : ℕ) → ports ≡ raw.ports → HoldsWires raw wires → place_among name_of_port ports name ≡ Some p → p < length wires.ports.items
port_inside raw wires ports name p e h at = is_inside raw name_of_port bits_of_port raw.ports name no_port p wires.ports.items h.ports (ap (λ (ps : List RawPort). place_among name_of_port ps name) (sym e) ∙ at)

pub found_name : (raw : Raw) (wires : Wires) (names : List RawName) (name : List ℕ) (p : ℕ) (kept : Option Wire) → names ≡ raw.names → HoldsWires raw wires → place_among name_of_net names name ≡ Some p
    → kept ≡ get_or wires.names.items p kept → found_as (Some kept) ≡ found_of raw name
unfolding found_of
found_name raw wires names name p kept e h at k =
    sym (ap found_as (kept_is raw name_of_net bits_of_net raw.names (map port_named raw.ports) name no_net p wires.names.items kept h.names k (ap (λ (ns : List RawName). place_among name_of_net ns name) (sym e) ∙ at)))

-- where no netname has the name, ports alone count
only_ports : (raw : Raw) (names : List RawName) (name : List ℕ) → names ≡ raw.names → place_among name_of_net names name ≡ None → bits_under name (all_named raw) ≡ bits_under name (map port_named raw.ports)
only_ports raw names name e at = absent name_of_net bits_of_net raw.names (map port_named raw.ports) name (ap (λ (ns : List RawName). place_among name_of_net ns name) (sym e) ∙ at)

pub found_port : (raw : Raw) (wires : Wires) (names : List RawName) (ports : List RawPort) (name : List ℕ) (p : ℕ) (kept : Option Wire) → names ≡ raw.names → ports ≡ raw.ports → HoldsWires raw wires
    → place_among name_of_net names name ≡ None → place_among name_of_port ports name ≡ Some p → kept ≡ get_or wires.ports.items p kept → found_as (Some kept) ≡ found_of raw name
unfolding found_of
found_port raw wires names ports name p kept en ep h none at k =
    let here = kept_is raw name_of_port bits_of_port raw.ports [] name no_port p wires.ports.items kept h.ports k (ap (λ (ps : List RawPort). place_among name_of_port ps name) (sym ep) ∙ at) in
    let alone : option_map (wire_if raw name) (bits_under name (map port_named raw.ports)) ≡ Some kept =
    ap (λ (all : List Named). option_map (wire_if raw name) (bits_under name all)) (sym (append-nil (map port_named raw.ports))) ∙ here in
    sym (ap found_as (ap (option_map (wire_if raw name)) (only_ports raw names name en none) ∙ alone))

pub found_none : (raw : Raw) (names : List RawName) (ports : List RawPort) (name : List ℕ) → names ≡ raw.names → ports ≡ raw.ports
    → place_among name_of_net names name ≡ None → place_among name_of_port ports name ≡ None → missing ≡ found_of raw name
unfolding found_of
found_none raw names ports name en ep none at =
    let gone : bits_under name (map port_named raw.ports) ≡ None =
    ap (bits_under name) (sym (append-nil (map port_named raw.ports))) ∙ absent name_of_port bits_of_port raw.ports [] name (ap (λ (ps : List RawPort). place_among name_of_port ps name) (sym ep) ∙ at) in
    sym (ap found_as (ap (option_map (wire_if raw name)) (only_ports raw names name en none ∙ gone)))
