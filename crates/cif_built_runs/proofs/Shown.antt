-- So a module that is built shows, at each cycle, the values and the taints of the other.
use Rattle.std.specs.Prelude.{ℕ, zero, suc, ◌<◌, ◌≡◌, Bool, true, false, not, ◌&&◌, List, [], ◌∷◌, map, length, get_or, Contains, Some, refl}
use Rattle.std.proofs.Common.{arith, sym, ap, ◌∙◌, inl, inr}
use Rattle.std.proofs.lemmas.List.{length-map}
use Rattle.cif_defs.specs.Words.{Word, bit}
use Rattle.cif_defs.specs.Order.{IsInOrder, place_among}
use Rattle.cif_defs.specs.RawModule.{net_numbers}
use Rattle.cif_defs.specs.Accepted.{is_input, no_bit, source}
use Rattle.cif_defs.specs.Stimulus.{Stimulus}
use Rattle.cif_defs.specs.declared.raw_module.RawBit.{RawBit}
use Rattle.cif_defs.specs.declared.raw_module.RawBit.TheVariants.{Net, Zero, One, X, Z}
use Rattle.cif_defs.specs.declared.raw_module.RawPort.{RawPort}
use Rattle.cif_defs.specs.declared.raw_module.Raw.{Raw}
use Rattle.cif_defs.proofs.NameOrder.{own_place}
use Rattle.cif_defs.proofs.WordLaws.{same_words}
use Rattle.cif_nets.proofs.Places.{At, At-below, At-get, At-moved, At-same, Has-unfilter}
use Rattle.cif_raw_runs.specs.Assigned.{raw_bit, raw_word}
use Rattle.cif_raw_runs.specs.Places.{is_released_number, net_taint, net_value, taint_at, value_at}
use Rattle.cif_raw_runs.specs.Given.{port_holds, raw_taint}
use Rattle.cif_raw_runs.proofs.Numbers.{at_contained, contained_has, has_contained, net_at, number_of_port}
use Rattle.cif_augment.specs.Names.{data_ports, is_data_port, taint_name}
use Rattle.cif_augment.specs.Stimuli.{is_released_bit}
use Rattle.cif_augment.specs.Augmented.{ShowsTaint}
use Rattle.cif_built.specs.Makings.{taint_bit, taint_bits}
use Rattle.cif_built.specs.Computing.{taints_held}
use Rattle.cif_built_runs.proofs.Lists.{bit_read, net_of}
use Rattle.cif_built_runs.proofs.Standing.{TaintPort, taint_port}
use Rattle.cif_built_runs.proofs.Ports.{input_nets, one_way}
use Rattle.cif_built_runs.proofs.Agreement.{Setting}
use Rattle.cif_built_runs.proofs.Taints.{cleared_same, cleared_taint, port_taint, taints_agree}
use Rattle.cif_built_runs.proofs.Values.{values_agree}
use Rattle.cif_built_runs.proofs.Cycles.{agree}

-- ---- what a run shows, by net numbers and names

value_of_bit : (raw : Raw) (s : Stimulus) (k : ℕ) (b : RawBit) → value_at raw s k b ≡ raw_bit (net_value raw s k) b
unfolding value_at
value_of_bit raw s k (Net x) = refl
value_of_bit raw s k Zero = refl
value_of_bit raw s k One = refl
value_of_bit raw s k X = refl
value_of_bit raw s k Z = refl

taint_of_bit : (raw : Raw) (s : Stimulus) (k : ℕ) (b : RawBit) → taint_at raw s k b ≡ raw_taint (net_taint raw s k) b
unfolding taint_at
taint_of_bit raw s k (Net x) = refl
taint_of_bit raw s k Zero = refl
taint_of_bit raw s k One = refl
taint_of_bit raw s k X = refl
taint_of_bit raw s k Z = refl

map_same : {A B : Type 0} (f g : A → B) (xs : List A) → ((x : A) → f x ≡ g x) → map f xs ≡ map g xs
map_same f g [] h = refl
map_same f g (x ∷ xs) h = ap (λ y. y ∷ map f xs) (h x) ∙ ap (λ ys. g x ∷ ys) (map_same f g xs h)

taint_read : (u : ℕ → Bool) (bits : List RawBit) (i : ℕ) → bit (map (raw_taint u) bits) i ≡ raw_taint u (get_or bits i no_bit)
taint_read u [] i = refl
taint_read u (b ∷ bits) zero = refl
taint_read u (b ∷ bits) (suc i) = taint_read u bits i

-- ---- ports

-- a port is known by its name
port_named : (raw : Raw) (p q : RawPort) → IsInOrder raw → Contains raw.ports p → Contains raw.ports q → p.name ≡ q.name → p ≡ q
port_named raw p q h p_in q_in e =
    let name_of : RawPort → List ℕ = λ x. x.name in
    let i = at_contained raw.ports p p_in in
    let j = at_contained raw.ports q q_in in
    let one : place_among name_of raw.ports p.name ≡ Some i.0 = ap (λ (x : RawPort). place_among name_of raw.ports x.name) (sym (At-get raw.ports i.0 p p i.1)) ∙ own_place name_of raw.ports i.0 p h.ports (At-below raw.ports i.0 p i.1) in
    let two : place_among name_of raw.ports q.name ≡ Some j.0 = ap (λ (x : RawPort). place_among name_of raw.ports x.name) (sym (At-get raw.ports j.0 q q j.1)) ∙ own_place name_of raw.ports j.0 q h.ports (At-below raw.ports j.0 q j.1) in
    let same : Some i.0 ≡ Some j.0 = sym one ∙ ap (place_among name_of raw.ports) e ∙ two in
    let place : j.0 ≡ i.0 = cc in
    At-same raw.ports j.0 p q (At-moved raw.ports i.0 j.0 p place i.1) j.1

and_false : (b : Bool) → (b && false) ≡ false
and_false true = refl
and_false false = refl

-- a bit of the port of the taint of an input port
input_by : (b : Bool) {n a : Raw} {released : List ℕ} {r q : ℕ → ℕ} {s t : Stimulus} (k : ℕ) (p : RawPort) (i x : ℕ) (h : Setting n a released r q s t) (d : TaintPort n a released h.built p) → is_released_number n s x ≡ b → Contains (data_ports n) p
    → Contains n.ports p → is_input p ≡ true → i < length p.bits → get_or p.bits i no_bit ≡ Net x → raw_bit (net_value a t k) (get_or d.port.bits i no_bit) ≡ taints_held (net_value a t k) h.built.shadow x
input_by true {n = n} {s = s} k p i x h d e p_data p_in is l at =
    let place = at_contained n.ports p p_in in
    let number = contained_has (net_numbers n) x (number_of_port n place.0 i p x place.1 (net_at p.bits i x at)) in
    let gone : is_released_bit s.lines (source (net_numbers n) (get_or p.bits i no_bit)) ≡ true = ap (λ (b : RawBit). is_released_bit s.lines (source (net_numbers n) b)) at ∙ e in
    port_taint k p i h d p_data is l
    ∙ ap (λ b. bit (port_holds s k p).taint i && not b) gone
    ∙ and_false (bit (port_holds s k p).taint i)
    ∙ sym (cleared_taint k x h number e)
input_by false {a = a} {t = t} k p i x h d e p_data p_in is l at =
    ap (raw_bit (net_value a t k)) (sym (d.shadow.input i x is at (sym (cleared_same x h) ∙ e)))

-- the taints of a port's net numbers
numbers_agree : {n a : Raw} {released : List ℕ} {r q : ℕ → ℕ} {s t : Stimulus} (k : ℕ) (p : RawPort) (i x : ℕ) (h : Setting n a released r q s t) → Contains n.ports p → At p.bits i (Net x)
    → taints_held (net_value a t k) h.built.shadow x ≡ net_taint n s k x
numbers_agree {n = n} k p i x h p_in at =
    let place = at_contained n.ports p p_in in
    taints_agree k h (agree k h) x (contained_has (net_numbers n) x (number_of_port n place.0 i p x place.1 at))

input_shows : {n a : Raw} {released : List ℕ} {r q : ℕ → ℕ} {s t : Stimulus} (k : ℕ) (p : RawPort) (h : Setting n a released r q s t) (d : TaintPort n a released h.built p) → Contains (data_ports n) p → Contains n.ports p → is_input p ≡ true
    → raw_word (net_value a t k) d.port.bits ≡ map (raw_taint (net_taint n s k)) p.bits
input_shows {n = n} {a = a} {s = s} {t = t} k p h d p_data p_in is =
    let width : length d.port.bits ≡ length p.bits = d.shadow.port.width in
    let left : length (raw_word (net_value a t k) d.port.bits) ≡ length d.port.bits = length-map d.port.bits (raw_bit (net_value a t k)) in
    same_words (raw_word (net_value a t k) d.port.bits) (map (raw_taint (net_taint n s k)) p.bits) (left ∙ width ∙ sym (length-map p.bits (raw_taint (net_taint n s k))))
    (λ i l. (let inside : i < length p.bits = omega arith in
    let net = net_of (get_or p.bits i no_bit) (input_nets n p i h.runs.form p_in is inside) in
    bit_read (net_value a t k) d.port.bits i
    ∙ input_by (is_released_number n s net.0) k p i net.0 h d refl p_data p_in is inside net.1
    ∙ numbers_agree k p i net.0 h p_in (net_at p.bits i net.0 net.1)
    ∙ ap (raw_taint (net_taint n s k)) (sym net.1)
    ∙ sym (taint_read (net_taint n s k) p.bits i)))

held_bit : (v u : ℕ → Bool) (shadow : ℕ → RawBit) (b : RawBit) → ((x : ℕ) → b ≡ Net x → taints_held v shadow x ≡ u x) → raw_bit v (taint_bit shadow b) ≡ raw_taint u b
held_bit v u shadow (Net x) h = h x refl
held_bit v u shadow Zero h = refl
held_bit v u shadow One h = refl
held_bit v u shadow X h = refl
held_bit v u shadow Z h = refl

held_word : (v u : ℕ → Bool) (shadow : ℕ → RawBit) (bits : List RawBit) → ((i x : ℕ) → At bits i (Net x) → taints_held v shadow x ≡ u x) → raw_word v (taint_bits shadow bits) ≡ map (raw_taint u) bits
held_word v u shadow [] h = refl
held_word v u shadow (b ∷ bits) h =
    ap (λ y. y ∷ raw_word v (taint_bits shadow bits)) (held_bit v u shadow b (λ x e. h 0 x e))
    ∙ ap (λ (w : Word). raw_taint u b ∷ w) (held_word v u shadow bits (λ i x at. h (suc i) x at))

-- the port of the taint of a port shows it
port_shows : {n a : Raw} {released : List ℕ} {r q : ℕ → ℕ} {s t : Stimulus} (k : ℕ) (p : RawPort) (h : Setting n a released r q s t) (d : TaintPort n a released h.built p) → Contains (data_ports n) p → Contains n.ports p
    → raw_word (net_value a t k) d.port.bits ≡ map (raw_taint (net_taint n s k)) p.bits
port_shows {n = n} {a = a} {s = s} {t = t} k p h d p_data p_in = elim (one_way n p h.runs.form p_in) [
  | inl is ↦ input_shows k p h d p_data p_in is
  | inr is ↦ ap (raw_word (net_value a t k)) (d.shadow.output is) ∙ held_word (net_value a t k) (net_taint n s k) h.built.shadow p.bits (λ i x at. numbers_agree k p i x h p_in at)
]

data_port_stands : (n : Raw) (p : RawPort) → Contains (data_ports n) p → Contains n.ports p
unfolding data_ports
data_port_stands n p h = contained_has n.ports p (Has-unfilter (is_data_port n) n.ports p (has_contained (data_ports n) p h))

port_taints : {n a : Raw} {released : List ℕ} {r q : ℕ → ℕ} {s t : Stimulus} (k : ℕ) (p x : RawPort) → Setting n a released r q s t → Contains (data_ports n) p → Contains a.ports x → x.name ≡ taint_name p.name
    → map (value_at a t k) x.bits ≡ map (taint_at n s k) p.bits
port_taints {n = n} {a = a} {s = s} {t = t} k p x h p_data x_in e =
    let d = taint_port p h.built p_data in
    let same : x ≡ d.port = port_named a x d.port h.built_runs.in_order x_in d.shown (e ∙ sym d.shadow.port.name) in
    map_same (value_at a t k) (raw_bit (net_value a t k)) x.bits (value_of_bit a t k)
    ∙ ap (λ (y : RawPort). raw_word (net_value a t k) y.bits) same
    ∙ port_shows k p h d p_data (data_port_stands n p p_data)
    ∙ sym (map_same (taint_at n s k) (raw_taint (net_taint n s k)) p.bits (taint_of_bit n s k))

-- ---- the law

pub shows_taint : {n a : Raw} {released : List ℕ} {r q : ℕ → ℕ} {s t : Stimulus} (k : ℕ) → Setting n a released r q s t → ShowsTaint n a s t k
shows_taint {n = n} {a = a} {s = s} {t = t} k h = (let agrees = agree k h in record {
  values = λ x number. value_of_bit a t k (Net x) ∙ values_agree k h agrees x number ∙ sym (value_of_bit n s k (Net x));
  taints = λ p x p_data x_in e. port_taints k p x h p_data x_in e;
  registers = λ c i c_in e net. (agrees c c_in).register i e net;
  memories = λ c i c_in e. ap (λ (w : Word). bit w i) ((agrees c c_in).memory e);
  flags = λ c c_in e. ap (λ (w : Word). bit w 0) ((agrees c c_in).flag e);
})
