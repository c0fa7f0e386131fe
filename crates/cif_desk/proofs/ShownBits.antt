-- What is shown of bits that are read, and that these are net bits of the netlist.
use Rattle.std.specs.Prelude.{ℕ, zero, suc, ◌+◌, ◌-◌, ◌<◌, ◌≤◌, ◌≡◌, Bool, true, false, List, [], ◌∷◌, ◌++◌, map, filter, length, get_or, take, reverse, refl, if◌then◌else◌}
use Rattle.std.specs.List.{flat_map}
use Rattle.std.proofs.Common.{arith, ap, sym, subst, inl, inr, ◌∙◌, append_assoc}
use Rattle.std.proofs.lemmas.List.{length-map, length-reverse, take_more, take_all, get_or-reverse, map-append}
use Rattle.cif_defs.specs.Words.{Word}
use Rattle.cif_defs.specs.WordText.{byte_of_bit, text_of}
use Rattle.cif_defs.specs.Run.{src_bit, src_word}
use Rattle.cif_defs.specs.TaintRun.{src_taint, taint_word}
use Rattle.cif_defs.specs.RawModule.{nets_in, numbers_held, net_numbers, operand_bits, output_bits, clock_bits}
use Rattle.cif_defs.specs.Accepted.{netlist_of, is_output, wire_of, source, place_of, driver_of_number}
use Rattle.cif_defs.specs.declared.nets.Src.{Src}
use Rattle.cif_defs.specs.declared.nets.Src.TheVariants.{Bit, Zero}
use Rattle.cif_defs.specs.declared.nets.Wire.{Wire}
use Rattle.cif_defs.specs.declared.raw_module.RawBit.{RawBit}
use Rattle.cif_defs.specs.declared.raw_module.RawBit.TheVariants.{Net, Zero as ZeroText, One as OneText, X, Z}
use Rattle.cif_defs.specs.declared.raw_module.RawPort.{RawPort}
use Rattle.cif_defs.specs.declared.raw_module.RawCell.{RawCell}
use Rattle.cif_defs.specs.declared.raw_module.Raw.{Raw}
use Rattle.cif_nets.proofs.Places.{At, Has, At-from_map, At-below, At-has, Has-left, Has-flat_map, Has-nets}
use Rattle.cif_nets.proofs.Rising.{At-place, Has-rising}
use Rattle.cif_nets.proofs.Wired.{numbers_rise}
use Rattle.cif_desk.specs.Shown.{AreInside}

-- ---- words from bits that are read

pub length-src_word : (v : ℕ → Bool) (ss : List Src) → length (src_word v ss) ≡ length ss
length-src_word v [] = refl
length-src_word v (s ∷ ss) = ap suc (length-src_word v ss)

get_or-src_word : (v : ℕ → Bool) (ss : List Src) (i : ℕ) (d : Bool) (e : Src) → i < length ss → get_or (src_word v ss) i d ≡ src_bit v (get_or ss i e)
get_or-src_word v [] i d e h = absurd (omega arith)
get_or-src_word v (s ∷ ss) zero d e h = refl
get_or-src_word v (s ∷ ss) (suc i) d e h = get_or-src_word v ss i d e (omega arith)

pub length-taint_word : (v : ℕ → Bool) (ss : List Src) → length (taint_word v ss) ≡ length ss
length-taint_word v [] = refl
length-taint_word v (s ∷ ss) = ap suc (length-taint_word v ss)

get_or-taint_word : (v : ℕ → Bool) (ss : List Src) (i : ℕ) (d : Bool) (e : Src) → i < length ss → get_or (taint_word v ss) i d ≡ src_taint v (get_or ss i e)
get_or-taint_word v [] i d e h = absurd (omega arith)
get_or-taint_word v (s ∷ ss) zero d e h = refl
get_or-taint_word v (s ∷ ss) (suc i) d e h = get_or-taint_word v ss i d e (omega arith)

-- ---- the text of a word, the highest bit first

digit_push : (w : Word) (i : ℕ) (b : Bool) (old text new : List ℕ) → i < length w → text ≡ old ++ map byte_of_bit (take i (reverse w)) → b ≡ get_or w (length w - 1 - i) false → new ≡ text ++ byte_of_bit b ∷ [] → new ≡ old ++ map byte_of_bit (take (i + 1) (reverse w))
digit_push w i b old text new h before e q =
    let inside : i < length (reverse w) = omega (arith, length-reverse w) in
    let last : get_or (reverse w) i false ≡ b = get_or-reverse w i false h ∙ sym e in
    q ∙ ap (λ (t : List ℕ). t ++ byte_of_bit b ∷ []) before
    ∙ append_assoc old (map byte_of_bit (take i (reverse w))) (byte_of_bit b ∷ [])
    ∙ ap (λ (t : List ℕ). old ++ t) (
    ap (λ (c : Bool). map byte_of_bit (take i (reverse w)) ++ byte_of_bit c ∷ []) (sym last)
    ∙ sym (map-append byte_of_bit (take i (reverse w)) (get_or (reverse w) i false ∷ []))
    ∙ ap (map byte_of_bit) (sym (take_more (reverse w) i false inside)))

digits_done : (w : Word) (i : ℕ) (old text : List ℕ) → length w ≤ i → text ≡ old ++ map byte_of_bit (take i (reverse w)) → text ≡ old ++ text_of w
digits_done w i old text h e = e ∙ ap (λ (t : Word). old ++ map byte_of_bit t) (take_all i (reverse w) (omega (arith, length-reverse w)))

pub value_push : (v : ℕ → Bool) (ss : List Src) (i : ℕ) (d : Src) (b : Bool) (old text new : List ℕ) → i < length ss → text ≡ old ++ map byte_of_bit (take i (reverse (src_word v ss))) → b ≡ src_bit v (get_or ss (length ss - 1 - i) d) → new ≡ text ++ byte_of_bit b ∷ [] → new ≡ old ++ map byte_of_bit (take (i + 1) (reverse (src_word v ss)))
value_push v ss i d b old text new h before e q =
    digit_push (src_word v ss) i b old text new (omega (arith, length-src_word v ss)) before
    (e ∙ sym (get_or-src_word v ss (length ss - 1 - i) false d (omega arith)) ∙ ap (λ n. get_or (src_word v ss) (n - 1 - i) false) (sym (length-src_word v ss))) q

pub values_done : (v : ℕ → Bool) (ss : List Src) (i : ℕ) (old text : List ℕ) → length ss ≤ i → text ≡ old ++ map byte_of_bit (take i (reverse (src_word v ss))) → text ≡ old ++ text_of (src_word v ss)
values_done v ss i old text h e = digits_done (src_word v ss) i old text (omega (arith, length-src_word v ss)) e

pub taint_push : (v : ℕ → Bool) (ss : List Src) (i : ℕ) (d : Src) (b : Bool) (old text new : List ℕ) → i < length ss → text ≡ old ++ map byte_of_bit (take i (reverse (taint_word v ss))) → b ≡ src_taint v (get_or ss (length ss - 1 - i) d) → new ≡ text ++ byte_of_bit b ∷ [] → new ≡ old ++ map byte_of_bit (take (i + 1) (reverse (taint_word v ss)))
taint_push v ss i d b old text new h before e q =
    digit_push (taint_word v ss) i b old text new (omega (arith, length-taint_word v ss)) before
    (e ∙ sym (get_or-taint_word v ss (length ss - 1 - i) false d (omega arith)) ∙ ap (λ n. get_or (taint_word v ss) (n - 1 - i) false) (sym (length-taint_word v ss))) q

pub taints_done : (v : ℕ → Bool) (ss : List Src) (i : ℕ) (old text : List ℕ) → length ss ≤ i → text ≡ old ++ map byte_of_bit (take i (reverse (taint_word v ss))) → text ≡ old ++ text_of (taint_word v ss)
taints_done v ss i old text h e = digits_done (taint_word v ss) i old text (omega (arith, length-taint_word v ss)) e

-- ---- the bits of output ports are net bits

has_of_either : {A : Type 0} (b : Bool) (y : A) (ys zs : List A) (x : A) → (Has ys x → Has zs x) → Has (if b then y ∷ ys else ys) x → Has (y ∷ zs) x
has_of_either true y ys zs x rest (inl e) = inl e
has_of_either true y ys zs x rest (inr h) = inr (rest h)
has_of_either false y ys zs x rest h = inr (rest h)

-- what a filter keeps was there
has_of_filter : {A : Type 0} (p : A → Bool) (xs : List A) (x : A) → Has (filter p xs) x → Has xs x
has_of_filter p [] x h = h
has_of_filter p (y ∷ ys) x h = has_of_either (p y) y (filter p ys) ys x (has_of_filter p ys x) h

number_shown : (raw : Raw) (port : RawPort) (x : ℕ) → Has raw.ports port → Has (nets_in port.bits) x → Has (net_numbers raw) x
unfolding net_numbers
number_shown raw port x p h =
    let at = At-has raw.ports port p in
    Has-rising (numbers_held raw) x (Has-left (flat_map (λ (q : RawPort). nets_in q.bits) raw.ports) (flat_map (λ (c : RawCell). nets_in (operand_bits c) ++ nets_in (output_bits c) ++ nets_in (clock_bits c)) raw.cells) x
    (Has-flat_map (λ (q : RawPort). nets_in q.bits) raw.ports at.0 port x at.1 h))

-- a net bit that is read stands for a net number
source_number : (ns : List ℕ) (bit : RawBit) (b : ℕ) → source ns bit ≡ Bit b → (x : ℕ) × (bit ≡ Net x) × (place_of ns x ≡ b)
source_number ns (Net x) b e = (x, refl, cc)
source_number ns ZeroText b e = absurd (cc)
source_number ns OneText b e = absurd (cc)
source_number ns X b e = absurd (cc)
source_number ns Z b e = absurd (cc)

port_inside : (raw : Raw) (port : RawPort) (i b : ℕ) → Has raw.ports port → get_or (map (source (net_numbers raw)) port.bits) i Zero ≡ Bit b → b < length (net_numbers raw)
port_inside raw port i b p h =
    let ns : List ℕ = net_numbers raw in
    let found = At-from_map (source ns) port.bits i (Bit b) Zero (λ e. absurd (cc)) h in
    let net = source_number ns found.0 b found.2 in
    let P : RawBit → Type 0 = At port.bits i in
    let at : At port.bits i (Net net.0) = subst P net.1 found.1 in
    let has : Has ns net.0 = number_shown raw port net.0 p (Has-nets port.bits i net.0 at) in
    let below : place_of ns net.0 < length ns = At-below ns (place_of ns net.0) net.0 (At-place ns net.0 (numbers_rise raw) has) in
    let place : place_of ns net.0 ≡ b = net.2 in
    omega arith

ports_inside : (raw : Raw) (ports : List RawPort) (p i b : ℕ) (d : Wire) → ((port : RawPort) → Has ports port → Has raw.ports port) → p < length ports → get_or (get_or (map (wire_of (net_numbers raw)) ports) p d).bits i Zero ≡ Bit b → b < length (net_numbers raw)
ports_inside raw [] p i b d all l h = absurd (omega arith)
ports_inside raw (port ∷ ports) zero i b d all l h = port_inside raw port i b (all port (inl refl)) h
ports_inside raw (port ∷ ports) (suc p) i b d all l h = ports_inside raw ports p i b d (λ q has. all q (inr has)) (omega arith) h

pub outputs_inside : (raw : Raw) (p : ℕ) (d : Wire) → p < length (netlist_of raw).outputs → AreInside (netlist_of raw) (get_or (netlist_of raw).outputs p d).bits
unfolding netlist_of
outputs_inside raw p d h = record {
  inside = λ i b e.
      let ports : List RawPort = filter is_output raw.ports in
      let l : p < length ports = omega (arith, h, length-map ports (wire_of (net_numbers raw))) in
      let below : b < length (net_numbers raw) = ports_inside raw ports p i b d (λ port has. has_of_filter is_output raw.ports port has) l e in
      omega (arith, below, length-map (net_numbers raw) (driver_of_number raw));
}
