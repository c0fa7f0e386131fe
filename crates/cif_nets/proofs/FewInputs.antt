-- A module whose ports pass has no more input ports than net numbers.
use Rattle.std.specs.Prelude.{ℕ, zero, suc, ◌+◌, ◌<◌, ◌≤◌, ◌≡◌, ◌≢◌, ◌⊎◌, ◌==◌, nat_lt, Bool, true, false, not, ◌||◌, List, [], ◌∷◌, ◌++◌, length, get_or, filter, eqb, None, refl, if◌then◌else◌}
use Rattle.std.specs.List.{All, flat_map, list_any}
use Rattle.std.proofs.Common.{arith, sym, ap, cond, inl, inr, ltb}
use Rattle.std.proofs.lemmas.Bool.{cond_both, eqb-true, eqb-false, eq-eqb, ltb-false, or_right}
use Rattle.cif_defs.specs.RawModule.{is_net, nets_in, net_numbers, numbers_held, operand_bits, output_bits, clock_bits, put_in, rising}
use Rattle.cif_defs.specs.Accepted.{is_input}
use Rattle.cif_defs.specs.declared.raw_module.RawBit.{RawBit}
use Rattle.cif_defs.specs.declared.raw_module.RawBit.TheVariants.{Net, Zero, One, X, Z}
use Rattle.cif_defs.specs.declared.raw_module.RawPort.{RawPort}
use Rattle.cif_defs.specs.declared.raw_module.RawCell.{RawCell}
use Rattle.cif_defs.specs.declared.raw_module.Raw.{Raw}
use Rattle.cif_checks.specs.Checks.{◌else_by◌, fault_if, first_fault_from, has_number, input_clash, input_fault, constant_input, is_inout, port_fault, port_limit, ports_fault, ports_fault_from, seen_after}
use Rattle.cif_checks.specs.declared.fault.BuildFault.TheVariants.{ConstantOutput, InoutPort, PortClash, WidthLimit, ZeroWidth}
use Rattle.cif_checks.specs.declared.fault.Spot.TheVariants.{Port}
use Rattle.cif_nets.proofs.Places.{Has, Has-left, Has-right, Has-append}
use Rattle.cif_nets.proofs.Rising.{IsRising, IsRising-rising, IsBelowAll-has, Has-rising, Has-from_rising}
use Rattle.cif_nets.proofs.Passed.{first_passes, next_passes, test_passes}

-- ---- counts of rising lists

one_more : (m n : ℕ) → m ≤ n → suc m ≤ suc n
one_more m n h = omega arith

larger : (x y : ℕ) (xs : List ℕ) → y < x → IsRising (x ∷ xs) → (z : ℕ) → Has (x ∷ xs) z → y < z
larger x y xs l r z (inl e) = omega arith
larger x y xs l r z (inr h) = (let m : x < z = IsBelowAll-has x z xs r.0 h in omega arith)

subset_by : (x y : ℕ) (xs ys : List ℕ) → IsRising (x ∷ xs) → IsRising (y ∷ ys) → ((z : ℕ) → Has (x ∷ xs) z → Has (y ∷ ys) z) → (((z : ℕ) → Has xs z → Has ys z) → length xs ≤ length ys) → (((z : ℕ) → Has (x ∷ xs) z → Has ys z) → suc (length xs) ≤ length ys) → Has (y ∷ ys) x → suc (length xs) ≤ suc (length ys)
subset_by x y xs ys r s f tails whole (inl e) = one_more (length xs) (length ys) (tails (λ z h. elim (f z (inr h)) [ inl g ↦ absurd (let m : x < z = IsBelowAll-has x z xs r.0 h in omega arith) | inr k ↦ k ]))
subset_by x y xs ys r s f tails whole (inr h) =
    let l : y < x = IsBelowAll-has y x ys s.0 h in
    let n : suc (length xs) ≤ length ys = whole (λ z k. elim (f z k) [ inl g ↦ absurd (let m : y < z = larger x y xs l r z k in omega arith) | inr a ↦ a ]) in
    omega arith

pub rising_subset : (xs ys : List ℕ) → IsRising xs → IsRising ys → ((x : ℕ) → Has xs x → Has ys x) → length xs ≤ length ys
rising_subset [] ys r s f = omega arith
rising_subset (x ∷ xs) [] r s f = absurd (f x (inl refl))
rising_subset (x ∷ xs) (y ∷ ys) r s f = subset_by x y xs ys r s f (λ g. rising_subset xs ys r.1 s.1 g) (λ g. rising_subset (x ∷ xs) ys r s.1 g) (f x (inl refl))

length-put_in : (x : ℕ) (ys : List ℕ) → (Has ys x → ⊥) → length (put_in x ys) ≡ suc (length ys)
length-put_in x [] h = refl
length-put_in x (y ∷ ys) h = cond_both (ltb x y) (x ∷ y ∷ ys) (cond (eqb x y) (y ∷ ys) (y ∷ put_in x ys)) (λ zs. length zs ≡ suc (suc (length ys)))
    (λ _. refl)
    (λ _. cond_both (eqb x y) (y ∷ ys) (y ∷ put_in x ys) (λ zs. length zs ≡ suc (suc (length ys))) (λ e. absurd (h (inl (sym (eqb-true x y e))))) (λ _. ap suc (length-put_in x ys (λ k. h (inr k)))))

grows : (seen nets : List ℕ) (x : ℕ) → Has nets x → (Has seen x → ⊥) → suc (length (rising seen)) ≤ length (rising (nets ++ seen))
grows seen nets x h n =
    let one : length (rising (x ∷ seen)) ≡ suc (length (rising seen)) = length-put_in x (rising seen) (λ k. n (Has-from_rising seen x k)) in
    let all : length (rising (x ∷ seen)) ≤ length (rising (nets ++ seen)) = rising_subset (rising (x ∷ seen)) (rising (nets ++ seen)) (IsRising-rising (x ∷ seen)) (IsRising-rising (nets ++ seen))
    (λ z k. Has-rising (nets ++ seen) z (elim (Has-from_rising (x ∷ seen) z k) [ inl e ↦ Has-left nets seen z (rw (← e) h) | inr a ↦ Has-right nets seen z a ])) in
    omega arith

-- ---- one port

Has-number : (xs : List ℕ) (x : ℕ) → Has xs x → has_number x xs ≡ true
Has-number [] x h = absurd h
Has-number (y ∷ ys) x (inl e) = ap (λ b. b || list_any (λ z. z == x) ys) (eq-eqb y x e)
Has-number (y ∷ ys) x (inr h) = or_right (y == x) (has_number x ys) (Has-number ys x h)

apart_from : (b : Bool) → b ≡ false → b ≡ true → ⊥
apart_from b e f = cc

not_seen : (xs : List ℕ) (x : ℕ) → has_number x xs ≡ false → Has xs x → ⊥
not_seen xs x e h = apart_from (has_number x xs) e (Has-number xs x h)

-- a net number of an input port that stands at no earlier input place
new_number : (seen : List ℕ) (bits : List RawBit) (name : List ℕ) → 0 < length bits → first_fault_from (λ i b. fault_if (not (is_net b)) (ConstantOutput (Port name) i)) 0 bits ≡ None → input_clash seen (nets_in bits) ≡ None → (x : ℕ) × Has (nets_in bits) x × (Has seen x → ⊥)
new_number seen [] name l h c = absurd (omega arith)
new_number seen (Net x ∷ bits) name l h c = (x, inl refl, not_seen seen x (test_passes (has_number x seen) (PortClash x) (first_passes (fault_if (has_number x seen) (PortClash x)) (input_clash (x ∷ seen) (nets_in bits)) c)))
new_number seen (Zero ∷ bits) name l h c = absurd (cc)
new_number seen (One ∷ bits) name l h c = absurd (cc)
new_number seen (X ∷ bits) name l h c = absurd (cc)
new_number seen (Z ∷ bits) name l h c = absurd (cc)

pub record PortPasses (seen : List ℕ) (p : RawPort) : Type 0 where
  pub some_bits : 0 < length p.bits
  pub few_bits : length p.bits ≤ 4096
  pub input : input_fault seen p ≡ None

pub port_passes : (seen : List ℕ) (p : RawPort) → port_fault seen p ≡ None → PortPasses seen p
port_passes seen p h =
    let one = fault_if (is_inout p.direction) (InoutPort p.name) in
    let two = one else_by fault_if (length p.bits == 0) (ZeroWidth (Port p.name)) in
    let three = two else_by fault_if (nat_lt port_limit (length p.bits)) (WidthLimit (Port p.name)) in
    let a = first_passes three (input_fault seen p) h in
    let b = first_passes two (fault_if (nat_lt port_limit (length p.bits)) (WidthLimit (Port p.name))) a in
    let ne : length p.bits ≢ 0 = eqb-false (length p.bits) 0 (test_passes (length p.bits == 0) (ZeroWidth (Port p.name)) (next_passes one (fault_if (length p.bits == 0) (ZeroWidth (Port p.name))) b)) in
    let few : length p.bits ≤ 4096 = ltb-false 4096 (length p.bits) (test_passes (nat_lt port_limit (length p.bits)) (WidthLimit (Port p.name)) (next_passes two (fault_if (nat_lt port_limit (length p.bits)) (WidthLimit (Port p.name))) a)) in
    record { some_bits = omega arith; few_bits = few; input = next_passes three (input_fault seen p) h }

-- ---- all ports

abbrev all_seen : List ℕ → List RawPort → List ℕ
all_seen seen [] = seen
all_seen seen (p ∷ ps) = all_seen (seen_after seen p) ps

abbrev inputs_from : Bool → List RawPort → RawPort → List RawPort
inputs_from b ps p = cond b (p ∷ ps) ps

counted_by : (b : Bool) (seen : List ℕ) (p : RawPort) (ps : List RawPort) → 0 < length p.bits → (if b then constant_input p else_by input_clash seen (nets_in p.bits) else None) ≡ None
    → length (filter is_input ps) + length (rising (cond b (nets_in p.bits ++ seen) seen)) ≤ length (rising (all_seen (cond b (nets_in p.bits ++ seen) seen) ps))
    → length (cond b (p ∷ filter is_input ps) (filter is_input ps)) + length (rising seen) ≤ length (rising (all_seen (cond b (nets_in p.bits ++ seen) seen) ps))
counted_by true seen p ps l h n =
    let new = new_number seen p.bits p.name l (first_passes (constant_input p) (input_clash seen (nets_in p.bits)) h) (next_passes (constant_input p) (input_clash seen (nets_in p.bits)) h) in
    let more : suc (length (rising seen)) ≤ length (rising (nets_in p.bits ++ seen)) = grows seen (nets_in p.bits) new.0 new.1 new.2 in
    omega arith
counted_by false seen p ps l h n = n

counted : (seen : List ℕ) (ps : List RawPort) → ports_fault_from seen ps ≡ None → length (filter is_input ps) + length (rising seen) ≤ length (rising (all_seen seen ps))
counted seen [] h = omega arith
counted seen (p ∷ ps) h =
    let here = port_passes seen p (first_passes (port_fault seen p) (ports_fault_from (seen_after seen p) ps) h) in
    counted_by (is_input p) seen p ps here.some_bits here.input (counted (seen_after seen p) ps (next_passes (port_fault seen p) (ports_fault_from (seen_after seen p) ps) h))

seen_by : (b : Bool) (seen : List ℕ) (p : RawPort) (x : ℕ) → Has (cond b (nets_in p.bits ++ seen) seen) x → Has (nets_in p.bits) x ⊎ Has seen x
seen_by true seen p x h = Has-append (nets_in p.bits) seen x h
seen_by false seen p x h = inr h

seen_held : (seen : List ℕ) (ps : List RawPort) (x : ℕ) → Has (all_seen seen ps) x → Has seen x ⊎ Has (flat_map (λ (p : RawPort). nets_in p.bits) ps) x
seen_held seen [] x h = inl h
seen_held seen (p ∷ ps) x h = elim (seen_held (seen_after seen p) ps x h) [
  | inl a ↦ elim (seen_by (is_input p) seen p x a) [ inl b ↦ inr (Has-left (nets_in p.bits) (flat_map (λ (p : RawPort). nets_in p.bits) ps) x b) | inr b ↦ inl b ]
  | inr b ↦ inr (Has-right (nets_in p.bits) (flat_map (λ (p : RawPort). nets_in p.bits) ps) x b)
]

none_seen : (ps : List RawPort) (x : ℕ) → Has (all_seen [] ps) x → Has (flat_map (λ (p : RawPort). nets_in p.bits) ps) x
none_seen ps x h = elim (seen_held [] ps x h) [ inl a ↦ absurd a | inr b ↦ b ]

pub few_inputs : (raw : Raw) → ports_fault raw ≡ None → length (filter is_input raw.ports) ≤ length (net_numbers raw)
unfolding ports_fault net_numbers
few_inputs raw h =
    let n = counted [] raw.ports h in
    let m : length (rising (all_seen [] raw.ports)) ≤ length (rising (numbers_held raw)) = rising_subset (rising (all_seen [] raw.ports)) (rising (numbers_held raw)) (IsRising-rising (all_seen [] raw.ports)) (IsRising-rising (numbers_held raw))
    (λ x k. Has-rising (numbers_held raw) x (Has-left (flat_map (λ (p : RawPort). nets_in p.bits) raw.ports) (flat_map (λ (c : RawCell). nets_in (operand_bits c) ++ nets_in (output_bits c) ++ nets_in (clock_bits c)) raw.cells) x (none_seen raw.ports x (Has-from_rising (all_seen [] raw.ports) x k)))) in
    omega arith

few_from : (seen : List ℕ) (ps : List RawPort) → ports_fault_from seen ps ≡ None → (i : ℕ) (d : RawPort) → i < length ps → length (get_or ps i d).bits ≤ 4096
few_from seen [] h i d l = absurd (omega arith)
few_from seen (p ∷ ps) h zero d l = (port_passes seen p (first_passes (port_fault seen p) (ports_fault_from (seen_after seen p) ps) h)).few_bits
few_from seen (p ∷ ps) h (suc i) d l = few_from (seen_after seen p) ps (next_passes (port_fault seen p) (ports_fault_from (seen_after seen p) ps) h) i d (omega arith)

pub few_port_bits : (raw : Raw) → ports_fault raw ≡ None → All (λ (p : RawPort). length p.bits ≤ 4096) raw.ports
unfolding ports_fault
few_port_bits raw h = few_from [] raw.ports h
