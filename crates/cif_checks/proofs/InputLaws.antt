-- Net numbers at input places: what a set of them holds, and that checks read a list of them by what it holds.
use Rattle.std.specs.Prelude.{ℕ, ◌+◌, ◌<◌, ◌≡◌, Bool, true, false, ◌||◌, ◌==◌, List, [], ◌∷◌, ◌++◌, length, get_or, drop, None, Some, if◌then◌else◌}
use Rattle.std.specs.List.{list_any}
use Rattle.std.specs.Ordering.{nat_cmp, is_eq}
use Rattle.std.specs.Cmp.{unsigned_tied}
use Rattle.std.proofs.Common.{arith, ap, cond, refl, sym, ◌∙◌}
use Rattle.std.proofs.lemmas.Bool.Decides.{nat_tests}
use Rattle.std.proofs.lemmas.List.{at_drop_more}
use Rattle.std.proofs.lemmas.List.Folds.{list_any-append}
use Rattle.cif_defs.specs.RawModule.{nets_in}
use Rattle.cif_defs.specs.Accepted.{is_input}
use Rattle.cif_defs.specs.declared.raw_module.RawBit.{RawBit}
use Rattle.cif_defs.specs.declared.raw_module.RawBit.TheVariants.{Net, Zero, One, X, Z}
use Rattle.cif_defs.specs.declared.raw_module.RawPort.{RawPort}
use Rattle.cif_checks.specs.declared.fault.Spot.TheVariants.{Port}
use Rattle.cif_checks.specs.declared.fault.BuildFault.TheVariants.{PortClash, InoutPort, ZeroWidth, WidthLimit}
use Rattle.cif_checks.specs.Checks.{◌else_by◌, fault_if, is_inout, port_limit, has_number, input_clash, constant_input, port_fault, seen_after, ports_fault_from}
use Rattle.std.specs.Prelude.{nat_lt}
use Rattle.cif_checks.specs.InputNumbers.{HoldSame}

eqb_swap : (x y : ℕ) → (x == y) ≡ (y == x)
eqb_swap x y = grind (arith, nat_tests)

or_as_cond : (b c : Bool) → cond b true c ≡ (b || c)
or_as_cond true c = refl
or_as_cond false c = refl

or_moved : (a b c : Bool) → (a || (b || c)) ≡ (b || (a || c))
or_moved true true c = refl
or_moved true false c = refl
or_moved false true c = refl
or_moved false false c = refl

-- what a set holds, by its keys
pub contains_number : (keys : List ℕ) (x : ℕ) → list_any (λ k. is_eq (nat_cmp x k)) keys ≡ has_number x keys
contains_number [] x = refl
contains_number (k ∷ ks) x =
    ap (λ b. b || list_any (λ k. is_eq (nat_cmp x k)) ks) (unsigned_tied x k ∙ eqb_swap x k) ∙ ap (λ b. (k == x) || b) (contains_number ks x)

-- the keys after a number is put in
pub inserted : (old new : List ℕ) (x : ℕ) → ((q : ℕ) → list_any (λ k. is_eq (nat_cmp q k)) new ≡ cond (is_eq (nat_cmp x q)) true (list_any (λ k. is_eq (nat_cmp q k)) old)) → HoldSame new (x ∷ old)
inserted old new x h q =
    sym (contains_number new q) ∙ h q ∙ ap (λ b. cond b true (list_any (λ k. is_eq (nat_cmp q k)) old)) (unsigned_tied x q)
    ∙ ap (λ b. cond (x == q) true b) (contains_number old q) ∙ or_as_cond (x == q) (has_number q old)

more_same : (x : ℕ) (s t : List ℕ) → HoldSame s t → HoldSame (x ∷ s) (x ∷ t)
more_same x s t h y = ap (λ b. (x == y) || b) (h y)

pub append_same : (xs s t : List ℕ) → HoldSame s t → HoldSame (xs ++ s) (xs ++ t)
append_same xs s t h y =
    list_any-append (λ z. z == y) xs s ∙ ap (λ b. has_number y xs || b) (h y) ∙ sym (list_any-append (λ z. z == y) xs t)

-- a number that moves from the list to the keys
pub moved_same : (x : ℕ) (xs s : List ℕ) → HoldSame (xs ++ x ∷ s) (x ∷ (xs ++ s))
moved_same x xs s y =
    list_any-append (λ z. z == y) xs (x ∷ s) ∙ or_moved (has_number y xs) (x == y) (has_number y s) ∙ ap (λ b. (x == y) || b) (sym (list_any-append (λ z. z == y) xs s))

same_clash : (xs s t : List ℕ) → HoldSame s t → input_clash s xs ≡ input_clash t xs
same_clash [] s t h = refl
same_clash (x ∷ xs) s t h =
    ap (λ b. fault_if b (PortClash x) else_by input_clash (x ∷ s) xs) (h x)
    ∙ ap (λ o. fault_if (has_number x t) (PortClash x) else_by o) (same_clash xs (x ∷ s) (x ∷ t) (more_same x s t h))

-- ---- one step of a loop over bits

nets_at : (bs : List RawBit) (i x : ℕ) (d : RawBit) → i < length bs → get_or bs i d ≡ Net x → nets_in (drop i bs) ≡ x ∷ nets_in (drop (i + 1) bs)
nets_at bs i x d h e = at_drop_more nets_in bs i d h ∙ ap (λ b. nets_in (b ∷ drop (i + 1) bs)) e

-- the first clash, once a number that isn't among the keys has been put in
pub clash_step : (bs : List RawBit) (i x : ℕ) (d : RawBit) (old new : List ℕ) → i < length bs → get_or bs i d ≡ Net x → has_number x old ≡ false → HoldSame new (x ∷ old)
    → input_clash old (nets_in (drop i bs)) ≡ input_clash new (nets_in (drop (i + 1) bs))
clash_step bs i x d old new h e absent same =
    ap (input_clash old) (nets_at bs i x d h e)
    ∙ ap (λ b. fault_if b (PortClash x) else_by input_clash (x ∷ old) (nets_in (drop (i + 1) bs))) absent
    ∙ sym (same_clash (nets_in (drop (i + 1) bs)) new (x ∷ old) same)

pub numbers_step : (bs : List RawBit) (i x : ℕ) (d : RawBit) (old new : List ℕ) → i < length bs → get_or bs i d ≡ Net x → HoldSame new (x ∷ old)
    → HoldSame (nets_in (drop (i + 1) bs) ++ new) (nets_in (drop i bs) ++ old)
numbers_step bs i x d old new h e same y =
    append_same (nets_in (drop (i + 1) bs)) new (x ∷ old) same y
    ∙ moved_same x (nets_in (drop (i + 1) bs)) old y
    ∙ ap (λ (ns : List ℕ). has_number y (ns ++ old)) (sym (nets_at bs i x d h e))

-- a number that clashes is the first that does
pub clash_found : (bs : List RawBit) (i x : ℕ) (d : RawBit) (old : List ℕ) → i < length bs → get_or bs i d ≡ Net x → has_number x old ≡ true → input_clash old (nets_in (drop i bs)) ≡ Some (PortClash x)
clash_found bs i x d old h e found =
    ap (input_clash old) (nets_at bs i x d h e)
    ∙ ap (λ b. fault_if b (PortClash x) else_by input_clash (x ∷ old) (nets_in (drop (i + 1) bs))) found

other_bit : (b : RawBit) (rest : List RawBit) → ((x : ℕ) → b ≡ Net x → ⊥) → nets_in (b ∷ rest) ≡ nets_in rest
other_bit (Net x) rest h = absurd (h x refl)
other_bit Zero rest h = refl
other_bit One rest h = refl
other_bit X rest h = refl
other_bit Z rest h = refl

-- a bit that is no net number adds none
pub no_net : (bs : List RawBit) (i : ℕ) (d : RawBit) → i < length bs → ((x : ℕ) → get_or bs i d ≡ Net x → ⊥) → nets_in (drop (i + 1) bs) ≡ nets_in (drop i bs)
no_net bs i d h other = sym (at_drop_more nets_in bs i d h ∙ other_bit (get_or bs i d) (drop (i + 1) bs) other)

-- ---- one step of the loop over ports

same_port : (p : RawPort) (s t : List ℕ) → HoldSame s t → port_fault s p ≡ port_fault t p
same_port p s t h =
    ap (λ o. fault_if (is_inout p.direction) (InoutPort p.name) else_by fault_if (length p.bits == 0) (ZeroWidth (Port p.name)) else_by fault_if (nat_lt port_limit (length p.bits)) (WidthLimit (Port p.name)) else_by (if is_input p then constant_input p else_by o else None))
    (same_clash (nets_in p.bits) s t h)

same_after : (b : Bool) (xs s t : List ℕ) → HoldSame s t → HoldSame (if b then xs ++ s else s) (if b then xs ++ t else t)
same_after true xs s t h = append_same xs s t h
same_after false xs s t h = h

same_ports : (ps : List RawPort) (s t : List ℕ) → HoldSame s t → ports_fault_from s ps ≡ ports_fault_from t ps
same_ports [] s t h = refl
same_ports (p ∷ ps) s t h =
    ap (λ o. o else_by ports_fault_from (seen_after s p) ps) (same_port p s t h)
    ∙ ap (λ o. port_fault t p else_by o) (same_ports ps (seen_after s p) (seen_after t p) (same_after (is_input p) (nets_in p.bits) s t h))

pub ports_step : (ps : List RawPort) (i : ℕ) (p : RawPort) (old new : List ℕ) → i < length ps → p ≡ get_or ps i p → port_fault old p ≡ None → HoldSame new (seen_after old p)
    → ports_fault_from old (drop i ps) ≡ ports_fault_from new (drop (i + 1) ps)
ports_step ps i p old new h e none same =
    at_drop_more (ports_fault_from old) ps i p h
    ∙ ap (λ q. ports_fault_from old (q ∷ drop (i + 1) ps)) (sym e)
    ∙ ap (λ o. o else_by ports_fault_from (seen_after old p) (drop (i + 1) ps)) none
    ∙ sym (same_ports (drop (i + 1) ps) new (seen_after old p) same)
