-- The ports pass their checks.
use Rattle.std.specs.Prelude.{ℕ, ◌+◌, ◌<◌, ◌≤◌, ◌≡◌, ◌==◌, Bool, true, false, not, List, [], ◌∷◌, ◌++◌, length, None, nat_lt, if◌then◌else◌, refl}
use Rattle.std.specs.List.{flat_map, list_all}
use Rattle.std.proofs.Common.{arith, sym, ap, ◌∙◌, inl, inr}
use Rattle.std.proofs.lemmas.Bool.{and_from, false_from_ne_true, not-false, not_from_true}
use Rattle.cif_defs.specs.RawModule.{is_net, nets_in}
use Rattle.cif_defs.specs.Accepted.{is_input, is_output}
use Rattle.cif_defs.specs.declared.raw_module.Direction.{Direction}
use Rattle.cif_defs.specs.declared.raw_module.Direction.TheVariants.{Input, Output, Inout}
use Rattle.cif_defs.specs.declared.raw_module.RawBit.{RawBit}
use Rattle.cif_defs.specs.declared.raw_module.RawPort.{RawPort}
use Rattle.cif_defs.specs.declared.raw_module.Raw.{Raw}
use Rattle.cif_checks.specs.declared.fault.Spot.TheVariants.{Port}
use Rattle.cif_checks.specs.declared.fault.BuildFault.{BuildFault}
use Rattle.cif_checks.specs.declared.fault.BuildFault.TheVariants.{ConstantOutput, InoutPort, PortClash, WidthLimit, ZeroWidth}
use Rattle.cif_checks.specs.Checks.{◌else_by◌, constant_input, drivers_fault, fault_if, first_fault_from, has_number, input_clash, input_fault, is_inout, port_fault, port_limit, ports_fault, ports_fault_from, seen_after}
use Rattle.cif_nets.proofs.Places.{Has, Has-unfilter}
use Rattle.cif_nets.proofs.Passed.{first_passes, next_passes, test_passes}
use Rattle.cif_augment.specs.Names.{is_data_port}
use Rattle.cif_augment.specs.Additions.{IsTaintPort, numbers_of_input}
use Rattle.cif_built.specs.Built.{IsBuilt}
use Rattle.cif_built_form.proofs.Lists.{all_has, count, count-append, count_here, counted, has_of_number}
use Rattle.cif_built_form.proofs.Passing.{all_pass_from, both_pass, passes_test}
use Rattle.cif_built_form.proofs.New.{IsNewPort, data_has, old_or_new_port}
use Rattle.cif_built_form.proofs.Drivers.{inputs_at_most_once}

-- ---- a port alone

-- what is checked of a port, but for numbers that stand at other input places
pub record IsPort (p : RawPort) : Type 0 where
  pub one_way : is_inout p.direction ≡ false
  pub some : (length p.bits == 0) ≡ false
  pub few : nat_lt port_limit (length p.bits) ≡ false
  pub nets : is_input p ≡ true → list_all is_net p.bits ≡ true

each_net : (fault : ℕ → RawBit → BuildFault) (i : ℕ) (bits : List RawBit) → first_fault_from (λ j b. fault_if (not (is_net b)) (fault j b)) i bits ≡ None → list_all is_net bits ≡ true
each_net fault i [] h = refl
each_net fault i (b ∷ bits) h =
    let rest = first_fault_from (λ j c. fault_if (not (is_net c)) (fault j c)) (i + 1) bits in
    and_from (is_net b) (list_all is_net bits) (not-false (is_net b) (test_passes (not (is_net b)) (fault i b) (first_passes (fault_if (not (is_net b)) (fault i b)) rest h)))
    (each_net fault (i + 1) bits (next_passes (fault_if (not (is_net b)) (fault i b)) rest h))

input_nets : (b : Bool) (seen : List ℕ) (p : RawPort) → (if b then constant_input p else_by input_clash seen (nets_in p.bits) else None) ≡ None → b ≡ true → list_all is_net p.bits ≡ true
input_nets true seen p h e = each_net (λ i b. ConstantOutput (Port p.name) i) 0 p.bits (first_passes (constant_input p) (input_clash seen (nets_in p.bits)) h)
input_nets false seen p h e = absurd (cc)

port_alone : (seen : List ℕ) (p : RawPort) → port_fault seen p ≡ None → IsPort p
port_alone seen p h =
    let one = fault_if (is_inout p.direction) (InoutPort p.name) in
    let two = one else_by fault_if (length p.bits == 0) (ZeroWidth (Port p.name)) in
    let three = two else_by fault_if (nat_lt port_limit (length p.bits)) (WidthLimit (Port p.name)) in
    let all_three = first_passes three (input_fault seen p) h in
    let all_two = first_passes two (fault_if (nat_lt port_limit (length p.bits)) (WidthLimit (Port p.name))) all_three in
    record {
      one_way = test_passes (is_inout p.direction) (InoutPort p.name) (first_passes one (fault_if (length p.bits == 0) (ZeroWidth (Port p.name))) all_two);
      some = test_passes (length p.bits == 0) (ZeroWidth (Port p.name)) (next_passes one (fault_if (length p.bits == 0) (ZeroWidth (Port p.name))) all_two);
      few = test_passes (nat_lt port_limit (length p.bits)) (WidthLimit (Port p.name)) (next_passes two (fault_if (nat_lt port_limit (length p.bits)) (WidthLimit (Port p.name))) all_three);
      nets = λ e. input_nets (is_input p) seen p (next_passes three (input_fault seen p) h) e;
    }

ports_alone : (seen : List ℕ) (ports : List RawPort) (p : RawPort) → ports_fault_from seen ports ≡ None → Has ports p → IsPort p
ports_alone seen [] p h k = absurd k
ports_alone seen (q ∷ ports) p h (inl e) = rw e at (port_alone seen q (first_passes (port_fault seen q) (ports_fault_from (seen_after seen q) ports) h))
ports_alone seen (q ∷ ports) p h (inr k) = ports_alone (seen_after seen q) ports p (next_passes (port_fault seen q) (ports_fault_from (seen_after seen q) ports) h) k

pub old_ports : (raw : Raw) (p : RawPort) → ports_fault raw ≡ None → Has raw.ports p → IsPort p
unfolding ports_fault
old_ports raw p h k = ports_alone [] raw.ports p h k

-- ---- the same direction

-- ports of one direction are both inputs, or both outputs, or neither
pub record IsSameWay (p q : RawPort) : Type 0 where
  pub input : is_input q ≡ is_input p
  pub output : is_output q ≡ is_output p

way_by : (p q : RawPort) (d : Direction) → p.direction ≡ d → q.direction ≡ d → IsSameWay p q
way_by p q Input e f = record {
  input = ap (λ (d : Direction). is_input (record q { direction = d })) f ∙ sym (ap (λ (d : Direction). is_input (record p { direction = d })) e);
  output = ap (λ (d : Direction). is_output (record q { direction = d })) f ∙ sym (ap (λ (d : Direction). is_output (record p { direction = d })) e);
}
way_by p q Output e f = record {
  input = ap (λ (d : Direction). is_input (record q { direction = d })) f ∙ sym (ap (λ (d : Direction). is_input (record p { direction = d })) e);
  output = ap (λ (d : Direction). is_output (record q { direction = d })) f ∙ sym (ap (λ (d : Direction). is_output (record p { direction = d })) e);
}
way_by p q Inout e f = record {
  input = ap (λ (d : Direction). is_input (record q { direction = d })) f ∙ sym (ap (λ (d : Direction). is_input (record p { direction = d })) e);
  output = ap (λ (d : Direction). is_output (record q { direction = d })) f ∙ sym (ap (λ (d : Direction). is_output (record p { direction = d })) e);
}

pub same_way : (p q : RawPort) → IsTaintPort p q → IsSameWay p q
same_way p q t = way_by p q p.direction refl t.direction

-- ---- all ports

no_clash : (seen xs : List ℕ) → ((x : ℕ) → count x xs + count x seen ≤ 1) → input_clash seen xs ≡ None
no_clash seen [] h = refl
no_clash seen (x ∷ xs) h = both_pass (fault_if (has_number x seen) (PortClash x)) (input_clash (x ∷ seen) xs)
    (passes_test (has_number x seen) (PortClash x) (false_from_ne_true (has_number x seen) (λ t.
    (let one = h x in let here = count_here x x xs refl in let some : 0 < count x seen = counted x seen (has_of_number x seen t) in omega arith))))
    (no_clash (x ∷ seen) xs (λ y. (let one = h y in let a = count-append y (x ∷ []) xs in let b = count-append y (x ∷ []) seen in omega arith)))

all_constant : (p : RawPort) → list_all is_net p.bits ≡ true → constant_input p ≡ None
all_constant p h = all_pass_from (λ i b. fault_if (not (is_net b)) (ConstantOutput (Port p.name) i)) 0 p.bits (λ j b k. passes_test (not (is_net b)) (ConstantOutput (Port p.name) j) (not_from_true (is_net b) (all_has is_net p.bits b h k)))

input_passes : (b : Bool) (seen : List ℕ) (p : RawPort) → (b ≡ true → list_all is_net p.bits ≡ true) → ((x : ℕ) → count x (if b then nets_in p.bits else []) + count x seen ≤ 1)
    → (if b then constant_input p else_by input_clash seen (nets_in p.bits) else None) ≡ None
input_passes true seen p h k = both_pass (constant_input p) (input_clash seen (nets_in p.bits)) (all_constant p (h refl)) (no_clash seen (nets_in p.bits) k)
input_passes false seen p h k = refl

port_passes : (seen : List ℕ) (p : RawPort) → IsPort p → ((x : ℕ) → count x (numbers_of_input p) + count x seen ≤ 1) → port_fault seen p ≡ None
port_passes seen p is k =
    let one = fault_if (is_inout p.direction) (InoutPort p.name) in
    let two = one else_by fault_if (length p.bits == 0) (ZeroWidth (Port p.name)) in
    let three = two else_by fault_if (nat_lt port_limit (length p.bits)) (WidthLimit (Port p.name)) in
    both_pass three (input_fault seen p)
    (both_pass two (fault_if (nat_lt port_limit (length p.bits)) (WidthLimit (Port p.name)))
    (both_pass one (fault_if (length p.bits == 0) (ZeroWidth (Port p.name))) (passes_test (is_inout p.direction) (InoutPort p.name) is.one_way) (passes_test (length p.bits == 0) (ZeroWidth (Port p.name)) is.some))
    (passes_test (nat_lt port_limit (length p.bits)) (WidthLimit (Port p.name)) is.few))
    (input_passes (is_input p) seen p is.nets k)

count_seen : (b : Bool) (p : RawPort) (seen : List ℕ) (x : ℕ) → count x (if b then nets_in p.bits ++ seen else seen) ≡ count x (if b then nets_in p.bits else []) + count x seen
count_seen true p seen x = count-append x (nets_in p.bits) seen
count_seen false p seen x = omega arith

ports_pass_from : (seen : List ℕ) (ports : List RawPort) → ((p : RawPort) → Has ports p → IsPort p) → ((x : ℕ) → count x (flat_map numbers_of_input ports) + count x seen ≤ 1) → ports_fault_from seen ports ≡ None
ports_pass_from seen [] is k = refl
ports_pass_from seen (p ∷ ports) is k = both_pass (port_fault seen p) (ports_fault_from (seen_after seen p) ports)
    (port_passes seen p (is p (inl refl)) (λ x. (let all = k x in let both = count-append x (numbers_of_input p) (flat_map numbers_of_input ports) in omega arith)))
    (ports_pass_from (seen_after seen p) ports (λ q h. is q (inr h)) (λ x.
    (let all = k x in let both = count-append x (numbers_of_input p) (flat_map numbers_of_input ports) in let after = count_seen (is_input p) p seen x in omega arith)))

-- ---- the law

module _ (n : Raw) (released : List ℕ) (a : Raw) (b : IsBuilt n released a) where
  taint_port : (q : RawPort) → ports_fault n ≡ None → IsNewPort n released a b q → IsPort q
  taint_port q h new =
      let p = new.port in
      let t = new.is_shadow.port in
      let old = old_ports n p h (Has-unfilter (is_data_port n) n.ports p (data_has n p new.has_port)) in
      let way = same_way p q t in
      record {
        one_way = ap is_inout t.direction ∙ old.one_way;
        some = ap (λ k. k == 0) t.width ∙ old.some;
        few = ap (nat_lt port_limit) t.width ∙ old.few;
        nets = λ e. new.is_shadow.nets (sym way.input ∙ e);
      }

  each_port : (q : RawPort) → ports_fault n ≡ None → Has a.ports q → IsPort q
  each_port q h k = elim (old_or_new_port n released a b q k) [ inl o ↦ old_ports n q h o | inr w ↦ taint_port q h w ]

  pub ports_pass : ports_fault n ≡ None → drivers_fault n ≡ None → ports_fault a ≡ None
  unfolding ports_fault
  ports_pass h d = ports_pass_from [] a.ports (λ p k. each_port p h k) (λ x. (let one = inputs_at_most_once n released a b x d in omega arith))
