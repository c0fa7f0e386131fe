-- Each number is driven once.
use Rattle.std.specs.Prelude.{ℕ, ◌+◌, ◌<◌, ◌≤◌, ◌≡◌, true, false, List, [], ◌∷◌, ◌++◌, None}
use Rattle.std.specs.List.{flat_map}
use Rattle.std.proofs.Common.{arith, sym, ap, ◌∙◌, inl, inr}
use Rattle.std.proofs.lemmas.Bool.{both_ways, cases_Bool, cases_eq, le-ltb}
use Rattle.std.proofs.lemmas.List.Concat.{flat_map-append}
use Rattle.cif_defs.specs.RawModule.{net_numbers, output_bits}
use Rattle.cif_defs.specs.Accepted.{is_input}
use Rattle.cif_defs.specs.declared.raw_module.RawBit.TheVariants.{Net}
use Rattle.cif_defs.specs.declared.raw_module.RawPort.{RawPort}
use Rattle.cif_defs.specs.declared.raw_module.RawCell.{RawCell}
use Rattle.cif_defs.specs.declared.raw_module.Raw.{Raw}
use Rattle.cif_checks.specs.Checks.{driven_numbers, drivers_fault, fault_if, has_number, is_twice}
use Rattle.cif_checks.specs.declared.fault.BuildFault.TheVariants.{MultiDriven}
use Rattle.cif_nets.proofs.Places.{Has, Has-left, Has-right}
use Rattle.cif_nets.proofs.Passed.{driven_once}
use Rattle.cif_augment.specs.Additions.{Block, block_cells, new_numbers, numbers_of_input, standing_numbers}
use Rattle.cif_emit.specs.Emitted.{drives}
use Rattle.cif_emit.specs.Makers.{RiseBetween}
use Rattle.cif_built.specs.Makings.{block_of}
use Rattle.cif_built.specs.Built.{IsBuilt}
use Rattle.cif_built_form.proofs.Lists.{count, count-append, count_apart, count_here, count_numbers, count_permuted, counted, flat_map-flat_map, has_before, has_counted, has_of_number, in_flat_map, in_map, net_has, number_of_has, uncounted}
use Rattle.cif_built_form.proofs.Numbers.{numbers_driven}
use Rattle.cif_built_form.proofs.Passing.{all_pass, passes_test}
use Rattle.cif_built_form.proofs.Standing.{driven_stands, input_number, number_of_driven}
use Rattle.cif_built_form.proofs.New.{IsNew, blocks, new_cells, of_block}

-- ---- numbers that rise

rise_above : (used : List ℕ) (low high : ℕ) (xs : List ℕ) (x : ℕ) → RiseBetween used low high xs → Has xs x → low ≤ x
rise_above used low high [] x h k = absurd k
rise_above used low high (y ∷ ys) x h (inl e) = (let l : low ≤ y = h.0 in omega arith)
rise_above used low high (y ∷ ys) x h (inr k) = (let l : low ≤ y = h.0 in let m : y + 1 ≤ x = rise_above used (y + 1) high ys x h.2 k in omega arith)

rise_unused : (used : List ℕ) (low high : ℕ) (xs : List ℕ) (x : ℕ) → RiseBetween used low high xs → Has xs x → has_number x used ≡ false
rise_unused used low high [] x h k = absurd k
rise_unused used low high (y ∷ ys) x h (inl e) = ap (λ z. has_number z used) (sym e) ∙ h.1
rise_unused used low high (y ∷ ys) x h (inr k) = rise_unused used (y + 1) high ys x h.2 k

rise_once : (used : List ℕ) (low high : ℕ) (xs : List ℕ) (x : ℕ) → RiseBetween used low high xs → count x xs ≤ 1
rise_once used low high [] x h = omega arith
rise_once used low high (y ∷ ys) x h = elim (cases_eq y x) [
  | inl e ↦ (let first = count_here x y ys e in let later : count x ys ≡ 0 = uncounted x ys (λ k. (let m : y + 1 ≤ x = rise_above used (y + 1) high ys x h.2 k in omega arith)) in omega arith)
  | inr e ↦ (let first = count_apart x y ys e in let later = rise_once used (y + 1) high ys x h.2 in omega arith)
]

-- ---- what is driven in the first module

pub once_driven : (raw : Raw) (x : ℕ) → drivers_fault raw ≡ None → count x (driven_numbers raw) ≤ 1
once_driven raw x h = elim (cases_Bool (has_number x (driven_numbers raw))) [
  | inl t ↦ driven_once raw x h (number_of_driven raw x (has_of_number x (driven_numbers raw) t))
  | inr f ↦ (let none : count x (driven_numbers raw) ≡ 0 = uncounted x (driven_numbers raw) (λ k. both_ways (has_number x (driven_numbers raw)) f (number_of_has x (driven_numbers raw) k)) in omega arith)
]

pub count_both : (raw : Raw) (x : ℕ) → count x (driven_numbers raw) ≡ count x (flat_map numbers_of_input raw.ports) + count x (flat_map drives raw.cells)
count_both raw x = ap (count x) (numbers_driven raw) ∙ count-append x (flat_map numbers_of_input raw.ports) (flat_map drives raw.cells)

module _ (n : Raw) (released : List ℕ) (a : Raw) (b : IsBuilt n released a) where
  abbrev pub new : List ℕ
  new = new_numbers b.ports (blocks n released a b)

  pub new_is_apart : (x : ℕ) → Has new x → Has (standing_numbers n) x → ⊥
  new_is_apart x h k =
      both_ways (has_number x (standing_numbers n)) (rise_unused (standing_numbers n) 2 b.last b.numbers x b.rise (has_before b.numbers new x b.are_numbers h)) (number_of_has x (standing_numbers n) k)

  pub new_once : (x : ℕ) → count x new ≤ 1
  new_once x = (let e = count_numbers x b.numbers new b.are_numbers in let l = rise_once (standing_numbers n) 2 b.last b.numbers x b.rise in omega arith)

  pub count_new : (x : ℕ) → count x new ≡ count x (flat_map numbers_of_input b.ports) + count x (flat_map drives (new_cells n released a b))
  unfolding new_numbers
  count_new x =
      count-append x (flat_map numbers_of_input b.ports) (flat_map (λ (e : Block). flat_map drives (block_cells e)) (blocks n released a b))
      ∙ ap (λ ns. count x (flat_map numbers_of_input b.ports) + count x ns) (sym (flat_map-flat_map drives block_cells (blocks n released a b)))

  count_inputs : (x : ℕ) → count x (flat_map numbers_of_input a.ports) ≡ count x (flat_map numbers_of_input n.ports) + count x (flat_map numbers_of_input b.ports)
  count_inputs x =
      count_permuted numbers_of_input x (n.ports ++ b.ports) a.ports b.has_ports
      ∙ ap (count x) (flat_map-append numbers_of_input n.ports b.ports)
      ∙ count-append x (flat_map numbers_of_input n.ports) (flat_map numbers_of_input b.ports)

  count_outputs : (x : ℕ) → count x (flat_map drives a.cells) ≡ count x (flat_map drives n.cells) + count x (flat_map drives (new_cells n released a b))
  count_outputs x =
      count_permuted drives x (n.cells ++ new_cells n released a b) a.cells b.has_cells
      ∙ ap (count x) (flat_map-append drives n.cells (new_cells n released a b))
      ∙ count-append x (flat_map drives n.cells) (flat_map drives (new_cells n released a b))

  -- what the module drives is what the first one drives and the new numbers
  pub count_driven : (x : ℕ) → count x (driven_numbers a) ≡ count x (driven_numbers n) + count x new
  count_driven x =
      let all = count_both a x in
      let old = count_both n x in
      let inputs = count_inputs x in
      let outputs = count_outputs x in
      let fresh = count_new x in
      omega arith

  pub driven_at_most_once : (x : ℕ) → drivers_fault n ≡ None → count x (driven_numbers a) ≤ 1
  driven_at_most_once x h = (let all = count_driven x in let old = once_driven n x h in let fresh = new_once x in elim (cases_Bool (has_number x new)) [
    | inl t ↦ (let none : count x (driven_numbers n) ≡ 0 = uncounted x (driven_numbers n) (λ k. new_is_apart x (has_of_number x new t) (driven_stands n x k)) in omega arith)
    | inr f ↦ (let none : count x new ≡ 0 = uncounted x new (λ k. both_ways (has_number x new) f (number_of_has x new k)) in omega arith)
  ])

  pub inputs_at_most_once : (x : ℕ) → drivers_fault n ≡ None → count x (flat_map numbers_of_input a.ports) ≤ 1
  inputs_at_most_once x h = (let all = count_both a x in let one = driven_at_most_once x h in omega arith)

  pub drivers_pass : drivers_fault n ≡ None → drivers_fault a ≡ None
  unfolding drivers_fault
  drivers_pass h = all_pass (λ x. fault_if (is_twice (driven_numbers a) x) (MultiDriven x)) (net_numbers a)
      (λ x k. passes_test (is_twice (driven_numbers a) x) (MultiDriven x) (le-ltb 1 (count x (driven_numbers a)) (driven_at_most_once x h)))

  -- ---- new numbers are driven

  pub new_driven : (x : ℕ) → Has new x → Has (driven_numbers a) x
  new_driven x h = (let all = count_driven x in let some : 0 < count x new = counted x new h in has_counted x (driven_numbers a) (omega arith))

  pub old_driven : (x : ℕ) → Has (driven_numbers n) x → Has (driven_numbers a) x
  old_driven x h = (let all = count_driven x in let some : 0 < count x (driven_numbers n) = counted x (driven_numbers n) h in has_counted x (driven_numbers a) (omega arith))

  pub new_input : (q : RawPort) (x : ℕ) → Has b.ports q → is_input q ≡ true → Has q.bits (Net x) → Has new x
  unfolding new_numbers
  new_input q x h e k =
      Has-left (flat_map numbers_of_input b.ports) (flat_map (λ (e : Block). flat_map drives (block_cells e)) (blocks n released a b)) x (in_flat_map numbers_of_input b.ports q x h (input_number q x e k))

  pub new_output : (d : RawCell) (x : ℕ) → IsNew n released a b d → Has (output_bits d) (Net x) → Has new x
  unfolding new_numbers
  new_output d x is k =
      Has-right (flat_map numbers_of_input b.ports) (flat_map (λ (e : Block). flat_map drives (block_cells e)) (blocks n released a b)) x
      (in_flat_map (λ (e : Block). flat_map drives (block_cells e)) (blocks n released a b) (block_of is.making) x (in_map block_of b.makings is.making is.has_making)
      (in_flat_map drives (block_cells (block_of is.making)) d x (of_block n released a b d is) (net_has (output_bits d) x k)))
