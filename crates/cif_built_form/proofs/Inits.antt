-- Initial values are given without conflict.
use Rattle.std.specs.Prelude.{ℕ, ◌+◌, ◌<◌, ◌≤◌, ◌≡◌, ◌⊎◌, Bool, true, false, not, ◌&&◌, List, [], ◌∷◌, ◌++◌, map, length, codes, Option, Some, None, option_map, option_to_list, eqb, if◌then◌else◌, refl}
use Rattle.std.specs.List.{flat_map, zip}
use Rattle.std.proofs.Common.{arith, ap, ◌∙◌, cond, inl, inr, length-append}
use Rattle.std.proofs.lemmas.Bool.{and_from, and_parts, both_ways, eqb-true, false_from_ne_true, not-true}
use Rattle.std.proofs.lemmas.List.Concat.{flat_map-append}
use Rattle.cif_defs.specs.Kinds.{role_of}
use Rattle.cif_defs.specs.Table.{kind_of, outputs_of}
use Rattle.cif_defs.specs.RawModule.{net_numbers, nets_in, output_bits, value_named}
use Rattle.cif_defs.specs.Accepted.{init_all, init_at, init_digits, init_digits_by, init_for_bit}
use Rattle.cif_defs.specs.declared.kinds.Kind.{Kind}
use Rattle.cif_defs.specs.declared.raw_module.ParamValue.{ParamValue}
use Rattle.cif_defs.specs.declared.raw_module.RawBit.{RawBit}
use Rattle.cif_defs.specs.declared.raw_module.RawBit.TheVariants.{Net, Zero, One, X, Z}
use Rattle.cif_defs.specs.declared.raw_module.RawCell.{RawCell}
use Rattle.cif_defs.specs.declared.raw_module.RawName.{RawName}
use Rattle.cif_defs.specs.declared.raw_module.Raw.{Raw}
use Rattle.cif_checks.specs.Checks.{fault_if, gives_init, has_number, inits_fault, is_register, register_numbers, register_numbers_by}
use Rattle.cif_checks.specs.declared.fault.BuildFault.TheVariants.{InitConflict}
use Rattle.cif_nets.proofs.Places.{At-has, Has, Has-any, Has-append}
use Rattle.cif_nets.proofs.Passed.{each_passes, test_passes}
use Rattle.cif_augment.specs.Additions.{Block, block_cells, net_of_copy, net_of_port, nets_of_block, standing_numbers}
use Rattle.cif_emit.specs.Emitted.{drives}
use Rattle.cif_raw_runs.proofs.Numbers.{number_of_output}
use Rattle.cif_built.specs.Built.{IsBuilt}
use Rattle.cif_built_form.proofs.Lists.{any_has, count, count-append, count_here, count_past, counted, from_flat_map, from_map, has_before, has_counted, has_net, has_of_number, in_flat_map, net_has, number_of_has}
use Rattle.cif_built_form.proofs.Passing.{all_pass, passes_test}
use Rattle.cif_built_form.proofs.Standing.{standing_in_cell, standing_in_name}
use Rattle.cif_built_form.proofs.New.{blocks, old_or_new}
use Rattle.cif_built_form.proofs.Drivers.{count_new, new, new_is_apart, new_once, new_output}

-- ---- digits that are given

abbrev digits_of : ℕ → RawName → List Bool
digits_of x w = init_digits_by x w.bits (value_named (codes "init") w.attributes)

here_by : (b : Bool) (v : ParamValue) (x i y : ℕ) (d : Bool) → eqb y x ≡ b → Has (option_to_list (cond b (init_at v i) None)) d → Net y ≡ Net x
here_by true v x i y d e h = ap Net (eqb-true y x e)
here_by false v x i y d e h = absurd h

digit_here : (v : ParamValue) (x i : ℕ) (b : RawBit) (d : Bool) → Has (option_to_list (init_for_bit v x i b)) d → b ≡ Net x
digit_here v x i (Net y) d h = here_by (eqb y x) v x i y d refl h
digit_here v x i Zero d h = absurd h
digit_here v x i One d h = absurd h
digit_here v x i X d h = absurd h
digit_here v x i Z d h = absurd h

digit_at : (v : ParamValue) (x i : ℕ) (bits : List RawBit) (d : Bool) → Has (init_digits v x i bits) d → Has bits (Net x)
digit_at v x i [] d h = absurd h
digit_at v x i (b ∷ bits) d h = elim (Has-append (option_to_list (init_for_bit v x i b)) (init_digits v x (i + 1) bits) d h) [
  | inl k ↦ inl (digit_here v x i b d k)
  | inr k ↦ inr (digit_at v x (i + 1) bits d k)
]

-- a digit is given for a number that stands in the name
digit_stands : (x : ℕ) (bits : List RawBit) (o : Option ParamValue) (d : Bool) → Has (init_digits_by x bits o) d → Has bits (Net x)
digit_stands x bits None d h = absurd h
digit_stands x bits (Some v) d h = digit_at v x 0 bits d h

-- ---- how many

few_here : (o : Option Bool) → length (option_to_list o) ≤ 1
few_here None = omega arith
few_here (Some d) = omega arith

few_more : (b : Bool) (o : Option Bool) (rest : List Bool) (x y : ℕ) (ns : List ℕ) → eqb y x ≡ b → length rest ≤ count x ns → length (option_to_list (cond b o None) ++ rest) ≤ count x (y ∷ ns)
few_more true o rest x y ns e l = (let one = few_here o in let here = count_here x y ns (eqb-true y x e) in let long = length-append (option_to_list o) rest in omega arith)
few_more false o rest x y ns e l = (let past = count_past x y ns in omega arith)

few_digits : (v : ParamValue) (x i : ℕ) (bits : List RawBit) → length (init_digits v x i bits) ≤ count x (nets_in bits)
few_digits v x i [] = omega arith
few_digits v x i (Net y ∷ bits) = few_more (eqb y x) (init_at v i) (init_digits v x (i + 1) bits) x y (nets_in bits) refl (few_digits v x (i + 1) bits)
few_digits v x i (Zero ∷ bits) = few_digits v x (i + 1) bits
few_digits v x i (One ∷ bits) = few_digits v x (i + 1) bits
few_digits v x i (X ∷ bits) = few_digits v x (i + 1) bits
few_digits v x i (Z ∷ bits) = few_digits v x (i + 1) bits

few_by : (x : ℕ) (bits : List RawBit) (o : Option ParamValue) → length (init_digits_by x bits o) ≤ count x (nets_in bits)
few_by x bits None = omega arith
few_by x bits (Some v) = few_digits v x 0 bits

few_given : (x : ℕ) (names : List RawName) → length (init_all names x) ≤ count x (flat_map (λ (w : RawName). nets_in w.bits) names)
few_given x [] = omega arith
few_given x (w ∷ names) =
    (let first = few_by x w.bits (value_named (codes "init") w.attributes) in let rest = few_given x names in
    let both = count-append x (nets_in w.bits) (flat_map (λ (v : RawName). nets_in v.bits) names) in
    let long = length-append (digits_of x w) (init_all names x) in omega arith)

-- two digits that differ are two
two_digits : (ds : List Bool) → Has ds true → Has ds false → 1 < length ds
two_digits [] h k = absurd h
two_digits (d ∷ []) (inl h) (inl k) = absurd (cc)
two_digits (d ∷ []) (inl h) (inr k) = absurd k
two_digits (d ∷ []) (inr h) k = absurd h
two_digits (d ∷ e ∷ ds) h k = omega arith

gives : (names : List RawName) (x : ℕ) (d : Bool) → gives_init names x d ≡ true → Has (init_all names x) d
gives names x true h = (let e = Has-any (λ (d : Bool). if true then d else not d) (init_all names x) h in rw e.2 at e.1)
gives names x false h = (let e = Has-any (λ (d : Bool). if false then d else not d) (init_all names x) h in rw (not-true e.0 e.2) at e.1)

given : (names : List RawName) (x : ℕ) (d : Bool) → Has (init_all names x) d → gives_init names x d ≡ true
given names x true h = any_has (λ e. if true then e else not e) (init_all names x) true h refl
given names x false h = any_has (λ e. if false then e else not e) (init_all names x) false h refl

-- ---- the names of copies

abbrev nets_of : RawName → List ℕ
nets_of w = nets_in w.bits

copy_nets : (n : Raw) (c : RawCell) (o : Option RawCell) → flat_map nets_of (option_to_list (option_map (net_of_copy n c) o)) ≡ flat_map drives (option_to_list o)
copy_nets n c None = refl
copy_nets n c (Some v) = refl

count_copy : (n : Raw) (c : RawCell) (x : ℕ) (first further : List RawCell) (o : Option RawCell)
    → count x (flat_map nets_of (option_to_list (option_map (net_of_copy n c) o))) ≤ count x (flat_map drives (first ++ option_to_list o ++ further))
count_copy n c x first further o =
    let one = ap (count x) (copy_nets n c o) in
    let split = ap (count x) (flat_map-append drives (first ++ option_to_list o) further) ∙ count-append x (flat_map drives (first ++ option_to_list o)) (flat_map drives further) in
    let again = ap (count x) (flat_map-append drives first (option_to_list o)) ∙ count-append x (flat_map drives first) (flat_map drives (option_to_list o)) in
    omega arith

-- what copies are named for, their cells drive
count_copies : (n : Raw) (x : ℕ) (cells : List RawCell) (blocks : List Block) → count x (flat_map nets_of (flat_map (nets_of_block n) (zip cells blocks))) ≤ count x (flat_map drives (flat_map block_cells blocks))
count_copies n x [] blocks = omega arith
count_copies n x (c ∷ cells) [] = omega arith
count_copies n x (c ∷ cells) (e ∷ blocks) =
    let one = count_copy n c x (option_to_list e.taint ++ option_to_list e.flag) e.further e.copy in
    let rest = count_copies n x cells blocks in
    let left = ap (count x) (flat_map-append nets_of (nets_of_block n (c, e)) (flat_map (nets_of_block n) (zip cells blocks))) ∙ count-append x (flat_map nets_of (nets_of_block n (c, e))) (flat_map nets_of (flat_map (nets_of_block n) (zip cells blocks))) in
    let right = ap (count x) (flat_map-append drives (block_cells e) (flat_map block_cells blocks)) ∙ count-append x (flat_map drives (block_cells e)) (flat_map drives (flat_map block_cells blocks)) in
    omega arith

-- ---- registers

registers_by : (b : Bool) (bits : List RawBit) (x : ℕ) → Has (cond b (nets_in bits) []) x → Has bits (Net x)
registers_by true bits x h = has_net bits x h
registers_by false bits x h = absurd h

register_output : (c : RawCell) (o : Option Kind) (x : ℕ) → Has (register_numbers_by c o) x → Has (output_bits c) (Net x)
register_output c None x h = absurd h
register_output c (Some k) x h = registers_by (is_register (role_of k)) (output_bits c) x h

-- ---- the law

module _ (n : Raw) (released : List ℕ) (a : Raw) (b : IsBuilt n released a) where
  abbrev copies : List RawName
  copies = flat_map (nets_of_block n) (zip n.cells (blocks n released a b))

  count_named : (x : ℕ) → count x (flat_map nets_of copies) ≤ count x (new n released a b)
  count_named x = (let all = count_copies n x n.cells (blocks n released a b) in let split = count_new n released a b x in omega arith)

  -- a digit is given by a name of the first module, or by the name of a copy
  digit_from : (x : ℕ) (d : Bool) (w : RawName) → Has a.names w → Has (digits_of x w) d → (Has (init_all n.names x) d × ((v : RawName) × Has n.names v × Has v.bits (Net x))) ⊎ Has (init_all copies x) d
  digit_from x d w h k = elim (Has-append (n.names ++ map net_of_port b.ports) copies w (has_before (n.names ++ map net_of_port b.ports ++ copies) a.names w b.has_names h)) [
    | inl first ↦ elim (Has-append n.names (map net_of_port b.ports) w first) [
      | inl old ↦ inl (in_flat_map (digits_of x) n.names w d old k, (w, old, digit_stands x w.bits (value_named (codes "init") w.attributes) d k))
      | inr port ↦ absurd (let q = from_map net_of_port b.ports w port in let none : Has (digits_of x (net_of_port q.0)) d = rw (← q.2) at k in none)
    ]
    | inr copy ↦ inr (in_flat_map (digits_of x) copies w d copy k)
  ]

  digit_by : (x : ℕ) (d : Bool) → gives_init a.names x d ≡ true → (Has (init_all n.names x) d × ((v : RawName) × Has n.names v × Has v.bits (Net x))) ⊎ Has (init_all copies x) d
  digit_by x d h = (let w = from_flat_map (digits_of x) a.names d (gives a.names x d h) in digit_from x d w.0 w.1 w.2)

  copies_are_new : (x : ℕ) (d : Bool) → Has (init_all copies x) d → Has (new n released a b) x
  copies_are_new x d h =
      let w = from_flat_map (digits_of x) copies d h in
      let bit : Has w.0.bits (Net x) = digit_stands x w.0.bits (value_named (codes "init") w.0.attributes) d w.2 in
      let some : 0 < count x (flat_map nets_of copies) = counted x (flat_map nets_of copies) (in_flat_map nets_of copies w.0 x w.1 (net_has w.0.bits x bit)) in
      let less = count_named x in
      has_counted x (new n released a b) (omega arith)

  -- where a register of the first module shows a number, its names alone give digits for it
  old_digit : (x : ℕ) (d : Bool) → Has (standing_numbers n) x → gives_init a.names x d ≡ true → gives_init n.names x d ≡ true
  old_digit x d h k = elim (digit_by x d k) [
    | inl old ↦ given n.names x d old.0
    | inr copy ↦ absurd (new_is_apart n released a b x (copies_are_new x d copy) h)
  ]

  new_digit : (x : ℕ) (d : Bool) → Has (new n released a b) x → gives_init a.names x d ≡ true → Has (init_all copies x) d
  new_digit x d h k = elim (digit_by x d k) [
    | inl old ↦ absurd (new_is_apart n released a b x h (standing_in_name n old.1.0 x old.1.1 old.1.2))
    | inr copy ↦ copy
  ]

  old_agree : (x : ℕ) (c : RawCell) → inits_fault n ≡ None → Has n.cells c → Has (register_numbers_by c (kind_of c.kind)) x → gives_init a.names x false ≡ true → gives_init a.names x true ≡ true → ⊥
  unfolding inits_fault
  old_agree x c h k r f t =
      let bit : Has (output_bits c) (Net x) = register_output c (kind_of c.kind) x r in
      let stands : Has (standing_numbers n) x = standing_in_cell n c outputs_of x k bit in
      let at = At-has n.cells c k in
      let number : Has (net_numbers n) x = number_of_output n at.0 c x at.1 (net_has (output_bits c) x bit) in
      let register : has_number x (register_numbers n) ≡ true = number_of_has x (register_numbers n) (in_flat_map (λ (e : RawCell). register_numbers_by e (kind_of e.kind)) n.cells c x k r) in
      let test = has_number x (register_numbers n) && gives_init n.names x false in
      let none : (test && gives_init n.names x true) ≡ false = test_passes (test && gives_init n.names x true) (InitConflict x) (each_passes _ (net_numbers n) x h number) in
      both_ways (test && gives_init n.names x true) none (and_from test (gives_init n.names x true) (and_from (has_number x (register_numbers n)) (gives_init n.names x false) register (old_digit x false stands f)) (old_digit x true stands t))

  new_agree : (x : ℕ) → Has (new n released a b) x → gives_init a.names x false ≡ true → gives_init a.names x true ≡ true → ⊥
  new_agree x h f t =
      let two = two_digits (init_all copies x) (new_digit x true h t) (new_digit x false h f) in
      let few = few_given x copies in
      let less = count_named x in
      let one = new_once n released a b x in
      omega arith

  agree : (x : ℕ) → inits_fault n ≡ None → has_number x (register_numbers a) ≡ true → gives_init a.names x false ≡ true → gives_init a.names x true ≡ true → ⊥
  agree x h k f t =
      let c = from_flat_map (λ (e : RawCell). register_numbers_by e (kind_of e.kind)) a.cells x (has_of_number x (register_numbers a) k) in
      elim (old_or_new n released a b c.0 c.1) [
        | inl old ↦ old_agree x c.0 h old c.2 f t
        | inr is ↦ new_agree x (new_output n released a b c.0 x is (register_output c.0 (kind_of c.0.kind) x c.2)) f t
      ]

  pub inits_pass : inits_fault n ≡ None → inits_fault a ≡ None
  unfolding inits_fault
  inits_pass h = all_pass (λ x. fault_if (has_number x (register_numbers a) && gives_init a.names x false && gives_init a.names x true) (InitConflict x)) (net_numbers a)
      (λ x k. passes_test (has_number x (register_numbers a) && gives_init a.names x false && gives_init a.names x true) (InitConflict x) (false_from_ne_true _ (λ t.
      (let both = and_parts (has_number x (register_numbers a) && gives_init a.names x false) (gives_init a.names x true) t in
      let two = and_parts (has_number x (register_numbers a)) (gives_init a.names x false) both.0 in agree x h two.0 two.1 both.1))))
