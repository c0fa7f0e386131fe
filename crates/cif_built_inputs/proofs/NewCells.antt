-- What a module that is built has, by name: its new cells, the nets that they drive, and the `init` attributes of its names.
use Rattle.std.specs.Prelude.{ℕ, ◌≤◌, ◌≡◌, Bool, true, false, List, [], ◌∷◌, ◌++◌, map, get_or, Option, Some, None, option_to_list, option_map, IsSomeAnd, IsNone, MatchBool, refl}
use Rattle.std.specs.List.{flat_map, zip, AllZip, AllByRecursion}
use Rattle.std.proofs.Common.{arith, sym, ap, ◌∙◌, inl, inr}
use Rattle.std.proofs.lemmas.List.Sorted.{IsPermutation-sym}
use Rattle.cif_defs.specs.RawModule.{nets_in, output_bits}
use Rattle.cif_defs.specs.declared.raw_module.RawBit.{RawBit}
use Rattle.cif_defs.specs.declared.raw_module.RawCell.{RawCell}
use Rattle.cif_defs.specs.declared.raw_module.RawName.{RawName}
use Rattle.cif_defs.specs.declared.raw_module.Raw.{Raw}
use Rattle.cif_checks.specs.Checks.{has_number}
use Rattle.cif_nets.proofs.Places.{At-has, At-same, Has, Has-append, Has-flat_map, Has-left, Has-right}
use Rattle.cif_augment.specs.Names.{has_role, is_reset_register}
use Rattle.cif_augment.specs.Additions.{IsCopy, block_cells, net_of_copy, net_of_port, nets_of_block, new_numbers, numbers_of_input, standing_numbers}
use Rattle.cif_built.specs.Built.{IsBuilt, IsMaking}
use Rattle.cif_built.specs.Makings.{IsStateCell, Making, block_of, state_cells}
use Rattle.cif_built_inputs.proofs.Counts.{count, count-append, count-flat_map, count-permutation, flat_map_twice, one_place, rise_once, rise_unused}
use Rattle.cif_built_inputs.proofs.Digits.{gives}
use Rattle.cif_built_inputs.proofs.Finds.{Has-permutation, Has-unmap}

-- ---- new cells

abbrev pub new_cells : List Making → List RawCell
new_cells makings = flat_map block_cells (map block_of makings)

has_some : {A : Type 0} (o : Option A) (d : A) → o ≡ Some d → Has (option_to_list o) d
has_some o d e = rw e (inl refl)

-- cells that store among the new cells of a cell
pub record IsNew (n : Raw) (released : List ℕ) (shadow : ℕ → RawBit) (c : RawCell) (makings : List Making) (d : RawCell) : Type 0 where
  pub stands : Has (new_cells makings) d
  pub state : IsStateCell d

pub in_state : (m : Making) (d : RawCell) → Has (state_cells m) d → Has (block_cells (block_of m)) d
in_state m d h = elim (Has-append (option_to_list m.taint ++ option_to_list m.flag) (option_to_list m.copy) d h) [
  | inl a ↦ Has-left (option_to_list m.taint ++ option_to_list m.flag ++ option_to_list m.copy) (m.showing ++ m.storing) d (Has-left (option_to_list m.taint ++ option_to_list m.flag) (option_to_list m.copy) d a)
  | inr b ↦ Has-left (option_to_list m.taint ++ option_to_list m.flag ++ option_to_list m.copy) (m.showing ++ m.storing) d (Has-right (option_to_list m.taint ++ option_to_list m.flag) (option_to_list m.copy) d b)
]

pub each_state : {A : Type 0} (P : A → Type 0) (xs : List A) (x : A) → AllByRecursion P xs → Has xs x → P x
each_state P [] x h k = absurd k
each_state P (y ∷ ys) x h (inl e) = rw (sym e) h.0
each_state P (y ∷ ys) x h (inr k) = each_state P ys x h.1 k

-- the making of a cell
pub record MakingOf (n : Raw) (released : List ℕ) (shadow : ℕ → RawBit) (cells : List RawCell) (makings : List Making) (c : RawCell) : Type 0 where
  pub making : Making
  pub is : IsMaking n released shadow c making
  pub stands : (d : RawCell) → Has (block_cells (block_of making)) d → Has (new_cells makings) d
  pub net : (v : RawCell) → making.copy ≡ Some v → Has (flat_map (nets_of_block n) (zip cells (map block_of makings))) (net_of_copy n c v)

module _ (n : Raw) (released : List ℕ) (shadow : ℕ → RawBit) where
  pub making_of : (cells : List RawCell) (makings : List Making) (c : RawCell) → AllZip (IsMaking n released shadow) cells makings → Has cells c → MakingOf n released shadow cells makings c
  making_of [] [] c all h = absurd h
  making_of [] (m ∷ ms) c all h = absurd h
  making_of (b ∷ bs) [] c all h = absurd all
  making_of (b ∷ bs) (m ∷ ms) c all (inl e) = record {
    making = m;
    is = rw (sym e) all.0;
    stands = λ d h. Has-left (block_cells (block_of m)) (new_cells ms) d h;
    net = λ v s. Has-left (nets_of_block n (b, block_of m)) (flat_map (nets_of_block n) (zip bs (map block_of ms))) (net_of_copy n c v) (rw (s, e) (inl refl));
  }
  making_of (b ∷ bs) (m ∷ ms) c all (inr h) = (let r = making_of bs ms c all.1 h in record {
    making = r.making;
    is = r.is;
    stands = λ d k. Has-right (block_cells (block_of m)) (new_cells ms) d (r.stands d k);
    net = λ v s. Has-right (nets_of_block n (b, block_of m)) (flat_map (nets_of_block n) (zip bs (map block_of ms))) (net_of_copy n c v) (r.net v s);
  })

  -- ---- names of copies

  pub record CopyName (cells : List RawCell) (makings : List Making) (z : RawName) : Type 0 where
    pub cell : RawCell
    pub copy : RawCell
    pub stands : Has cells cell
    pub is_new : Has (new_cells makings) copy
    pub is_copy : IsCopy cell copy
    pub is : z ≡ net_of_copy n cell copy

  by_reset : (b : Bool) (c v : RawCell) (o : Option RawCell) → o ≡ Some v → MatchBool b (IsSomeAnd o (IsCopy c)) (IsNone o) → IsCopy c v
  by_reset true c v None e h = absurd h
  by_reset true c v (Some w) e h = (let same : w ≡ v = ap (λ (o : Option RawCell). get_or (option_to_list o) 0 v) e in rw (sym same) h)
  by_reset false c v None e h = absurd (cc)
  by_reset false c v (Some w) e h = absurd (cc)

  pub copy_is : (c v : RawCell) (m : Making) → IsMaking n released shadow c m → m.copy ≡ Some v → IsCopy c v
  copy_is c v m is e = by_reset (has_role is_reset_register c) c v m.copy e is.block.copy

  named_copy : (c : RawCell) (o : Option RawCell) (z : RawName) → Has (option_to_list (option_map (net_of_copy n c) o)) z → (v : RawCell) × (o ≡ Some v) × (z ≡ net_of_copy n c v)
  named_copy c None z h = absurd h
  named_copy c (Some v) z (inl e) = (v, refl, sym e)
  named_copy c (Some v) z (inr h) = absurd h

  pub copy_names : (cells : List RawCell) (makings : List Making) (z : RawName) → AllZip (IsMaking n released shadow) cells makings → Has (flat_map (nets_of_block n) (zip cells (map block_of makings))) z → CopyName cells makings z
  copy_names [] [] z all h = absurd h
  copy_names [] (m ∷ ms) z all h = absurd h
  copy_names (c ∷ cs) [] z all h = absurd h
  copy_names (c ∷ cs) (m ∷ ms) z all h = elim (Has-append (nets_of_block n (c, block_of m)) (flat_map (nets_of_block n) (zip cs (map block_of ms))) z h) [
    | inl here ↦ (let r = named_copy c m.copy z here in record {
      cell = c;
      copy = r.0;
      stands = inl refl;
      is_new = Has-left (block_cells (block_of m)) (new_cells ms) r.0 (in_state m r.0 (Has-right (option_to_list m.taint ++ option_to_list m.flag) (option_to_list m.copy) r.0 (has_some m.copy r.0 r.1)));
      is_copy = copy_is c r.0 m all.0 r.1;
      is = r.2;
    })
    | inr later ↦ (let r = copy_names cs ms z all.1 later in record {
      cell = r.cell;
      copy = r.copy;
      stands = inr r.stands;
      is_new = Has-right (block_cells (block_of m)) (new_cells ms) r.copy r.is_new;
      is_copy = r.is_copy;
      is = r.is;
    })
  ]

-- ---- the built module

module _ (n a : Raw) (released : List ℕ) (built : IsBuilt n released a) where
  pub making_for : (c : RawCell) → Has n.cells c → MakingOf n released built.shadow n.cells built.makings c
  making_for c h = making_of n released built.shadow n.cells built.makings c built.are_makings h

  pub new_stands : (d : RawCell) → Has (new_cells built.makings) d → Has a.cells d
  new_stands d h = Has-permutation (n.cells ++ new_cells built.makings) a.cells d built.has_cells (Has-right n.cells (new_cells built.makings) d h)

  -- ---- nets that new cells drive

  abbrev pub drives : RawCell → List ℕ
  drives d = nets_in (output_bits d)

  abbrev by_inputs : List ℕ
  by_inputs = flat_map numbers_of_input built.ports

  abbrev by_cells : List ℕ
  by_cells = flat_map drives (new_cells built.makings)

  numbers_are : new_numbers built.ports (map block_of built.makings) ≡ by_inputs ++ by_cells
  unfolding new_numbers
  numbers_are = ap (λ (xs : List ℕ). by_inputs ++ xs) (flat_map_twice drives block_cells (map block_of built.makings))

  -- each is driven once
  pub driven_once : (x : ℕ) → count x (flat_map drives (new_cells built.makings)) ≤ 1
  driven_once x =
      let once : count x built.numbers ≤ 1 = rise_once (standing_numbers n) 2 built.last x built.numbers built.rise in
      let same = count-permutation x built.numbers (new_numbers built.ports (map block_of built.makings)) built.are_numbers in
      let parts = ap (count x) numbers_are in
      let sum = count-append x by_inputs by_cells in
      omega arith

  -- and stands nowhere in n
  pub is_unused : (d : RawCell) (x : ℕ) → Has (new_cells built.makings) d → Has (drives d) x → has_number x (standing_numbers n) ≡ false
  is_unused d x h k =
      let at = At-has (new_cells built.makings) d h in
      let among : Has (by_inputs ++ by_cells) x = Has-right by_inputs by_cells x (Has-flat_map drives (new_cells built.makings) at.0 d x at.1 k) in
      let listed : Has (new_numbers built.ports (map block_of built.makings)) x = rw numbers_are among in
      rise_unused (standing_numbers n) 2 built.last x built.numbers built.rise
      (Has-permutation (new_numbers built.ports (map block_of built.makings)) built.numbers x (IsPermutation-sym built.numbers (new_numbers built.ports (map block_of built.makings)) built.are_numbers) listed)

  -- two new cells that drive a net are one
  pub one_driver : (d e : RawCell) (x : ℕ) → Has (new_cells built.makings) d → Has (new_cells built.makings) e → Has (drives d) x → Has (drives e) x → d ≡ e
  one_driver d e x hd he kd ke =
      let at = At-has (new_cells built.makings) d hd in
      let at' = At-has (new_cells built.makings) e he in
      let same = one_place x drives (new_cells built.makings) at.0 at'.0 d e at.1 at'.1 kd ke (driven_once x) in
      At-same (new_cells built.makings) at'.0 d e (rw (sym same) at.1) at'.1

  -- it stands once at its outputs
  pub once_in : (d : RawCell) (x : ℕ) → Has (new_cells built.makings) d → count x (drives d) ≤ 1
  once_in d x h = (let at = At-has (new_cells built.makings) d h in let all = driven_once x in let part = count-flat_map x drives (new_cells built.makings) at.0 d at.1 in omega arith)

  -- ---- names that give digits

  pub data Giver (x : ℕ) (z : RawName) : Type 0 where
    standing : Has n.names z → Giver x z
    copied : CopyName n released built.shadow n.cells built.makings z → Giver x z

  abbrev copies : List RawName
  copies = flat_map (nets_of_block n) (zip n.cells (map block_of built.makings))

  pub giver : (x : ℕ) (d : Bool) (z : RawName) → Has a.names z → gives x d z ≡ true → Giver x z
  giver x d z h t =
      let all : List RawName = n.names ++ map net_of_port built.ports ++ copies in
      let back : Has all z = Has-permutation a.names all z (IsPermutation-sym all a.names built.has_names) h in
      elim (Has-append (n.names ++ map net_of_port built.ports) copies z back) [
        | inl before ↦ elim (Has-append n.names (map net_of_port built.ports) z before) [
          | inl old ↦ standing old
          | inr port ↦ (let p = Has-unmap net_of_port built.ports z port in absurd (let none : gives x d (net_of_port p.0) ≡ true = ap (gives x d) p.2 ∙ t in cc))
        ]
        | inr copy ↦ copied (copy_names n released built.shadow n.cells built.makings z built.are_makings copy)
      ]

  pub name_kept : (z : RawName) → Has n.names z → Has a.names z
  name_kept z h =
      Has-permutation (n.names ++ map net_of_port built.ports ++ copies) a.names z built.has_names
      (Has-left (n.names ++ map net_of_port built.ports) copies z (Has-left n.names (map net_of_port built.ports) z h))

  pub copy_named : (z : RawName) → Has copies z → Has a.names z
  copy_named z h = Has-permutation (n.names ++ map net_of_port built.ports ++ copies) a.names z built.has_names (Has-right (n.names ++ map net_of_port built.ports) copies z h)
