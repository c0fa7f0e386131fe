-- The bits that hold taints may be read.
use Rattle.std.specs.Prelude.{ℕ, zero, suc, ◌<◌, ◌≡◌, ◌⊎◌, true, false, List, [], ◌∷◌, ◌++◌, filter, get_or, length, Some, refl}
use Rattle.std.specs.List.{flat_map, list_all, list_any}
use Rattle.std.proofs.Common.{arith, sym, ap, ◌∙◌, inl, inr, subst}
use Rattle.std.proofs.lemmas.Bool.{both_ways, cases_Bool, false_from_ne_true, not_from_false}
use Rattle.cif_defs.specs.Table.{kind_of}
use Rattle.cif_defs.specs.RawModule.{is_net, net_numbers, nets_in, output_bits}
use Rattle.cif_defs.specs.Loop.{IsLevelled}
use Rattle.cif_defs.specs.Accepted.{driver_of_number, is_clock, is_input, netlist_of, no_bit}
use Rattle.cif_defs.specs.declared.kinds.Kind.{Kind}
use Rattle.cif_defs.specs.declared.raw_module.RawBit.{RawBit}
use Rattle.cif_defs.specs.declared.raw_module.RawBit.TheVariants.{Net, Zero, One, X, Z}
use Rattle.cif_defs.specs.declared.raw_module.RawPort.{RawPort}
use Rattle.cif_defs.specs.declared.raw_module.RawCell.{RawCell}
use Rattle.cif_defs.specs.declared.raw_module.Raw.{Raw}
use Rattle.cif_defs.proofs.Levels.{IsRanked}
use Rattle.cif_defs.proofs.Orders.{place_in}
use Rattle.cif_checks.specs.Checks.{driven_numbers}
use Rattle.cif_nets.proofs.Places.{At, At-below, At-get, Has, Has-any, Has-append, Has-at, Has-filter, Has-left, Has-right, Has-unfilter, passes_at}
use Rattle.cif_nets.proofs.Passed.{Passed}
use Rattle.cif_nets.proofs.Wired.{wired_if_passed}
use Rattle.cif_raw_runs.proofs.Numbers.{contained_has}
use Rattle.cif_raw_runs.proofs.ClockAlone.{only_clock}
use Rattle.cif_raw_runs.proofs.Drivers.{DrivenBy, IsShownAt, by_cell, by_clock, by_port, driven_by}
use Rattle.cif_raw_runs.proofs.RankLaws.{ranked, ranks_from_order}
use Rattle.cif_augment.specs.Names.{data_ports, is_clock_bit, is_data_port}
use Rattle.cif_augment.specs.Additions.{numbers_of_input}
use Rattle.cif_emit.specs.Emitted.{drives}
use Rattle.cif_built.specs.Makings.{Making, known_for_showing, passing_bits, state_cells, taint_bit, taint_bits, with_taints}
use Rattle.cif_built.specs.Built.{IsBuilt, IsMaking, IsMakingAs, IsShadowPort, is_cleared}
use Rattle.cif_built_form.proofs.Lists.{all_has, beside_first, from_flat_map, from_map, has_net, holder_is_one, in_map, net_has}
use Rattle.cif_built_form.proofs.Standing.{input_number, number_of_driven}
use Rattle.cif_built_form.proofs.Drivers.{count_both, new, new_input, new_output, once_driven}
use Rattle.cif_built_form.proofs.Ports.{same_way}
use Rattle.cif_built_form.proofs.Checked.{IsChecked, clock_port, well_formed}
use Rattle.cif_built_form.proofs.Fine.{AreFine, AreFineBits, IsFineBit, append_fine, known_fine, new_fine, nets_fine, operand_readable, operands_fine}
use Rattle.cif_built_form.proofs.Passes.{passes_below, passing_operand, rank, shown_at_output}

-- ---- the ports that have taint

clock_in_bits : (raw : Raw) (b : RawBit) → is_clock_bit raw b ≡ true → (x : ℕ) × (b ≡ Net x) × (is_clock raw x ≡ true)
clock_in_bits raw (Net x) h = (x, refl, h)
clock_in_bits raw Zero h = absurd (cc)
clock_in_bits raw One h = absurd (cc)
clock_in_bits raw X h = absurd (cc)
clock_in_bits raw Z h = absurd (cc)

-- an input port with a bit that isn't the clock has taint
data_port : (raw : Raw) (p : RawPort) (y : ℕ) → IsChecked raw → Has raw.ports p → is_input p ≡ true → Has p.bits (Net y) → is_clock raw y ≡ false → Has (data_ports raw) p
unfolding data_ports
data_port raw p y h k e at free = Has-filter (is_data_port raw) raw.ports p k (not_from_false (list_any (is_clock_bit raw) p.bits) (false_from_ne_true (list_any (is_clock_bit raw) p.bits) (λ t.
    (let bit = Has-any (is_clock_bit raw) p.bits t in
    let clock = clock_in_bits raw bit.0 bit.2 in
    let here : Has p.bits (Net clock.0) = rw clock.1 at bit.1 in
    let q = clock_port raw clock.0 h.clocks clock.2 in
    let there : Has q.port.bits (Net clock.0) = rw q.alone (inl refl) in
    let both = count_both raw clock.0 in
    let once = once_driven raw clock.0 h.drivers in
    let same : p ≡ q.port = holder_is_one numbers_of_input clock.0 raw.ports p q.port (omega arith) k q.has_port (input_number p clock.0 e here) (input_number q.port clock.0 q.is_input there) in
    let alone : Has (Net clock.0 ∷ []) (Net y) = rw q.alone at (rw same at at) in
    both_ways (is_clock raw y) free (only_one raw clock.0 y alone clock.2))))) where
      only_one : (raw : Raw) (x y : ℕ) → Has (Net x ∷ []) (Net y) → is_clock raw x ≡ true → is_clock raw y ≡ true
      only_one raw x y (inl e) t = (let same : x ≡ y = cc in ap (is_clock raw) (sym same) ∙ t)
      only_one raw x y (inr k) t = absurd k

-- ---- lists of bits

has_get : (bits : List RawBit) (i : ℕ) → i < length bits → Has bits (get_or bits i no_bit)
has_get [] i l = absurd (omega arith)
has_get (c ∷ bits) zero l = inl refl
has_get (c ∷ bits) (suc i) l = inr (has_get bits i (omega arith))

pub join_nets : (n a : Raw) (xs ys : List RawBit) → AreFine n a (nets_in xs) → AreFine n a (nets_in ys) → AreFine n a (nets_in (xs ++ ys))
join_nets n a xs ys h k = record { each = λ x at. elim (Has-append xs ys (Net x) (has_net (xs ++ ys) x at)) [ inl l ↦ h.each x (net_has xs x l) | inr r ↦ k.each x (net_has ys x r) ] }

-- ---- bits that hold taints

module _ (n : Raw) (released : List ℕ) (a : Raw) (b : IsBuilt n released a) (h : IsChecked n) where
  all_nets_fine : (bits : List RawBit) (c : RawBit) → list_all is_net bits ≡ true → ((x : ℕ) → Has bits (Net x) → Has (new n released a b) x) → Has bits c → IsFineBit n a c
  all_nets_fine bits (Net x) t each k = new_fine n released a b h x (each x k)
  all_nets_fine bits Zero t each k = tt
  all_nets_fine bits One t each k = tt
  all_nets_fine bits X t each k = absurd (let f : false ≡ true = all_has is_net bits X t k in cc)
  all_nets_fine bits Z t each k = absurd (let f : false ≡ true = all_has is_net bits Z t k in cc)

  -- the taint of a bit of an input port
  input_shadow : (y i : ℕ) (p : RawPort) → Has n.ports p → is_input p ≡ true → At p.bits i (Net y) → is_clock n y ≡ false → Has (driven_numbers n) y → IsFineBit n a (b.shadow y)
  input_shadow y i p k e at free driven =
      let shown = data_port n p y h k e (Has-at p.bits i (Net y) at) free in
      let beside = beside_first (IsShadowPort n released b.shadow) (data_ports n) b.ports p b.are_ports shown in
      let q = beside.0 in
      let input : is_input q ≡ true = (same_way p q beside.2.port).input ∙ e in
      elim (cases_Bool (is_cleared n released y)) [
        | inl t ↦ subst (IsFineBit n a) (sym (b.cleared y (contained_has (net_numbers n) y (number_of_driven n y driven)) t)) tt
        | inr f ↦ (let same : b.shadow y ≡ get_or q.bits i no_bit = beside.2.input i y e (At-get p.bits i (Net y) no_bit at) f in
            let inside : i < length q.bits = (let wide : length q.bits ≡ length p.bits = beside.2.port.width in let l = At-below p.bits i (Net y) at in omega arith) in
            subst (IsFineBit n a) (sym same) (all_nets_fine q.bits (get_or q.bits i no_bit) (beside.2.nets e) (λ x m. new_input n released a b q x beside.1 input m) (has_get q.bits i inside)))
      ]

  -- the numbers that cells of a making drive
  pub making_fine : (c : RawCell) (m : Making) (d : RawCell) → Has n.cells c → Has b.makings m → IsMaking n released b.shadow c m → Has (state_cells m) d ⊎ Has (m.showing ++ m.storing) d → AreFine n a (drives d)
  making_fine c m d k l is place = record {
    each = λ x at.
        new_fine n released a b h x (new_output n released a b d x (record { cell = c; making = m; has_cell = k; has_making = l; is_making = is; place = place }) (has_net (output_bits d) x at));
  }

  pub states_fine : (c : RawCell) (m : Making) → Has n.cells c → Has b.makings m → IsMaking n released b.shadow c m → AreFine n a (nets_in (flat_map output_bits (state_cells m)))
  states_fine c m k l is = record {
    each = λ x at. (let d = from_flat_map output_bits (state_cells m) (Net x) (has_net (flat_map output_bits (state_cells m)) x at) in
        (making_fine c m d.0 k l is (inl d.1)).each x (net_has (output_bits d.0) x d.2));
  }

  pub showing_fine : (c : RawCell) (m : Making) → Has n.cells c → Has b.makings m → IsMaking n released b.shadow c m → AreFine n a (flat_map drives m.showing)
  showing_fine c m k l is = record { each = λ x at. (let d = from_flat_map drives m.showing x at in (making_fine c m d.0 k l is (inr (Has-left m.showing m.storing d.0 d.1))).each x d.2) }

  pub storing_fine : (c : RawCell) (m : Making) → Has n.cells c → Has b.makings m → IsMaking n released b.shadow c m → AreFine n a (flat_map drives m.storing)
  storing_fine c m k l is = record { each = λ x at. (let d = from_flat_map drives m.storing x at in (making_fine c m d.0 k l is (inr (Has-right m.showing m.storing d.0 d.1))).each x d.2) }

  -- the taints of bits, where the shadow of each number among them may be read
  taint_fine : (c : RawBit) → ((x : ℕ) → c ≡ Net x → IsFineBit n a (b.shadow x)) → IsFineBit n a (taint_bit b.shadow c)
  taint_fine (Net x) each = each x refl
  taint_fine Zero each = tt
  taint_fine One each = tt
  taint_fine X each = tt
  taint_fine Z each = tt

  pub taints_fine : (bits : List RawBit) → ((x : ℕ) → Has bits (Net x) → IsFineBit n a (b.shadow x)) → AreFineBits n a (taint_bits b.shadow bits)
  taints_fine bits each = record { each = λ c at. (let d = from_map (taint_bit b.shadow) bits c at in subst (IsFineBit n a) d.2 (taint_fine d.0 (λ x e. each x (rw e at d.1)))) }

  -- what cells may read that compute what a cell shows, once the shadows of what passes through it may be read
  pub known_to_show : (c : RawCell) (k : Kind) (m : Making) → Has n.cells c → Has b.makings m → IsMaking n released b.shadow c m → kind_of c.kind ≡ Some k
      → ((x : ℕ) → Has (passing_bits c k) (Net x) → IsFineBit n a (b.shadow x)) → AreFine n a (known_for_showing b.shadow c k m)
  known_to_show c k m here there is kind each =
      let bits = passing_bits c k in
      let taints = taint_bits b.shadow bits in
      let old : AreFineBits n a bits = record { each = λ d at. (operands_fine n released a b h c here).each d (passing_operand c k d kind at) } in
      join_nets n a (with_taints b.shadow bits) (flat_map output_bits (state_cells m))
      (join_nets n a bits taints (nets_fine n a bits old) (nets_fine n a taints (taints_fine bits each)))
      (states_fine c m here there is)

  -- the shadow of a number that a cell shows
  cell_shadow : (y : ℕ) (is : IsShownAt n y (driver_of_number n y)) → ((x : ℕ) → Has (passing_bits is.cell is.kind) (Net x) → IsFineBit n a (b.shadow x)) → IsFineBit n a (b.shadow y)
  cell_shadow y is each =
      let c = is.cell in
      let k = is.kind in
      let here = Has-at n.cells is.number c is.is.at_cell in
      let beside = beside_first (IsMaking n released b.shadow) n.cells b.makings c b.are_makings here in
      let m = beside.0 in
      let made : IsMakingAs (is_cleared n released) b.shadow c k m = beside.2.by_kind k is.is.is_kind in
      let known = append_fine n a (known_for_showing b.shadow c k m) (flat_map drives m.showing) (known_to_show c k m here beside.1 beside.2 is.is.is_kind each) (showing_fine c m here beside.1 beside.2) in
      let bit : Has (output_bits c) (Net y) = shown_at_output c k is.word is.index y is.is.is_kind is.place in
      (known_fine n a (known_for_showing b.shadow c k m ++ flat_map drives m.showing) (taint_bits b.shadow (output_bits c)) known made.shown).each (b.shadow y) (in_map (taint_bit b.shadow) (output_bits c) (Net y) bit)

  -- ---- all of them, in the order of the cells

  module _ (order : List ℕ) (levelled : IsLevelled (netlist_of n) order) where
    passed : Passed n
    passed = record { cells = h.cells; drivers = h.drivers; clocks = h.clocks }

    is_ranked : IsRanked (netlist_of n) (place_in order)
    is_ranked = (let w = wired_if_passed n passed in ranked (netlist_of n) (place_in order) w (ranks_from_order (netlist_of n) order w levelled))

    abbrev rank_in : ℕ → ℕ
    rank_in = rank n (place_in order) is_ranked

    abbrev IsReadable : ℕ → Type 0
    IsReadable y = Has (driven_numbers n) y × (is_clock n y ≡ false)

    step : (y : ℕ) → IsReadable y → ((x : ℕ) → IsReadable x → rank_in x < rank_in y → IsFineBit n a (b.shadow x)) → DrivenBy n y → IsFineBit n a (b.shadow y)
    step y is lower (by_port q i port at bit free e) =
        input_shadow y i port (Has-unfilter is_input n.ports port (Has-at (filter is_input n.ports) q port at)) (passes_at is_input n.ports q port at) bit free is.0
    step y is lower (by_clock e) = absurd (both_ways (is_clock n y) is.1 (only_clock n y (well_formed n h) (contained_has (net_numbers n) y (number_of_driven n y is.0)) e))
    step y is lower (by_cell s) = cell_shadow y s (λ x at. lower x (operand_readable n h s.cell x (Has-at n.cells s.number s.cell s.is.at_cell) (passing_operand s.cell s.kind (Net x) s.is.is_kind at)) (passes_below n (place_in order) is_ranked s.number s.cell s.kind x y s.word s.index s.is (number_of_driven n y is.0) s.same at))

    below : (d y : ℕ) → IsReadable y → rank_in y < d → IsFineBit n a (b.shadow y)
    below zero y is l = absurd (omega arith)
    below (suc d) y is l = step y is (λ x k m. below d x k (omega arith)) (driven_by n y passed)

    pub shadow_fine : (y : ℕ) → Has (driven_numbers n) y → is_clock n y ≡ false → IsFineBit n a (b.shadow y)
    shadow_fine y k free = below (suc (rank_in y)) y (k, free) (omega arith)
