-- All that the module reads may be read: operands of its cells, and what its output ports show.
use Rattle.std.specs.Prelude.{ℕ, ◌≡◌, ◌⊎◌, Bool, true, false, not, List, [], ◌∷◌, ◌++◌, filter, Option, Some, None, is_some, eqb, refl}
use Rattle.std.specs.List.{flat_map}
use Rattle.std.proofs.Common.{sym, ap, ◌∙◌, cond, inl, inr, subst}
use Rattle.std.proofs.lemmas.Bool.{cond-true, eq-eqb, not_from_true}
use Rattle.cif_defs.specs.Table.{kind_of, operands_of}
use Rattle.cif_defs.specs.RawModule.{nets_in, operand_bits, output_bits, port_bits}
use Rattle.cif_defs.specs.Loop.{IsLevelled}
use Rattle.cif_defs.specs.Accepted.{driven, driver_in, is_output, netlist_of}
use Rattle.cif_defs.specs.declared.kinds.Kind.{Kind}
use Rattle.cif_defs.specs.declared.nets.Driver.{Driver}
use Rattle.cif_defs.specs.declared.raw_module.RawBit.{RawBit}
use Rattle.cif_defs.specs.declared.raw_module.RawBit.TheVariants.{Net, Zero, One, X, Z}
use Rattle.cif_defs.specs.declared.raw_module.RawPort.{RawPort}
use Rattle.cif_defs.specs.declared.raw_module.RawCell.{RawCell}
use Rattle.cif_defs.specs.declared.raw_module.Raw.{Raw}
use Rattle.cif_checks.specs.declared.fault.Spot.{Spot}
use Rattle.cif_checks.specs.declared.fault.Spot.TheVariants.{Port}
use Rattle.cif_checks.specs.declared.fault.BuildFault.TheVariants.{Undriven}
use Rattle.cif_checks.specs.Checks.{cell_fault, cell_fault_by, cell_spot, first_fault, operand_fault, operands_fault_by, read_fault, shown_fault}
use Rattle.cif_nets.proofs.Places.{At-has, Has, Has-append, Has-left, Has-right, Has-unfilter, passes_at}
use Rattle.cif_nets.proofs.Passed.{each_passes}
use Rattle.cif_raw_runs.proofs.Numbers.{contained_has}
use Rattle.cif_augment.specs.Names.{is_data_port}
use Rattle.cif_emit.specs.Emitted.{ReadInOrder, drives}
use Rattle.cif_built.specs.Makings.{Making, known_for_showing, known_for_storing, state_cells, taint_bits, with_taints}
use Rattle.cif_built.specs.Built.{IsBuilt, IsMaking, IsMakingAs, is_cleared}
use Rattle.cif_built_form.proofs.Lists.{in_flat_map}
use Rattle.cif_built_form.proofs.Numbers.{numbers}
use Rattle.cif_built_form.proofs.Passing.{all_pass, all_pass_from, passes_test}
use Rattle.cif_built_form.proofs.Ports.{same_way}
use Rattle.cif_built_form.proofs.New.{IsNew, IsNewPort, data_has, old_or_new, old_or_new_port}
use Rattle.cif_built_form.proofs.Checked.{IsChecked}
use Rattle.cif_built_form.proofs.Fine.{AreFine, AreFineBits, IsFineBit, append_fine, known_fine, nets_fine, operand_readable, operands_fine, outputs_fine, shown_fine, shown_readable}
use Rattle.cif_built_form.proofs.Passes.{passing_operand}
use Rattle.cif_built_form.proofs.Shadows.{join_nets, known_to_show, making_fine, shadow_fine, showing_fine, states_fine, storing_fine, taints_fine}

-- ---- cells in order

-- each cell of an order reads what was known, or is driven before it
read_in_order : (n a : Raw) (known : List ℕ) (cells : List RawCell) (d : RawCell) → AreFine n a known → ((e : RawCell) → Has cells e → AreFine n a (drives e)) → ReadInOrder known cells → Has cells d → AreFineBits n a (operand_bits d)
read_in_order n a known [] d h each r k = absurd k
read_in_order n a known (c ∷ cells) d h each r (inl e) = rw e at (known_fine n a known (operand_bits c) h r.0)
read_in_order n a known (c ∷ cells) d h each r (inr k) = read_in_order n a (known ++ drives c) cells d (append_fine n a known (drives c) h (each c (inl refl))) (λ e l. each e (inr l)) r.1 k

known_kind : (c : RawCell) (o : Option Kind) → cell_fault_by c o ≡ None → (k : Kind) × (o ≡ Some k)
known_kind c None h = absurd (cc)
known_kind c (Some k) h = (k, refl)

kind_given : (c : RawCell) → cell_fault c ≡ None → (k : Kind) × (kind_of c.kind ≡ Some k)
unfolding cell_fault
kind_given c h = known_kind c (kind_of c.kind) h

-- ---- what new cells and ports read

module _ (n : Raw) (released : List ℕ) (a : Raw) (b : IsBuilt n released a) (h : IsChecked n) (order : List ℕ) (levelled : IsLevelled (netlist_of n) order) where
  operand_shadow : (c : RawCell) (x : ℕ) → Has n.cells c → Has (operand_bits c) (Net x) → IsFineBit n a (b.shadow x)
  operand_shadow c x k at = (let is = operand_readable n h c x k at in shadow_fine n released a b h order levelled x is.0 is.1)

  known_to_store : (c : RawCell) (m : Making) → Has n.cells c → Has b.makings m → IsMaking n released b.shadow c m → AreFine n a (known_for_storing b.shadow c m)
  known_to_store c m k l is =
      let bits = operand_bits c in
      let taints = taint_bits b.shadow bits in
      append_fine n a (nets_in (with_taints b.shadow bits ++ output_bits c ++ flat_map output_bits (state_cells m))) (flat_map drives m.showing)
      (join_nets n a (with_taints b.shadow bits ++ output_bits c) (flat_map output_bits (state_cells m))
      (join_nets n a (with_taints b.shadow bits) (output_bits c)
      (join_nets n a bits taints (nets_fine n a bits (operands_fine n released a b h c k)) (nets_fine n a taints (taints_fine n released a b h bits (λ x at. operand_shadow c x k at))))
      (outputs_fine n released a b h c k))
      (states_fine n released a b h c m k l is))
      (showing_fine n released a b h c m k l is)

  new_operands : (d : RawCell) → IsNew n released a b d → AreFineBits n a (operand_bits d)
  new_operands d is =
      let c = is.cell in
      let m = is.making in
      let kind = kind_given c (each_passes cell_fault n.cells c h.cells is.has_cell) in
      let made : IsMakingAs (is_cleared n released) b.shadow c kind.0 m = is.is_making.by_kind kind.0 kind.1 in
      let drive : (e : RawCell) → Has (state_cells m) e ⊎ Has (m.showing ++ m.storing) e → AreFine n a (drives e) = λ e p. making_fine n released a b h c m e is.has_cell is.has_making is.is_making p in
      let to_store = known_to_store c m is.has_cell is.has_making is.is_making in
      let to_show = known_to_show n released a b h c kind.0 m is.has_cell is.has_making is.is_making kind.1 (λ x at. operand_shadow c x is.has_cell (passing_operand c kind.0 (Net x) kind.1 at)) in
      elim is.place [
        | inl state ↦ known_fine n a (known_for_storing b.shadow c m ++ flat_map drives m.storing) (operand_bits d) (append_fine n a (known_for_storing b.shadow c m) (flat_map drives m.storing) to_store (storing_fine n released a b h c m is.has_cell is.has_making is.is_making)) (made.stored d (contained_has (state_cells m) d state))
        | inr further ↦ elim (Has-append m.showing m.storing d further) [
          | inl one ↦ read_in_order n a (known_for_showing b.shadow c kind.0 m) m.showing d to_show (λ e p. drive e (inr (Has-left m.showing m.storing e p))) made.reads_for_showing one
          | inr two ↦ read_in_order n a (known_for_storing b.shadow c m) m.storing d to_store (λ e p. drive e (inr (Has-right m.showing m.storing e p))) made.reads_for_storing two
        ]
      ]

  pub cell_reads : (d : RawCell) → Has a.cells d → AreFineBits n a (operand_bits d)
  cell_reads d k = elim (old_or_new n released a b d k) [ inl old ↦ operands_fine n released a b h d old | inr is ↦ new_operands d is ]

  new_shown : (q : RawPort) → IsNewPort n released a b q → is_output q ≡ true → AreFineBits n a q.bits
  new_shown q is e =
      let p = is.port in
      let output : is_output p ≡ true = sym (same_way p q is.is_shadow.port).output ∙ e in
      let old : Has n.ports p = Has-unfilter (is_data_port n) n.ports p (data_has n p is.has_port) in
      subst (AreFineBits n a) (sym (is.is_shadow.output output)) (taints_fine n released a b h p.bits (λ x at. (let r = shown_readable n h p x old output at in shadow_fine n released a b h order levelled x r.0 r.1)))

  pub port_reads : (q : RawPort) → Has a.ports q → is_output q ≡ true → AreFineBits n a q.bits
  port_reads q k e = elim (old_or_new_port n released a b q k) [ inl old ↦ shown_fine n released a b h q old e | inr is ↦ new_shown q is e ]

-- ---- the checks

driver_by : (bit : Bool) (d : Driver) (rest : Option Driver) → (bit ≡ false → is_some rest ≡ true) → is_some (cond bit (Some d) rest) ≡ true
driver_by true d rest h = refl
driver_by false d rest h = h refl

driver_found : (ds : List (ℕ × Driver)) (x : ℕ) → Has (numbers ds) x → is_some (driver_in ds x) ≡ true
driver_found [] x h = absurd h
driver_found (d ∷ ds) x (inl e) = ap is_some (cond-true (eqb d.0 x) (Some d.1) (driver_in ds x) (eq-eqb d.0 x e))
driver_found (d ∷ ds) x (inr h) = driver_by (eqb d.0 x) d.1 (driver_in ds x) (λ _. driver_found ds x h)

fine_read : (n a : Raw) (spot : Spot) (i : ℕ) (bit : RawBit) → IsFineBit n a bit → read_fault a spot i bit ≡ None
fine_read n a spot i (Net x) h = passes_test (not (is_some (driver_in (driven a) x))) (Undriven x) (not_from_true (is_some (driver_in (driven a) x)) (driver_found (driven a) x h.driven))
fine_read n a spot i Zero h = refl
fine_read n a spot i One h = refl
fine_read n a spot i X h = absurd h
fine_read n a spot i Z h = absurd h

operands_by : (n a : Raw) (c : RawCell) (o : Option Kind) → kind_of c.kind ≡ o → AreFineBits n a (operand_bits c) → operands_fault_by a c o ≡ None
operands_by n a c None e h = refl
operands_by n a c (Some k) e h = all_pass (operand_fault a c) (operands_of k) (λ r at. all_pass_from (read_fault a (cell_spot c r)) 0 (port_bits c r) (λ j bit p. fine_read n a (cell_spot c r) j bit (h.each bit (rw e (in_flat_map (port_bits c) (operands_of k) r bit at p)))))

module _ (n : Raw) (released : List ℕ) (a : Raw) (b : IsBuilt n released a) (h : IsChecked n) (order : List ℕ) (levelled : IsLevelled (netlist_of n) order) where
  pub operands_pass : first_fault (λ (c : RawCell). operands_fault_by a c (kind_of c.kind)) a.cells ≡ None
  operands_pass = all_pass (λ (c : RawCell). operands_fault_by a c (kind_of c.kind)) a.cells (λ c k. operands_by n a c (kind_of c.kind) refl (cell_reads n released a b h order levelled c k))

  pub shown_pass : first_fault (shown_fault a) (filter is_output a.ports) ≡ None
  shown_pass = all_pass (shown_fault a) (filter is_output a.ports) (λ p k. (let at = At-has (filter is_output a.ports) p k in
      let fine = port_reads n released a b h order levelled p (Has-unfilter is_output a.ports p k) (passes_at is_output a.ports at.0 p at.1) in
      all_pass_from (read_fault a (Port p.name)) 0 p.bits (λ j bit l. fine_read n a (Port p.name) j bit (fine.each bit l))))
