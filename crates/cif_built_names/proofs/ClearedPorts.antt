-- Where an output shows a released bit, the port of its taint has the constant 0.
use Rattle.std.specs.Prelude.{ℕ, ◌≡◌, true, List, ◌++◌, get_or, Contains, refl, codes}
use Rattle.std.proofs.Common.{sym, ap, ◌∙◌, subst, inl, inr}
use Rattle.std.proofs.lemmas.List.{append_cancel_right}
use Rattle.std.proofs.lemmas.List.Sorted.{Contains-permutation, IsPermutation-sym}
use Rattle.cif_defs.specs.Order.{IsInOrder}
use Rattle.cif_defs.specs.RawModule.{net_numbers}
use Rattle.cif_defs.specs.Accepted.{no_bit, source}
use Rattle.cif_defs.specs.declared.raw_module.RawBit.{RawBit}
use Rattle.cif_defs.specs.declared.raw_module.RawBit.TheVariants.{Net, Zero, One, X, Z}
use Rattle.cif_defs.specs.declared.raw_module.RawPort.{RawPort}
use Rattle.cif_defs.specs.declared.raw_module.Raw.{Raw}
use Rattle.cif_nets.proofs.Places.{Has, At-has, At-map, Has-append, Has-unfilter}
use Rattle.cif_raw_runs.proofs.Numbers.{contained_has, has_contained, net_at, number_of_port}
use Rattle.cif_augment.specs.Names.{data_ports, is_data_port, taint_name}
use Rattle.cif_augment.specs.Refusals.{standing_names}
use Rattle.cif_augment.specs.Augmented.{ClearsReleased, is_among_bits}
use Rattle.cif_built.specs.Makings.{taint_bit, taint_bits}
use Rattle.cif_built.specs.Built.{IsBuilt, IsShadowPort}
use Rattle.cif_built_names.proofs.NameCounts.{same_named}
use Rattle.cif_built_names.proofs.WantedNames.{AreFree, port_stands, wanted_for_port}
use Rattle.cif_built_names.proofs.BuiltNames.{port_name}
use Rattle.cif_built_names.proofs.Zips.{zip_found}

data_port_stands : (n : Raw) (p : RawPort) → Has (data_ports n) p → Has n.ports p
unfolding data_ports
data_port_stands n p h = Has-unfilter (is_data_port n) n.ports p h

-- the port of the name of a port's taint is the one that shows it
taint_port_is : (n a : Raw) (released : List ℕ) → IsInOrder n → AreFree n → (h : IsBuilt n released a) → (p q : RawPort) → Has (data_ports n) p → Contains a.ports q → q.name ≡ taint_name p.name → IsShadowPort n released h.shadow p q
taint_port_is n a released order free h p q has_p has_q e =
    let among : Contains (n.ports ++ h.ports) q = Contains-permutation a.ports (n.ports ++ h.ports) q (IsPermutation-sym (n.ports ++ h.ports) a.ports h.has_ports) has_q in
    elim (Has-append n.ports h.ports q (has_contained (n.ports ++ h.ports) q among)) [
      | inl old ↦ absurd (free.apart (taint_name p.name) (wanted_for_port n p has_p) (subst (Has (standing_names n)) e (port_stands n q old)))
      | inr new ↦
          let found = zip_found (IsShadowPort n released h.shadow) (data_ports n) h.ports q h.are_ports new in
          let names : p.name ≡ found.0.name = append_cancel_right p.name found.0.name (codes "__t") (sym e ∙ found.2.port.name) in
          let same : found.0 ≡ p = same_named port_name n.ports found.0 p order.ports (data_port_stands n found.0 found.1) (data_port_stands n p has_p) (sym names) in
          subst (λ r. IsShadowPort n released h.shadow r q) same found.2
    ]

cleared_bit : (n a : Raw) (released : List ℕ) (h : IsBuilt n released a) (p : RawPort) (i : ℕ) (b : RawBit) → Has n.ports p → get_or p.bits i no_bit ≡ b → is_among_bits released (source (net_numbers n) b) ≡ true
    → get_or (taint_bits h.shadow p.bits) i no_bit ≡ Zero
cleared_bit n a released h p i (Net x) has e among =
    let at = net_at p.bits i x e in
    let port = At-has n.ports p has in
    let here : Contains (net_numbers n) x = contained_has (net_numbers n) x (number_of_port n port.0 i p x port.1 at) in
    At-map (taint_bit h.shadow) p.bits i (Net x) no_bit at ∙ h.cleared x here among
cleared_bit n a released h p i Zero has e among = absurd (cc)
cleared_bit n a released h p i One has e among = absurd (cc)
cleared_bit n a released h p i X has e among = absurd (cc)
cleared_bit n a released h p i Z has e among = absurd (cc)

pub clears_released : (n a : Raw) (released : List ℕ) → IsInOrder n → AreFree n → IsBuilt n released a → ClearsReleased n released a
clears_released n a released order free h = record {
  constant = λ p q i has_p has_q e out among.
      let has : Has (data_ports n) p = has_contained (data_ports n) p has_p in
      let shown : q.bits ≡ taint_bits h.shadow p.bits = (taint_port_is n a released order free h p q has has_q e).output out in
      ap (λ bits. get_or bits i no_bit) shown ∙ cleared_bit n a released h p i (get_or p.bits i no_bit) (data_port_stands n p has) refl among;
}
