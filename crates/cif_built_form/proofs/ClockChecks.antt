-- The uses of the clock pass their checks, and nothing reads it.
use Rattle.std.specs.Prelude.{ℕ, ◌≡◌, ◌==◌, Bool, true, false, not, ◌&&◌, List, [], ◌∷◌, ◌++◌, map, filter, None, refl}
use Rattle.std.proofs.Common.{sym, ap, ◌∙◌, inl}
use Rattle.std.proofs.lemmas.Bool.{and_from, both_ways, eq-eqb, eqb-true, false_from_ne_true, not_from_true}
use Rattle.cif_defs.specs.RawModule.{nets_in, operand_bits}
use Rattle.cif_defs.specs.Loop.{IsLevelled}
use Rattle.cif_defs.specs.Accepted.{is_clock, is_input, is_output, netlist_of}
use Rattle.cif_defs.specs.declared.raw_module.RawBit.{RawBit}
use Rattle.cif_defs.specs.declared.raw_module.RawBit.TheVariants.{Net, Zero, One, X, Z}
use Rattle.cif_defs.specs.declared.raw_module.RawPort.{RawPort}
use Rattle.cif_defs.specs.declared.raw_module.RawCell.{RawCell}
use Rattle.cif_defs.specs.declared.raw_module.Raw.{Raw}
use Rattle.cif_checks.specs.declared.fault.BuildFault.TheVariants.{ClockAsData, NoClockInput, TwoClocks}
use Rattle.cif_checks.specs.Checks.{ClockUse, clock_fault, clock_uses, clocks_fault, data_fault, fault_if, first_fault, is_clock_input, is_only_bit, is_same_bit, reads_number, uses_fault}
use Rattle.cif_nets.proofs.Places.{At-has, Has, Has-any, Has-left, Has-unfilter, passes_at}
use Rattle.cif_nets.proofs.Passed.{all_uses, clock_is_first, is_first}
use Rattle.cif_built.specs.Built.{IsBuilt}
use Rattle.cif_built_form.proofs.Lists.{any_has, has_net, has_of_number, has_permuted}
use Rattle.cif_built_form.proofs.Passing.{all_pass, both_pass, passes_test}
use Rattle.cif_built_form.proofs.Checked.{AreUses, IsChecked, are_uses}
use Rattle.cif_built_form.proofs.Fine.{AreFineBits}
use Rattle.cif_built_form.proofs.ReadBits.{cell_reads, port_reads}
use Rattle.cif_built_form.proofs.Clocks.{HasSameUse, each_use}

-- ---- the same bit

pub record IsOneNet (b c : RawBit) : Type 0 where
  pub number : ℕ
  pub first : b ≡ Net number
  pub second : c ≡ Net number

one_net : (b c : RawBit) → is_same_bit b c ≡ true → IsOneNet b c
one_net (Net x) (Net y) h = record { number = x; first = refl; second = ap Net (sym (eqb-true x y h)) }
one_net (Net x) Zero h = absurd (cc)
one_net (Net x) One h = absurd (cc)
one_net (Net x) X h = absurd (cc)
one_net (Net x) Z h = absurd (cc)
one_net Zero c h = absurd (cc)
one_net One c h = absurd (cc)
one_net X c h = absurd (cc)
one_net Z c h = absurd (cc)

same_net : (x : ℕ) (b c : RawBit) → b ≡ Net x → c ≡ Net x → is_same_bit b c ≡ true
same_net x b c h k = ap (λ (d : RawBit). is_same_bit d c) h ∙ ap (is_same_bit (Net x)) k ∙ eq-eqb x x refl

-- ---- in the first module

-- what all uses of the clock have in common
pub record IsCommon (n : Raw) (x polarity : ℕ) : Type 0 where
  pub clock : is_clock n x ≡ true
  pub bits : (u : ClockUse) → Has (clock_uses n) u → u.bit ≡ Net x
  pub polarities : (u : ClockUse) → Has (clock_uses n) u → polarity ≡ u.polarity
  pub input : is_clock_input n.ports (Net x) ≡ true

common_by : (n : Raw) (f : ClockUse) (rest : List ClockUse) → clock_uses n ≡ f ∷ rest → AreUses n f (f ∷ rest) → (x : ℕ) × IsCommon n x f.polarity
common_by n f rest e all =
    let own = one_net f.bit f.bit (all.bits f (inl refl)) in (
      own.number,
      record {
        clock = clock_is_first n own.number ∙ ap (is_first own.number) (sym (all_uses n.cells)) ∙ ap (λ uses. is_first own.number (map (λ (u : ClockUse). u.bit) uses)) e ∙ ap (λ b. is_first own.number (b ∷ map (λ (u : ClockUse). u.bit) rest)) own.first ∙ eq-eqb own.number own.number refl;
        bits = λ u h. (let both = one_net f.bit u.bit (all.bits u (rw e at h)) in let same : own.number ≡ both.number = net_number own.number both.number (sym own.first ∙ both.first) in both.second ∙ ap Net (sym same));
        polarities = λ u h. eqb-true f.polarity u.polarity (all.polarities u (rw e at h));
        input = ap (is_clock_input n.ports) (sym own.first) ∙ all.inputs f (inl refl);
      },
    ) where
      net_number : (x y : ℕ) → Net x ≡ Net y → x ≡ y
      net_number x y e = cc

common : (n : Raw) (uses : List ClockUse) (u : ClockUse) → clock_uses n ≡ uses → Has uses u → IsChecked n → (x : ℕ) × (polarity : ℕ) × IsCommon n x polarity
unfolding clocks_fault
common n [] u e k h = absurd k
common n (f ∷ rest) u e k h = (let all = common_by n f rest e (are_uses n f rest (rw e at h.clocks)) in (all.0, f.polarity, all.1))

-- ---- nothing reads the clock

module _ (n : Raw) (released : List ℕ) (a : Raw) (b : IsBuilt n released a) (h : IsChecked n) (order : List ℕ) (levelled : IsLevelled (netlist_of n) order) where
  apart : (x : ℕ) (bits : List RawBit) → is_clock n x ≡ true → AreFineBits n a bits → reads_number x bits ≡ false
  apart x bits e fine = false_from_ne_true (reads_number x bits) (λ t. both_ways (is_clock n x) (fine.each (Net x) (has_net bits x (has_of_number x (nets_in bits) t))).apart e)

  not_data : (x : ℕ) → is_clock n x ≡ true → data_fault a (Net x) ≡ None
  not_data x e =
      let cells = first_fault (λ (d : RawCell). fault_if (reads_number x (operand_bits d)) (ClockAsData d.name)) a.cells in
      let ports = first_fault (λ (q : RawPort). fault_if (reads_number x q.bits) (ClockAsData q.name)) (filter is_output a.ports) in
      both_pass cells ports
      (all_pass (λ (d : RawCell). fault_if (reads_number x (operand_bits d)) (ClockAsData d.name)) a.cells (λ d k. passes_test (reads_number x (operand_bits d)) (ClockAsData d.name) (apart x (operand_bits d) e (cell_reads n released a b h order levelled d k))))
      (all_pass (λ (q : RawPort). fault_if (reads_number x q.bits) (ClockAsData q.name)) (filter is_output a.ports) (λ q k. (let at = At-has (filter is_output a.ports) q k in
      passes_test (reads_number x q.bits) (ClockAsData q.name) (apart x q.bits e (port_reads n released a b h order levelled q (Has-unfilter is_output a.ports q k) (passes_at is_output a.ports at.0 q at.1))))))

  -- the port of the clock is there
  still_input : (x : ℕ) → is_clock_input n.ports (Net x) ≡ true → is_clock_input a.ports (Net x) ≡ true
  still_input x e =
      let test : RawPort → Bool = λ p. is_input p && is_only_bit x p.bits in
      let found = Has-any test n.ports e in
      any_has test a.ports found.0 (has_permuted (n.ports ++ b.ports) a.ports found.0 b.has_ports (Has-left n.ports b.ports found.0 found.1)) found.2

  uses_pass : (x polarity : ℕ) (uses : List ClockUse) → IsCommon n x polarity → ((u : ClockUse) → Has uses u → HasSameUse n u) → uses_fault a uses ≡ None
  uses_pass x polarity [] common each = refl
  uses_pass x polarity (g ∷ rest) common each =
      let bit : (u : ClockUse) → Has (g ∷ rest) u → u.bit ≡ Net x = λ u k. (let s = each u k in sym s.same_bit ∙ common.bits s.other s.has_other) in
      let edge : (u : ClockUse) → Has (g ∷ rest) u → polarity ≡ u.polarity = λ u k. (let s = each u k in common.polarities s.other s.has_other ∙ s.same_polarity) in
      let first = bit g (inl refl) in
      both_pass (first_fault (clock_fault a.ports g) (g ∷ rest)) (data_fault a g.bit)
      (all_pass (clock_fault a.ports g) (g ∷ rest) (λ u k.
      both_pass (fault_if (not (is_clock_input a.ports u.bit)) (NoClockInput u.user.name)) (fault_if (not (is_same_bit g.bit u.bit && g.polarity == u.polarity)) (TwoClocks u.user.name))
      (passes_test (not (is_clock_input a.ports u.bit)) (NoClockInput u.user.name) (not_from_true (is_clock_input a.ports u.bit) (ap (is_clock_input a.ports) (bit u k) ∙ still_input x common.input)))
      (passes_test (not (is_same_bit g.bit u.bit && g.polarity == u.polarity)) (TwoClocks u.user.name) (not_from_true (is_same_bit g.bit u.bit && g.polarity == u.polarity)
      (and_from (is_same_bit g.bit u.bit) (g.polarity == u.polarity) (same_net x g.bit u.bit first (bit u k)) (eq-eqb g.polarity u.polarity (sym (edge g (inl refl)) ∙ edge u k)))))))
      (ap (data_fault a) first ∙ not_data x common.clock)

  uses_by : (uses : List ClockUse) → clock_uses a ≡ uses → uses_fault a uses ≡ None
  uses_by [] e = refl
  uses_by (g ∷ rest) e =
      let each : (u : ClockUse) → Has (g ∷ rest) u → HasSameUse n u = λ u k. each_use n released a b u (rw e k) in
      let s = each g (inl refl) in
      let all = common n (clock_uses n) s.other refl s.has_other h in
      uses_pass all.0 all.1 (g ∷ rest) all.2 each

  pub clocks_pass : clocks_fault a ≡ None
  unfolding clocks_fault
  clocks_pass = uses_by (clock_uses a) refl
