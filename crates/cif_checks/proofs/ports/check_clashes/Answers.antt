use Rattle.std.proofs.Common.{◌≡◌, ℕ, ◌+◌, true, false, List, ◌∷◌, ◌++◌, drop, sym, ap, ◌∙◌}
use Rattle.cif_defs.specs.RawModule.{nets_in}
use Rattle.std.proofs.lemmas.Bool.{not-true, not-false}
use Rattle.std.specs.BTreeSet.{BTreeSet}
use Rattle.cif_checks.specs.Checks.{has_number, input_clash}
use Rattle.cif_checks.specs.InputNumbers.{HoldSame}
use Rattle.cif_checks.proofs.InputLaws.{contains_number, inserted, clash_found, clash_step, numbers_step, no_net}
use Rattle.cif_checks.proofs.ports.check_clashes.Goals as goal
use Rattle.cif_checks.proofs.ports.check_clashes.Goals.{in-Net+in-Ok-true, in_default}

pub returns-in-Ok-false-clause-err : goal.returns-in-Ok-false-clause-err
returns-in-Ok-false-clause-err c =
    let found : has_number c.in-Net.number c.loop-bit.seen.keys ≡ true = sym (contains_number c.loop-bit.seen.keys c.in-Net.number) ∙ not-false _ (sym c.in-Ok-false.ensures.added ∙ c.in-Ok-false.field-0-test) in
    sym c.loop-bit.invariant.clash ∙ clash_found _ _ _ _ _ c.loop-bit-test.true c.in-Net.is found

pub loop-bit-preserved : goal.loop-bit-preserved
loop-bit-preserved c =
    elim c.match-bit.branch [
      | in-Net+in-Ok-true w ↦
          let same : HoldSame c.match-bit.seen.keys (w.in-Net.number ∷ c.loop-bit.seen.keys) = λ q. ap (λ (s : BTreeSet ℕ). has_number q s.keys) w.seen-is ∙ inserted _ _ _ w.in-Ok-true.ensures.updates.0 q in
          let absent : has_number w.in-Net.number c.loop-bit.seen.keys ≡ false = sym (contains_number c.loop-bit.seen.keys w.in-Net.number) ∙ not-true _ (sym w.in-Ok-true.ensures.added ∙ w.in-Ok-true.field-0-test) in
          record {
            clash = sym (clash_step _ _ _ _ _ _ c.loop-bit-test.true w.in-Net.is absent same) ∙ c.loop-bit.invariant.clash;
            held = λ q. numbers_step _ _ _ _ _ _ c.loop-bit-test.true w.in-Net.is same q ∙ c.loop-bit.invariant.held q;
          }
      | in_default w ↦
          let rest : nets_in (drop (c.loop-bit.bit-index + 1) c.args.bits.now) ≡ nets_in (drop c.loop-bit.bit-index c.args.bits.now) = no_net _ _ _ c.loop-bit-test.true w.in_default.not-Net in
          record {
            clash = ap (λ (s : BTreeSet ℕ). input_clash s.keys (nets_in (drop (c.loop-bit.bit-index + 1) c.args.bits.now))) w.seen-is ∙ ap (input_clash c.loop-bit.seen.keys) rest ∙ c.loop-bit.invariant.clash;
            held = λ q. ap (λ (s : BTreeSet ℕ). has_number q (nets_in (drop (c.loop-bit.bit-index + 1) c.args.bits.now) ++ s.keys)) w.seen-is ∙ ap (λ (ns : List ℕ). has_number q (ns ++ c.loop-bit.seen.keys)) rest ∙ c.loop-bit.invariant.held q;
          }
    ]
