use Rattle.std.proofs.Common.{◌≡◌, ◌∙◌, ◌++◌, ◌∷◌, ℕ, List, ap, sym, refl, arith, rules, length}
use Rattle.std.proofs.lemmas.Result.{IfOk-weaker}
use Rattle.cif_defs.specs.declared.raw_module.RawBit.{RawBit}
use Rattle.cif_term.specs.declared.term.Term.TheViews.{the_lemmas}
use Rattle.cif_term.specs.TermView.{formula_of}
use Rattle.cif_term.proofs.Parts.{whole_pick, whole_join, whole_one, whole_two, whole_choose, whole_let}
use Rattle.cif_emit.specs.Constants.{picked_bits}
use Rattle.cif_emit.specs.Scopes.{named_in}
use Rattle.cif_emit.proofs.Views.{named_in-Inside, whole_value, whole_taint, whole_bound, whole_const}
use Rattle.cif_emit.proofs.TermLaws.{pick_part, join_parts, one_part, two_part, choose_part, let_named, let_body, wide_as, value_emitted, taint_emitted, bound_emitted, const_emitted, pick_emitted, join_emitted, one_emitted_in, two_emitted_in, choose_emitted_in, let_emitted_in}
use Rattle.cif_term.proofs.Lengths.{width_range}
use Rattle.cif_emit.specs.Emitted.{value_bits, widths}
use Rattle.cif_emit.proofs.terms.+emit_in.Goals as goal

pub emit_in-requires : goal.emit_in-requires
emit_in-requires t c =
    let whole = whole_pick _ _ _ _ c.in-Pick.is c.deref.ensures in
    (search (rules, the_lemmas), (pick_part _ _ _ c.args.ports.now (named_in c.args.scope.now) whole c.requires.formed, c.requires.shape))

pub emit_in-requires-in-Join : goal.emit_in-requires-in-Join
emit_in-requires-in-Join t c =
    let whole = whole_join _ _ _ _ c.in-Join.high c.in-Join.is c.deref-in-Join.ensures refl in
    (search (rules, the_lemmas), ((join_parts _ _ _ c.args.ports.now (named_in c.args.scope.now) whole c.requires.formed).0, c.requires.shape))

pub emit_in-requires-in-Join-2 : goal.emit_in-requires-in-Join-2
emit_in-requires-in-Join-2 t c =
    let whole = whole_join _ _ _ c.in-Join.low _ c.in-Join.is refl c.deref-in-Join-2.ensures in
    (search (rules, the_lemmas), ((join_parts _ _ _ c.args.ports.now (named_in c.args.scope.now) whole c.requires.formed).1, c.requires.shape))

pub emit_in-requires-in-One : goal.emit_in-requires-in-One
emit_in-requires-in-One t c =
    let whole = whole_one _ _ _ _ c.in-One.is c.deref-in-One.ensures in
    (search (rules, the_lemmas), (one_part _ _ _ c.args.ports.now (named_in c.args.scope.now) whole c.requires.formed, c.requires.shape))

pub emit_one-requires-clause-some : goal.emit_one-requires-clause-some
emit_one-requires-clause-some t c =
    let whole = whole_one _ _ _ _ c.in-One.is c.deref-in-One.ensures in
    let formed = one_part _ _ _ c.args.ports.now (named_in c.args.scope.now) whole c.requires.formed in
    let wide : length c.in_ok-bits-in-One.bits.items ≡ formed.0 = wide_as (formula_of c.deref-in-One.result.now) c.args.ports.now (named_in c.args.scope.now) formed.0 c.in_ok-bits-in-One.ensures.ok formed.1 in
    let same : length c.deref-in-One-2.result.now ≡ formed.0 = ap length c.deref-in-One-2.ensures.value ∙ wide in
    let range = width_range (formula_of c.deref-in-One.result.now) (widths (value_bits c.args.ports.now)) (widths (named_in c.args.scope.now)) formed.0 formed.1 in
    omega (arith, range.0)

pub emit_one-requires-clause-limit : goal.emit_one-requires-clause-limit
emit_one-requires-clause-limit t c =
    let whole = whole_one _ _ _ _ c.in-One.is c.deref-in-One.ensures in
    let formed = one_part _ _ _ c.args.ports.now (named_in c.args.scope.now) whole c.requires.formed in
    let wide : length c.in_ok-bits-in-One.bits.items ≡ formed.0 = wide_as (formula_of c.deref-in-One.result.now) c.args.ports.now (named_in c.args.scope.now) formed.0 c.in_ok-bits-in-One.ensures.ok formed.1 in
    let same : length c.deref-in-One-2.result.now ≡ formed.0 = ap length c.deref-in-One-2.ensures.value ∙ wide in
    let range = width_range (formula_of c.deref-in-One.result.now) (widths (value_bits c.args.ports.now)) (widths (named_in c.args.scope.now)) formed.0 formed.1 in
    omega (arith, range.1)

pub emit_in-requires-in-Two : goal.emit_in-requires-in-Two
emit_in-requires-in-Two t c =
    let whole = whole_two _ _ _ _ _ c.in-Two.second c.in-Two.is c.deref-in-Two.ensures refl in
    let r = two_part _ _ _ _ c.args.ports.now (named_in c.args.scope.now) whole c.requires.formed in
    (search (rules, the_lemmas), ((r.0, r.1.first), c.requires.shape))

pub emit_in-requires-in-Two-2 : goal.emit_in-requires-in-Two-2
emit_in-requires-in-Two-2 t c =
    let whole = whole_two _ _ _ _ c.in-Two.first _ c.in-Two.is refl c.deref-in-Two-2.ensures in
    let r = two_part _ _ _ _ c.args.ports.now (named_in c.args.scope.now) whole c.requires.formed in
    (search (rules, the_lemmas), ((r.0, r.1.second), c.requires.shape))

pub emit_two-requires : goal.emit_two-requires
emit_two-requires t c =
    let whole = whole_two _ _ _ _ _ _ c.in-Two.is c.deref-in-Two.ensures c.deref-in-Two-2.ensures in
    let r = two_part _ _ _ _ c.args.ports.now (named_in c.args.scope.now) whole c.requires.formed in
    let first : length c.deref-in-Two-3.result.now ≡ r.0 = ap length c.deref-in-Two-3.ensures.value ∙ wide_as (formula_of c.deref-in-Two.result.now) c.args.ports.now (named_in c.args.scope.now) r.0 c.in_ok-first-in-Two.ensures.ok r.1.first in
    let second : length c.deref-in-Two-4.result.now ≡ r.0 = ap length c.deref-in-Two-4.ensures.value ∙ wide_as (formula_of c.deref-in-Two-2.result.now) c.args.ports.now (named_in c.args.scope.now) r.0 c.in_ok-second-in-Two.ensures.ok r.1.second in
    record { same = second ∙ sym first; some = omega (arith, r.1.some); limit = omega (arith, r.1.limit); numbers = λ h. (let few = r.1.numbers h in omega arith) }

pub emit_in-requires-in-Choose : goal.emit_in-requires-in-Choose
emit_in-requires-in-Choose t c =
    let whole = whole_choose _ _ _ _ _ c.in-Choose.zero c.in-Choose.one c.in-Choose.is c.deref-in-Choose.ensures refl refl in
    let r = choose_part _ _ _ _ c.args.ports.now (named_in c.args.scope.now) whole c.requires.formed in
    (search (rules, the_lemmas), ((1, r.1.select), c.requires.shape))

pub emit_in-requires-in-Choose-2 : goal.emit_in-requires-in-Choose-2
emit_in-requires-in-Choose-2 t c =
    let whole = whole_choose _ _ _ _ c.in-Choose.select _ c.in-Choose.one c.in-Choose.is refl c.deref-in-Choose-2.ensures refl in
    let r = choose_part _ _ _ _ c.args.ports.now (named_in c.args.scope.now) whole c.requires.formed in
    (search (rules, the_lemmas), ((r.0, r.1.first), c.requires.shape))

pub emit_in-requires-in-Choose-3 : goal.emit_in-requires-in-Choose-3
emit_in-requires-in-Choose-3 t c =
    let whole = whole_choose _ _ _ _ c.in-Choose.select c.in-Choose.zero _ c.in-Choose.is refl refl c.deref-in-Choose-3.ensures in
    let r = choose_part _ _ _ _ c.args.ports.now (named_in c.args.scope.now) whole c.requires.formed in
    (search (rules, the_lemmas), ((r.0, r.1.second), c.requires.shape))

pub emit_choice-requires : goal.emit_choice-requires
emit_choice-requires t c =
    let whole = whole_choose _ _ _ _ _ _ _ c.in-Choose.is c.deref-in-Choose.ensures c.deref-in-Choose-2.ensures c.deref-in-Choose-3.ensures in
    let r = choose_part _ _ _ _ c.args.ports.now (named_in c.args.scope.now) whole c.requires.formed in
    let select : length c.deref-in-Choose-4.result.now ≡ 1 = ap length c.deref-in-Choose-4.ensures.value ∙ wide_as (formula_of c.deref-in-Choose.result.now) c.args.ports.now (named_in c.args.scope.now) 1 c.in_ok-select-in-Choose.ensures.ok r.1.select in
    let first : length c.deref-in-Choose-5.result.now ≡ r.0 = ap length c.deref-in-Choose-5.ensures.value ∙ wide_as (formula_of c.deref-in-Choose-2.result.now) c.args.ports.now (named_in c.args.scope.now) r.0 c.in_ok-zero-in-Choose.ensures.ok r.1.first in
    let second : length c.deref-in-Choose-6.result.now ≡ r.0 = ap length c.deref-in-Choose-6.ensures.value ∙ wide_as (formula_of c.deref-in-Choose-3.result.now) c.args.ports.now (named_in c.args.scope.now) r.0 c.in_ok-one-in-Choose.ensures.ok r.1.second in
    record { select = select; same = second ∙ sym first; limit = omega (arith, r.1.limit) }

pub emit_in-requires-in-Let : goal.emit_in-requires-in-Let
emit_in-requires-in-Let t c =
    let whole = whole_let _ _ _ _ c.in-Let.body c.in-Let.is c.deref-in-Let.ensures refl in
    (search (rules, the_lemmas), (let_named _ _ _ c.args.ports.now (named_in c.args.scope.now) whole c.requires.formed, c.requires.shape))

pub returns-in-Value-clause-ok : goal.returns-in-Value-clause-ok
returns-in-Value-clause-ok t c =
    IfOk-weaker c.value_copy.result _ _ (λ y h. value_emitted _ _ _ _ c.args.ports.now (named_in c.args.scope.now) y.items (whole_value _ _ c.in-Value.is) c.requires.shape c.requires.formed h) c.value_copy.ensures

pub returns-in-Taint-clause-ok : goal.returns-in-Taint-clause-ok
returns-in-Taint-clause-ok t c =
    IfOk-weaker c.taint_copy.result _ _ (λ y h. taint_emitted _ _ _ _ c.args.ports.now (named_in c.args.scope.now) y.items (whole_taint _ _ c.in-Taint.is) c.requires.shape c.requires.formed h) c.taint_copy.ensures

pub returns-in-Bound-clause-ok : goal.returns-in-Bound-clause-ok
returns-in-Bound-clause-ok t c =
    IfOk-weaker c.named_copy.result _ _ (λ y h. bound_emitted _ _ _ _ c.args.ports.now (named_in c.args.scope.now) y.items (whole_bound _ _ c.in-Bound.is) c.requires.shape c.requires.formed h) c.named_copy.ensures

pub returns-in_ok-constant-in-Const-clause-ok : goal.returns-in_ok-constant-in-Const-clause-ok
returns-in_ok-constant-in-Const-clause-ok t c =
    const_emitted _ _ _ _ c.args.ports.now (named_in c.args.scope.now) _ (whole_const _ _ c.in-Const.is) c.requires.shape c.requires.formed c.in_ok-constant-in-Const.ensures

pub returns-in_ok-pick-in-Pick-clause-ok : goal.returns-in_ok-pick-in-Pick-clause-ok
returns-in_ok-pick-in-Pick-clause-ok t c =
    let whole = whole_pick _ _ _ _ c.in-Pick.is c.deref.ensures in
    pick_emitted _ _ _ c.args.ports.now (named_in c.args.scope.now) _ whole c.requires.formed c.in_ok-bits-in-Pick.ensures.ok c.deref-in-Pick.result.now c.deref-in-Pick.ensures.value
    (c.in_ok-pick-in-Pick.ensures ∙ ap (λ (l : List ℕ). picked_bits l c.deref-in-Pick.result.now) c.items.ensures)

pub returns-in_ok-extend_from_slice-in-Join-clause-ok : goal.returns-in_ok-extend_from_slice-in-Join-clause-ok
returns-in_ok-extend_from_slice-in-Join-clause-ok t c =
    let whole = whole_join _ _ _ _ _ c.in-Join.is c.deref-in-Join.ensures c.deref-in-Join-2.ensures in
    join_emitted _ _ _ c.args.ports.now (named_in c.args.scope.now) _ whole c.requires.formed c.in_ok-bits-in-Join.ensures.ok c.in_ok-high-in-Join.ensures.ok
    (c.in_ok-extend_from_slice-in-Join.ensures.items ∙ ap (λ (l : List RawBit). c.in_ok-bits-in-Join.bits.items ++ l) c.deref-in-Join-3.ensures.value)

pub returns-in_ok-bits-in-One-clause-ok : goal.returns-in_ok-bits-in-One-clause-ok
returns-in_ok-bits-in-One-clause-ok t c =
    let whole = whole_one _ _ _ _ c.in-One.is c.deref-in-One.ensures in
    IfOk-weaker c.emit_one.result _ _ (λ y h. one_emitted_in _ _ _ c.args.ports.now (named_in c.args.scope.now) whole c.requires.formed c.in_ok-bits-in-One.ensures.ok _ c.deref-in-One-2.ensures.value h) c.emit_one.ensures.ok

pub returns-in_ok-second-in-Two-clause-ok : goal.returns-in_ok-second-in-Two-clause-ok
returns-in_ok-second-in-Two-clause-ok t c =
    let whole = whole_two _ _ _ _ _ _ c.in-Two.is c.deref-in-Two.ensures c.deref-in-Two-2.ensures in
    IfOk-weaker c.emit_two.result _ _ (λ y h. two_emitted_in _ _ _ _ c.args.ports.now (named_in c.args.scope.now) whole c.requires.formed c.in_ok-first-in-Two.ensures.ok c.in_ok-second-in-Two.ensures.ok _ _ c.deref-in-Two-3.ensures.value c.deref-in-Two-4.ensures.value h) c.emit_two.ensures.ok

pub returns-in_ok-one-in-Choose-clause-ok : goal.returns-in_ok-one-in-Choose-clause-ok
returns-in_ok-one-in-Choose-clause-ok t c =
    let whole = whole_choose _ _ _ _ _ _ _ c.in-Choose.is c.deref-in-Choose.ensures c.deref-in-Choose-2.ensures c.deref-in-Choose-3.ensures in
    IfOk-weaker c.emit_choice.result _ _ (λ y h. choose_emitted_in _ _ _ _ c.args.ports.now (named_in c.args.scope.now) whole c.requires.formed c.in_ok-select-in-Choose.ensures.ok c.in_ok-zero-in-Choose.ensures.ok c.in_ok-one-in-Choose.ensures.ok _ _ _ c.deref-in-Choose-4.ensures.value c.deref-in-Choose-5.ensures.value c.deref-in-Choose-6.ensures.value h) c.emit_choice.ensures.ok

pub returns-in_ok-bits-in-Let-clause-ok : goal.returns-in_ok-bits-in-Let-clause-ok
returns-in_ok-bits-in-Let-clause-ok t c =
    let whole = whole_let _ _ _ _ _ c.in-Let.is c.deref-in-Let.ensures c.deref-in-Let-2.ensures in
    IfOk-weaker c.emit_in-in-Let-2.result _ _ (λ y h. let_emitted_in _ _ _ c.args.ports.now (named_in c.args.scope.now) _ whole c.requires.formed c.in_ok-bits-in-Let.ensures.ok
    (named_in-Inside _ _ ∙ ap (λ (l : List RawBit). l ∷ (named_in c.args.scope.now)) c.deref-in-Let-3.ensures.value) h) c.emit_in-in-Let-2.ensures.ok

pub emit_in-requires-in-Let-2 : goal.emit_in-requires-in-Let-2
emit_in-requires-in-Let-2 t c =
    let whole = whole_let _ _ _ _ _ c.in-Let.is c.deref-in-Let.ensures c.deref-in-Let-2.ensures in (
      search (rules, the_lemmas),
      (
        let_body _ _ _ c.args.ports.now (named_in c.args.scope.now) _ whole c.requires.formed c.in_ok-bits-in-Let.ensures.ok
            (named_in-Inside _ _ ∙ ap (λ (l : List RawBit). l ∷ (named_in c.args.scope.now)) c.deref-in-Let-3.ensures.value),
        c.requires.shape,
      ),
    )
