use Rattle.std.proofs.Common.{◌≡◌, ◌∙◌, sym, refl, arith, rules, length}
use Rattle.cif_term.specs.declared.term.Term.TheViews.{the_lemmas}
use Rattle.cif_term.specs.Scopes.{named_in}
use Rattle.cif_term.specs.TermView.{formula_of}
use Rattle.cif_term.proofs.Parts.{long_value, formed_body}
use Rattle.cif_term.proofs.Parts.{whole_pick, whole_join, whole_one, whole_two, whole_choose, whole_let, formed_pick, formed_join, formed_one, formed_two, formed_choose, formed_let}
use Rattle.cif_term.proofs.eval.+value_in.Goals as goal

pub value_in-requires : goal.value_in-requires
value_in-requires t c =
    let whole = whole_pick _ _ _ _ c.in-Pick.is c.deref.ensures in
    (search (rules, the_lemmas), ((formed_pick _ _ _ _ _ whole c.requires.formed).0, c.requires.shape))

pub value_in-requires-in-Join : goal.value_in-requires-in-Join
value_in-requires-in-Join t c =
    let whole = whole_join _ _ _ _ c.in-Join.high c.in-Join.is c.deref-in-Join.ensures refl in
    let r = formed_join _ _ _ _ _ whole c.requires.formed in
    (search (rules, the_lemmas), ((r.0, r.2), c.requires.shape))

pub value_in-requires-in-Join-2 : goal.value_in-requires-in-Join-2
value_in-requires-in-Join-2 t c =
    let whole = whole_join _ _ _ c.in-Join.low _ c.in-Join.is refl c.deref-in-Join-2.ensures in
    let r = formed_join _ _ _ _ _ whole c.requires.formed in
    (search (rules, the_lemmas), ((r.1, r.3), c.requires.shape))

pub join-requires : goal.join-requires
join-requires t c =
    let named = named_in c.args.names.now in
    let whole = whole_join _ _ _ _ _ c.in-Join.is c.deref-in-Join.ensures c.deref-in-Join-2.ensures in
    let r = formed_join _ _ _ c.args.values.now named whole c.requires.formed in
    let low : length c.in_ok-low-in-Join.low ≡ r.0 = long_value (formula_of c.deref-in-Join.result.now) c.args.values.now c.args.taints.now named _ r.0 c.requires.shape c.in_ok-low-in-Join.ensures r.2 in
    let high : length c.in_ok-high-in-Join.high ≡ r.1 = long_value (formula_of c.deref-in-Join-2.result.now) c.args.values.now c.args.taints.now named _ r.1 c.requires.shape c.in_ok-high-in-Join.ensures r.3 in
    omega (arith, r.4)

pub value_in-requires-in-One : goal.value_in-requires-in-One
value_in-requires-in-One t c =
    let whole = whole_one _ _ _ _ c.in-One.is c.deref-in-One.ensures in
    (search (rules, the_lemmas), (formed_one _ _ _ _ _ whole c.requires.formed, c.requires.shape))

pub value_in-requires-in-Two : goal.value_in-requires-in-Two
value_in-requires-in-Two t c =
    let whole = whole_two _ _ _ _ _ c.in-Two.second c.in-Two.is c.deref-in-Two.ensures refl in
    let r = formed_two _ _ _ _ _ _ whole c.requires.formed in
    (search (rules, the_lemmas), ((r.0, r.1), c.requires.shape))

pub value_in-requires-in-Two-2 : goal.value_in-requires-in-Two-2
value_in-requires-in-Two-2 t c =
    let whole = whole_two _ _ _ _ c.in-Two.first _ c.in-Two.is refl c.deref-in-Two-2.ensures in
    let r = formed_two _ _ _ _ _ _ whole c.requires.formed in
    (search (rules, the_lemmas), ((r.0, r.2), c.requires.shape))

pub apply_two-requires : goal.apply_two-requires
apply_two-requires t c =
    let named = named_in c.args.names.now in
    let whole = whole_two _ _ _ _ _ _ c.in-Two.is c.deref-in-Two.ensures c.deref-in-Two-2.ensures in
    let r = formed_two _ _ _ _ c.args.values.now named whole c.requires.formed in
    let first : length c.in_ok-first-in-Two.first ≡ r.0 = long_value (formula_of c.deref-in-Two.result.now) c.args.values.now c.args.taints.now named _ r.0 c.requires.shape c.in_ok-first-in-Two.ensures r.1 in
    let second : length c.in_ok-second-in-Two.second ≡ r.0 = long_value (formula_of c.deref-in-Two-2.result.now) c.args.values.now c.args.taints.now named _ r.0 c.requires.shape c.in_ok-second-in-Two.ensures r.2 in
    record { some = omega (arith, r.3); same = second ∙ sym first; numbers = λ numbers. (let limit = r.4 numbers in omega arith) }

pub value_in-requires-in-Choose : goal.value_in-requires-in-Choose
value_in-requires-in-Choose t c =
    let whole = whole_choose _ _ _ _ _ c.in-Choose.zero c.in-Choose.one c.in-Choose.is c.deref-in-Choose.ensures refl refl in
    (search (rules, the_lemmas), ((1, (formed_choose _ _ _ _ _ _ whole c.requires.formed).0), c.requires.shape))

pub get-requires : goal.get-requires
get-requires t c =
    let named = named_in c.args.names.now in
    let whole = whole_choose _ _ _ _ _ c.in-Choose.zero c.in-Choose.one c.in-Choose.is c.deref-in-Choose.ensures refl refl in
    let r = formed_choose _ _ _ _ c.args.values.now named whole c.requires.formed in
    let one : length c.in_ok-select-in-Choose.select ≡ 1 = long_value (formula_of c.deref-in-Choose.result.now) c.args.values.now c.args.taints.now named _ 1 c.requires.shape c.in_ok-select-in-Choose.ensures r.0 in
    omega arith

pub value_in-requires-in-Let : goal.value_in-requires-in-Let
value_in-requires-in-Let t c =
    let whole = whole_let _ _ _ _ c.in-Let.body c.in-Let.is c.deref-in-Let.ensures refl in
    (search (rules, the_lemmas), ((formed_let _ _ _ _ c.args.taints.now _ c.requires.shape whole c.requires.formed).0, c.requires.shape))

pub value_in-requires-then-get : goal.value_in-requires-then-get
value_in-requires-then-get t c =
    let whole = whole_choose _ _ _ _ c.in-Choose.select c.in-Choose.zero _ c.in-Choose.is refl refl c.deref-then-get.ensures in
    (search (rules, the_lemmas), ((formed_choose _ _ _ _ _ _ whole c.requires.formed).2, c.requires.shape))

pub value_in-requires-else-get : goal.value_in-requires-else-get
value_in-requires-else-get t c =
    let whole = whole_choose _ _ _ _ c.in-Choose.select _ c.in-Choose.one c.in-Choose.is refl c.deref-else-get.ensures refl in
    (search (rules, the_lemmas), ((formed_choose _ _ _ _ _ _ whole c.requires.formed).1, c.requires.shape))

pub value_in-requires-in-Let-2 : goal.value_in-requires-in-Let-2
value_in-requires-in-Let-2 t c =
    let whole = whole_let _ _ _ _ _ c.in-Let.is c.deref-in-Let.ensures c.deref-in-Let-2.ensures in
    (search (rules, the_lemmas), (formed_body _ _ _ _ c.args.taints.now _ _ c.requires.shape whole c.requires.formed c.in_ok-word-in-Let.ensures, c.requires.shape))
