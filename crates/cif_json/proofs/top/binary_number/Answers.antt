use Rattle.std.proofs.Common.{◌∙◌, ◌+◌, ◌*◌, drop, sym, arith}
use Rattle.cif_json.proofs.Binary.{number_if_empty, number_if_some, next_digit, number_too_large}
use Rattle.cif_json.proofs.top.binary_number.Goals as goal

pub returns-then-is_empty : goal.returns-then-is_empty
returns-then-is_empty c = number_if_empty _ _ c.is_empty.ensures c.if-is_empty.true

pub loop-byte-init : goal.loop-byte-init
loop-byte-init c = record {
  small = omega arith;
  rest = number_if_some _ _ c.is_empty.ensures c.if-is_empty.false;
}

pub returns-then-number : goal.returns-then-number
returns-then-number c =
    let number = 2 * c.loop-byte.number + c.in_ok-number.field-0 in
    sym (c.loop-byte.invariant.rest
    ∙ next_digit _ _ _ _ c.loop-byte-test.true c.in_ok-number.ensures
    ∙ number_too_large number (drop (c.loop-byte.byte-index + 1) c.args.text.now) c.if-number.true)
