-- The places so far.
use Rattle.std.proofs.Common.{◌≡◌, ◌+◌, map}
use Rattle.std.specs.Prelude.{if◌then◌else◌}
use Rattle.std.specs.List.{range_with_len}
use Rattle.rule_arith.specs.Bounds.{is_upper}
use Rattle.rule_arith.proofs.bounds.places_in_pair.Given as goal

abbrev pub invariant-loop-place : goal.invariant-loop-place
invariant-loop-place l = l.places.items ≡ map (λ i. if is_upper l.start l.low l.high i then l.width + i else i) (range_with_len 0 l.place)
