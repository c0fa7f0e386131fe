use Rattle.std.proofs.Common.{◌≡◌, ◌++◌, ◌+◌, ◌∙◌, ap, take, drop, List, ℕ}
use Rattle.std.specs.Prelude.{reverse}
use Rattle.cif_level.proofs.ring.unwound.Goals as goal

pub returns : goal.returns
returns c =
    let m : ℕ = c.least_place-least.result + 1 in
    let copied : drop m c.in_ok-cells.cells.items ++ take m c.in_ok-cells.cells.items ≡ drop m c.args.ring.now ++ take m c.args.ring.now =
    ap (λ (xs : List ℕ). drop m xs ++ take m xs) c.in_ok-cells.ensures.items in
    record {
      least = c.least_place-least.result;
      in_range = c.least_place-least.ensures.in_range;
      is_least = c.least_place-least.ensures.least;
      is = c.of.ensures ∙ c.reverse.ensures.items ∙ ap reverse (c.rotate_left.ensures.items ∙ copied);
    }
