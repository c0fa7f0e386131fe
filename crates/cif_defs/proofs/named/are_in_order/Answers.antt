use Rattle.std.proofs.Common.{true, false, refl}
use Rattle.cif_defs.proofs.NamesInOrder.{in_order, next_is_less}
use Rattle.cif_defs.proofs.named.are_in_order.Goals.{in-Less, in_default}
use Rattle.cif_defs.proofs.named.are_in_order.Goals as goal

pub returns-then-not-matches : goal.returns-then-not-matches
returns-then-not-matches g c = (
  λ t. absurd (cc),
  λ order.
      let less = next_is_less g.T.Named.name_of c.args.things.now c.loop-index.index c.index-things-index.result c.index-things-index-in-loop-index.result _ _ c.cmp-order.result
      c.index-things-index.is c.index-things-index-in-loop-index.is c.name_bytes.ensures c.name_bytes-in-loop-index.ensures c.cmp-order.ensures c.loop-index.invariant.start c.loop-index-test.true order in
      elim c.match-matches.branch [
        | in-Less w ↦ cc
        | in_default w ↦ absurd (w.in_default.not-Less less)
      ],
)

pub returns : goal.returns
returns g c = (λ t. in_order g.T.Named.name_of c.args.things.now c.loop-index.index c.loop-index-test.false c.loop-index.invariant.rise, λ order. refl)
