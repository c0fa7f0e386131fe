use Rattle.std.proofs.Common.{arith, sym, ap, ◌∙◌, ◌≡◌, ◌+◌, ◌-◌, ◌<◌, ◌/◌, length, Less, Equal, Greater}
use Rattle.cif_defs.proofs.NameOrder.{by_bytes, below_more, above_more, found_here, found_nowhere}
use Rattle.cif_defs.proofs.named.place_in_order.Goals as goal

pub loop-low-preserved-in-Less : goal.loop-low-preserved-in-Less
loop-low-preserved-in-Less g c =
    let inside : c.loop-low.low + (c.loop-low.high - c.loop-low.low) / 2 < length c.args.things.now = (let within = c.loop-low.invariant.inside in omega arith) in
    let less : by_bytes (g.T.Named.name_of c.index-things-middle.result) c.args.name.now ≡ Less = ap (λ a. by_bytes a c.args.name.now) (sym c.name_bytes.ensures) ∙ sym c.cmp.ensures ∙ c.in-Less.is in
    record {
      order = omega arith;
      inside = c.loop-low.invariant.inside;
      below = below_more g.T.Named.name_of c.args.things.now c.args.name.now (c.loop-low.low + (c.loop-low.high - c.loop-low.low) / 2) c.index-things-middle.result c.requires inside c.index-things-middle.is less;
      above = c.loop-low.invariant.above;
    }

pub returns-in-Equal : goal.returns-in-Equal
returns-in-Equal g c =
    let inside : c.loop-low.low + (c.loop-low.high - c.loop-low.low) / 2 < length c.args.things.now = (let within = c.loop-low.invariant.inside in omega arith) in
    let equal : by_bytes (g.T.Named.name_of c.index-things-middle.result) c.args.name.now ≡ Equal = ap (λ a. by_bytes a c.args.name.now) (sym c.name_bytes.ensures) ∙ sym c.cmp.ensures ∙ c.in-Equal.is in
    found_here g.T.Named.name_of c.args.things.now c.args.name.now (c.loop-low.low + (c.loop-low.high - c.loop-low.low) / 2) c.index-things-middle.result c.requires inside c.index-things-middle.is equal

pub loop-low-preserved : goal.loop-low-preserved
loop-low-preserved g c =
    let inside : c.loop-low.low + (c.loop-low.high - c.loop-low.low) / 2 < length c.args.things.now = (let within = c.loop-low.invariant.inside in omega arith) in
    let greater : by_bytes (g.T.Named.name_of c.index-things-middle.result) c.args.name.now ≡ Greater = ap (λ a. by_bytes a c.args.name.now) (sym c.name_bytes.ensures) ∙ sym c.cmp.ensures ∙ c.in-Greater.is in
    record {
      order = omega arith;
      inside = (let within = c.loop-low.invariant.inside in omega arith);
      below = c.loop-low.invariant.below;
      above = above_more g.T.Named.name_of c.args.things.now c.args.name.now (c.loop-low.low + (c.loop-low.high - c.loop-low.low) / 2) c.index-things-middle.result c.requires inside c.index-things-middle.is greater;
    }

pub returns : goal.returns
returns g c = found_nowhere g.T.Named.name_of c.args.things.now c.args.name.now c.loop-low.low c.loop-low.high c.loop-low-test.false c.loop-low.invariant.below c.loop-low.invariant.above
