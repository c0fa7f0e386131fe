use Rattle.std.proofs.Common.{◌≡◌, rules, arith}
use Rattle.std.proofs.lemmas.Grind.{common_steps}
use Rattle.cif_core.specs.Machine.{mark_at}
use Rattle.cif_core.specs.declared.mark.Mark.TheVariants.{Claimed}
use Rattle.cif_core.proofs.HeldPieces.{away-assembles, holds-given}
use Rattle.cif_core.proofs.KeptState.{claimed-not-assembling}
use Rattle.cif_core.proofs.machine.Core.deposit.Goals as goal

pub returns-in-None-clause-reply : goal.returns-in-None-clause-reply
returns-in-None-clause-reply g c =
    let h = c.self.invariant.1 in
    let is : c.index.result.now ≡ Claimed = search rules in
    let at : mark_at c.self.inside.marks.items c.part-part.result ≡ Claimed = (let w = c.index.ensures in grind (arith, common_steps)) in
    absurd (claimed-not-assembling _ _ _ _ _ c.part-part.result h.kept at (away-assembles _ _ _ _ _ _ _ h c.in-None.is))

pub invariant_of-self-2 : goal.invariant_of-self-2
invariant_of-self-2 g c =
    let h = c.self.invariant in
    let is : c.index.result.now ≡ Claimed = search rules in
    let at : mark_at c.self.inside.marks.items c.part-part.result ≡ Claimed = (let w = c.index.ensures in grind (arith, common_steps)) in
    let cycle : c.args.piece.cycle ≡ c.self.inside.done = search rules in
    (h.0, holds-given _ _ _ _ _ _ _ c.in-Some.slots c.put.new.self c.part-part.result c.args.piece h.1 c.in-Some.is c.put.ensures c.part-part.ensures.is at c.requires.case cycle c.requires.parts)
