use Rattle.std.proofs.Common.{◌≤◌, ◌∙◌, List, length, refl, sym, ap, ◌++◌, subst, arith}
use Rattle.cif_defs.specs.declared.raw_module.RawBit.{RawBit}
use Rattle.cif_emit.proofs.PieceLaws.{begun, some_piece, small_piece, complement_more, complement_done}
use Rattle.cif_emit.proofs.pieces.complement.Goals as goal

pub loop-index-init : goal.loop-index-init
loop-index-init c = begun _ _ _ _ _ c.new-bits.ensures.items (λ v. refl)

pub one_cell-requires-clause-some : goal.one_cell-requires-clause-some
one_cell-requires-clause-some c = subst (λ (p : List RawBit). 1 ≤ length p) (sym c.piece.ensures.value) (some_piece c.args.a.now c.loop-index.index (omega (arith, c.loop-index-test.true)))

pub one_cell-requires-clause-limit : goal.one_cell-requires-clause-limit
one_cell-requires-clause-limit c = subst (λ (p : List RawBit). length p ≤ 4096) (sym c.piece.ensures.value) (small_piece c.args.a.now c.loop-index.index)

pub loop-index-preserved : goal.loop-index-preserved
loop-index-preserved c = complement_more c.args.a.now c.piece.result.now c.loop-index.index c.piece.ensures.value c.loop-index.invariant c.in_ok-part.ensures.ok (c.in_ok-extend_from_slice.ensures.items ∙ ap (λ (l : List RawBit). c.loop-index.bits.items ++ l) c.deref.ensures.value)

pub returns-clause-ok : goal.returns-clause-ok
returns-clause-ok c = complement_done c.args.a.now c.loop-index.index (omega arith) c.loop-index.invariant
