use Rattle.std.proofs.Common.{◌≡◌, ◌≤◌, ◌∙◌, List, length, sym, ap, ◌++◌, subst, arith}
use Rattle.cif_defs.specs.declared.raw_module.RawBit.{RawBit}
use Rattle.cif_emit.specs.Pieces.{piece_at}
use Rattle.cif_emit.proofs.PieceLaws.{begun, some_piece, small_piece, same_pieces, no_numbers, no_bits, bitwise_more, bitwise_done}
use Rattle.cif_emit.proofs.pieces.bitwise.Goals as goal

pub loop-index-init : goal.loop-index-init
loop-index-init c = begun _ _ _ _ _ c.new-bits.ensures.items (λ v. no_bits c.args.op c.requires.bitwise)

pub two_cell-requires-clause-some : goal.two_cell-requires-clause-some
two_cell-requires-clause-some c = subst (λ (p : List RawBit). 1 ≤ length p) (sym c.piece.ensures.value) (some_piece c.args.a.now c.loop-index.index (omega (arith, c.loop-index-test.true)))

pub two_cell-requires-clause-limit : goal.two_cell-requires-clause-limit
two_cell-requires-clause-limit c = subst (λ (p : List RawBit). length p ≤ 4096) (sym c.piece.ensures.value) (small_piece c.args.a.now c.loop-index.index)

pub two_cell-requires-clause-same : goal.two_cell-requires-clause-same
two_cell-requires-clause-same c = subst (λ (q : List RawBit). length q ≡ length c.piece.result.now) (sym c.piece-in-loop-index.ensures.value) (subst (λ (p : List RawBit). length (piece_at c.args.b.now c.loop-index.index) ≡ length p) (sym c.piece.ensures.value) (same_pieces c.args.a.now c.args.b.now c.loop-index.index c.requires.same))

pub two_cell-requires-clause-numbers : goal.two_cell-requires-clause-numbers
two_cell-requires-clause-numbers c = λ h. absurd (no_numbers c.args.op c.requires.bitwise h)

pub loop-index-preserved : goal.loop-index-preserved
loop-index-preserved c = bitwise_more c.args.op c.args.a.now c.args.b.now c.piece.result.now c.piece-in-loop-index.result.now c.loop-index.index c.requires.bitwise c.requires.same c.piece.ensures.value c.piece-in-loop-index.ensures.value c.loop-index.invariant c.in_ok-part.ensures.ok (c.in_ok-extend_from_slice.ensures.items ∙ ap (λ (l : List RawBit). c.loop-index.bits.items ++ l) c.deref.ensures.value)

pub returns-clause-ok : goal.returns-clause-ok
returns-clause-ok c = bitwise_done c.args.op c.args.a.now c.args.b.now c.loop-index.index (omega arith) c.requires.same c.loop-index.invariant
