use Rattle.std.proofs.Common.{◌≡◌, ◌≤◌, ◌∙◌, List, length, sym, ap, ◌++◌, subst, arith}
use Rattle.cif_defs.specs.declared.raw_module.RawBit.{RawBit}
use Rattle.cif_emit.specs.Pieces.{piece_at}
use Rattle.cif_emit.proofs.PieceLaws.{begun, some_piece, small_piece, same_pieces, none_chosen, choice_more, choice_done}
use Rattle.cif_emit.proofs.pieces.emit_choice.Goals as goal

pub loop-index-init : goal.loop-index-init
loop-index-init c = begun _ _ _ _ _ c.new-bits.ensures.items (λ v. none_chosen _)

pub choice_cell-requires-clause-some : goal.choice_cell-requires-clause-some
choice_cell-requires-clause-some c = subst (λ (p : List RawBit). 1 ≤ length p) (sym c.piece.ensures.value) (some_piece c.args.zero.now c.loop-index.index (omega (arith, c.loop-index-test.true)))

pub choice_cell-requires-clause-limit : goal.choice_cell-requires-clause-limit
choice_cell-requires-clause-limit c = subst (λ (p : List RawBit). length p ≤ 4096) (sym c.piece.ensures.value) (small_piece c.args.zero.now c.loop-index.index)

pub choice_cell-requires-clause-same : goal.choice_cell-requires-clause-same
choice_cell-requires-clause-same c = subst (λ (q : List RawBit). length q ≡ length c.piece.result.now) (sym c.piece-in-loop-index.ensures.value) (subst (λ (p : List RawBit). length (piece_at c.args.one.now c.loop-index.index) ≡ length p) (sym c.piece.ensures.value) (same_pieces c.args.zero.now c.args.one.now c.loop-index.index c.requires.same))

pub loop-index-preserved : goal.loop-index-preserved
loop-index-preserved c = choice_more c.args.select.now c.args.zero.now c.args.one.now c.piece.result.now c.piece-in-loop-index.result.now c.loop-index.index c.piece.ensures.value c.piece-in-loop-index.ensures.value c.loop-index.invariant c.in_ok-part.ensures.ok (c.in_ok-extend_from_slice.ensures.items ∙ ap (λ (l : List RawBit). c.loop-index.bits.items ++ l) c.deref.ensures.value)

pub returns-clause-ok : goal.returns-clause-ok
returns-clause-ok c = choice_done c.args.select.now c.args.zero.now c.args.one.now c.loop-index.index (omega arith) c.requires.same c.loop-index.invariant
