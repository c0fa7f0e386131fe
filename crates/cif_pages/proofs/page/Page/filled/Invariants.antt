use Rattle.std.proofs.Common.{◌≡◌, replicate}
use Rattle.cif_pages.proofs.page.Page.filled.Given as goal

abbrev pub invariant-loop-place : goal.invariant-loop-place
invariant-loop-place g l = l.words.items ≡ replicate l._place l.word
