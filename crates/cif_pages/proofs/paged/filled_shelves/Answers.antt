use Rattle.std.proofs.Common.{◌∙◌, ap, arith}
use Rattle.cif_pages.specs.Pages.{joined}
use Rattle.cif_pages.proofs.PageCuts.{filled_whole, filled_rest, filled_pages, ArePages-from_full}
use Rattle.cif_pages.proofs.paged.filled_shelves.Goals as goal
use Rattle.cif_pages.proofs.paged.filled_shelves.Goals.{then-rest-gt0+in_ok-filled+in_ok-push, else-rest-gt0}

pub returns-clause-words : goal.returns-clause-words
returns-clause-words g c = elim c.if-rest-gt0.branch [
  | then-rest-gt0+in_ok-filled+in_ok-push w ↦
      ap (λ v. joined v.items) w.shelves-is
      ∙ filled_rest 131072 c.args.length c.in_ok-shelves.shelves.items w.push.new.self.items w.in_ok-filled.field-0 c.args.word
      c.in_ok-shelves.ensures.words w.in_ok-push.ensures.items w.in_ok-filled.ensures
  | else-rest-gt0 w ↦
      ap (λ v. joined v.items) w.shelves-is
      ∙ filled_whole 131072 c.args.length c.in_ok-shelves.shelves.items c.args.word c.in_ok-shelves.ensures.words w.if-rest-gt0.false
]

pub returns-clause-shelves : goal.returns-clause-shelves
returns-clause-shelves g c = elim c.if-rest-gt0.branch [
  | then-rest-gt0+in_ok-filled+in_ok-push w ↦
      rw w.shelves-is (filled_pages 131072 c.args.length c.in_ok-shelves.shelves.items w.push.new.self.items w.in_ok-filled.field-0 c.args.word (omega arith)
      c.in_ok-shelves.ensures.full w.in_ok-push.ensures.items w.in_ok-filled.ensures)
  | else-rest-gt0 w ↦ rw w.shelves-is (ArePages-from_full 131072 c.in_ok-shelves.shelves.items c.in_ok-shelves.ensures.full)
]
