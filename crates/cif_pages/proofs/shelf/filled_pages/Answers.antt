use Rattle.std.proofs.Common.{◌∙◌, ap, arith}
use Rattle.cif_pages.specs.Pages.{joined}
use Rattle.cif_pages.proofs.PageCuts.{filled_whole, filled_rest, filled_pages, ArePages-from_full}
use Rattle.cif_pages.proofs.shelf.filled_pages.Goals as goal
use Rattle.cif_pages.proofs.shelf.filled_pages.Goals.{then-rest-gt0+in_ok-filled+in_ok-push, else-rest-gt0}

pub returns-clause-words : goal.returns-clause-words
returns-clause-words g c = elim c.if-rest-gt0.branch [
  | then-rest-gt0+in_ok-filled+in_ok-push w ↦
      ap (λ v. joined v.items) w.pages-is
      ∙ filled_rest 1024 c.args.length c.in_ok-pages.pages.items w.push.new.self.items w.in_ok-filled.field-0 c.args.word
      c.in_ok-pages.ensures.words w.in_ok-push.ensures.items w.in_ok-filled.ensures
  | else-rest-gt0 w ↦
      ap (λ v. joined v.items) w.pages-is
      ∙ filled_whole 1024 c.args.length c.in_ok-pages.pages.items c.args.word c.in_ok-pages.ensures.words w.if-rest-gt0.false
]

pub returns-clause-pages : goal.returns-clause-pages
returns-clause-pages g c = elim c.if-rest-gt0.branch [
  | then-rest-gt0+in_ok-filled+in_ok-push w ↦
      rw w.pages-is (filled_pages 1024 c.args.length c.in_ok-pages.pages.items w.push.new.self.items w.in_ok-filled.field-0 c.args.word (omega arith)
      c.in_ok-pages.ensures.full w.in_ok-push.ensures.items w.in_ok-filled.ensures)
  | else-rest-gt0 w ↦ rw w.pages-is (ArePages-from_full 1024 c.in_ok-pages.pages.items c.in_ok-pages.ensures.full)
]
