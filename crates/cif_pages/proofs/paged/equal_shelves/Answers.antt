use Rattle.cif_pages.proofs.PageCuts.{equal_words, equal_full}
use Rattle.cif_pages.proofs.paged.equal_shelves.Goals as goal

pub returns-clause-words : goal.returns-clause-words
returns-clause-words g c =
    equal_words c.args.size c.args.count c.args.word c.in_ok-shelf.shelf c.in_ok-vec.field-0.items c.in_ok-shelf.ensures
    (c.in_ok-vec.ensures.items_if_clones_equal (λ y same. same))

pub returns-clause-full : goal.returns-clause-full
returns-clause-full g c =
    equal_full c.args.size c.args.count c.args.word c.in_ok-shelf.shelf c.in_ok-vec.field-0.items c.in_ok-shelf.ensures
    (c.in_ok-vec.ensures.items_if_clones_equal (λ y same. same))
