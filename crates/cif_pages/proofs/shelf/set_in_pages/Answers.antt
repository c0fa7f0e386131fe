use Rattle.std.proofs.Common.{arith}
use Rattle.cif_pages.proofs.PagePlaces.{page_of, place_of, written, written_pages}
use Rattle.cif_pages.proofs.shelf.set_in_pages.Goals as goal

pub bounds-pages-index : goal.bounds-pages-index
bounds-pages-index g c = page_of 1024 c.args.pages.now c.args.index c.requires.pages c.requires.within

pub set-requires : goal.set-requires
set-requires g c = place_of 1024 c.args.pages.now c.args.index c.index-pages-index.result (omega arith) c.requires.pages c.requires.within

pub returns-clause-ok : goal.returns-clause-ok
returns-clause-ok g c =
    written 1024 c.set.result c.args.pages.now c.args.index c.index-pages-index.result c.set.new.self c.args.word (omega arith)
    c.requires.pages c.requires.within c.set.ensures.ok

pub returns-clause-pages : goal.returns-clause-pages
returns-clause-pages g c =
    written_pages 1024 c.set.result c.args.pages.now c.args.index c.index-pages-index.result c.set.new.self c.args.word
    c.requires.pages c.set.ensures.ok c.set.ensures.err
