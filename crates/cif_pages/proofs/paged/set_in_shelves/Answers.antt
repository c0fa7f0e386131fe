use Rattle.std.proofs.Common.{arith}
use Rattle.cif_pages.proofs.PagePlaces.{page_of, place_of, written, written_pages}
use Rattle.cif_pages.proofs.paged.set_in_shelves.Goals as goal

pub bounds-shelves-index : goal.bounds-shelves-index
bounds-shelves-index g c = page_of 131072 c.args.shelves.now c.args.index c.requires.shelves c.requires.within

pub set-requires : goal.set-requires
set-requires g c = place_of 131072 c.args.shelves.now c.args.index c.index-shelves-index.result (omega arith) c.requires.shelves c.requires.within

pub returns-clause-ok : goal.returns-clause-ok
returns-clause-ok g c =
    written 131072 c.set.result c.args.shelves.now c.args.index c.index-shelves-index.result c.set.new.self c.args.word (omega arith)
    c.requires.shelves c.requires.within c.set.ensures.ok

pub returns-clause-shelves : goal.returns-clause-shelves
returns-clause-shelves g c =
    written_pages 131072 c.set.result c.args.shelves.now c.args.index c.index-shelves-index.result c.set.new.self c.args.word
    c.requires.shelves c.set.ensures.ok c.set.ensures.err
