use Rattle.std.proofs.Common.{◌∙◌, arith}
use Rattle.cif_pages.proofs.PagePlaces.{page_of, place_in, item_in}
use Rattle.cif_pages.proofs.shelf.get_in_pages.Goals as goal

pub bounds-pages-index : goal.bounds-pages-index
bounds-pages-index g c = page_of 1024 c.args.pages.now c.args.index c.requires.pages c.requires.within

pub get-requires : goal.get-requires
get-requires g c = place_in 1024 c.args.pages.now c.args.index c.index-pages-index.result (omega arith) c.requires.pages c.requires.within c.index-pages-index.is

pub returns : goal.returns
returns g c d =
    item_in 1024 c.args.pages.now c.args.index c.index-pages-index.result d (omega arith) c.requires.pages c.requires.within c.index-pages-index.is
    ∙ c.get.ensures d
