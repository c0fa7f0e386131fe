use Rattle.std.proofs.Common.{◌∙◌, arith}
use Rattle.cif_pages.proofs.PagePlaces.{page_of, place_in, item_in}
use Rattle.cif_pages.proofs.paged.get_in_shelves.Goals as goal

pub bounds-shelves-index : goal.bounds-shelves-index
bounds-shelves-index g c = page_of 131072 c.args.shelves.now c.args.index c.requires.shelves c.requires.within

pub get-requires : goal.get-requires
get-requires g c = place_in 131072 c.args.shelves.now c.args.index c.index-shelves-index.result (omega arith) c.requires.shelves c.requires.within c.index-shelves-index.is

pub returns : goal.returns
returns g c d =
    item_in 131072 c.args.shelves.now c.args.index c.index-shelves-index.result d (omega arith) c.requires.shelves c.requires.within c.index-shelves-index.is
    ∙ c.get.ensures d
