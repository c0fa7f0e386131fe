use Rattle.std.proofs.Common.{List, ℕ, sym, subst}
use Rattle.cif_parts.specs.Listing.{IsListed}
use Rattle.cif_parts.proofs.Listings.{listed_none}
use Rattle.cif_parts.proofs.list.listed_in_order.Goals as goal

pub returns : goal.returns
returns c = λ n o. c.in_ok-push_placed.ensures n o (subst (λ (xs : List ℕ). IsListed n c.args.order.now c.args.marks.now xs 0) (sym c.new-cells.ensures.items) (listed_none n c.args.order.now c.args.marks.now))
