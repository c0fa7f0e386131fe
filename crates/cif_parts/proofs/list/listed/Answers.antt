use Rattle.std.proofs.Common.{List, ℕ, sym, subst}
use Rattle.cif_defs.specs.Accepted.{netlist_of}
use Rattle.cif_parts.specs.Listing.{IsListed}
use Rattle.cif_parts.proofs.Listings.{listed_none}
use Rattle.cif_parts.proofs.list.listed.Goals as goal

pub returns : goal.returns
returns c = c.in_ok-push_others.ensures c.args.order.now c.requires
    (c.in_ok-push_placed.ensures (netlist_of c.args.netlist.now) c.requires (subst (λ (xs : List ℕ). IsListed (netlist_of c.args.netlist.now) c.args.order.now c.args.marks.now xs 0) (sym c.new-cells.ensures.items) (listed_none (netlist_of c.args.netlist.now) c.args.order.now c.args.marks.now)))
