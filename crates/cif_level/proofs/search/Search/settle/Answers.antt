use Rattle.std.proofs.Common.{◌≡◌, ◌<◌, length, arith}
use Rattle.cif_defs.specs.Accepted.{netlist_of}
use Rattle.cif_defs.proofs.Orders.{in_range}
use Rattle.cif_level.specs.declared.feeders.Mark.TheVariants.{OnPath}
use Rattle.cif_level.proofs.SearchSteps.{started, entered_seen, follows_so, unseen_unplaced}
use Rattle.cif_level.proofs.search.Search.settle.Goals as goal

pub loop-cell-init : goal.loop-cell-init
loop-cell-init c =
    let known : c.args.start < length (netlist_of c.args.netlist.now).cells = in_range (netlist_of c.args.netlist.now) c.args.start c.requires.passing in
    let long : length c.args.self.now.marks.items ≡ length (netlist_of c.args.netlist.now).cells = c.requires.keeps.sized in
    let inside : c.args.start < length c.args.self.now.marks.items = omega arith in
    record {
      keeps = started _ _ _ _ _ _ _ _ _ _ c.requires.keeps c.requires.no_path c.requires.unseen c.requires.passing c.in_ok-enter.ensures.marks c.in_ok-enter.ensures.places c.in_ok-enter.ensures.path c.in_ok-enter.ensures.order;
      seen = entered_seen _ _ c.args.start inside c.in_ok-enter.ensures.marks;
      follows = follows_so _ _ c.args.start OnPath inside c.in_ok-enter.ensures.marks (unseen_unplaced _ c.args.start c.requires.unseen) (λ e. absurd (cc));
    }
