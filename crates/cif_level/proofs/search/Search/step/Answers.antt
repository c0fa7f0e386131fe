use Rattle.std.proofs.Common.{◌≡◌, ◌≢◌, ◌∙◌, ℕ, ◌<◌, ◌++◌, ◌∷◌, [], length, arith, ap, subst, refl, List}
use Rattle.std.specs.Prelude.{set}
use Rattle.cif_defs.specs.Accepted.{netlist_of}
use Rattle.cif_defs.specs.Netlist.{Netlist}
use Rattle.cif_level.specs.declared.feeders.Mark.{Mark}
use Rattle.cif_level.specs.declared.feeders.Mark.TheVariants.{OnPath, Placed}
use Rattle.cif_level.specs.Feeding.{feeder_at}
use Rattle.cif_level.specs.Searching.{mark_of, AreBefore, AreAllPlaced}
use Rattle.cif_level.proofs.SearchSteps.{cell_known, feed_known, finished, last_on_path, followed, closed_is_loop, less_work, follows_so, unseen_weight, path_weight, path_unplaced, not_so}
use Rattle.cif_level.proofs.search.Search.step.Goals as goal

below_marks : (n : Netlist) (old new : List Mark) (x : ℕ) → x < length n.cells → length old ≡ length n.cells → new ≡ old → x < length new
below_marks n old new x l s e = let same : length new ≡ length old = ap (λ (ms : List Mark). length ms) e in omega arith

pub is_on_path-requires : goal.is_on_path-requires
is_on_path-requires c = below_marks (netlist_of c.args.netlist.now) _ _ _ (feed_known _ _ _ _ _ c.requires.wired c.in-Some.ensures.feeds) c.requires.keeps.sized c.look.ensures.marks

pub enter-requires : goal.enter-requires
enter-requires c = below_marks (netlist_of c.args.netlist.now) _ _ _ (feed_known _ _ _ _ _ c.requires.wired c.in-Some.ensures.feeds) c.requires.keeps.sized c.look.ensures.marks

pub returns-then-is_on_path-clause-err : goal.returns-then-is_on_path-clause-err
returns-then-is_on_path-clause-err c =
    closed_is_loop _ _ _ _ _ _ _ _ _ _ _ c.requires.wired c.requires.keeps c.requires.last c.in-Some.ensures.feeds (c.deref-then-is_on_path.ensures.value ∙ c.look.ensures.path) c.in_ok-cells.ensures

pub returns-clause-ok : goal.returns-clause-ok
returns-clause-ok c =
    let n : Netlist = netlist_of c.args.netlist.now in
    let x : ℕ = c.in-Some.feed.cell in
    let inside : x < length c.args.self.now.marks.items = below_marks n _ _ _ (feed_known _ _ _ _ _ c.requires.wired c.in-Some.ensures.feeds) c.requires.keeps.sized refl in
    let no_loop : mark_of c.args.self.now.marks.items x ≢ OnPath =
    λ h. not_so c.is_on_path.result _ c.if-is_on_path.false c.is_on_path.ensures (ap (λ (ms : List Mark). mark_of ms x) c.look.ensures.marks ∙ h) in
    let unplaced : mark_of c.args.self.now.marks.items x ≢ Placed = subst (λ (ms : List Mark). mark_of ms x ≢ Placed) c.deref.ensures.value c.in-Some.ensures.unplaced in
    let before : AreBefore (feeder_at n c.args.cell) c.args.self.now.marks.items c.in-Some.feed.place =
    subst (λ (ms : List Mark). AreBefore (feeder_at n c.args.cell) ms c.in-Some.feed.place) c.deref.ensures.value c.in-Some.ensures.first in
    let marks : c.enter.new.self.marks.items ≡ set c.args.self.now.marks.items x OnPath = c.in_ok-enter.ensures.marks ∙ ap (λ (ms : List Mark). set ms x OnPath) c.look.ensures.marks in
    record {
      keeps = followed _ _ _ _ _ _ _ _ _ _ _ _ c.requires.wired c.requires.keeps c.requires.last before c.in-Some.ensures.feeds no_loop unplaced
          marks (c.in_ok-enter.ensures.places ∙ c.look.ensures.places) (c.in_ok-enter.ensures.path ∙ ap (λ (xs : List ℕ). xs ++ x ∷ []) c.look.ensures.path) (c.in_ok-enter.ensures.order ∙ c.look.ensures.order);
      less = less_work _ _ x OnPath inside marks (unseen_weight _ x no_loop unplaced);
      follows = follows_so _ _ x OnPath inside marks unplaced (λ e. absurd (cc));
    }

pub returns-in_default-clause-ok : goal.returns-in_default-clause-ok
returns-in_default-clause-ok c =
    let n : Netlist = netlist_of c.args.netlist.now in
    let inside : c.args.cell < length c.args.self.now.marks.items = below_marks n _ _ _ (cell_known _ _ _ _ _ _ c.requires.keeps c.requires.last) c.requires.keeps.sized refl in
    let on : mark_of c.args.self.now.marks.items c.args.cell ≡ OnPath = last_on_path _ _ _ _ _ _ c.requires.keeps c.requires.last in
    let all : AreAllPlaced (feeder_at n c.args.cell) c.args.self.now.marks.items =
    subst (λ (ms : List Mark). AreAllPlaced (feeder_at n c.args.cell) ms) c.deref.ensures.value (c.in_default.ensures.none refl) in
    record {
      keeps = finished _ _ _ _ _ _ _ _ _ _ c.requires.keeps all c.in_ok-leave.ensures.marks c.in_ok-leave.ensures.places c.in_ok-leave.ensures.path c.in_ok-leave.ensures.order;
      less = less_work _ _ c.args.cell Placed inside c.in_ok-leave.ensures.marks (path_weight _ c.args.cell on);
      follows = follows_so _ _ c.args.cell Placed inside c.in_ok-leave.ensures.marks (path_unplaced _ c.args.cell on) (λ e. absurd (cc));
    }
