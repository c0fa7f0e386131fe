use Rattle.std.proofs.Common.{◌≡◌, ◌≤◌, ◌-◌, Some, None, sym, ap, subst, ◌∙◌, rules, arith, drop, length, set, get_or-set_same}
use Rattle.std.specs.Prelude.{MatchOption}
use Rattle.cif_core.specs.Frames.{first_kept}
use Rattle.cif_core.specs.Machine.{State, floor_of, want_at}
use Rattle.cif_core.proofs.Facts.{floor-want}
use Rattle.cif_core.proofs.HeldPieces.{holds-want}
use Rattle.cif_core.proofs.machine.Core.want.Goals as goal

pub invariant_of-self : goal.invariant_of-self
invariant_of-self g c =
    let h = c.self.invariant in
    let done = c.self.inside.done in
    let old = c.self.inside.shelf.frames in
    let P : State → Type 0 = λ t. MatchOption (want_at t.wants c.args.session) ⊥ (λ w. w ≤ c.args.cycle) in
    let may = subst P (sym c.self.view_is) c.requires.present in
    let low : c.lowest-low.result ≡ floor_of done (set c.self.inside.wants.items c.args.session (Some c.args.cycle)) = search rules in
    let count = c.kept_count.ensures ∙ ap (λ k. done - first_kept done k) low in
    (h.0, holds-want _ _ _ _ _ c.args.session c.args.cycle _ _ _ h.1 may (c.keep_last.ensures.frames ∙ ap (λ k. drop (length old - k) old) count) c.keep_last.ensures.room)

pub returns-clause-above : goal.returns-clause-above
returns-clause-above g c =
    let q = c.self.invariant.1.kept.sessions in
    floor-want c.self.inside.done _ c.args.session c.args.cycle (get_or-set_same c.self.inside.wants.items c.args.session (Some c.args.cycle) None (omega (arith, c.requires.session)))
