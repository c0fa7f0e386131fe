use Rattle.std.proofs.Common.{sym, ◌∙◌, refl}
use Rattle.cif_script.proofs.SaidLines.{not_visible, no_verb, by_verb}
use Rattle.cif_script.proofs.form.form_of.Goals as goal

pub returns-then-not-are_visible : goal.returns-then-not-are_visible
returns-then-not-are_visible c = not_visible _ (sym c.are_visible.ensures ∙ c.if-not-are_visible.true)

pub returns-in_default : goal.returns-in_default
returns-in_default c = no_verb _ (c.in_default.ensures.none refl)

pub returns : goal.returns
returns c = c.in_ok-said.ensures ∙ by_verb _ _ _ c.in-Some.ensures.some (sym c.are_visible.ensures ∙ c.if-not-are_visible.false)
