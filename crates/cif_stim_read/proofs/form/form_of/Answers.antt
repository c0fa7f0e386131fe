use Rattle.std.proofs.Common.{sym, ◌∙◌, refl}
use Rattle.cif_stimulus.specs.Versions.{version_number}
use Rattle.cif_stim_read.proofs.LineForms.{not_visible, no_verb, by_verb}
use Rattle.cif_stim_read.proofs.form.form_of.Goals as goal

pub returns-then-not-are_visible : goal.returns-then-not-are_visible
returns-then-not-are_visible c = λ raw. not_visible raw (version_number c.args.version) _ (sym c.are_visible.ensures ∙ c.if-not-are_visible.true)

pub returns-in_default : goal.returns-in_default
returns-in_default c = λ raw. no_verb raw (version_number c.args.version) _ (c.in_default.ensures.none refl)

pub returns : goal.returns
returns c = λ raw. c.in_ok-said.ensures raw ∙ by_verb raw (version_number c.args.version) _ _ _ c.in-Some.ensures.some (sym c.are_visible.ensures ∙ c.if-not-are_visible.false)
