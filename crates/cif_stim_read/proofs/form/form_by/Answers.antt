use Rattle.std.proofs.Common.{sym, ◌∙◌}
use Rattle.cif_defs.specs.Text.{words_of}
use Rattle.cif_stimulus.specs.Versions.{version_number}
use Rattle.cif_stim_read.proofs.LineForms.{by_reg, by_mem, by_release, by_cycle, by_set, by_none}
use Rattle.cif_stim_read.proofs.form.form_by.Goals as goal

pub returns-then-is_reg : goal.returns-then-is_reg
returns-then-is_reg c = λ raw. c.in_ok-said.ensures raw ∙ by_reg raw (version_number c.args.version) c.args.verb.now (words_of c.args.text.now) (sym c.is_reg.ensures ∙ c.if-is_reg.true)

pub returns-then-is_mem : goal.returns-then-is_mem
returns-then-is_mem c = λ raw. c.in_ok-said-2.ensures raw
    ∙ by_mem raw (version_number c.args.version) c.args.verb.now (words_of c.args.text.now) (sym c.is_reg.ensures ∙ c.if-is_reg.false) (sym c.is_mem.ensures ∙ c.if-is_mem.true)

pub returns-then-is_release : goal.returns-then-is_release
returns-then-is_release c = λ raw. c.in_ok-said-3.ensures raw
    ∙ by_release raw (version_number c.args.version) c.args.verb.now (words_of c.args.text.now) (sym c.is_reg.ensures ∙ c.if-is_reg.false) (sym c.is_mem.ensures ∙ c.if-is_mem.false) (sym c.is_release.ensures ∙ c.if-is_release.true)

pub returns-then-is_cycle : goal.returns-then-is_cycle
returns-then-is_cycle c = λ raw. c.cycle_form.ensures raw
    ∙ by_cycle raw (version_number c.args.version) c.args.verb.now (words_of c.args.text.now) (sym c.is_reg.ensures ∙ c.if-is_reg.false) (sym c.is_mem.ensures ∙ c.if-is_mem.false) (sym c.is_release.ensures ∙ c.if-is_release.false) (sym c.is_cycle.ensures ∙ c.if-is_cycle.true)

pub returns-then-is_set : goal.returns-then-is_set
returns-then-is_set c = λ raw. c.in_ok-said-4.ensures raw
    ∙ by_set raw (version_number c.args.version) c.args.verb.now (words_of c.args.text.now) (sym c.is_reg.ensures ∙ c.if-is_reg.false) (sym c.is_mem.ensures ∙ c.if-is_mem.false) (sym c.is_release.ensures ∙ c.if-is_release.false) (sym c.is_cycle.ensures ∙ c.if-is_cycle.false) (sym c.is_set.ensures ∙ c.if-is_set.true)

pub returns : goal.returns
returns c = λ raw.
    by_none raw (version_number c.args.version) c.args.verb.now (words_of c.args.text.now) (sym c.is_reg.ensures ∙ c.if-is_reg.false) (sym c.is_mem.ensures ∙ c.if-is_mem.false) (sym c.is_release.ensures ∙ c.if-is_release.false) (sym c.is_cycle.ensures ∙ c.if-is_cycle.false) (sym c.is_set.ensures ∙ c.if-is_set.false)
