use Rattle.std.proofs.Common.{arith, ◌≡◌, true, sym, ap, ◌∙◌}
use Rattle.std.proofs.lemmas.Grind.{common_steps}
use Rattle.std.specs.List.{list_all}
use Rattle.cif_stim_write.specs.Ranges.{is_in_range}
use Rattle.cif_stimulus.specs.StimulusText.{stimulus_text, stimulus_read}
use Rattle.cif_stim_write.proofs.RoundTrip.{read_back}
use Rattle.cif_stim_write.proofs.write.write_stimulus.Goals as goal

pub returns-clause-back : goal.returns-clause-back
unfolding stimulus_text
returns-clause-back c =
    let s = c.args.stimulus.now in
    let range : list_all is_in_range s.lines ≡ true = ap (list_all is_in_range) (sym c.lines-lines.ensures.value) ∙ c.in_ok-push_lines.ensures.range in
    let e : c.push_lines.new.text.items ≡ stimulus_text s = grind (arith, common_steps) in
    λ raw fits. ap (stimulus_read raw) e ∙ read_back raw s c.lines-lines.ensures.ordered range fits
