use Rattle.std.proofs.Common.{◌∙◌, sym, ap, map, reverse}
use Rattle.std.specs.List.{list_any}
use Rattle.cif_stimulus.proofs.Fits.{any_before}
use Rattle.cif_stimulus.specs.StimulusView.{line_seen}
use Rattle.cif_stimulus.specs.Fitting.{is_reg_of, is_mem_of, is_release_of, is_again}
use Rattle.cif_stimulus.proofs.fitting.is_again.Goals as goal

pub returns-in-Reg : goal.returns-in-Reg
returns-in-Reg c =
    let before = reverse (map line_seen c.args.before.now) in
    c.has_reg.ensures
    ∙ any_before (is_reg_of c.items.result.now) c.args.before.now
    ∙ ap (λ name. list_any (is_reg_of name) before) c.items.ensures
    ∙ ap (λ line. is_again (line_seen line) before) (sym c.in-Reg.is)

pub returns-in-Mem : goal.returns-in-Mem
returns-in-Mem c =
    let before = reverse (map line_seen c.args.before.now) in
    c.has_mem.ensures
    ∙ any_before (is_mem_of c.items-in-Mem.result.now c.in-Mem.address) c.args.before.now
    ∙ ap (λ name. list_any (is_mem_of name c.in-Mem.address) before) c.items-in-Mem.ensures
    ∙ ap (λ line. is_again (line_seen line) before) (sym c.in-Mem.is)

pub returns-in-Release : goal.returns-in-Release
returns-in-Release c =
    let before = reverse (map line_seen c.args.before.now) in
    c.has_release.ensures
    ∙ any_before (is_release_of c.items-in-Release.result.now) c.args.before.now
    ∙ ap (λ name. list_any (is_release_of name) before) c.items-in-Release.ensures
    ∙ ap (λ line. is_again (line_seen line) before) (sym c.in-Release.is)
