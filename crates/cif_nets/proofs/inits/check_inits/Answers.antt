use Rattle.std.proofs.Common.{ℕ, List, Option, IfErr, map, sym, subst, ap, ◌∙◌}
use Rattle.std.specs.List.{flat_map}
use Rattle.cif_defs.specs.Table.{kind_of}
use Rattle.cif_defs.specs.declared.raw_module.RawCell.{RawCell}
use Rattle.cif_checks.specs.declared.fault.BuildFault.{BuildFault}
use Rattle.cif_checks.specs.Checks.{IsFirst, has_number, register_numbers_by}
use Rattle.cif_nets.proofs.InitLaws.{inits_checked}
use Rattle.cif_nets.proofs.NetLaws.{numbers_increase}
use Rattle.cif_nets.proofs.inits.check_inits.Goals as goal

abbrev numbers : List RawCell → List ℕ
numbers cells = flat_map (λ (x : RawCell). register_numbers_by x (kind_of x.kind)) cells

pub register_marks-requires : goal.register_marks-requires
register_marks-requires c = numbers_increase c.args.known.now c.args.numbers.now c.requires.numbers

pub returns-clause-ok : goal.returns-clause-ok
returns-clause-ok c is_ok =
    sym (inits_checked c.args.known.now c.args.numbers.now c.deref.result.now c.args.inits.now c.requires.numbers
    (c.deref.ensures.value ∙ c.in_ok-marks.ensures ∙ ap (λ (cells : List RawCell). map (λ (n : ℕ). has_number n (numbers cells)) c.args.numbers.now) c.cells.ensures) c.requires.inits)
    ∙ c.check_conflicts.ensures.ok is_ok

pub returns-clause-err : goal.returns-clause-err
returns-clause-err c =
    let P : Option BuildFault → Type 0 = λ found. IfErr c.check_conflicts.result (λ e. IsFirst found e) in
    subst P
    (inits_checked c.args.known.now c.args.numbers.now c.deref.result.now c.args.inits.now c.requires.numbers
    (c.deref.ensures.value ∙ c.in_ok-marks.ensures ∙ ap (λ (cells : List RawCell). map (λ (n : ℕ). has_number n (numbers cells)) c.args.numbers.now) c.cells.ensures) c.requires.inits)
    c.check_conflicts.ensures.err
