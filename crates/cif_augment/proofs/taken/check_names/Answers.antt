use Rattle.std.specs.Prelude.{Option, option_map, Some}
use Rattle.std.proofs.Common.{ap, sym, ◌∙◌, List, ℕ, Bor}
use Rattle.cif_augment.specs.declared.fault.InstrumentFault.TheVariants.{NameTaken}
use Rattle.cif_augment.proofs.TakenNames.{names_found}
use Rattle.cif_augment.proofs.taken.check_names.Goals as goal

abbrev seen : Option (Bor (List ℕ)) → Option (List ℕ)
seen o = option_map (λ (n : Bor (List ℕ)). n.now) o

pub returns-in-Some-clause-err : goal.returns-in-Some-clause-err
returns-in-Some-clause-err c =
    names_found c.args.netlist.now c.raw-raw.result.now c.in_ok-wanted.wanted.items c.deref.result.now (seen c.first_taken.result) c.raw-raw.ensures.is c.deref.ensures.value c.in_ok-wanted.ensures.same c.first_taken.ensures
    ∙ ap (λ (o : Option (Bor (List ℕ))). option_map NameTaken (seen o)) c.in-Some.is
    ∙ ap (λ (n : List ℕ). Some (NameTaken n)) (sym c.in_ok-copied-in-Some.ensures)

pub returns-clause-ok : goal.returns-clause-ok
returns-clause-ok c =
    names_found c.args.netlist.now c.raw-raw.result.now c.in_ok-wanted.wanted.items c.deref.result.now (seen c.first_taken.result) c.raw-raw.ensures.is c.deref.ensures.value c.in_ok-wanted.ensures.same c.first_taken.ensures
    ∙ ap (λ (o : Option (Bor (List ℕ))). option_map NameTaken (seen o)) c.in-None.is
