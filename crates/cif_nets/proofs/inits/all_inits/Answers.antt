use Rattle.cif_nets.proofs.InitLaws.{all_inits_written}
use Rattle.cif_nets.proofs.inits.all_inits.Goals as goal

pub returns : goal.returns
returns c =
    all_inits_written c.args.numbers.now c.in_ok-inits.inits.items c.deref_mut.result.now c.record_names.new.inits c.in_ok-inits.inits.len c.args.names.now
    (c.in_ok-inits.ensures.items_if_clones_equal (λ y h. h)) c.in_ok-inits.inits.ok.0 c.deref_mut.ensures.value c.record_names.ensures
