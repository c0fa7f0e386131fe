-- What is settled in place is what is handed back.
use Rattle.std.proofs.Common.{refl, ◌∙◌, ◌≡◌, ◌++◌, ap, arith, drop, length, take}
use Rattle.cif_seq.proofs.Slices.{whole_slice}
use Rattle.cif_seq.proofs.settle.settled.Goals as goal

pub returns-clause-shown : goal.returns-clause-shown
returns-clause-shown c = λ covered k h b e.
    let size : length c.settle.new.values ≡ length c.args.begun.values.items = c.settle.ensures.values_length ∙ ap length c.deref_mut.ensures.value in
    let taint_size : length c.settle.new.taints ≡ length c.args.begun.taints.items = c.settle.ensures.taints_length ∙ ap length c.deref_mut-2.ensures.value in
    let whole : take c.args.begun.values.len (c.settle.new.values ++ drop (length c.settle.new.values) c.args.begun.values.items) ≡ c.settle.new.values = whole_slice c.args.begun.values.len c.settle.new.values c.args.begun.values.items size (omega (arith, c.deref_mut.ensures.len)) in
    let whole_taints : take c.args.begun.taints.len (c.settle.new.taints ++ drop (length c.settle.new.taints) c.args.begun.taints.items) ≡ c.settle.new.taints =
    whole_slice c.args.begun.taints.len c.settle.new.taints c.args.begun.taints.items taint_size (omega (arith, c.deref_mut-2.ensures.len)) in
    let shows = c.in_ok-settle.ensures.shown refl covered k (rw (c.deref_mut.ensures.value, c.deref_mut-2.ensures.value, c.deref_mut-3.ensures.value) h) b e in
    rw (whole, whole_taints) shows
