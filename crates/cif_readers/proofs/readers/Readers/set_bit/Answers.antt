use Rattle.cif_readers.proofs.NoteLaws.{set_noted}
use Rattle.cif_readers.proofs.readers.Readers.set_bit.Goals as goal

pub returns-then-write_bit-clause-notes : goal.returns-then-write_bit-clause-notes
returns-then-write_bit-clause-notes c = λ n table all.
    set_noted n _ _ _ _ c.args.net c.args.value c.args.taint _ _ c.write_bit.ensures.values c.write_bit.ensures.taints all c.mark.ensures.kept (c.mark.ensures.marked n table)
