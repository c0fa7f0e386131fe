use Rattle.std.proofs.Common.{sym, ap, ◌∙◌, ◌++◌, ◌∷◌, []}
use Rattle.cif_defs.specs.declared.nets.Wire.{Wire}
use Rattle.cif_script.specs.Seen.{number_under}
use Rattle.cif_script.proofs.Tables.{table_added}
use Rattle.cif_script.proofs.wires.WireTable.add.Goals as goal

pub returns-clause-table : goal.returns-clause-table
returns-clause-table c =
    let old = c.args.self.now in
    table_added old (record { wires = c.push.new.self; numbers = c.insert.new.self }) c.items-2.result c.args.wire.now c.len-number.result c.requires (c.items-2.ensures ∙ c.name-2.ensures)
    (sym (c.requires c.args.wire.now.name) ∙ ap (number_under old) (sym (c.items.ensures ∙ c.name.ensures)) ∙ sym c.find.ensures ∙ c.in_default.is)
    (cc) c.in_ok-insert.ensures.updates
    (c.in_ok-push.ensures.items ∙ ap (λ (w : Wire). old.wires.items ++ w ∷ []) c.in_ok-copied.ensures)
