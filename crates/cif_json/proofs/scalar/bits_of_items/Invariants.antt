use Rattle.std.proofs.Common.{◌≡◌, drop}
use Rattle.serde_json.specs.View.{items_view}
use Rattle.cif_json.specs.Shape.{bits_of_items}
use Rattle.cif_json.proofs.Folds.{more_bits}
use Rattle.cif_json.proofs.scalar.bits_of_items.Given as goal

abbrev pub invariant-loop-item : goal.invariant-loop-item
invariant-loop-item l = bits_of_items (items_view l.items) ≡ more_bits l.bits.items (bits_of_items (items_view (drop l.item-index l.items)))
