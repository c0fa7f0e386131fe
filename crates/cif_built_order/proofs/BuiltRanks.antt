-- The cells of a module that is built to augment another have ranks.
use Rattle.std.specs.Prelude.{ℕ, List}
use Rattle.cif_defs.specs.Order.{IsInOrder}
use Rattle.cif_defs.specs.Accepted.{netlist_of}
use Rattle.cif_defs.specs.Loop.{IsLevelled}
use Rattle.cif_defs.specs.declared.raw_module.Raw.{Raw}
use Rattle.cif_checks.specs.Checks.{IsAccepted, IsWellFormed}
use Rattle.cif_cells.proofs.CountLaws.{accepted_apart}
use Rattle.cif_built.specs.Built.{IsBuilt}
use Rattle.cif_nets.proofs.Passed.{passed, passes_form}
use Rattle.cif_raw_runs.specs.Ranks.{AreRanks}
use Rattle.cif_built_order.proofs.Parts.{Building}
use Rattle.cif_built_order.proofs.AllCells.{in_layout, layout, layout_in_turn, layout_there}
use Rattle.cif_built_order.proofs.TurnRanks.{ranks_in_turn}

building : (n a : Raw) (released : List ℕ) → IsAccepted n → IsBuilt n released a → IsWellFormed a → Building n a
building n a released accepted built form = record { released = released; built = built; form = ((accepted_apart n).0 accepted).1; passed = passed n accepted; passed_there = passes_form a form }

ranks_of : (n a : Raw) (b : Building n a) (order : List ℕ) → IsLevelled (netlist_of n) order → IsInOrder a → (r : ℕ → ℕ) × AreRanks (netlist_of a) r
ranks_of n a b order levelled sorted =
    ranks_in_turn a (layout n b.built.makings order) b.passed_there
    (record { there = layout_there n a b order; each = λ d h k. in_layout n a b order d levelled h k; turn = layout_in_turn n a b order levelled }) sorted

pub built_ranks : (n a : Raw) (released order : List ℕ) → IsAccepted n → IsLevelled (netlist_of n) order → IsInOrder a → IsBuilt n released a → IsWellFormed a → (r : ℕ → ℕ) × AreRanks (netlist_of a) r
built_ranks n a released order accepted levelled sorted built form = ranks_of n a (building n a released accepted built form) order levelled sorted
