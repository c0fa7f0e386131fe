-- The cells pass their checks.
use Rattle.std.specs.Prelude.{ℕ, ◌≡◌, List, ◌++◌, None}
use Rattle.std.proofs.Common.{inl, inr}
use Rattle.cif_defs.specs.declared.raw_module.RawCell.{RawCell}
use Rattle.cif_defs.specs.declared.raw_module.Raw.{Raw}
use Rattle.cif_checks.specs.Checks.{cell_fault, first_fault}
use Rattle.cif_nets.proofs.Passed.{each_passes}
use Rattle.cif_emit.specs.Emitted.{IsPlainCell}
use Rattle.cif_built.specs.Makings.{IsStateCell, state_cells}
use Rattle.cif_built.specs.Built.{IsBuilt}
use Rattle.cif_built_form.proofs.Lists.{each_has}
use Rattle.cif_built_form.proofs.Passing.{all_pass}
use Rattle.cif_built_form.proofs.New.{IsNew, old_or_new}

module _ (n : Raw) (released : List ℕ) (a : Raw) (b : IsBuilt n released a) where
  pub new_passes : (d : RawCell) → IsNew n released a b d → cell_fault d ≡ None
  new_passes d is = elim is.place [
    | inl h ↦ (each_has IsStateCell (state_cells is.making) d is.is_making.state h).passes
    | inr h ↦ (each_has IsPlainCell (is.making.showing ++ is.making.storing) d is.is_making.plain h).passes
  ]

  pub cells_pass : first_fault cell_fault n.cells ≡ None → first_fault cell_fault a.cells ≡ None
  cells_pass h = all_pass cell_fault a.cells (λ d k. elim (old_or_new n released a b d k) [ inl o ↦ each_passes cell_fault n.cells d h o | inr w ↦ new_passes d w ])
