-- Scopes as lists.
use Rattle.std.specs.Prelude.{List, [], ◌∷◌}
use Rattle.cif_term.specs.declared.scope.Scope.{Scope, fold-Scope}
use Rattle.cif_term.specs.declared.scope.Scope.TheOpen.{Scope-F}

abbrev pub scope_step : {T : Type 0} → Scope-F T (List T) → List T
scope_step (Scope-F.Outside) = []
scope_step (Scope-F.Inside named outer) = named.now ∷ outer.now

-- what enclosing Lets name, the nearest first
abbrev pub named_in : {T : Type 0} → Scope T → List T
named_in {T} = fold-Scope T (List T) scope_step
