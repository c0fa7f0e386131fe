-- Scopes as lists.
use Rattle.std.specs.Prelude.{List, [], ◌∷◌}
use Rattle.cif_defs.specs.declared.raw_module.RawBit.{RawBit}
use Rattle.cif_emit.specs.declared.scope.Scope.{Scope, fold-Scope}
use Rattle.cif_emit.specs.declared.scope.Scope.TheOpen.{Scope-F}

abbrev pub scope_step : Scope-F (List (List RawBit)) → List (List RawBit)
scope_step (Scope-F.Outside) = []
scope_step (Scope-F.Inside named outer) = named.now ∷ outer.now

-- what enclosing Lets name, the nearest first
abbrev pub named_in : Scope → List (List RawBit)
named_in = fold-Scope (List (List RawBit)) scope_step
