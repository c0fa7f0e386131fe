-- The comparison of two kinds.
use Rattle.std.specs.Prelude.{◌≡◌, Bool, IsTrue}
use Rattle.std.proofs.Common.{sym, ◌∙◌}
use denote.Enum.Bare.{sameb, same_true, true_same}
use Rattle.cif_defs.specs.declared.kinds.Kind.{Kind}
use Rattle.cif_defs.specs.contracts.kinds.Kind.{the_type}

-- what the comparison answers tells whether the kinds are the same
pub kinds_compared : (k l : Kind) (b : Bool) → b ≡ sameb the_type k l → (IsTrue b → k ≡ l) × (k ≡ l → IsTrue b)
kinds_compared k l b e = (λ h. same_true the_type tt k l (sym e ∙ h), λ q. e ∙ true_same the_type k l q)
