-- The stops of refusals.
use Rattle.std.specs.Prelude.{ℕ, ◌≡◌, List, Option, Some, None, option_map, Vec, Result, Ok, Err, IfOk, refl}
use Rattle.std.specs.declared.alloc.Global.{Global}
use Rattle.std.specs.declared.alloc.AllocError.{AllocError}
use Rattle.std.proofs.Common.{sym, ◌∙◌, ap, subst}
use Rattle.cif_desk.specs.Refusals.{Refusal, line_of}
use Rattle.cif_desk.specs.Stops.{IsStopOf, StopsBy}
use Rattle.cif_desk.specs.declared.stop.Stop.{Stop}

-- the line of a refusal, where there is one
pub some_line : (found : Option Refusal) (line : List ℕ) → option_map line_of found ≡ Some line → (r : Refusal) × (found ≡ Some r) × (line ≡ line_of r)
some_line None line e = absurd (cc)
some_line (Some r) line e = (r, refl, cc)

pub StopsBy-found : (found : Option Refusal) (line : Result (Vec ℕ Global) AllocError) (stop : Stop) → ((v : Vec ℕ Global) → line ≡ Ok v → option_map line_of found ≡ Some v.items) → IsStopOf line stop → StopsBy (λ r. found ≡ Some r) stop
StopsBy-found found (Ok v) stop h e = let P : Stop → Type 0 = StopsBy (λ r. found ≡ Some r) in subst P (sym e) (some_line found v.items (h v refl))
StopsBy-found found (Err none) stop h e = let P : Stop → Type 0 = StopsBy (λ r. found ≡ Some r) in subst P (sym e) tt

pub StopsBy-one : (one : Refusal) (line : Result (Vec ℕ Global) AllocError) (stop : Stop) → ((v : Vec ℕ Global) → line ≡ Ok v → v.items ≡ line_of one) → IsStopOf line stop → StopsBy (λ r. one ≡ r) stop
StopsBy-one one (Ok v) stop h e = let P : Stop → Type 0 = StopsBy (λ r. one ≡ r) in subst P (sym e) (one, refl, h v refl)
StopsBy-one one (Err none) stop h e = let P : Stop → Type 0 = StopsBy (λ r. one ≡ r) in subst P (sym e) tt

-- the line of a fault, by the refusal that it has
pub told : (found : Option Refusal) (one : Refusal) (line : Result (Vec ℕ Global) AllocError) → found ≡ Some one → IfOk line (λ v. v.items ≡ line_of one) → IfOk line (λ v. option_map line_of found ≡ Some v.items)
told found one (Ok v) e h = ap (option_map line_of) e ∙ ap (λ (t : List ℕ). Some t) (sym h)
told found one (Err none) e h = tt
