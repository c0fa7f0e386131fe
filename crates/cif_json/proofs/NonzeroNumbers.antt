-- Numbers other than zero.
use Rattle.std.specs.Prelude.{◌≡◌, Float, Some, None}
use Rattle.std.specs.Float.Ieee.{ne}
use Rattle.std.proofs.Common.{ap}
use Rattle.serde_json.specs.Data.{Num, unsigned, negative, float}
use Rattle.serde_json.specs.Find.{as_integer, to_float}
use Rattle.cif_json.specs.declared.scalar.TheConstants.{FLOAT_ZERO}
use Rattle.cif_json.specs.Shape.{is_other_than_zero}

pub nonzero_float : (n : Num) (f : Float) → None ≡ as_integer n → Some f ≡ Some (to_float n) → ne f FLOAT_ZERO ≡ is_other_than_zero n
nonzero_float (unsigned n) f e h = absurd (cc)
nonzero_float (negative z) f e h = absurd (cc)
nonzero_float (float x) f e h = let same : f ≡ x = (cc) in ap (λ y. ne y FLOAT_ZERO) same
