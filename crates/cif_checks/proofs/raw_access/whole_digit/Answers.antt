use Rattle.std.proofs.Common.{◌≡◌, ℕ, sym, ◌∙◌, ap, arith}
use Rattle.std.specs.Prelude.{unsigned_abs}
use Rattle.std.proofs.lemmas.Int.{ints, to_z-of_z}
use Rattle.cif_defs.specs.Words.{digit}
use Rattle.cif_checks.proofs.RawLaws.{whole_digit_at}
use Rattle.cif_checks.proofs.raw_access.whole_digit.Goals as goal

pub returns : goal.returns
returns c =
    let e : c.unsigned_abs.result ≡ unsigned_abs c.args.number = simp (to_z-of_z, c.ranges.number) at c.unsigned_abs.ensures.value in
    ap (λ (x : ℕ). digit x c.args.index) e ∙ sym (whole_digit_at c.args.number c.args.index (omega arith) (omega (arith, ints)))
