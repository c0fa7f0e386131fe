use Rattle.std.proofs.Common.{◌≡◌, Option, None, sym, ap, ◌∙◌}
use Rattle.std.specs.Prelude.{ℕ, nat_lt, Bool, not, ◌&&◌, [], unwrap_or, option_map}
use Rattle.cif_defs.specs.Words.{bit, word}
use Rattle.cif_defs.specs.Table.{param_text}
use Rattle.cif_defs.specs.RawModule.{digits_read, value_named}
use Rattle.cif_defs.specs.declared.raw_module.ParamValue.{ParamValue}
use Rattle.cif_checks.specs.Checks.{has_digit}
use Rattle.cif_checks.proofs.MaskLaws.{no_digits, last_wanted, last_unwanted}
use Rattle.cif_checks.proofs.parameters.has_mask_digit.Goals as goal

-- without a value all digits are 0
absent : (d : Bool) (count : ℕ) (o : Option ParamValue) → o ≡ None → has_digit d (word count (λ i. bit (unwrap_or (option_map digits_read o) []) i)) ≡ (not d && nat_lt 0 count)
absent d count o e = ap (λ (v : Option ParamValue). has_digit d (word count (λ i. bit (unwrap_or (option_map digits_read v) []) i))) e ∙ no_digits d count

pub returns-then-not-wanted : goal.returns-then-not-wanted
returns-then-not-wanted c =
    let e : value_named (param_text c.args.mask) c.args.cell.now.parameters ≡ None = sym c.in-None.ensures in
    last_wanted _ _ _ c.if-not-wanted.true (absent c.args.wanted c.args.ports _ e)

pub returns-else-not-wanted : goal.returns-else-not-wanted
returns-else-not-wanted c =
    let e : value_named (param_text c.args.mask) c.args.cell.now.parameters ≡ None = sym c.in-None.ensures in
    last_unwanted _ _ _ c.if-not-wanted.false (absent c.args.wanted c.args.ports _ e)
