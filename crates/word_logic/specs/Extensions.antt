-- Extensions of words of at most 128 bits.
use Rattle.std.specs.Prelude.{ℕ, ◌≤◌, ◌≡◌, true}
use Rattle.cif_defs.specs.declared.kinds.Kind.{Kind}
use Rattle.rule_logic.specs.LogicFormulas.{is_binary, is_unary}
use Rattle.word_logic.specs.declared.extension.Extension.{Extension}

-- from 1 to 128 bits, to 1 to 128 bits
pub record IsNarrowExtension (e : Extension) : Type 0 where
  pub some : 1 ≤ e.from
  pub limit : e.from ≤ 128
  pub some_shown : 1 ≤ e.to
  pub shown_limit : e.to ≤ 128

-- a kind and widths that go together, of 1 to 128 bits
pub record IsUnaryForm (k : Kind) (e : Extension) : Type 0 where
  pub kind : is_unary k ≡ true
  pub narrow : IsNarrowExtension e

pub record IsBinaryForm (k : Kind) (e : Extension) (m : ℕ) : Type 0 where
  pub kind : is_binary k ≡ true
  pub narrow : IsNarrowExtension e
  pub some : 1 ≤ m
  pub limit : m ≤ 128
