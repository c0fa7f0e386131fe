-- The ports of a register with asynchronous reset.
use Rattle.std.specs.Prelude.{ℕ, ◌≡◌, Bool}
use Rattle.std.proofs.Common.{ap}
use Rattle.cif_defs.specs.Kinds.{role_of}
use Rattle.cif_defs.specs.Cells.{Cell}
use Rattle.cif_defs.specs.Fitted.{IsFitted}
use Rattle.cif_defs.specs.Run.{operand_words}
use Rattle.cif_defs.specs.declared.kinds.Role.TheVariants.{ResetRegister}
use Rattle.cif_defs.specs.Kinds.{is_register}
use Rattle.cif_kinds.specs.StateCells.{HasRegisterPorts}
use Rattle.cif_kinds.proofs.RegisterCells.{register_ports}
use Rattle.cif_register_bits.proofs.SourceWidths.{words_wide}

pub ports_of_register : (c : Cell) (v : ℕ → Bool) → role_of c.kind ≡ ResetRegister → IsFitted c → HasRegisterPorts c (operand_words v c)
ports_of_register c v e f = register_ports c (operand_words v c) (ap is_register e) f (words_wide v c.operands)
