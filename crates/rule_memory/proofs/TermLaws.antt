-- The formulas of a memory are right.
use Rattle.std.specs.Prelude.{◌≡◌}
use Rattle.std.proofs.Common.{sym, subst}
use Rattle.cif_defs.specs.Kinds.{role_of}
use Rattle.cif_defs.specs.Cells.{Cell, number_of, shape_of, width}
use Rattle.cif_defs.specs.declared.kinds.Param.TheVariants.{Abits}
use Rattle.cif_defs.specs.declared.kinds.Role.TheVariants.{MemoryBlock}
use Rattle.cif_kinds.specs.StateCells.{HasMemoryNumbers}
use Rattle.rule_memory.specs.MemoryFormulas.{MemoryFormulas, word_formula, enable_formula, flag_formula, memory_formulas, read_formula}
use Rattle.rule_memory.specs.MemoryTaints.{AreMemoryTaints, AreStoredTaint, IsFlagAfter, IsReadTaint}
use Rattle.rule_memory.proofs.Forms.{cost_within, word_formed, enable_formed, flag_formed, narrow, read_formed}
use Rattle.rule_memory.proofs.PortValues.{flag_value, read_value}
use Rattle.rule_memory.proofs.StoredTaint.{taint_stored}

pub read_right : (c : Cell) → HasMemoryNumbers c → IsReadTaint c (read_formula (width c))
read_right c h = record { formed = read_formed (width c) (number_of c Abits) (narrow c h); means = read_value (shape_of c) }

pub stored_right : (c : Cell) → HasMemoryNumbers c → AreStoredTaint c (enable_formula (width c)) word_formula
stored_right c h = record {
  enable_formed = enable_formed (width c) (number_of c Abits) (narrow c h);
  word_formed = word_formed (width c) (number_of c Abits) (narrow c h);
  means = taint_stored (shape_of c);
}

pub flag_right : (c : Cell) → HasMemoryNumbers c → IsFlagAfter c flag_formula
flag_right c h = record { formed = flag_formed (width c) (number_of c Abits) (narrow c h); means = flag_value (shape_of c) }

pub memory_right : (c : Cell) → role_of c.kind ≡ MemoryBlock → HasMemoryNumbers c → AreMemoryTaints c (memory_formulas (width c))
memory_right c role h = record { read = read_right c h; stored = stored_right c h; flag = flag_right c h; cost = cost_within c role h }

pub right_of : (c : Cell) (fs : MemoryFormulas) → role_of c.kind ≡ MemoryBlock → HasMemoryNumbers c → fs ≡ memory_formulas (width c) → AreMemoryTaints c fs
right_of c fs role h e = subst (λ (x : MemoryFormulas). AreMemoryTaints c x) (sym e) (memory_right c role h)
