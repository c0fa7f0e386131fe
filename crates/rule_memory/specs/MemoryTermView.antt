-- The terms of a memory as contracts see them.
use Rattle.cif_term.specs.TermView.{formula_of}
use Rattle.rule_memory.specs.MemoryFormulas.{MemoryFormulas}
use Rattle.rule_memory.specs.declared.terms.MemoryTerms.{MemoryTerms}

abbrev pub formulas_of : MemoryTerms → MemoryFormulas
formulas_of m = record { read = formula_of m.read; enable = formula_of m.enable; word = formula_of m.word; flag = formula_of m.flag }
