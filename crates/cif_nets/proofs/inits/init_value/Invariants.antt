use Rattle.std.proofs.Common.{◌≡◌, drop, codes}
use Rattle.cif_defs.specs.RawModule.{value_named}
use Rattle.cif_nets.proofs.inits.init_value.Given as goal

abbrev pub invariant-loop-attribute : goal.invariant-loop-attribute
invariant-loop-attribute l = value_named (codes "init") (drop l.attribute-index l.attributes) ≡ value_named (codes "init") l.attributes
