-- The maker that the fields of a `NameMaker` stand for, and what they keep.
use Rattle.cif_emit.specs.Makers.{Maker}
use Rattle.cif_emit.specs.Counting.{maker_from, AreCounts}
use Rattle.cif_emit.specs.declared.names.NameMaker.TheInside.{Inside}

abbrev pub maker_of : Inside → Maker
maker_of a = maker_from a.used a.cell a.counts

abbrev pub IsMaker : Inside → Type 0
IsMaker a = AreCounts a.used a.counts
