-- The table that the fields of `Shadows` stand for, and what they keep.
use Rattle.cif_shadows.specs.Tables.{ShadowTable, IsShadowTable}
use Rattle.cif_shadows.specs.declared.table.Shadows.TheInside.{Inside}

abbrev pub table_of : Inside → ShadowTable
table_of s = record { bits = s.bits.items; barred = s.barred.items }

abbrev pub IsTable : Inside → Type 0
IsTable s = IsShadowTable (table_of s)
