-- The files that a list of files tells.
use Rattle.std.specs.Prelude.{List, map}
use Rattle.cif_io.specs.Outside as outside
use Rattle.cif_io.specs.declared.lists.File.{File}

abbrev pub told_file : File → outside.File
told_file f = record { name = f.name.items; bytes = f.bytes.items }

abbrev pub told_files : List File → outside.Files
told_files fs = map told_file fs
