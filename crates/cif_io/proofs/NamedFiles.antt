-- What is told of a file by its name.
use Rattle.std.specs.Prelude.{ℕ, ◌≡◌, Bool, true, false, List, [], ◌∷◌, Option, Some, find, option_map, bytes_eq, cond, refl}
use Rattle.cif_io.specs.Outside.{file_named}
use Rattle.cif_io.specs.ToldFiles.{told_files}
use Rattle.cif_io.specs.declared.lists.File.{File}

-- one step of both searches
step : (b : Bool) (f : File) (found : Option File) (told : Option (List ℕ)) → option_map (λ (x : File). x.bytes.items) found ≡ told
    → option_map (λ (x : File). x.bytes.items) (cond b (Some f) found) ≡ cond b (Some f.bytes.items) told
step true f found told e = refl
step false f found told e = e

-- the first file of a name is told as what it holds
pub option_map-find : (files : List File) (name : List ℕ) → option_map (λ (f : File). f.bytes.items) (find (λ f. bytes_eq f.name.items name) files) ≡ file_named (told_files files) name
option_map-find [] name = refl
option_map-find (f ∷ files) name = step (bytes_eq f.name.items name) f _ _ (option_map-find files name)
