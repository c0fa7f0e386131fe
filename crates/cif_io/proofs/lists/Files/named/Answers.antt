use Rattle.std.proofs.Common.{ap, ◌∙◌}
use Rattle.cif_io.specs.Outside.{Files, file_named}
use Rattle.cif_io.proofs.NamedFiles.{option_map-find}
use Rattle.cif_io.proofs.lists.Files.named.Goals as goal

pub returns : goal.returns
returns c =
    let told = option_map-find c.self.inside.items.items c.args.name.now in
    rw (c.first_named.ensures, c.as_slice.ensures.value) (told ∙ ap (λ (fs : Files). file_named fs c.args.name.now) c.self.view_is)
