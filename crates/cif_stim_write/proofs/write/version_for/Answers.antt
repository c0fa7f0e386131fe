use Rattle.std.proofs.Common.{true, false, sym}
use Rattle.cif_stim_write.proofs.WrittenParts.{version_as}
use Rattle.cif_stim_write.proofs.write.version_for.Goals as goal

pub returns-then-some_releases : goal.returns-then-some_releases
returns-then-some_releases c = sym (version_as c.args.lines.now true (cc))

pub returns-else-some_releases : goal.returns-else-some_releases
returns-else-some_releases c = sym (version_as c.args.lines.now false (cc))
