use Rattle.std.proofs.Common.{◌≡◌}
use Rattle.serde_json.specs.View.{members_view}
use Rattle.cif_json.specs.Top.{tops_of}
use Rattle.cif_json.proofs.TopLaws.{found_before}
use Rattle.cif_json.proofs.top.only_top.Given as goal

abbrev pub invariant-loop-name : goal.invariant-loop-name
invariant-loop-name l = tops_of (members_view l.fn.modules.entries) ≡ found_before l.top (tops_of (members_view l.name-iterator))
