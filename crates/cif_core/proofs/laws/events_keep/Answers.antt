use Rattle.cif_core.proofs.KeptState.{taken-few}
use Rattle.cif_core.proofs.EventLists.{keeps-all, frames-few}
use Rattle.cif_core.proofs.laws.events_keep.Goals as goal

pub returns : goal.returns
returns c = record {
  kept = keeps-all;
  frames = λ c n w q events s some h. frames-few c n w q s (keeps-all c n w q events s some h);
  taken = λ c n w q events s some h. taken-few c n w q s (keeps-all c n w q events s some h);
}
