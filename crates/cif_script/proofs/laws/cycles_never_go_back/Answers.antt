use Rattle.cif_script.proofs.Transcripts.{transcript_rises}
use Rattle.cif_script.proofs.laws.cycles_never_go_back.Goals as goal

pub returns : goal.returns
returns c = transcript_rises
