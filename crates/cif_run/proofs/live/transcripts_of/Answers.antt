use Rattle.std.proofs.Common.{◌≡◌, ◌+◌, ℕ, length, rules, subst, vec_len}
use Rattle.cif_seq.specs.Cases.{net_of}
use Rattle.cif_script.specs.Legal.{IsTranscript}
use Rattle.cif_run.specs.Runs.{lines_at}
use Rattle.cif_run.proofs.Listing.{legal_more}
use Rattle.cif_run.proofs.live.transcripts_of.Goals as goal

pub loop-reader-preserved : goal.loop-reader-preserved
loop-reader-preserved g c =
    let was = c.loop-reader.invariant in let step = c.in-Some.ensures.steps in let done = length c.loop-reader.transcripts.items in
    let case = g.N.Run.case in let script = g.N.Scripted.script in
    let next : c.in-Some.reader.number ≡ done = let h = was.1 0 c.in-Some.reader in grind rules in
    let grown : vec_len c.push.new.self ≡ done + 1 = search rules in
    let P : ℕ → Type 0 = λ i. IsTranscript (net_of case) case.stimulus script.wires (lines_at script.sessions i) c.in-Some-into_transcript.transcript in (
      search rules,
      (λ k d below. let h = was.1 (k + 1) d in grind rules),
      legal_more (net_of case) case.stimulus script c.loop-reader.transcripts.items c.push.new.self.items c.in-Some-into_transcript.transcript was.2 (subst P next c.in-Some-into_transcript.ensures) c.in_ok-push.ensures.items,
    )
