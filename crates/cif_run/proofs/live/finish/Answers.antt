use Rattle.std.proofs.Common.{◌≡◌, ◌*◌, ap, false, length, rules, sum, ◌∙◌}
use Rattle.cif_seq.specs.Cases.{net_of}
use Rattle.cif_run.proofs.Listing.{told_run}
use Rattle.cif_run.proofs.live.finish.Goals as goal

pub returns : goal.returns
returns g c =
    let case = g.N.Run.case in let script = g.N.Scripted.script in
    let ts = c.in_ok-transcripts.transcripts.items in let cs = c.in_ok-counts.counts.items in
    let sessions : length ts ≡ length script.sessions = search rules in
    let workers : length cs ≡ c.args.size.workers = search rules in
    let whole : c.in_ok-failed.field-0.failed ≡ false = search rules in
    let parts : g.N.Run.plan.parts ≡ c.args.size.parts = search rules in
    let pieces : sum cs ≡ case.stimulus.cycles * g.N.Run.plan.parts = search rules in
    told_run (net_of case) case.stimulus script c.args.size c.of.result ts cs c.of.ensures sessions c.in_ok-transcripts.ensures.legal workers (pieces ∙ ap (λ k. case.stimulus.cycles * k) parts)
