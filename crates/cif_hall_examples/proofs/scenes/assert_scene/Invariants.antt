use Rattle.cif_hall_examples.proofs.scenes.assert_scene.Given as goal

abbrev pub ghosts-play-N-Run : goal.ghosts-play-N-Run
ghosts-play-N-Run g a = record { case = a.case; plan = a.plan; window = 64; sessions = 4 }

abbrev pub ghosts-play-N-Ledger : goal.ghosts-play-N-Ledger
ghosts-play-N-Ledger g a = record { name = a.blank.name; parts = a.blank.parts }
