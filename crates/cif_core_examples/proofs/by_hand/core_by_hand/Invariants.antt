use Rattle.cif_core_examples.proofs.by_hand.core_by_hand.Given as goal

abbrev pub ghosts-by_hand-N-Run : goal.ghosts-by_hand-N-Run
ghosts-by_hand-N-Run g a = record { case = a.case; plan = a.plan; window = 2; sessions = 1 }
