use Rattle.tao_turn.proofs.lock.TurnLock.split.Given as goal

abbrev pub ghosts-split_at : goal.ghosts-split_at
ghosts-split_at g a = record { number = a.share }
