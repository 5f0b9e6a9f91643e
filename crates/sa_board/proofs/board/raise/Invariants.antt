use Rattle.sa_board.proofs.board.raise.Given as goal

abbrev pub ghosts-raise_by : goal.ghosts-raise_by
ghosts-raise_by a = record { left = a._desk.now }
