use Rattle.test_histories.proofs.books.each_growth.Given as goal

abbrev pub ghosts-play : goal.ghosts-play
ghosts-play g a = record { name = a.blank.name; parts = a.blank.parts }
