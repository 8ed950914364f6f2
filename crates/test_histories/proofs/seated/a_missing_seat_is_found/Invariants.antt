use Rattle.test_histories.proofs.seated.a_missing_seat_is_found.Given as goal

abbrev pub ghosts-close_new_book : goal.ghosts-close_new_book
ghosts-close_new_book g a = record { name = a.blank.name; parts = a.blank.parts }
