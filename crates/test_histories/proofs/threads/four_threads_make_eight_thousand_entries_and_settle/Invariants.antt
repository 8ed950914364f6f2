use Rattle.test_histories.proofs.threads.four_threads_make_eight_thousand_entries_and_settle.Given as goal

abbrev pub ghosts-audit_threads : goal.ghosts-audit_threads
ghosts-audit_threads g a = record { name = a.blank.name; parts = a.blank.parts }
