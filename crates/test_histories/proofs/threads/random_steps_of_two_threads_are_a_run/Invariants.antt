use Rattle.test_histories.proofs.threads.random_steps_of_two_threads_are_a_run.Given as goal

abbrev pub ghosts-audit_threads : goal.ghosts-audit_threads
ghosts-audit_threads g a = record { name = a.blank.name; parts = a.blank.parts }
