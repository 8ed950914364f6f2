use Rattle.test_histories.proofs.threads.an_audit_with_no_step_settles_with_its_capacity.Given as goal

abbrev pub ghosts-audit_threads : goal.ghosts-audit_threads
ghosts-audit_threads g a = record { name = a.blank.name; parts = a.blank.parts }
