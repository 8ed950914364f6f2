use Rattle.bench_channel.proofs.bench.Bench.audit_pair.Given as goal

abbrev pub ghosts-audit_pair_under : goal.ghosts-audit_pair_under
ghosts-audit_pair_under g a = record { name = a.blank.name; parts = a.blank.parts }
