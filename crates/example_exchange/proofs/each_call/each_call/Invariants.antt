use Rattle.example_exchange.proofs.each_call.each_call.Given as goal

-- the channel that was just made
abbrev pub ghosts-each_call_named : goal.ghosts-each_call_named
ghosts-each_call_named g a = record { identity = a.channel }
