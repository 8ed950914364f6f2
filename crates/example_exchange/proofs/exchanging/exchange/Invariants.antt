use Rattle.example_exchange.proofs.exchanging.exchange.Given as goal

-- the channel that was just made
abbrev pub ghosts-exchange_named : goal.ghosts-exchange_named
ghosts-exchange_named g a = record { identity = a.channel }
