use Rattle.example_exchange.proofs.pooling.pool.Given as goal

-- the channels that were just made
abbrev pub ghosts-pool_named-J-ChannelName : goal.ghosts-pool_named-J-ChannelName
ghosts-pool_named-J-ChannelName g a = record { identity = a.jobs }

abbrev pub ghosts-pool_named-K-ChannelName : goal.ghosts-pool_named-K-ChannelName
ghosts-pool_named-K-ChannelName g a = record { identity = a.results }
