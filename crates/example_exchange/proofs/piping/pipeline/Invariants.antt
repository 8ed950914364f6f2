use Rattle.example_exchange.proofs.piping.pipeline.Given as goal

-- the channels that were just made
abbrev pub ghosts-pipeline_named-J-ChannelName : goal.ghosts-pipeline_named-J-ChannelName
ghosts-pipeline_named-J-ChannelName g a = record { identity = a.first }

abbrev pub ghosts-pipeline_named-K-ChannelName : goal.ghosts-pipeline_named-K-ChannelName
ghosts-pipeline_named-K-ChannelName g a = record { identity = a.second }
