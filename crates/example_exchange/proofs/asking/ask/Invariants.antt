use Rattle.example_exchange.proofs.asking.ask.Given as goal

-- the channels that were just made
abbrev pub ghosts-ask_named-J-ChannelName : goal.ghosts-ask_named-J-ChannelName
ghosts-ask_named-J-ChannelName g a = record { identity = a.questions }

abbrev pub ghosts-ask_named-K-ChannelName : goal.ghosts-ask_named-K-ChannelName
ghosts-ask_named-K-ChannelName g a = record { identity = a.replies.0 }

abbrev pub ghosts-ask_named-L-ChannelName : goal.ghosts-ask_named-L-ChannelName
ghosts-ask_named-L-ChannelName g a = record { identity = a.replies.1 }
