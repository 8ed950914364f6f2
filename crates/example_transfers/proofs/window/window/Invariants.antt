use Rattle.example_transfers.proofs.window.window.Given as goal

-- the channel that was just made
abbrev pub ghosts-window_named : goal.ghosts-window_named
ghosts-window_named g a = record { identity = a.channel }
