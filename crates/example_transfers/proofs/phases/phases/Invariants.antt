use Rattle.example_transfers.proofs.phases.phases.Given as goal

-- the channel that was just made
abbrev pub ghosts-phases_named : goal.ghosts-phases_named
ghosts-phases_named g a = record { identity = a.channel }
