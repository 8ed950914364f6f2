use Rattle.example_transfers.proofs.tellers.transfer.Given as goal

-- the channel that was just made
abbrev pub ghosts-transfer_named : goal.ghosts-transfer_named
ghosts-transfer_named g a = record { identity = a.channel }
