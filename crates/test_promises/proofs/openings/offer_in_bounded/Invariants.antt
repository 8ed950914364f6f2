use Rattle.test_promises.proofs.openings.offer_in_bounded.Given as goal

-- the channel that was just made
abbrev pub ghosts-offer_in_named : goal.ghosts-offer_in_named
ghosts-offer_in_named g a = record { identity = a.channel }
