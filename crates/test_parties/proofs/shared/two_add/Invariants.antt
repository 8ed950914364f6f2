use Rattle.test_parties.proofs.shared.two_add.Given as goal

-- the trace that was just made
abbrev pub ghosts-two_add_named-J-TraceName : goal.ghosts-two_add_named-J-TraceName
ghosts-two_add_named-J-TraceName g a =
    record { trace_name = a.names.trace_name; positions_name = a.names.positions_name }

-- its parts
abbrev pub ghosts-two_add_named-J-Ledger : goal.ghosts-two_add_named-J-Ledger
ghosts-two_add_named-J-Ledger g a = record { name = a.parts.name; parts = a.parts.parts }
