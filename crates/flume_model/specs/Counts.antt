-- How many senders and receivers live.
use Rattle.std.specs.Prelude.{◌==◌, ℕ, ◌+◌, ◌-◌, Bool, [], ◌∷◌}
use Rattle.flume_model.specs.Log.{Log, Change, SenderJoins, ReceiverJoins, SenderLeaves}
use Rattle.flume_model.specs.Log.{ReceiverLeaves, change}

module _ {T : Type 0} where
  -- how many senders live after a change
  abbrev pub senders_after : ℕ → Change T → ℕ
  senders_after n SenderJoins = n + 1
  senders_after n SenderLeaves = n - 1
  senders_after n _ = n

  -- how many receivers live after a change
  abbrev pub receivers_after : ℕ → Change T → ℕ
  receivers_after n ReceiverJoins = n + 1
  receivers_after n ReceiverLeaves = n - 1
  receivers_after n _ = n

module _ {T A : Type 0} where
  -- how many senders live: one at the start
  abbrev pub senders : Log T A → ℕ
  senders [] = 1
  senders (p ∷ past) = senders_after (senders past) (change past p.0 p.1)

  -- how many receivers live: one at the start
  abbrev pub receivers : Log T A → ℕ
  receivers [] = 1
  receivers (p ∷ past) = receivers_after (receivers past) (change past p.0 p.1)

  -- both sides have disconnected
  abbrev pub is_over : Log T A → Bool
  is_over log = senders log + receivers log == 0
