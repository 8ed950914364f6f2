-- For every contract: what becomes of the notice that a blocked send or a parked receiver left.
use Rattle.std.specs.Prelude.{true, false, Option, Some, None}
use Rattle.flume_state.specs.declared.notice.Notice.{Notice}

module _ {S : Type 0} where
  -- a new one, with this signal: it isn't due
  abbrev pub new_notice : S → Notice S
  new_notice signal = record { signal = signal; due = false }

  -- one that becomes due
  abbrev pub due_now : Notice S → Notice S
  due_now n = record n { due = true }

  -- one that is due no more
  abbrev pub no_longer_due : Notice S → Notice S
  no_longer_due n = record n { due = false }

  -- one with another signal, if one is given
  abbrev pub with_signal : Option S → Notice S → Notice S
  with_signal None n = n
  with_signal (Some signal) n = record n { signal = signal }
