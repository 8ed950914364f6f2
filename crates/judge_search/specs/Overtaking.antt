-- When a queued message can't be received as recorded: another one overtakes it.
use Rattle.std.specs.Prelude.{◌≡◌, ◌<◌, ℕ, ◌+◌, Bool, true, false, not, ◌&&◌, List, ◌∷◌, ◌++◌, drop}
use Rattle.std.specs.Prelude.{take, Option, Some, None}
use Rattle.std.specs.List.{list_any}
use Rattle.std.specs.Option.{option_map_or}
use Rattle.judge_calls.specs.declared.call.Call.{Call}
use Rattle.judge_calls.specs.declared.call.Answer.TheVariants.{Got}
use Rattle.judge_calls.specs.declared.event.Event.{Event}
use Rattle.judge_calls.specs.declared.event.Event.TheVariants.{Begins, Returns}
use Rattle.judge_calls.specs.Patterns.{begins_send}
use Rattle.judge_search.specs.declared.configuration.OpenCall.{OpenCall}
use Rattle.judge_search.specs.declared.configuration.Progress.{Progress}
use Rattle.judge_search.specs.declared.configuration.Progress.TheVariants.{Begun, Tried, Done}
use Rattle.judge_search.specs.Configurations.{State, message_at, call_by}

-- whether a call has its answer
abbrev pub is_done : Progress → Bool
is_done Done = true
is_done _ = false

-- whether a call has neither parked nor an answer
abbrev pub is_trying : Progress → Bool
is_trying Begun = true
is_trying Tried = true
is_trying _ = false

-- the same of an open call, if there is one
abbrev pub is_trying_if : Option OpenCall → Bool
is_trying_if None = true
is_trying_if (Some call) = is_trying call.progress

module _ {T A : Type 0} (events : List (Event T A)) (such : T → Bool) where
  -- whether the call at a place sends such a message
  abbrev pub sends_at : ℕ → Bool
  sends_at place = option_map_or such (message_at events place) false

  -- whether the call at one of these places does
  abbrev pub some_sends : List ℕ → Bool
  some_sends places = list_any sends_at places

  -- whether one of these open calls may still do
  abbrev pub may_send : List OpenCall → Bool
  may_send calls = list_any (λ call. not (is_done call.progress) && sends_at call.place) calls

module _ {T A : Type 0} (equal : T → T → Bool) (events : List (Event T A)) where
  -- before the event at a place, each `first` is among the first of the queue, and no `second` is;
  -- but `second` is received before the receive of `first` begins, and no more `first` is sent
  pub record IsOvertaken (place : ℕ) (c : State) : Type 0 where
    pub first : T
    pub second : T
    pub early : List (Event T A)
    pub other : ℕ
    pub between : List (Event T A)
    pub receiver : ℕ
    pub call : Call T
    pub inner : List (Event T A)
    pub later : List (Event T A)
    pub parts : drop place events ≡ early ++ Returns other (Got second) ∷ between
        ++ Begins receiver call ∷ inner ++ Returns receiver (Got first) ∷ later
    pub none_sent : begins_send (equal first) (early ++ Returns other (Got second) ∷ between
        ++ Begins receiver call ∷ inner) ≡ false
    pub none_open : may_send events (equal first) c.calls ≡ false
    pub no_message_yet : is_trying_if (call_by events other c.calls) ≡ true
    pub some_end : 0 < c.senders + c.receivers
    -- so many of the queue come first
    pub count : ℕ
    pub none_before : some_sends events (equal second) (take count c.queue) ≡ false
    pub none_behind : some_sends events (equal first) (drop count c.queue) ≡ false
    pub none_blocked : some_sends events (equal first) c.blocked ≡ false
