-- What a receive of many messages did, as its party's actions.
use Rattle.std.specs.Prelude.{◌≡◌, ℕ, ◌+◌, ◌-◌, ◌<◌, List, [], ◌++◌, Ok, Err, Vec}
use Rattle.std.specs.Prelude.{vec_len, vec_capacity}
use Rattle.flume_core.specs.declared.error.RecvTimeoutError.TheVariants.{NoMemory}
use Rattle.flume_calls.specs.declared.calls.receive.RecvNext.{RecvNext}
use Rattle.flume_calls.specs.declared.calls.receive.RecvNext.TheVariants.{Done}
use Rattle.flume_calls.specs.ManyReceives.{each_got, Gives}
use Rattle.flume_party.specs.Parties.{PartyState, and_made}
use Rattle.flume_actions.specs.Actions.{Action}
use Rattle.flume_actions.specs.Calls.{HasReceived}
use Rattle.flume_actions.specs.Callers.{HasMadeCalls}

module _ {T A : Type 0} where
  -- the party got by whole calls what came behind the list
  pub record HasGot (old new : PartyState (Action T A)) (before after : List T) : Type 0 where
    pub got : List T
    pub items : after ≡ before ++ got
    pub calls : HasMadeCalls old new [] got

  -- the party made one receive that ended so
  abbrev pub HasReceivedAs : PartyState (Action T A) → RecvNext T → PartyState (Action T A) → Type 0
  HasReceivedAs old (Done result) new = HasReceived old new result
  HasReceivedAs old _ new = ⊥

module _ {T A : Type 0}
    (receives : PartyState (Action T A) → RecvNext T → PartyState (Action T A) → Type 0) where
  -- the party received, and if that gave a message, then each of the others by a `try_recv`
  pub record HasReceivedAndMore (most : ℕ) (old : PartyState (Action T A)) (before : List T)
      (new : PartyState (Action T A)) (after : List T) (next : RecvNext ℕ) : Type 0 where
    pub between : PartyState (Action T A)
    pub first : RecvNext T
    pub taken : List T
    pub receive : receives old first between
    pub made : new ≡ and_made between (each_got taken)
    pub gives : Gives before (most - 1) first taken after next

  -- what a receive of many did
  pub data HasReceivedMany (most : ℕ) (old : PartyState (Action T A)) (before : Vec T A)
      (new : PartyState (Action T A)) (after : Vec T A) (next : RecvNext ℕ) : Type 0 where
    Receives : HasReceivedAndMore most old before.items new after.items next
        → HasReceivedMany most old before new after next
    -- the list had no room for what was there, and the party did nothing
    HasNoRoom : vec_capacity before < vec_len before + most → new ≡ old
        → after.items ≡ before.items → next ≡ Done (Err NoMemory)
        → HasReceivedMany most old before new after next
    -- none was asked for, and the party did nothing
    NoneAsked : most ≡ 0 → new ≡ old → after ≡ before → next ≡ Done (Ok 0)
        → HasReceivedMany most old before new after next
