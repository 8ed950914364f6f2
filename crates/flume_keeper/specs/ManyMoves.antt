-- Which turns of many messages move messages.
use Rattle.std.specs.Prelude.{◌≡◌, ℕ, ◌&&◌, Bool, true, false, List, [], ◌∷◌, ◌++◌, Result, Vec}
use Rattle.std.specs.List.{list_all}
use mathlib.Core.Path.{refl, sym, subst}
use Rattle.std.specs.declared.collections.VecDeque.{VecDeque}
use Rattle.flume_core.specs.declared.error.TrySendError.{TrySendError}
use Rattle.flume_calls.specs.declared.calls.receive.RecvNext.{RecvNext}
use Rattle.flume_calls.specs.ManySends as sends
use Rattle.flume_calls.specs.ManySends.{SendsMany}
use Rattle.flume_calls.specs.ManyReceives as receives
use Rattle.flume_calls.specs.ManyReceives.{each_got, BatchTakes, FirstManyTable, MakesMore}
use Rattle.flume_party.specs.Owners.{AreOwned}
use Rattle.flume_actions.specs.Actions.{Action, is_of_party}
use Rattle.flume_keeper.specs.Keeps.{MovesMessages}

-- receives that got these
pub each_got_moves : {T : Type 0} (A : Type 0) (taken : List T)
    → AreOwned {E = Action T A} is_of_party (each_got taken)
each_got_moves A [] = refl
each_got_moves A (message ∷ taken) = each_got_moves A taken

module _ {T A : Type 0} where
  -- sends of a list
  pub sends_move : {messages : List T} {made : List (Action T A)}
      {answer : Result (Unit {0}) (TrySendError (VecDeque T A))} → SendsMany messages made answer
      → AreOwned is_of_party made
  sends_move sends.NoneLeft = refl
  sends_move (sends.TakenIn filled rest) = sends_move rest
  sends_move (sends.IsFull is) = refl
  sends_move (sends.IsClosed is) = refl
  sends_move (sends.IsRefused is) = refl

  -- receives of what is there
  pub takes_move : {before after : List T} {made : List (Action T A)} {count : ℕ}
      → BatchTakes before made after count → AreOwned is_of_party made
  takes_move takes = subst (AreOwned is_of_party) (sym takes.steps) (each_got_moves A takes.taken)

  -- a first receive of many
  pub first_many_moves : {before after : List T} {made : List (Action T A)} {next : RecvNext ℕ}
      → FirstManyTable before made after next → AreOwned is_of_party made
  first_many_moves (receives.Some count takes is) = takes_move takes
  first_many_moves (receives.None reply first is table gives same next) =
      subst (AreOwned is_of_party) (sym is) refl
  first_many_moves (receives.NoRoom is same next) = subst (AreOwned is_of_party) (sym is) refl

  -- one action more in front of actions that go on
  both_behind : (head : Bool) (made more : List (Action T A))
      → (head && list_all is_of_party made) ≡ true
      → (AreOwned is_of_party made → AreOwned is_of_party (made ++ more))
      → (head && list_all is_of_party (made ++ more)) ≡ true
  both_behind true made more all rest = rest all
  both_behind false made more none rest = none

  -- some steps that all move messages, and others
  pub both_move : (made more : List (Action T A)) → AreOwned is_of_party made
      → AreOwned is_of_party more → AreOwned is_of_party (made ++ more)
  both_move [] more first second = second
  both_move (action ∷ made) more first second =
      both_behind (is_of_party action) made more first (λ rest. both_move made more rest second)

  -- a turn of a receive, and receives of what is there behind it
  pub more_moves : {makes : List (Action T A) → RecvNext T → Type 0} {before : Vec T A} {most : ℕ}
      → MovesMessages makes → MovesMessages (MakesMore makes before most)
  more_moves moves made answer all =
      subst (AreOwned is_of_party) (sym all.steps)
      (both_move all.first_made (each_got all.taken) (moves all.first_made all.first all.answered)
      (each_got_moves A all.taken))
