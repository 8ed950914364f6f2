-- How the live sends lie in their chain. The view of a channel has `by_ticket`.
use Rattle.std.specs.Prelude.{◌≡◌, ℕ, Bool, true, false, ◌||◌, List, [], ◌∷◌, ◌++◌}
use Rattle.std.specs.Prelude.{Option, ⊤}
use Rattle.std.specs.Ordering.{nat_cmp}
use Rattle.std.specs.FinMap.{FinMap, empty, insert}
use Rattle.flume_chain.specs.ChainState.{ChainItem, first_place}
use Rattle.flume_state.specs.layout.WithTicket.{WithTicket}
use Rattle.flume_state.specs.Notices.{due_now}
use Rattle.flume_state.specs.declared.sends.LiveSend.{LiveSend}

-- the values of the elements, each under its ticket
abbrev pub by_ticket : {X : Type 0} → List (ChainItem (WithTicket X)) → FinMap nat_cmp X
by_ticket [] = empty
by_ticket (x ∷ items) = insert (by_ticket items) x.element.label x.element.value

-- a live send of the chain, without the place of its message
abbrev pub Element : Type 0 → Type 0
Element S = ChainItem (WithTicket (LiveSend S))

module _ {S : Type 0} where
  -- a send that becomes due, and is accepted if this is true
  abbrev pub due_accepting : Bool → LiveSend S → LiveSend S
  due_accepting accepts s = record { accepted = accepts || s.accepted; notice = due_now s.notice }

  -- each element is due or not
  abbrev pub EachDueIs : Bool → List (Element S) → Type 0
  EachDueIs due [] = ⊤
  EachDueIs due (x ∷ xs) = (x.element.value.notice.due ≡ due) × EachDueIs due xs

  -- the elements are those that aren't due, and then those that are, from `due` on
  pub record SendLayout (items : List (Element S)) (due : Option ℕ) : Type 0 where
    pub not_due : List (Element S)
    pub dues : List (Element S)
    pub parts : items ≡ not_due ++ dues
    pub none_due : EachDueIs false not_due
    pub all_due : EachDueIs true dues
    pub first : due ≡ first_place dues
