-- How many messages may be in a chain before more memory is wanted, under its methods.
use Rattle.std.proofs.Common.{◌≡◌, ◌<◌, ◌≤◌, ◌+◌, ℕ, zero, suc, List, [], ◌∷◌, length, Option, Some, None}
use Rattle.std.proofs.Common.{refl, ap, ◌∙◌, arith, length-append}
use Rattle.flume_state.proofs.Chains.{ChainState, ChainItem, found, without_place, behind_first}
use Rattle.flume_state.proofs.Chains.{first_element, times, places, length-put_before, length-without_place}
use Rattle.flume_state.proofs.Chains.{with_new_label, with_label_at, length-changed_at, put_before_or_last}
use Rattle.flume_state.specs.layout.MessageLayout.{Message, MessageList, messages_in_chain, messages_of, space_of, MessageLayout}
use Rattle.flume_state.proofs.MessageLemmas.{counts}

module _ {T : Type 0} where
  -- there is one more
  pub length-put : (items : List (ChainItem (Message T))) (next : Option ℕ) (x : ChainItem (Message T))
      → length (put_before_or_last items next x) ≡ suc (length items)
  length-put items None x = length-append items (x ∷ []) ∙ omega arith
  length-put items (Some k) x = length-put_before items k x

  -- a push leaves as much space or more
  pub grows : (old new : ChainState (Message T)) → (0 < old.room → new.room + 1 ≡ old.room) → length new.items ≡ suc (length old.items)
      → space_of old ≤ space_of new
  grows old new room long = by_room old.room refl
    where
      by_room : (n : ℕ) → old.room ≡ n → space_of old ≤ space_of new
      by_room zero is = omega arith
      by_room (suc n) is =
          let some : 0 < old.room = omega arith in
          let less = room some in
          omega arith

  -- there are as many messages as elements
  pub total : (items : List (ChainItem (Message T))) (first : Option ℕ) (n space : ℕ) (list : MessageList T) → MessageLayout items first n
      → messages_of items space ≡ list
      → messages_in_chain list ≡ length items
  total items first n space list w view =
      let both = counts items first n space list w view in
      let all = ap length w.is ∙ length-append w.front w.back in
      let back = w.counted in
      omega (arith, both.0, both.1)

  -- while there is space for more messages, there is room for more elements
  pub has_room : (chain : ChainState (Message T)) (first : Option ℕ) (n : ℕ) (list : MessageList T) → MessageLayout chain.items first n
      → messages_of chain.items (space_of chain) ≡ list → messages_in_chain list < list.space → 0 < chain.room
  has_room chain first n list w view more =
      let all = total chain.items first n (space_of chain) list w view in
      let space = ap (λ (l : MessageList T). l.space) view in
      omega (arith, all, space, more)

  -- a take from a place leaves the space
  pub space_without : (old new : ChainState (Message T)) (place : ℕ) (e : Message T) → times place (places old.items) ≤ 1
      → found old.items place ≡ Some e
      → new.items ≡ without_place old.items place → new.room ≡ old.room + 1 → space_of old ≡ space_of new
  space_without old new place e apart there left room =
      let less = length-without_place old.items place e apart there in
      let long = ap length left in
      omega (arith, less, long, room)

  -- and so does a take of the first
  pub space_behind : (old new : ChainState (Message T)) (e : Message T) → first_element old.items ≡ Some e
      → new.items ≡ behind_first old.items
      → new.room ≡ old.room + 1 → space_of old ≡ space_of new
  space_behind old new e first left room =
      let less = behind old.items e first in
      let long = ap length left in
      omega (arith, less, long, room)
    where
      behind : (xs : List (ChainItem (Message T))) (e : Message T) → first_element xs ≡ Some e → length xs ≡ suc (length (behind_first xs))
      behind [] e none = absurd (let no : ⊥ = cc in no)
      behind (x ∷ xs) e is = refl

  -- one that loses its owner leaves the space
  pub space_released : (old new : ChainState (Message T)) (place : ℕ) → new.items ≡ with_label_at place old.items None → new.room ≡ old.room
      → space_of old ≡ space_of new
  space_released old new place left room =
      let same = ap length left ∙ length-changed_at (with_new_label None) old.items place in
      omega (arith, same, room)
