-- Several parties together.
use Rattle.std.specs.Prelude.{◌≡◌, ℕ, List, [], ◌∷◌, ◌++◌, length, Option}
use Rattle.std.specs.List.{sum_by}
use Rattle.flume_model.specs.WaitLaws.{IsWithinCapacity}
use Rattle.flume_party.specs.Interleavings.{Interleaving}
use Rattle.flume_actions.specs.Actions.{Action}
use Rattle.flume_actions.specs.Calls.{AreCalls}

module _ {X : Type 0} where
  -- the list has the elements of all these lists, those of each in their order
  abbrev pub Interleaved : List (List X) → List X → Type 0
  Interleaved [] all = all ≡ []
  Interleaved (xs ∷ lists) all =
      (others : List X) × Interleaved lists others × Interleaving xs others all

  -- what some parties sent, together, is what some parties got, in one order
  abbrev pub AreExchanged : List (List X) → List (List X) → Type 0
  AreExchanged sents gots = (line : List X) × Interleaved sents line × Interleaved gots line

  -- What some parties sent is what some got, and then what is left: so many messages. They were in
  -- a channel with this capacity, and so many parties used it.
  pub record IsExchangedSoFar (capacity : Option ℕ) (parties : ℕ) (sents gots : List (List X))
      (n : ℕ) : Type 0 where
    -- the messages that were got, in one order
    pub line : List X
    -- the messages that are left
    pub left : List X
    -- what was sent is the line, and behind it what is left; each party's messages are in its order
    pub sent : Interleaved sents (line ++ left)
    -- what was got is the line; each party's messages are in its order
    pub got : Interleaved gots line
    -- so many are left
    pub count : length left ≡ n
    -- They are at most the greater of the capacity and the number of parties. Without a capacity,
    -- this says nothing.
    pub within : IsWithinCapacity capacity parties n

  -- What some parties sent early, what some sent late, and what others sent, is what some got, in
  -- one order. All that was sent early comes before all that was sent late.
  abbrev pub AreExchangedInPhases : (early late others gots : List (List X)) → Type 0
  AreExchangedInPhases early late others gots = (first second rest line : List X)
      × Interleaved early first × Interleaved late second × Interleaved others rest
      × Interleaving (first ++ second) rest line × Interleaved gots line

  -- the sum of the weights of all elements of all these lists
  abbrev pub sum_over_all : (X → ℕ) → List (List X) → ℕ
  sum_over_all weight lists = sum_by (sum_by weight) lists

  -- at each place, the last list is merged of the other two
  pub data EachMerged : List (List X) → List (List X) → List (List X) → Type 0 where
    NoList : EachMerged [] [] []
    AndLists : {xs ys zs : List X} {lefts rights wholes : List (List X)} → Interleaving xs ys zs
        → EachMerged lefts rights wholes
        → EachMerged (xs ∷ lefts) (ys ∷ rights) (zs ∷ wholes)

  -- each of the lists is empty
  abbrev pub AreEmpty : List (List X) → Type 0
  AreEmpty [] = Unit {0}
  AreEmpty (xs ∷ lists) = (xs ≡ []) × AreEmpty lists

  -- Each receiver's list is divided by who sent what. What the receivers got of a sender, merged,
  -- is what that one sent; and what a receiver got of each sender, merged, is all that it got. So
  -- what one receiver got of one sender stands in both lists, in the order of both.
  abbrev pub AreRouted : List (List X) → List (List X) → Type 0
  AreRouted [] gots = AreEmpty gots
  AreRouted (sent ∷ sents) gots = (of_first of_others : List (List X)) × Interleaved of_first sent
      × EachMerged of_first of_others gots × AreRouted sents of_others

module _ {T A : Type 0} where
  -- each party's actions are whole calls, which sent and got the lists at its place
  pub data EachAreCalls : List (List (Action T A)) → List (List T) → List (List T) → Type 0 where
    NoParty : EachAreCalls [] [] []
    AndParty : {actions : List (Action T A)} {others : List (List (Action T A))}
        {sent got : List T} {sents gots : List (List T)} → AreCalls actions sent got
        → EachAreCalls others sents gots
        → EachAreCalls (actions ∷ others) (sent ∷ sents) (got ∷ gots)
