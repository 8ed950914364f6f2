-- Parties, each with its course. What moves no message is one more party's, which does nothing.
use Rattle.std.proofs.Common.{◌≤◌, ℕ, ◌||◌, length, Option, Some, None, ◌≡◌, Bool, true, false, not}
use Rattle.std.proofs.Common.{List, [], ◌∷◌, map, refl, ap, arith}
use Rattle.std.proofs.Common.{filter}
use Rattle.std.proofs.lemmas.Grind.{common_steps}
use Rattle.std.specs.List.{list_any}
use Rattle.flume_party.specs.Interleavings.{Interleaving}
use Rattle.flume_actions.specs.Actions.{Action, is_of_party}
use Rattle.flume_laws.specs.Together.{Interleaved, EachAreCalls, NoParty, AndParty}
use Rattle.flume_laws.proofs.MergeLemmas.{bit, tally, filter_merged}
use Rattle.flume_laws.proofs.TurnLemmas.{Stand, parked_of, Free, Acts, Course, course_from}
use Rattle.flume_laws.proofs.CallLemmas.{calls_course}

-- whether there is a ticket
abbrev pub is_parked : Option ℕ → Bool
is_parked None = false
is_parked (Some t) = true

-- one at most
one_bit : (b : Bool) → bit b ≤ 1
one_bit b = grind (arith, common_steps)

-- a party: how it stands, what it is still to do, and what it sends and gets by that
pub record Member (T A : Type 0) : Type 0 where
  pub stand : Stand T
  pub actions : List (Action T A)
  pub sent : List T
  pub got : List T
  pub course : Course actions stand sent got

module _ {T A : Type 0} where
  -- what each party is still to do
  abbrev pub actions_of : List (Member T A) → List (List (Action T A))
  actions_of members = map (λ member. member.actions) members

  -- none is parked or blocked
  abbrev pub AreFree : List (Member T A) → Type 0
  AreFree [] = Unit {0}
  AreFree (m ∷ members) = (m.stand ≡ Free) × AreFree members

  -- whether the party is parked, or moves a message later
  abbrev pub may_park : Member T A → Bool
  may_park m = is_parked (parked_of m.stand) || list_any is_of_party m.actions

  -- how many parties may park
  abbrev pub parkers : List (Member T A) → ℕ
  parkers members = tally (λ m. bit (may_park m)) members

  -- the parties whose actions these are, and what each sends and gets
  pub record Parties (all : List (Action T A)) (sents gots : List (List T)) : Type 0 where
    pub members : List (Member T A)
    pub free : AreFree members
    pub merged : Interleaved (actions_of members) all
    pub sents_are : map (λ member. member.sent) members ≡ sents
    pub gots_are : map (λ member. member.got) members ≡ gots

  -- one more
  and_party : (actions others all : List (Action T A)) (sent got : List T) (sents gots : List (List T))
      → Course actions Free sent got → Interleaving actions others all → Parties others sents gots
      → Parties all (sent ∷ sents) (got ∷ gots)
  and_party actions others all sent got sents gots course merged rest = record {
    members = record { stand = Free; actions = actions; sent = sent; got = got; course = course }
        ∷ rest.members;
    free = (refl, rest.free);
    merged = (others, rest.merged, merged);
    sents_are = ap (λ lists. sent ∷ lists) rest.sents_are;
    gots_are = ap (λ lists. got ∷ lists) rest.gots_are;
  }

  -- those that made whole calls
  pub calling : (parties : List (List (Action T A))) (sents gots : List (List T))
      (all : List (Action T A)) → EachAreCalls parties sents gots → Interleaved parties all
      → Parties all sents gots
  calling _ _ _ all NoParty none =
      record { members = []; free = tt; merged = none; sents_are = refl; gots_are = refl }
  calling _ _ _ all
      (AndParty {actions = actions} {others = others} {sent = sent} {got = got} {sents = sents}
      {gots = gots} calls rest)
      merged =
      and_party actions merged.0 all sent got sents gots (calls_course actions sent got calls)
      merged.2 (calling others sents gots merged.0 rest merged.1)

  -- the course of those actions that move no message
  free_course : (history : List (Action T A))
      → Course (filter (λ p. not (is_of_party p)) history) Free [] []
  free_course [] = (refl, refl, refl)
  free_course (p ∷ later) = by_case (is_of_party p) refl (free_course later)
    where
      by_case : (b : Bool) → is_of_party p ≡ b
          → Course (filter (λ p. not (is_of_party p)) later) Free [] []
          → Course (filter (λ p. not (is_of_party p)) (p ∷ later)) Free [] []
      by_case true is rest = rw is rest
      by_case false is rest = rw is (course_from {sent_now = []} {got_now = []} _ [] []
          (Acts (grind (arith, common_steps)) (grind (arith, common_steps))
          (grind (arith, common_steps)) (grind (arith, common_steps))) rest)

  -- those of a whole history
  pub all_parties : (history : List (Action T A)) (parties : List (List (Action T A)))
      (sents gots : List (List T)) → Interleaved parties (filter is_of_party history)
      → EachAreCalls parties sents gots → Parties history ([] ∷ sents) ([] ∷ gots)
  all_parties history parties sents gots merged calls =
      and_party _ _ history [] [] sents gots (free_course history)
      (filter_merged is_of_party history)
      (calling parties sents gots (filter is_of_party history) calls merged)

  -- what moves no message parks nobody
  none_park : (history : List (Action T A))
      → list_any is_of_party (filter (λ p. not (is_of_party p)) history) ≡ false
  none_park [] = refl
  none_park (p ∷ later) = grind (arith, common_steps, none_park later)

  calling_park : (parties : List (List (Action T A))) (sents gots : List (List T))
      (all : List (Action T A)) (calls : EachAreCalls parties sents gots)
      (merged : Interleaved parties all)
      → parkers (calling parties sents gots all calls merged).members ≤ length parties
  unfolding calling and_party
  calling_park _ _ _ all NoParty none = omega arith
  calling_park _ _ _ all
      (AndParty {actions = actions} {others = others} {sents = sents} {gots = gots} calls rest)
      merged =
      omega (
        arith,
        one_bit (list_any is_of_party actions),
        calling_park others sents gots merged.0
            rest merged.1,
      )

  -- so no more than those that made the calls
  pub few_park : (history : List (Action T A)) (parties : List (List (Action T A)))
      (sents gots : List (List T)) (merged : Interleaved parties (filter is_of_party history))
      (calls : EachAreCalls parties sents gots)
      → parkers (all_parties history parties sents gots merged calls).members ≤ length parties
  unfolding all_parties and_party
  few_park history parties sents gots merged calls = omega (
    arith,
    ap bit (none_park history),
    calling_park parties sents gots (filter is_of_party history) calls merged,
  )
