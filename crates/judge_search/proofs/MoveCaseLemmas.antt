-- What many moves have in common: the step that a move is, who is left if nobody moves, and a move that changes nothing.
use Rattle.std.proofs.Common.{◌≡◌, ◌≢◌, ℕ, false, if◌then◌else◌, List, [], ◌∷◌, map, refl, sym, subst, inl}
use Rattle.std.proofs.lemmas.List.Elements.{All-nil, All-cons, All-head, All-tail, All-map, All-weaker, All-contains_itself}
use Rattle.std.specs.List.{All, Contains}
use Rattle.flume_model.specs.declared.step.Step.{Step}
use Rattle.flume_model.specs.declared.step.Reply.{Reply}
use Rattle.flume_model.specs.Log.{Log, Opening, Stays, change}
use Rattle.flume_model.specs.Channel.{channel}
use Rattle.flume_model.specs.Replies.{IsReply}
use Rattle.flume_state.specs.State.{State as Channel}
use Rattle.flume_core.specs.Represents.{Represents}
use Rattle.flume_core.proofs.InvariantLemmas.{still}
use Rattle.judge_calls.specs.declared.event.Event.{Event}
use Rattle.judge_search.specs.declared.configuration.ParkedReceive.{ParkedReceive}
use Rattle.judge_search.specs.declared.place_reply.PlaceReply.{PlaceReply}
use Rattle.judge_search.specs.Configurations.{State}
use Rattle.judge_search.specs.Outcomes.{ReplyAndState}
use Rattle.judge_search.specs.Mirrors.{Mirrors, Corresponds}
use Rattle.judge_search.proofs.MoveAnswers.{Answers, IsPlaceAfter, parks, with_ticket, tickets_after}
use Rattle.judge_search.proofs.MoveAnswerLemmas.{IsNew}

-- each of a list has both of two properties
all_both : {X : Type 0} (P Q : X → Type 0) (xs : List X) → All P xs → All Q xs → All (λ x. P x × Q x) xs
all_both P Q [] ps qs = All-nil (λ x. P x × Q x)
all_both P Q (x ∷ xs) ps qs =
    All-cons (λ x. P x × Q x) x xs (All-head P x xs ps, All-head Q x xs qs)
    (all_both P Q xs (All-tail P x xs ps) (All-tail Q x xs qs))

-- of places among which the call's isn't, each is left
pub places_left : {joins : PlaceReply} (reply_by_place : PlaceReply) (place : ℕ) (before : List ℕ) → All (λ q. q ≢ place) before
    → All (IsPlaceAfter joins reply_by_place place before) before
places_left reply_by_place place before others =
    All-weaker (λ q. Contains before q × (q ≢ place)) (IsPlaceAfter _ reply_by_place place before)
    (λ q both. inl (both.0, inl both.1)) before
    (all_both (Contains before) (λ q. q ≢ place) before (All-contains_itself before) others)

-- of the parked receives too
pub receives_stay : {joins : PlaceReply} (reply_by_place : PlaceReply) (place : ℕ) (rs : List ParkedReceive) → All (λ r. r.place ≢ place) rs
    → All (IsPlaceAfter joins reply_by_place place (map (λ r. r.place) rs)) (map (λ r. r.place) rs)
receives_stay reply_by_place place rs others =
    places_left reply_by_place place (map (λ r. r.place) rs) (All-map (λ q. q ≢ place) (λ r. r.place) rs others)

module _ {T A : Type 0} (events : List (Event T A)) where
  -- the step of the call at a place may be answered so
  abbrev pub AnswersAs : (o : Opening) (log : Log T A) → (ℕ → ℕ) → Channel T (Unit {0}) → State → ℕ → Step T → ReplyAndState → Type 0
  AnswersAs o log tickets s c place done answer = Answers events o log tickets s c place done answer.0 answer.1

  -- no ticket is issued unless the call parks
  pub same_tickets : (tickets : ℕ → ℕ) (s : Channel T (Unit {0})) (c : State) (reply_by_place : PlaceReply) (place next : ℕ)
      → parks reply_by_place ≡ false → Mirrors events tickets s c → Mirrors events (tickets_after reply_by_place place next tickets) s c
  same_tickets tickets s c reply_by_place place next none m =
      subst (λ b. Mirrors events (if b then with_ticket place next tickets else tickets) s c) (sym none) m

  -- a move that changes nothing
  pub changes_nothing : (o : Opening) (log : Log T A) (s : Channel T (Unit {0})) (c : State) (tickets : ℕ → ℕ) (place : ℕ)
      (step : Step T) (reply_by_place : PlaceReply) (reply : Reply T A) → Represents o log s → Mirrors events tickets s c → IsNew place c
      → IsReply (channel o log) step reply → change log step reply ≡ Stays → parks reply_by_place ≡ false
      → Corresponds events s.next_ticket c.queue reply_by_place reply → Answers events o log tickets s c place step reply_by_place c
  changes_nothing o log s c tickets place step reply_by_place reply h m new lawful stays none corresponds = record {
    reply = reply;
    corresponds = corresponds;
    state = s;
    represents = still o log (step, reply) s s h lawful stays refl;
    mirrors = same_tickets tickets s c reply_by_place place s.next_ticket none m;
    blocked_after = places_left reply_by_place place c.blocked new.not_blocked;
    receives_after = receives_stay reply_by_place place c.receives new.not_parked;
  }
