-- How parties stand at each moment of a run: which are blocked, and how many wait at most.
use Rattle.std.proofs.Common.{◌≡◌, ℕ, ◌+◌, ◌≤◌, true, false, ◌||◌, List, [], ◌∷◌}
use Rattle.std.proofs.Common.{ap₂, eq-eqb, ◌++◌, Option, Some, None, refl, ap, sym, ◌∙◌, arith, ◌⊎◌}
use Rattle.std.proofs.Common.{inr}
use Rattle.std.proofs.lemmas.Bool.Decides.{nat_tests}
use Rattle.std.proofs.lemmas.Grind.{common_steps}
use Rattle.std.specs.List.{list_any}
use Rattle.flume_model.specs.declared.step.Step.{Step}
use Rattle.flume_model.specs.declared.step.Reply.{Reply}
use Rattle.flume_model.specs.Log.{Log, Opening, change}
use Rattle.flume_model.specs.Line.{capacity, capacity_after, greatest, greater, issues, is_live}
use Rattle.flume_model.specs.Entries.{waiting_count, without_ticket}
use Rattle.flume_model.specs.Channel.{channel}
use Rattle.flume_model.specs.Parked.{LogEntry, entries, peak}
use Rattle.flume_model.specs.Replies.{IsReply, IsRun}
use Rattle.flume_model.specs.WaitLaws.{DistinctTickets}
use Rattle.flume_model.proofs.EntryMarkLemmas.{apart_without, left_out}
use Rattle.flume_model.proofs.EntryShapeLemmas.{entries_apart}
use Rattle.flume_actions.specs.Actions.{Action, is_of_party}
use Rattle.flume_laws.proofs.MergeLemmas.{bit, tally, tally_append}
use Rattle.flume_laws.proofs.TurnLemmas.{Stand, Turn, Acts}
use Rattle.flume_laws.proofs.TurnLemmas.{Hears, Withdraws, parked_of, is_unblocked}
use Rattle.flume_laws.proofs.PartyLemmas.{Member, AreFree, is_parked, may_park, parkers}
use Rattle.flume_laws.proofs.SentCourseLemmas.{blocked_under}
use Rattle.flume_laws.proofs.GotMemberLemmas.{here, parked_under, free_unparked}
use Rattle.flume_laws.proofs.GotEntryLemmas.{stands, found_without}

-- the greater of a capacity and itself
same_greater : (c : Option ℕ) → greater c c ≡ c
same_greater c = grind (arith, common_steps)

module _ {T A : Type 0} where
  unblocked_issues : (past : Log T A) (step : Step T) (reply : Reply T A) (t : ℕ)
      → is_unblocked step reply ≡ true → issues (change past step reply) t ≡ false
  unblocked_issues past step reply t is = grind (arith, common_steps)

  -- after each turn, a ticket is live no more, or lives on as many are blocked under it
  live_turn : (o : Opening) (past : Log T A) (step : Step T) (reply : Reply T A)
      (before after : Stand T) (sent got : List T) (t : ℕ) → Turn before step reply after sent got
      → IsReply (channel o past) step reply
      → (bit (is_live ((step, reply) ∷ past) t) ≡ 0)
      ⊎ (bit (is_live ((step, reply) ∷ past) t) + blocked_under t before
      ≤ bit (is_live past t) + blocked_under t after)
  live_turn o past step reply _ _ _ _ t (Acts parked is sent got) h =
      inr (grind (arith, common_steps, unblocked_issues past step reply t is))
  live_turn o past _ reply _ _ _ _ t (Hears is gone) h = grind (arith, common_steps, nat_tests)
  live_turn o past _ reply _ _ _ _ t (Withdraws is gone) h = grind (arith, common_steps, nat_tests)
  live_turn o past step reply _ _ _ _ t turn h = inr (grind (arith, common_steps, nat_tests))

  -- no turn sets the capacity
  unset_turn : (past : Log T A) (c : Option ℕ) (step : Step T) (reply : Reply T A)
      (before after : Stand T) (sent got : List T) → Turn before step reply after sent got
      → capacity_after c (change past step reply) ≡ c
  unset_turn past c step reply _ _ _ _ (Acts parked is sent got) = grind (arith, common_steps)
  unset_turn past c step reply _ _ _ _ turn = grind (arith, common_steps)

  -- nobody may park by a turn who might not before
  parks_turn : (step : Step T) (reply : Reply T A) (later : List (Action T A))
      (before after : Stand T) (sent got : List T) → Turn before step reply after sent got
      → bit (is_parked (parked_of after) || list_any is_of_party later)
      ≤ bit (is_parked (parked_of before) || list_any is_of_party ((step, reply) ∷ later))
  parks_turn step reply later _ _ _ _ (Acts parked is sent got) = grind (arith, common_steps)
  parks_turn step reply later _ _ _ _ turn = grind (arith, common_steps)

module _ {T : Type 0} where
  -- at most one more waits than without the one with a ticket
  waits_without : (t : ℕ) (es : List (LogEntry T))
      → waiting_count es ≤ waiting_count (without_ticket t es) + 1
  waits_without t [] = omega arith
  waits_without t (e ∷ es) = grind (arith, common_steps, waits_without t es)

module _ {T A : Type 0} where
  -- how many are blocked under the ticket
  abbrev pub blocked_parties : ℕ → List (Member T A) → ℕ
  blocked_parties t members = tally (λ m. blocked_under t m.stand) members

  -- if one party becomes another
  tally_else : (count : Member T A → ℕ) (before after : List (Member T A)) (m n : Member T A)
      → tally count (before ++ n ∷ after) + count m ≡ tally count (before ++ m ∷ after) + count n
  tally_else count before after m n =
      omega (arith, tally_append count before (m ∷ after), tally_append count before (n ∷ after))

  -- no more wait than parties may park, if one is parked under each ticket
  waits_few : (next : ℕ) (es : List (LogEntry T)) (members : List (Member T A))
      → DistinctTickets next es → ((t : ℕ) → stands t es ≤ parked_under t members)
      → waiting_count es ≤ parkers members
  waits_few next [] [] apart each = omega arith
  waits_few next (e ∷ es) [] apart each =
      absurd (grind (arith, common_steps, each e.ticket, eq-eqb e.ticket e.ticket refl))
  waits_few next es (m ∷ members) apart each =
      by_stand (parked_of m.stand) refl (λ some. waits_few next some members)
    where
      others : (u : ℕ) → parked_of m.stand ≡ Some u → (t : ℕ)
          → stands t (without_ticket u es) ≤ parked_under t members
      others u is t =
          let gone = left_out next u es apart in
          let all = each t in
          grind (arith, common_steps, nat_tests, gone, found_without u t es, all, is)

      by_stand : (parked : Option ℕ) → parked_of m.stand ≡ parked
          → ((some : List (LogEntry T)) → DistinctTickets next some
          → ((t : ℕ) → stands t some ≤ parked_under t members)
          → waiting_count some ≤ parkers members)
          → waiting_count es ≤ parkers (m ∷ members)
      by_stand None is rest =
          omega (arith, rest es apart (λ t. omega (arith, each t, ap (here t) is)))
      by_stand (Some u) is rest = omega (
        arith,
        rest (without_ticket u es) (apart_without next u es apart) (others u is),
        waits_without u es,
        ap (λ parked. bit (is_parked parked || list_any is_of_party m.actions)) is,
      )

  -- as many parties are parked under each ticket as entries have it
  abbrev pub Agree : Opening → Log T A → List (Member T A) → Type 0
  Agree o past members = (t : ℕ) → parked_under t members ≡ stands t (entries o past)

  -- how parties stand at a moment of a run
  pub record Standing (o : Opening) (most : ℕ) (past : Log T A) (members : List (Member T A))
      : Type 0 where
    pub agree : Agree o past members
    -- one is blocked under each ticket that is live
    pub awaited : (t : ℕ) → bit (is_live past t) ≤ blocked_parties t members
    -- so many may park, and no more have waited at once
    pub may_wait : parkers members ≤ most
    pub waited : peak o past ≤ most
    -- the capacity is still that of the opening
    pub capacity_is : capacity o past ≡ o.capacity
    pub greatest_is : greatest o past ≡ o.capacity

  -- after a turn of one of them
  pub standing_turn : (o : Opening) (most : ℕ) (past : Log T A) (p : Action T A)
      (before after : List (Member T A)) (m n : Member T A) (sent got : List T) → IsRun o (p ∷ past)
      → m.actions ≡ p ∷ n.actions → Turn m.stand p.0 p.1 n.stand sent got
      → Agree o (p ∷ past) (before ++ n ∷ after)
      → Standing o most past (before ++ m ∷ after)
      → Standing o most (p ∷ past) (before ++ n ∷ after)
  standing_turn o most past p before after m n sent got run first turn agree s = record {
    agree = agree;
    awaited = λ t. omega (
      arith,
      s.awaited t,
      tally_else (λ m. blocked_under t m.stand) before after m n,
      tally_append (λ m. blocked_under t m.stand) before (n ∷ after),
      live_turn o past p.0 p.1 m.stand n.stand sent got t turn run.0,
    );
    may_wait = few;
    waited = omega (
      arith,
      s.waited,
      few,
      waits_few _ (entries o (p ∷ past)) (before ++ n ∷ after) (entries_apart o (p ∷ past) run)
          (λ t. omega (arith, agree t)),
    );
    capacity_is = same;
    greatest_is = ap₂ greater s.greatest_is same ∙ same_greater o.capacity;
  }
    where
      few : parkers (before ++ n ∷ after) ≤ most
      few = omega (
        arith,
        s.may_wait,
        tally_else (λ m. bit (may_park m)) before after m n,
        parks_turn p.0 p.1 n.actions m.stand n.stand sent got turn,
        ap (λ actions. bit (is_parked (parked_of m.stand) || list_any is_of_party actions)) first,
      )

      same : capacity o (p ∷ past) ≡ o.capacity
      same = ap (λ c. capacity_after c (change past p.0 p.1)) s.capacity_is
          ∙ unset_turn past o.capacity p.0 p.1 m.stand n.stand sent got turn

  -- no party that is free
  free_unblocked : (t : ℕ) (members : List (Member T A)) → AreFree members
      → blocked_parties t members ≡ 0
  free_unblocked t [] free = refl
  free_unblocked t (m ∷ members) free =
      omega (arith, ap (blocked_under t) free.0, free_unblocked t members free.1)

  -- before the first action
  pub standing_first : (o : Opening) (most : ℕ) (members : List (Member T A)) → AreFree members
      → parkers members ≤ most → Standing o most [] members
  standing_first o most members free few = record {
    agree = λ t. free_unparked t members free;
    awaited = λ t. omega arith;
    may_wait = few;
    waited = omega arith;
    capacity_is = refl;
    greatest_is = refl;
  }

  -- and after the last one, when it is as if there were no parties
  pub standing_last : (o : Opening) (most : ℕ) (past : Log T A) (members : List (Member T A))
      → AreFree members → Standing o most past members → Standing o most past []
  standing_last o most past members free s = record {
    agree = λ t. sym (free_unparked t members free) ∙ s.agree t;
    awaited = λ t. omega (arith, s.awaited t, free_unblocked t members free);
    may_wait = omega arith;
    waited = s.waited;
    capacity_is = s.capacity_is;
    greatest_is = s.greatest_is;
  }
