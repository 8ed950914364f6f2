-- What a step leaves represents the log with that step added, if it moves no message and no ticket
-- of a send.
use Rattle.std.proofs.Common.{◌≡◌, ℕ, ◌+◌, ◌<◌, ◌≤◌, Bool, true, false, not, ◌&&◌, ◌∷◌, length, map, max, Option}
use Rattle.std.proofs.Common.{refl, sym, ◌∙◌, ap, arith, eq-eqb}
use Rattle.std.specs.FinMap.{get-empty}
use Rattle.flume_model.specs.declared.step.Step.{Step}
use Rattle.flume_model.specs.declared.step.Reply.{Reply}
use Rattle.flume_model.specs.Log.{Log, Opening, Change, Queues, Blocks, Accepts, Withdraws, Takes, Drains, Parks, Asks, Collects}
use Rattle.flume_model.specs.Log.{Leaves, SenderJoins, ReceiverJoins, SenderLeaves, ReceiverLeaves, Resizes, Stays, change}
use Rattle.flume_model.specs.Counts.{senders, receivers, senders_after, receivers_after, is_over}
use Rattle.flume_model.specs.Line.{queue_len_after, capacity_after, tickets_issued, issues, spends, is_live}
use Rattle.flume_model.specs.Channel.{channel, has_ticket}
use Rattle.flume_model.specs.Replies.{IsReply}
use Rattle.flume_model.specs.Entries.{waiting_count}
use Rattle.flume_model.specs.Parked.{entries_after, is_closed_after}
use Rattle.flume_state.specs.Sends.{SendMap}
use Rattle.flume_state.specs.Receivers.{EntryList}
use Rattle.flume_state.specs.State.{State, with_nothing_left, offers_of, bare}
use Rattle.flume_core.specs.Represents.{Represents}
use Rattle.flume_model.proofs.EntryShapeLemmas.{filled_if_named}
use Rattle.flume_model.proofs.LawfulReplyLemmas.{not_over_yet}
use Rattle.flume_model.proofs.order.KeptLemmas.{keeps_line}
use Rattle.flume_model.proofs.order.LineStepLemmas.{line_stays, line_over}
use Rattle.flume_core.proofs.ViewLemmas.{SameMarks, status, status_is, greatest_kept, line_length, nil_by, line_is, queued}
use Rattle.flume_core.proofs.RepresentsLemmas.{peak_kept, none_parked, represents_as, represents_open, represents_over, open_not_over}
use Rattle.flume_core.proofs.RepresentsLemmas.{none_live, over_same}
use Rattle.flume_core.proofs.RepresentsLemmas.{still_live}

-- whether a change moves no message, and neither issues nor spends the ticket of a send
abbrev pub moves_none : {T : Type 0} → Change T → Bool
moves_none (Parks t kind) = true
moves_none (Asks t) = true
moves_none (Collects t) = true
moves_none SenderJoins = true
moves_none ReceiverJoins = true
moves_none SenderLeaves = true
moves_none ReceiverLeaves = true
moves_none Stays = true
moves_none _ = false

-- a change keeps the line, the tickets of sends, and how much is queued
record KeepsAll {T : Type 0} (done : Change T) : Type 0 where
  keeps : keeps_line done ≡ true
  issues_no : (t : ℕ) → issues done t ≡ false
  spends_no : (t : ℕ) → spends done t ≡ false
  queued_same : (capacity : Option ℕ) (long n : ℕ) → queue_len_after capacity long n done ≡ n
  capacity_same : (capacity : Option ℕ) → capacity_after capacity done ≡ capacity

-- such a change does
keeps_all : {T : Type 0} (done : Change T) → moves_none done ≡ true → KeepsAll done
keeps_all (Queues m filled) none = absurd (let never : ⊥ = cc in never)
keeps_all (Blocks m t) none = absurd (let never : ⊥ = cc in never)
keeps_all (Accepts t) none = absurd (let never : ⊥ = cc in never)
keeps_all (Withdraws t) none = absurd (let never : ⊥ = cc in never)
keeps_all (Takes m receiver) none = absurd (let never : ⊥ = cc in never)
keeps_all (Drains list) none = absurd (let never : ⊥ = cc in never)
keeps_all (Leaves t filled) none = absurd (let never : ⊥ = cc in never)
keeps_all (Resizes new) none = absurd (let never : ⊥ = cc in never)
keeps_all _ none =
    record {
      keeps = refl;
      issues_no = λ t. refl;
      spends_no = λ t. refl;
      queued_same = λ capacity long n. refl;
      capacity_same = λ capacity. refl;
    }

module _ {T A S : Type 0} where
  -- such a change leaves this state, while the channel isn't over
  pub keeps_standing : (o : Opening) (past : Log T A) (p : Step T × Reply T A) (done : Change T) (old new : State T S)
      (m : SendMap S) (es : EntryList T S) (peak next : ℕ)
      → Represents o past old → IsReply (channel o past) p.0 p.1 → change past p.0 p.1 ≡ done → moves_none done ≡ true
      → is_over (p ∷ past) ≡ false
      → new ≡ record old {
        senders = senders_after old.senders done;
        receivers = receivers_after old.receivers done;
        sends = m;
        entries = es;
        peak = peak;
        next_ticket = next;
      }
      → SameMarks m old.sends
      → map bare es ≡ entries_after old.queue (not (is_closed_after past) && is_closed_after (p ∷ past)) (map bare old.entries) done
      → peak ≡ max old.peak (waiting_count es) → next ≡ old.next_ticket + tickets_issued done → Represents o (p ∷ past) new
  keeps_standing o past p done old new m es peak next h reply e none open_ is marks entered peaked issued_ =
      let all = keeps_all done none in
      let before : is_over past ≡ false = not_over_yet o past p (filled_if_named o past h.run) (reply, h.run) open_ in
      represents_as o (p ∷ past) new _ is (represents_open o past p done old _ h reply e open_ record {
        capacity_is = sym (all.capacity_same old.capacity);
        greatest_is = greatest_kept h;
        queued = queued h;
        line_is = line_stays o past p h.run (ap keeps_line e ∙ all.keeps) before open_ ∙ line_is h;
        queue_is = h.queue_is;
        length_is = sym (all.queued_same old.capacity _ (length old.queue));
        marks = λ t. marks t ∙ status_is h t
            ∙ sym (ap (λ b. status b (has_ticket t (offers_of old.blocked)))
            (still_live _ (is_live past t) _ (all.issues_no t) (all.spends_no t)));
        entries_are = entered;
        peak_is = peaked;
        next_is = issued_;
        senders_are = refl;
        receivers_are = refl;
      })

  -- nothing changes but signals and due marks
  pub still_signal : (o : Opening) (past : Log T A) (p : Step T × Reply T A) (old new : State T S) (m : SendMap S) → Represents o past old
      → IsReply (channel o past) p.0 p.1 → change past p.0 p.1 ≡ Stays → new ≡ record old { sends = m } → SameMarks m old.sends
      → Represents o (p ∷ past) new
  still_signal o past p old new m h reply e is marks = by_case (is_over past) refl
    where
      by_case : (b : Bool) → is_over past ≡ b → Represents o (p ∷ past) new
      by_case false open_ =
          keeps_standing o past p Stays old new m old.entries old.peak old.next_ticket h reply e refl
          (over_same past p Stays e refl ∙ open_) is marks refl (peak_kept h old.entries (omega arith)) (omega arith)
      by_case true over =
          let none : length old.queue + length old.blocked ≡ 0 = sym (line_length h) ∙ ap length (line_over past over) in
          represents_as o (p ∷ past) new _ is (represents_over o past p Stays old _ h reply e (over_same past p Stays e refl
          ∙ over) (λ c. refl) refl refl
          (nil_by old.queue (λ some. omega arith)) (nil_by old.blocked (λ some. omega arith))
          (λ t. marks t ∙ status_is h t ∙ ap (λ b. status b (has_ticket t (offers_of old.blocked))) (none_live past t over))
          (none_parked h over) refl (omega arith) refl refl)

  -- nothing changes
  pub still : (o : Opening) (past : Log T A) (p : Step T × Reply T A) (old new : State T S) → Represents o past old
      → IsReply (channel o past) p.0 p.1 → change past p.0 p.1 ≡ Stays → new ≡ old → Represents o (p ∷ past) new
  still o past p old new h reply e is = still_signal o past p old new old.sends h reply e is (λ t. refl)

  -- an end joins or leaves, and one is left
  pub counts_open : (o : Opening) (past : Log T A) (p : Step T × Reply T A) (done : Change T) (old new : State T S) (m : SendMap S)
      (es : EntryList T S) → Represents o past old → IsReply (channel o past) p.0 p.1 → change past p.0 p.1 ≡ done → moves_none done ≡ true
      → new ≡ record old {
        senders = senders_after old.senders done;
        receivers = receivers_after old.receivers done;
        sends = m;
        entries = es;
      }
      → SameMarks m old.sends
      → map bare es ≡ entries_after old.queue (not (is_closed_after past) && is_closed_after (p ∷ past)) (map bare old.entries) done
      → waiting_count es ≤ waiting_count old.entries → tickets_issued done ≡ 0
      → 0 < senders_after old.senders done + receivers_after old.receivers done → Represents o (p ∷ past) new
  counts_open o past p done old new m es h reply e none is marks entered fewer issued_ some =
      let a : senders_after old.senders done ≡ senders (p ∷ past) =
      ap (λ n. senders_after n done) h.senders_are ∙ sym (ap (senders_after (senders past)) e) in
      let b : receivers_after old.receivers done ≡ receivers (p ∷ past) =
      ap (λ n. receivers_after n done) h.receivers_are ∙ sym (ap (receivers_after (receivers past)) e) in
      keeps_standing o past p done old new m es old.peak old.next_ticket h reply e none (open_not_over (p ∷ past) (omega arith)) is
      marks entered
      (peak_kept h es fewer) (omega arith)

  -- an end leaves, and none is left
  pub counts_over : (o : Opening) (past : Log T A) (p : Step T × Reply T A) (done : Change T) (old new : State T S)
      → Represents o past old → IsReply (channel o past) p.0 p.1 → change past p.0 p.1 ≡ done → moves_none done ≡ true
      → tickets_issued done ≡ 0 → new ≡ with_nothing_left (record old {
        senders = senders_after old.senders done;
        receivers =
            receivers_after old.receivers done;
      })
      → senders_after old.senders done + receivers_after old.receivers done ≡ 0 → Represents o (p ∷ past) new
  counts_over o past p done old new h reply e moves issued_ is none =
      let a : senders_after old.senders done ≡ senders (p ∷ past) =
      ap (λ n. senders_after n done) h.senders_are ∙ sym (ap (senders_after (senders past)) e) in
      let b : receivers_after old.receivers done ≡ receivers (p ∷ past) =
      ap (λ n. receivers_after n done) h.receivers_are ∙ sym (ap (receivers_after (receivers past)) e) in
      let over : is_over (p ∷ past) ≡ true = eq-eqb _ 0 (let gone : senders (p ∷ past) + receivers (p ∷ past) ≡ 0 = omega arith in gone) in
      represents_as o (p ∷ past) new _ is
      (represents_over o past p done old _ h reply e over (keeps_all done moves).capacity_same refl refl refl refl
      (λ t. rw get-empty refl) refl refl (omega arith) refl refl)
