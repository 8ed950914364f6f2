-- No message is handed to a receiver that parked as an arm: it gets none as it leaves.
use Rattle.std.proofs.Common.{◌≡◌, ℕ, ◌<◌, Bool, true, false, not, ◌&&◌, if◌then◌else◌, List, [], ◌∷◌, ◌++◌, Option, Some, None}
use Rattle.std.proofs.Common.{refl, sym, ap, ◌∙◌, subst, arith}
use mathlib.Core.List.{reverse_aux}
use Rattle.std.proofs.lemmas.Grind.{common_steps}
use Rattle.flume_model.specs.declared.step.Kind.{Kind}
use Rattle.flume_model.specs.declared.step.Kind.TheVariants.{Block, Plain, Stream, Arm}
use Rattle.flume_model.specs.declared.step.Step.TheVariants.{Recv, Withdraw}
use Rattle.flume_model.specs.declared.step.Reply.TheVariants.{Got, Parked}
use Rattle.flume_model.specs.declared.entry.Mark.{Mark}
use Rattle.flume_model.specs.declared.entry.Mark.TheVariants.{Waiting, Woken, Filled}
use Rattle.flume_model.specs.Log.{Log, Opening, opens, Change, Queues, Takes, Parks, Asks, Collects, Leaves, SenderLeaves, ReceiverLeaves, change}
use Rattle.flume_model.specs.Counts.{is_over}
use Rattle.flume_model.specs.Line.{next_ticket}
use Rattle.flume_model.specs.Entries.{entry_of, is_filled, round, without_ticket, all_woken}
use Rattle.flume_model.specs.Asking.{IsWithdrawReply, IsWithdrawReplyByMark}
use Rattle.flume_model.specs.Parked.{LogEntry, same_notice, new_entry, entries, entries_after, is_closed_after}
use Rattle.flume_model.specs.Channel.{Channel, channel}
use Rattle.flume_model.specs.Replies.{IsRun}
use Rattle.flume_model.proofs.LawfulReplyLemmas.{Fits}
use Rattle.flume_model.proofs.EntryListLemmas.{round_for_push, again_cases, leave_cases, ticket_of}
use Rattle.flume_model.proofs.EntryMarkLemmas.{none_past}
use Rattle.flume_model.proofs.EntryShapeLemmas.{entries_apart, fits_run}
use Rattle.flume_party.specs.Interleavings.{Interleaving, End, Left, Right}
use Rattle.flume_actions.specs.Actions.{Action, IsPart}

module _ {T : Type 0} where
  -- an entry of an arm that holds no message
  abbrev IsArm : LogEntry T → Type 0
  IsArm e = (e.kind ≡ Arm) × (is_filled e.mark ≡ false)

  -- so is each with this ticket
  abbrev AreArms : ℕ → List (LogEntry T) → Type 0
  AreArms t [] = Unit {0}
  AreArms t (e ∷ es) = (e.ticket ≡ t → IsArm e) × AreArms t es

  -- the one that is found
  arm_found : (t : ℕ) (e : LogEntry T) (es : List (LogEntry T)) → AreArms t es → entry_of t es ≡ Some e → IsArm e
  arm_found t e [] all found = absurd (let none : ⊥ = cc in none)
  arm_found t e (x ∷ es) all found = grind (arith, common_steps, arm_found t e es)

  -- if none has the ticket
  arms_none : (t : ℕ) (es : List (LogEntry T)) → entry_of t es ≡ None → AreArms t es
  arms_none t [] none = tt
  arms_none t (x ∷ es) none = grind (arith, common_steps, arms_none t es)

  -- without one
  arms_without : (t u : ℕ) (es : List (LogEntry T)) → AreArms t es → AreArms t (without_ticket u es)
  arms_without t u [] all = tt
  arms_without t u (x ∷ es) all = grind (arith, common_steps, arms_without t u es)

  -- with one more
  arms_push : (t : ℕ) (es : List (LogEntry T)) (x : LogEntry T) → AreArms t es → (x.ticket ≡ t → IsArm x) → AreArms t (es ++ x ∷ [])
  arms_push t [] x all one = (one, tt)
  arms_push t (y ∷ es) x all one = (all.0, arms_push t es x all.1 one)

  -- once all are woken
  arms_woken : (t : ℕ) (es : List (LogEntry T)) → AreArms t es → AreArms t (all_woken same_notice es)
  arms_woken t [] all = tt
  arms_woken t (x ∷ es) all = grind (arith, common_steps, arms_woken t es)

  -- after a wake round
  arms_round : (t : ℕ) (front : T) (es : List (LogEntry T)) → AreArms t es → AreArms t (round same_notice front es)
  arms_round t front [] all = tt
  arms_round t front (x ∷ es) all = by_mark x.kind x.mark all.0 (arms_round t front es all.1)
    where
      by_mark : (k : Kind) (m : Mark T) → (x.ticket ≡ t → (k ≡ Arm) × (is_filled m ≡ false)) → AreArms t (round same_notice front es)
          → AreArms t (round same_notice front (record x { kind = k; mark = m } ∷ es))
      by_mark Block Waiting one rest = (λ same. absurd (let other = one same in let none : ⊥ = cc in none), all.1)
      by_mark Plain Waiting one rest = (λ same. ((one same).0, refl), all.1)
      by_mark Stream Waiting one rest = (λ same. ((one same).0, refl), rest)
      by_mark Arm Waiting one rest = (λ same. (refl, refl), all.1)
      by_mark k Woken one rest = (one, rest)
      by_mark k (Filled held) one rest = (one, rest)

  -- once an end leaves
  arms_close : (t : ℕ) (closes : Bool) (es : List (LogEntry T)) → AreArms t es → AreArms t (if closes then all_woken same_notice es else es)
  arms_close t true es all = arms_woken t es all
  arms_close t false es all = all

  -- after a change that fits
  arms_by : (c : Channel T) (closes : Bool) (done : Change T) (t : ℕ) → Fits c done → t < c.next_ticket → AreArms t c.entries
      → AreArms t (entries_after c.queue closes c.entries done)
  arms_by c closes (Queues m filled) t fit below all =
      round_for_push (λ es. AreArms t es) same_notice c.queue m c.entries (λ front. arms_round t front c.entries all)
  arms_by c closes (Takes m (Some u)) t fit below all = arms_without t u c.entries all
  arms_by c closes (Parks u kind) t fit below all =
      let same : u ≡ c.next_ticket = fit.3 in
      arms_push t c.entries (new_entry u kind) all (λ is. absurd (omega arith))
  arms_by c closes (Asks u) t fit below all =
      again_cases (λ es. AreArms t es) u c.entries all (λ e found woken. arms_push t (without_ticket u c.entries)
      (record e { mark = Waiting }) (arms_without t u c.entries all) (λ is. (of_found e found is, refl)))
    where
      of_found : (e : LogEntry T) → entry_of u c.entries ≡ Some e → e.ticket ≡ t → e.kind ≡ Arm
      of_found e found is =
          let same : u ≡ t = sym (ticket_of u e c.entries found) ∙ is in
          (arm_found t e c.entries all (subst (λ v. entry_of v c.entries ≡ Some e) same found)).0
  arms_by c closes (Collects u) t fit below all = arms_without t u c.entries all
  arms_by c closes (Leaves u filled) t fit below all =
      let others = arms_without t u c.entries all in
      leave_cases (λ es f. AreArms t es) same_notice u c.queue c.entries (λ none. others)
      (λ passes front rest is. arms_round t front (without_ticket u c.entries) others)
  arms_by c closes SenderLeaves t fit below all = arms_close t closes c.entries all
  arms_by c closes ReceiverLeaves t fit below all = arms_close t closes c.entries all
  arms_by c closes _ t fit below all = all

  -- the entries, by whether the channel is over
  over_or : (P : List (LogEntry T) → Type 0) (over : Bool) (es : List (LogEntry T)) → P [] → P es → P (if over then [] else es)
  over_or P true es none some = none
  over_or P false es none some = some

  -- an arm's entry isn't answered with a message as it leaves
  no_message : (A : Type 0) (c : Channel T) (t : ℕ) (m : T) (found : Option (LogEntry T)) → ((e : LogEntry T) → found ≡ Some e → IsArm e)
      → IsWithdrawReply {A = A} c t found (Got m) → ⊥
  no_message A c t m None arm reply = reply
  no_message A c t m (Some e) arm reply = by_mark e.kind e.mark (arm e refl) reply
    where
      by_mark : (k : Kind) (mark : Mark T) → (k ≡ Arm) × (is_filled mark ≡ false) → IsWithdrawReplyByMark {A = A} c t k mark (Got m) → ⊥
      by_mark k (Filled held) is reply = absurd (let none : ⊥ = cc in none)
      by_mark Block Waiting is reply = absurd (let none : ⊥ = cc in none)
      by_mark Block Woken is reply = absurd (let none : ⊥ = cc in none)
      by_mark Plain Waiting is reply = reply
      by_mark Plain Woken is reply = reply
      by_mark Stream Waiting is reply = reply
      by_mark Stream Woken is reply = reply
      by_mark Arm Waiting is reply = reply
      by_mark Arm Woken is reply = reply

module _ {T A : Type 0} where
  -- the ticket was issued, and no entry with it holds a message
  abbrev StaysEmpty : Opening → ℕ → Log T A → Type 0
  StaysEmpty o t log = (t < next_ticket o log) × AreArms t (entries o log)

  -- one step more
  empty_more : (o : Opening) (t : ℕ) (past : Log T A) (p : Action T A) → IsRun o (p ∷ past) → StaysEmpty o t past
      → StaysEmpty o t (p ∷ past)
  empty_more o t past p run empty = (
    omega (arith, empty.0),
    over_or (λ es. AreArms t es) (is_over (p ∷ past)) _ tt
        (arms_by (channel o past) (not (is_closed_after past) && is_closed_after (p ∷ past)) (change past p.0 p.1) t
        (fits_run o past p run) empty.0 empty.1),
  )

  -- an arm parks
  empty_parked : (o : Opening) (t : ℕ) (past : Log T A) → IsRun o ((Recv Arm, Parked t) ∷ past)
      → StaysEmpty o t ((Recv Arm, Parked t) ∷ past)
  empty_parked o t past run =
      let same : t ≡ next_ticket o past = run.0.3 in
      let none = none_past (next_ticket o past) t (entries o past) (omega arith) (entries_apart o past run.1) in (
        omega arith,
        over_or (λ es. AreArms t es) (is_over ((Recv Arm, Parked t) ∷ past)) _ tt
            (arms_push t (entries o past) (new_entry t Arm) (arms_none t (entries o past) none) (λ is. (refl, refl))),
      )

  -- what is before a run's end is one, too
  run_before : (o : Opening) (rest : List (Action T A)) (past : Log T A) → IsRun o (reverse_aux rest past) → IsRun o past
  run_before o [] past run = run
  run_before o (p ∷ rest) past run = (run_before o rest (p ∷ past) run).1

  -- several steps more
  empty_later : (o : Opening) (t : ℕ) (rest : List (Action T A)) (past : Log T A) → IsRun o (reverse_aux rest past)
      → StaysEmpty o t past → StaysEmpty o t (reverse_aux rest past)
  empty_later o t [] past run empty = empty
  empty_later o t (p ∷ rest) past run empty =
      empty_later o t rest (p ∷ past) run (empty_more o t past p (run_before o rest (p ∷ past) run) empty)

  -- one list and then another, the last element first
  reverse_both : (xs ys : List (Action T A)) (past : Log T A) → reverse_aux (xs ++ ys) past ≡ reverse_aux ys (reverse_aux xs past)
  reverse_both [] ys past = refl
  reverse_both (x ∷ xs) ys past = reverse_both xs ys (x ∷ past)

  -- a place in a list
  record Place (p : Action T A) (later all : List (Action T A)) : Type 0 where
    before : List (Action T A)
    after : List (Action T A)
    others : List (Action T A)
    is : all ≡ before ++ p ∷ after
    rest : Interleaving later others after

  -- an action of one of two lists has a place where they are merged
  place : (before : List (Action T A)) (p : Action T A) (later own others all : List (Action T A))
      → own ≡ before ++ p ∷ later → Interleaving own others all → Place p later all
  place [] p later _ _ _ is End = absurd (let none : ⊥ = cc in none)
  place (x ∷ before) p later _ _ _ is End = absurd (let none : ⊥ = cc in none)
  place [] p later _ _ _ is (Left {x = x} {xs = xs} {ys = ys} {zs = zs} rest) =
      let first : x ≡ p = cc in
      let others : xs ≡ later = cc in record {
        before = [];
        after = zs;
        others = ys;
        is = ap (λ head. head ∷ zs) first;
        rest = subst (λ list. Interleaving list ys zs) others rest;
      }
  place (b ∷ before) p later _ _ _ is (Left {x = x} {xs = xs} {ys = ys} {zs = zs} rest) =
      let more : xs ≡ before ++ p ∷ later = cc in
      let found = place before p later xs ys zs more rest in
      record { before = x ∷ found.before; after = found.after; others = found.others; is = ap (λ list. x ∷ list) found.is; rest = found.rest }
  place before p later own _ _ is (Right {y = y} {ys = ys} {zs = zs} rest) =
      let found = place before p later own ys zs is rest in
      record { before = y ∷ found.before; after = found.after; others = found.others; is = ap (λ list. y ∷ list) found.is; rest = found.rest }

  -- an arm that parked, and got a message as it left, isn't part of what was done to a channel
  pub never_handed : (capacity : Option ℕ) (before between : List (Action T A)) (t : ℕ) (m : T)
      → IsPart capacity (before ++ (Recv Arm, Parked t) ∷ (between ++ (Withdraw t, Got m) ∷ [])) → ⊥
  never_handed capacity before between t m part =
      let parks = place before (Recv Arm, Parked t) (between ++ (Withdraw t, Got m) ∷ []) _ part.others part.history refl part.among in
      let leaves = place between (Withdraw t, Got m) [] _ parks.others parks.after refl parks.rest in
      let o : Opening = opens capacity 1 in
      let past = reverse_aux parks.before [] in
      let all = reverse_both parks.before ((Recv Arm, Parked t) ∷ parks.after) [] in
      let run : IsRun o (reverse_aux parks.after ((Recv Arm, Parked t) ∷ past)) =
      subst (λ log. IsRun o log) all (subst (λ list. IsRun o (reverse_aux list [])) parks.is part.run) in
      let there = reverse_both leaves.before ((Withdraw t, Got m) ∷ leaves.after) ((Recv Arm, Parked t) ∷ past) in
      let run' : IsRun o (reverse_aux leaves.after ((Withdraw t, Got m) ∷ reverse_aux leaves.before ((Recv Arm, Parked t) ∷ past))) =
      subst (λ log. IsRun o log) there (subst (λ list. IsRun o (reverse_aux list ((Recv Arm, Parked t) ∷ past))) leaves.is run) in
      let now = run_before o leaves.after _ run' in
      let empty = empty_later o t leaves.before ((Recv Arm, Parked t) ∷ past) now.1
      (empty_parked o t past (run_before o leaves.before _ now.1)) in
      no_message A (channel o (reverse_aux leaves.before ((Recv Arm, Parked t) ∷ past))) t m
      (entry_of t (entries o (reverse_aux leaves.before ((Recv Arm, Parked t) ∷ past))))
      (λ e found. arm_found t e (entries o (reverse_aux leaves.before ((Recv Arm, Parked t) ∷ past))) empty.1 found) now.0
