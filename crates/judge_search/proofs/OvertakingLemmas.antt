-- From a configuration in whose queue a message stands that another one overtakes, nothing completes an explanation.
use Rattle.std.proofs.Common.{◌≡◌, inl, inr, ◌⊎◌, ℕ, ◌+◌, ◌≤◌, ◌<◌, Bool, true, false, not, ◌&&◌, if◌then◌else◌, List, [], ◌∷◌, ◌++◌}
use Rattle.std.proofs.Common.{Option, Some, None, refl, sym, ap, ◌∙◌, subst, append_assoc, take-append-drop, arith, drop, take, map, length, eq-eqb, ne_eqb}
use Rattle.std.proofs.Common.{◌-◌, get_or, get_or-take, get_or-drop, length-drop, length-take-le}
use Rattle.std.proofs.lemmas.List.Elements.{filter-append}
use Rattle.std.proofs.lemmas.List.Folds.{list_any_at}
use Rattle.std.specs.List.{Contains, slice_get, filter}
use Rattle.std.specs.Option.{option_and_then, option_map_or}
use Rattle.flume_model.specs.Log.{Log, Opening, Offer}
use Rattle.flume_model.specs.Counts.{senders, receivers}
use Rattle.flume_model.specs.Offers.{withdrawn, kept, hand_outs}
use Rattle.flume_model.specs.Line.{line, messages, queue_len, next_ticket}
use Rattle.judge_calls.specs.declared.call.Call.{Call}
use Rattle.judge_calls.specs.declared.call.Answer.{Answer}
use Rattle.judge_calls.specs.declared.call.Answer.TheVariants.{Got}
use Rattle.judge_calls.specs.declared.event.Event.{Event}
use Rattle.judge_calls.specs.declared.event.Event.TheVariants.{Begins, Returns}
use Rattle.judge_calls.specs.declared.event.Item.{Item}
use Rattle.judge_calls.specs.declared.event.Item.TheVariants.{Happens, Makes}
use Rattle.judge_calls.specs.declared.stage.Stage.{Stage}
use Rattle.judge_calls.specs.declared.stage.Stage.TheVariants as stage
use Rattle.judge_calls.specs.Calls.{message_of}
use Rattle.judge_calls.specs.Explanations.{events_in, steps_in, open_call, returns, IsExplanation}
use Rattle.judge_calls.specs.Patterns.{sends, begins_send}
use Rattle.judge_calls.proofs.HandedSinceLemmas.{since_now}
use Rattle.judge_calls.proofs.CallsSinceLemmas.{Stands, StandsIn}
use Rattle.judge_calls.proofs.OffersMadeLemmas.{Lacks, lacks_both}
use Rattle.judge_search.specs.declared.configuration.OpenCall.{OpenCall}
use Rattle.judge_search.specs.declared.configuration.Progress.{Progress}
use Rattle.judge_search.specs.declared.configuration.Progress.TheVariants.{Begun, Tried, Parked, Refused, Done}
use Rattle.judge_search.specs.Agreement.{Agrees, IsOpenAs, IsProgress}
use Rattle.judge_search.specs.Configurations.{State, call_by, first_answer}
use Rattle.judge_search.specs.Dead.{onto, IsDeadEnd}
use Rattle.judge_search.specs.Mirrors.{offer_for, some_offer}
use Rattle.judge_search.specs.Overtaking.{is_done, is_trying, is_trying_if, sends_at, some_sends, may_send, IsOvertaken}
use Rattle.judge_search.proofs.DeadReceiveLemmas.{before}
use Rattle.judge_search.proofs.LaterItemLemmas.{since_onto, stands_onto, got_since, kept_onto, IsQuiet, AreQuiet, OffersNoMore}
use Rattle.judge_search.proofs.LaterItemLemmas.{offers_onto, kept_later}
use Rattle.judge_search.proofs.LineLemmas.{filtered_short, map_twice, lacks_filter, not_after, AreAt, taken_at, dropped_at, lacks_sends}
use Rattle.judge_search.proofs.SeenPatternLemmas.{split_at}
use Rattle.judge_search.proofs.ThreadCallLemmas.{call_by-found}

module _ {T A : Type 0} where
  onto_both : (xs ys past : List (Item T A)) → onto (xs ++ ys) past ≡ onto ys (onto xs past)
  onto_both [] ys past = refl
  onto_both (x ∷ xs) ys past = onto_both xs ys (x ∷ past)

  -- items split at one of their events
  record SplitAt (items : List (Item T A)) (xs : List (Event T A)) (event : Event T A) (ys : List (Event T A)) : Type 0 where
    former : List (Item T A)
    later : List (Item T A)
    parts : items ≡ former ++ Happens event ∷ later
    former_are : events_in former ≡ xs
    later_are : events_in later ≡ ys

  split : (items : List (Item T A)) (xs : List (Event T A)) (event : Event T A) (ys : List (Event T A))
      → events_in items ≡ xs ++ event ∷ ys → SplitAt items xs event ys
  split [] [] event ys are = let none : ⊥ = cc in absurd none
  split [] (x ∷ xs) event ys are = let none : ⊥ = cc in absurd none
  split (Makes t s r ∷ items) xs event ys are =
      let k = split items xs event ys are in
      record {
        former = Makes t s r ∷ k.former;
        later = k.later;
        parts = ap (λ l. Makes t s r ∷ l) k.parts;
        former_are = k.former_are;
        later_are = k.later_are;
      }
  split (Happens own ∷ items) [] event ys are =
      let same : own ≡ event = cc in
      let others : events_in items ≡ ys = cc in
      record { former = []; later = items; parts = ap (λ e. Happens e ∷ items) same; former_are = refl; later_are = others }
  split (Happens own ∷ items) (x ∷ xs) event ys are =
      let same : own ≡ x = cc in
      let others : events_in items ≡ xs ++ event ∷ ys = cc in
      let k = split items xs event ys others in
      record {
        former = Happens own ∷ k.former;
        later = k.later;
        parts = ap (λ l. Happens own ∷ l) k.parts;
        former_are = ap (λ l. own ∷ l) k.former_are ∙ ap (λ e. e ∷ xs) same;
        later_are = k.later_are;
      }

  -- where they are split, others come on what was before
  onto_split : (items past : List (Item T A)) (xs : List (Event T A)) (event : Event T A) (ys : List (Event T A))
      → (k : SplitAt items xs event ys) → onto items past ≡ onto k.later (Happens event ∷ onto k.former past)
  onto_split items past xs event ys k =
      ap (λ l. onto l past) k.parts ∙ onto_both k.former (Happens event ∷ k.later) past

module _ {T A : Type 0} (equal : T → T → Bool) (events : List (Event T A)) where
  -- an open call that is trying has got nothing
  trying_stage : (n k : ℕ) (log : Log T A) (call : Call T) (recorded : Option (Answer T A)) (ticket : ℕ) (progress : Progress)
      (current : Stage T A) → IsProgress equal events call recorded ticket progress current → is_trying progress ≡ true
      → Stands n k log current
  trying_stage n k log call recorded ticket Begun stage.Begun is trying = tt
  trying_stage n k log call recorded ticket Tried stage.Tried is trying = tt
  trying_stage n k log call recorded ticket Begun _ is trying = absurd is
  trying_stage n k log call recorded ticket Tried _ is trying = absurd is
  trying_stage n k log call recorded ticket _ current is trying = let none : ⊥ = cc in absurd none

  trying_stands : (n k : ℕ) (log : Log T A) (tickets : ℕ → ℕ) (recorded : Option (Answer T A)) (found : Option OpenCall)
      (current : Option (Call T × Stage T A)) → IsOpenAs equal events tickets recorded found current → is_trying_if found ≡ true
      → StandsIn n k log current
  trying_stands n k log tickets recorded found None is trying = tt
  trying_stands n k log tickets recorded None (Some current) is trying = absurd is
  trying_stands n k log tickets recorded (Some one) (Some current) is trying =
      trying_stage n k log current.0 recorded (tickets one.place) one.progress current.1 is.1 trying

  -- an open call that may not send such a message any more is quiet
  quiet_stage : (such : T → Bool) (call : Call T) (recorded : Option (Answer T A)) (ticket : ℕ) (progress : Progress)
      (current : Stage T A) → IsProgress equal events call recorded ticket progress current
      → (not (is_done progress) && sends such call) ≡ false
      → (sends such call ≡ false) ⊎ ((own : Answer T A) × (current ≡ stage.Answered own))
  quiet_stage such call recorded ticket Done (stage.Answered own) is none = inr (own, refl)
  quiet_stage such call recorded ticket Done _ is none = absurd is
  quiet_stage such call recorded ticket Begun current is none = inl none
  quiet_stage such call recorded ticket Tried current is none = inl none
  quiet_stage such call recorded ticket Parked current is none = inl none
  quiet_stage such call recorded ticket Refused current is none = inl none

  -- one of a list of which none may send
  none_among : (such : T → Bool) (calls : List OpenCall) (one : OpenCall) → may_send events such calls ≡ false → Contains calls one
      → (not (is_done one.progress) && sends_at events such one.place) ≡ false
  none_among such calls one none has = by (not (is_done one.progress) && sends_at events such one.place) refl
    where
      test : OpenCall → Bool
      test call = not (is_done call.progress) && sends_at events such call.place

      by : (b : Bool) → test one ≡ b → test one ≡ false
      by false is = is
      by true is =
          let some = list_any_at test calls has.0 one has.1 (ap test has.2 ∙ is) in let no_way : ⊥ = cc in absurd no_way

  quiet_by : (such : T → Bool) (calls : List OpenCall) (tickets : ℕ → ℕ) (recorded : Option (Answer T A)) (t : ℕ)
      (found : Option OpenCall) (current : Option (Call T × Stage T A)) → may_send events such calls ≡ false
      → call_by events t calls ≡ found → IsOpenAs equal events tickets recorded found current → IsQuiet equal events such current
  quiet_by such calls tickets recorded t found None none found_is is = tt
  quiet_by such calls tickets recorded t None (Some current) none found_is is = absurd is
  quiet_by such calls tickets recorded t (Some one) (Some current) none found_is is =
      quiet_stage such current.0 recorded (tickets one.place) one.progress current.1 is.1
      (subst (λ found. (not (is_done one.progress) && option_map_or such (option_and_then message_of found) false) ≡ false) is.0
      (none_among such calls one none (call_by-found events t calls one found_is).0))

  quiet_calls : (o : Opening) (past : List (Item T A)) (rest : List (Event T A)) (c : State) (such : T → Bool)
      → Agrees equal events o past rest c → may_send events such c.calls ≡ false → AreQuiet equal events such past
  quiet_calls o past rest c such agrees none t =
      quiet_by such c.calls agrees.tickets (first_answer t rest) t (call_by events t c.calls) (open_call past t) none refl
      (agrees.calls_are t)

  -- the line of the log has the messages of the queue, and then the blocked ones
  queue_at : (o : Opening) (past : List (Item T A)) (rest : List (Event T A)) (c : State) → (a : Agrees equal events o past rest c)
      → AreAt events c.queue (take (queue_len o (steps_in past)) (line (steps_in past)))
  queue_at o past rest c a =
      a.channel.queue_is ∙ ap (map Some) a.represents.queue_is
      ∙ map_twice Some (λ (offer : Offer T). offer.message) (take (queue_len o (steps_in past)) (line (steps_in past)))

  blocked_at : (o : Opening) (past : List (Item T A)) (rest : List (Event T A)) (c : State) → (a : Agrees equal events o past rest c)
      → AreAt events c.blocked (drop (queue_len o (steps_in past)) (line (steps_in past)))
  blocked_at o past rest c a =
      let text = λ (offer : Offer (Option T)). offer.message in
      sym (map_twice text (offer_for events a.tickets) c.blocked)
      ∙ ap (map text) (a.channel.blocked_are ∙ ap (map some_offer) a.represents.blocked_are)
      ∙ map_twice text some_offer (drop (queue_len o (steps_in past)) (line (steps_in past)))

  not_over : (o : Opening) (past : List (Item T A)) (rest : List (Event T A)) (c : State) → (a : Agrees equal events o past rest c)
      → 0 < c.senders + c.receivers → line (steps_in past) ≡ drop (hand_outs (steps_in past)) (kept (steps_in past))
  not_over o past rest c a some =
      let sender = a.channel.senders_are ∙ a.represents.senders_are in
      let receiver = a.channel.receivers_are ∙ a.represents.receivers_are in
      ap (λ b. if b then [] else drop (hand_outs (steps_in past)) (kept (steps_in past)))
      (ne_eqb (senders (steps_in past) + receivers (steps_in past)) 0 (λ none. omega (arith, none, some, sender, receiver)))

  -- what is kept later, in three parts: up to the first ones of the queue; the others, of which none is such; and what was handed out
  record InParts (such other : T → Bool) (log later : Log T A) : Type 0 where
    early : List (Offer T)
    middle : List (Offer T)
    rest : List (Offer T)
    kept_is : kept later ≡ early ++ (middle ++ rest)
    short : length early ≤ hand_outs log
    no_other : Lacks other middle
    no_such : Lacks such rest

  in_parts : (o : Opening) (past items : List (Item T A)) (place : ℕ) (c : State) → (h : IsOvertaken equal events place c)
      → (a : Agrees equal events o past (drop place events) c)
      → OffersNoMore equal events (equal h.first) (steps_in past) (steps_in (onto items past))
      → InParts (equal h.first) (equal h.second) (steps_in past) (steps_in (onto items past))
  in_parts o past items place c h a no_more =
      let log = steps_in past in
      let stays = λ (offer : Offer T). not (withdrawn (steps_in (onto items past)) offer) in
      let queued = take (queue_len o log) (line log) in
      let blocked = drop (queue_len o log) (line log) in
      let handed = take (hand_outs log) (kept log) in
      let front = take h.count queued in
      let behind = drop h.count queued in
      let parts : kept log ≡ handed ++ (front ++ behind ++ blocked) =
      sym (take-append-drop (hand_outs log) (kept log))
      ∙ ap (λ l. handed ++ l) (sym (not_over o past (drop place events) c a h.some_end)
      ∙ sym (take-append-drop (queue_len o log) (line log)) ∙ ap (λ l. l ++ blocked) (sym (take-append-drop h.count queued))) in
      let first = equal h.first in
      let queue_are = queue_at o past (drop place events) c a in
      record {
        early = filter stays handed;
        middle = filter stays front;
        rest = (filter stays behind ++ filter stays blocked) ++ filter stays no_more.more;
        kept_is = kept_later equal events first items past no_more
            ∙ ap (λ l. filter stays l ++ filter stays no_more.more) parts
            ∙ ap (λ l. l ++ filter stays no_more.more)
            (filter-append stays handed (front ++ behind ++ blocked)
            ∙ ap (λ l. filter stays handed ++ l) (filter-append stays (front ++ behind) blocked
            ∙ ap (λ l. l ++ filter stays blocked) (filter-append stays front behind)
            ∙ append_assoc (filter stays front) (filter stays behind) (filter stays blocked)))
            ∙ append_assoc (filter stays handed) (filter stays front ++ (filter stays behind ++ filter stays blocked))
            (filter stays no_more.more)
            ∙ ap (λ l. filter stays handed ++ l)
            (append_assoc (filter stays front) (filter stays behind ++ filter stays blocked) (filter stays no_more.more));
        short = filtered_short stays (hand_outs log) (kept log);
        no_other = lacks_filter (equal h.second) stays front
            (lacks_sends events (equal h.second) (take h.count c.queue) front (taken_at events h.count c.queue queued queue_are)
            h.none_before);
        no_such = lacks_both first (filter stays behind ++ filter stays blocked) (filter stays no_more.more)
            (lacks_both first (filter stays behind) (filter stays blocked)
            (lacks_filter first stays behind (lacks_sends events first (drop h.count c.queue) behind
            (dropped_at events h.count c.queue queued queue_are) h.none_behind))
            (lacks_filter first stays blocked (lacks_sends events first c.blocked blocked (blocked_at o past (drop place events) c a)
            h.none_blocked)))
            (lacks_filter first stays no_more.more no_more.lacks);
      }

  -- the one message was got before the receive of the other one began, which was in line before it
  not_overtaken : (o : Opening) (past until early between inner later : List (Item T A)) (place : ℕ) (c : State)
      → (h : IsOvertaken equal events place c) → Agrees equal events o past (drop place events) c
      → IsExplanation equal o (onto later (Happens (Returns h.receiver (Got h.first)) ∷ onto until past))
      → onto until past ≡ onto inner (Happens (Begins h.receiver h.call) ∷ onto between (Happens (Returns h.other (Got h.second))
      ∷ onto early past))
      → begins_send (equal h.first) (events_in until) ≡ false → ⊥
  not_overtaken o past until early between inner later place c h a x until_is none_sent =
      let back : Item T A = Happens (Returns h.other (Got h.second)) in
      let begin : Item T A = Happens (Begins h.receiver h.call) in
      let end : Item T A = Happens (Returns h.receiver (Got h.first)) in
      let received = onto early past in
      let begun = begin ∷ onto between (back ∷ received) in
      let all = onto inner begun in
      let ended = before equal events o (end ∷ onto until past) later x in
      let x_until : IsExplanation equal o (onto until past) = record { calls = ended.calls.1; run = ended.run } in
      let x_all = subst (IsExplanation equal o) until_is x_until in
      let x_begun = before equal events o begun inner x_all in
      let x_back = before equal events o (back ∷ received) between (record { calls = x_begun.calls.1; run = x_begun.run }) in
      let x_received : IsExplanation equal o received = record { calls = x_back.calls.1; run = x_back.run } in
      let x_past = before equal events o past early x_received in
      let at_past = hand_outs (steps_in past) in
      let since_past = since_now o (steps_in past) x_past.run in
      let second = got_since equal events at_past (next_ticket o (steps_in past)) (steps_in received) h.second (open_call received h.other)
      (stands_onto equal events at_past (next_ticket o (steps_in past)) o early past x_received since_past h.other
      (trying_stands at_past (next_ticket o (steps_in past)) (steps_in past) a.tickets (first_answer h.other (drop place events))
      (call_by events h.other c.calls) (open_call past h.other) (a.calls_are h.other) h.no_message_yet)) x_back.calls.0 in
      let at_received = hand_outs (steps_in received) in
      let since_received = since_now o (steps_in received) x_received.run in
      let since_begun = since_onto equal events at_received (next_ticket o (steps_in received)) o between (back ∷ received)
      (record { calls = x_begun.calls.1; run = x_begun.run }) since_received in
      let first = got_since equal events at_received (next_ticket o (steps_in received)) (steps_in all) h.first (open_call all h.receiver)
      (stands_onto equal events at_received (next_ticket o (steps_in received)) o inner begun x_all since_begun h.receiver
      (new_call at_received (next_ticket o (steps_in received)) (steps_in begun) h.receiver h.call (onto between (back ∷ received))))
      (subst (λ l. returns equal (open_call l h.receiver) (Got h.first) ≡ true) until_is ended.calls.0) in
      let back_to_all = onto_both (back ∷ between) (begin ∷ inner) received in
      let stays = kept_onto equal events at_received (next_ticket o (steps_in received)) o (back ∷ between ++ begin ∷ inner) received
      second.number (subst (IsExplanation equal o) (sym back_to_all) x_all) since_received second.handed in
      let no_more = offers_onto equal events (equal h.first) o until past x_until
      (quiet_calls o past (drop place events) c (equal h.first) a h.none_open) none_sent in
      let parts = in_parts o past until place c h a no_more in
      let kept_is = ap (λ l. kept (steps_in l)) (sym until_is) ∙ parts.kept_is in
      let not_before = first.not_before in
      let handed = second.handed in
      let behind = second.not_before in
      let short = parts.short in
      not_after (equal h.first) (equal h.second) parts.early parts.middle parts.rest second.number first.number first.offer second.offer
      (omega arith) (omega arith) (sym (ap (λ l. slice_get l first.number) kept_is) ∙ first.is_kept)
      (sym (ap (λ l. slice_get l second.number) kept_is)
      ∙ ap (λ l. slice_get (kept (steps_in l)) second.number) (sym back_to_all) ∙ stays ∙ second.is_kept)
      parts.no_other parts.no_such first.same second.same
    where
      new_call : (n k : ℕ) (log : Log T A) (t : ℕ) (call : Call T) (older : List (Item T A))
          → StandsIn n k log (open_call (Happens (Begins t call) ∷ older) t)
      new_call n k log t call older =
          subst (λ b. StandsIn n k log (if b then Some (call, stage.Begun) else open_call older t)) (sym (eq-eqb t t refl)) tt

  pub dead_if_overtaken : (place : ℕ) (c : State) → IsOvertaken equal events place c → IsDeadEnd equal events place c
  dead_if_overtaken place c h o past items a on =
      let back = Returns h.other (Got h.second) in
      let begin = Begins h.receiver h.call in
      let end = Returns h.receiver (Got h.first) in
      let ended = split items (h.early ++ back ∷ h.between ++ begin ∷ h.inner) end h.later (on.events_are ∙ h.parts) in
      let begun = split ended.former (h.early ++ back ∷ h.between) begin h.inner ended.former_are in
      let received = split begun.former h.early back h.between begun.former_are in
      not_overtaken o past ended.former received.former received.later begun.later ended.later place c h a
      (subst (IsExplanation equal o)
      (onto_split items past (h.early ++ back ∷ h.between ++ begin ∷ h.inner) end h.later ended) on.explains)
      (onto_split ended.former past (h.early ++ back ∷ h.between) begin h.inner begun
      ∙ ap (λ l. onto begun.later (Happens begin ∷ l)) (onto_split begun.former past h.early back h.between received))
      (subst (λ l. begins_send (equal h.first) l ≡ false) (sym ended.former_are) h.none_sent)

  -- an event that is read at a place, behind an earlier one and before a later one
  read_at : (place last at : ℕ) (event : Event T A) → place ≤ at → at < last → event ≡ get_or events at event
      → event ≡ get_or (take (last - place) (drop place events)) (at - place) event
  read_at place last at event above below is =
      is ∙ ap (λ n. get_or events n event) (let same : at ≡ place + (at - place) = omega arith in same)
      ∙ sym (get_or-drop place events (at - place) event) ∙ sym (get_or-take (last - place) (drop place events) (at - place) event (omega arith))

  -- what is seen at places of the events
  pub overtaken_at : (place : ℕ) (c : State) (count received begun returned : ℕ) (at_received at_begun at_returned : Event T A)
      (other receiver : ℕ) (call : Call T) (first second : T)
      → place ≤ received → received < begun → begun < returned → returned < length events
      → at_received ≡ get_or events received at_received → at_received ≡ Returns other (Got second)
      → at_begun ≡ get_or events begun at_begun → at_begun ≡ Begins receiver call
      → at_returned ≡ get_or events returned at_returned → at_returned ≡ Returns receiver (Got first)
      → begins_send (equal first) (take (returned - place) (drop place events)) ≡ false
      → may_send events (equal first) c.calls ≡ false → is_trying_if (call_by events other c.calls) ≡ true → 0 < c.senders + c.receivers
      → some_sends events (equal second) (take count c.queue) ≡ false → some_sends events (equal first) (drop count c.queue) ≡ false
      → some_sends events (equal first) c.blocked ≡ false → IsOvertaken equal events place c
  overtaken_at place c count received begun returned at_received at_begun at_returned other receiver call first second above next further
      within received_at received_is begun_at begun_is returned_at returned_is none_sent none_open trying some none_before none_behind
      none_blocked =
      let all = drop place events in
      let until = take (returned - place) all in
      let before_begin = take (begun - place) until in
      let size : length all ≡ length events - place = length-drop place events in
      let until_size : length until ≡ returned - place = length-take-le (returned - place) all (omega arith) in
      let before_size : length before_begin ≡ begun - place = length-take-le (begun - place) until (omega arith) in
      let end_at : at_returned ≡ get_or all (returned - place) at_returned =
      returned_at ∙ ap (λ n. get_or events n at_returned) (let same : returned ≡ place + (returned - place) = omega arith in same)
      ∙ sym (get_or-drop place events (returned - place) at_returned) in
      let begin_at = read_at place returned begun at_begun (omega arith) further begun_at in
      let back_at : at_received ≡ get_or before_begin (received - place) at_received =
      read_at place returned received at_received above (omega arith) received_at
      ∙ sym (get_or-take (begun - place) until (received - place) at_received (omega arith)) in
      let early = take (received - place) before_begin in
      let between = drop (received - place + 1) before_begin in
      let inner = drop (begun - place + 1) until in
      let until_is : until ≡ early ++ Returns other (Got second) ∷ between ++ Begins receiver call ∷ inner =
      split_at until (begun - place) at_begun (omega arith) begin_at
      ∙ ap (λ l. l ++ at_begun ∷ inner) (split_at before_begin (received - place) at_received (omega arith) back_at)
      ∙ ap (λ e. early ++ e ∷ between ++ at_begun ∷ inner) received_is
      ∙ ap (λ e. early ++ Returns other (Got second) ∷ between ++ e ∷ inner) begun_is in
      let later = drop (returned - place + 1) all in
      record {
        first = first;
        second = second;
        early = early;
        other = other;
        between = between;
        receiver = receiver;
        call = call;
        inner = inner;
        later = later;
        parts = split_at all (returned - place) at_returned (omega arith) end_at
            ∙ ap (λ l. l ++ at_returned ∷ later) until_is
            ∙ ap (λ e. early ++ Returns other (Got second) ∷ between ++ Begins receiver call ∷ inner ++ e ∷ later) returned_is;
        none_sent = subst (λ l. begins_send (equal first) l ≡ false) until_is none_sent;
        none_open = none_open;
        no_message_yet = trying;
        some_end = some;
        count = count;
        none_before = none_before;
        none_behind = none_behind;
        none_blocked = none_blocked;
      }
