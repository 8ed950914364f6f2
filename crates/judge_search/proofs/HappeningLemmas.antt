-- Where the next event leads: it begins a call, which is open from then on, or returns one, which is open no more.
use Rattle.std.proofs.Common.{◌≡◌, ℕ, ◌+◌, ◌==◌, Bool, true, false, not, List, [], ◌∷◌, ◌++◌, Option, Some, None, refl, sym, ap, ◌∙◌, subst}
use Rattle.std.proofs.Common.{drop, get_or, if◌then◌else◌, eq-eqb}
use Rattle.std.proofs.lemmas.Bool.{eqb-true, false≢true}
use Rattle.std.proofs.lemmas.List.Elements.{All-push, All-weaker, All-filter, filter_passes}
use Rattle.std.specs.Bool.{IsTrue}
use Rattle.std.specs.List.{All}
use Rattle.std.specs.Option.{option_map, option_and_then}
use Rattle.judge_calls.specs.declared.call.Call.{Call}
use Rattle.judge_calls.specs.declared.call.Answer.{Answer}
use Rattle.judge_calls.specs.declared.event.Event.{Event}
use Rattle.judge_calls.specs.declared.event.Event.TheVariants.{Begins, Returns}
use Rattle.judge_calls.specs.declared.event.Item.TheVariants.{Happens}
use Rattle.judge_calls.specs.declared.stage.Stage.{Stage}
use Rattle.judge_calls.specs.declared.stage.Stage.TheVariants as stage
use Rattle.judge_calls.specs.Answers.{may_return}
use Rattle.judge_calls.specs.Explanations.{open_call, returns, thread_of, Fits}
use Rattle.judge_search.specs.declared.configuration.OpenCall.{OpenCall}
use Rattle.judge_search.specs.declared.configuration.Progress.{Progress}
use Rattle.judge_search.specs.declared.configuration.Progress.TheVariants.{Begun, Tried, Parked, Refused, Done}
use Rattle.judge_search.specs.Configurations.{State, event_at, thread_at, call_by, is_thread, is_parked, first_answer, call_of}
use Rattle.judge_search.specs.Agreement.{Agrees, AreParked, IsOpenAs, IsOwn, IsProgress, parked_at}
use Rattle.judge_search.specs.Happens.{new_call, with_call, without_call}
use Rattle.judge_search.specs.Dead.{EventLeads}
use Rattle.judge_search.proofs.EventsAtLemmas.{events_from}
use Rattle.judge_search.proofs.ThreadCallLemmas.{without, is_thread_true, call_by-other, call_by-new, call_by-kept, call_by-found}
use Rattle.judge_search.proofs.ThreadCallLemmas.{call_by-without_other, call_by-without_own, StandsAt, parked_at-begun, IsIdle}
use Rattle.judge_search.proofs.ThreadCallLemmas.{parked_at-without}

-- who is parked, if others are the same
module _ {T A : Type 0} (events : List (Event T A)) (tickets : ℕ → ℕ) (next : ℕ) (c : State) (calls : List OpenCall)
    (same : (p : ℕ) → parked_at calls p ≡ parked_at c.calls p) where
  parked_same : AreParked events tickets next c → AreParked events tickets next (record c { calls = calls })
  parked_same parked = record {
    tickets_apart = λ p q hp hq. parked.tickets_apart p q (sym (same p) ∙ hp) (sym (same q) ∙ hq);
    tickets_below = λ p hp. parked.tickets_below p (sym (same p) ∙ hp);
    blocked_parked = All-weaker (λ p. parked_at c.calls p ≡ true) (λ p. parked_at calls p ≡ true) (λ p h. same p
        ∙ h) c.blocked parked.blocked_parked;
    receives_parked = All-weaker (λ r. parked_at c.calls r.place ≡ true) (λ r. parked_at calls r.place ≡ true) (λ r h. same r.place ∙ h)
        c.receives parked.receives_parked;
    blocked_send = parked.blocked_send;
    receives_apart = parked.receives_apart;
  }

module _ {T A : Type 0} (equal : T → T → Bool) (events : List (Event T A)) where
  -- a call begins
  pub begins_leads : (place : ℕ) (c : State) (t : ℕ) (call : Call T) → event_at events place ≡ Some (Begins t call)
      → EventLeads equal events place c (with_call place c)
  begins_leads place c t call begins o past event agrees there fits =
      subst (λ e. Agrees equal events o (Happens e ∷ past) (drop (place + 1) events) (with_call place c)) (sym same) (record {
        state = agrees.state;
        represents = agrees.represents;
        tickets = agrees.tickets;
        channel = record {
          capacity_is = agrees.channel.capacity_is;
          senders_are = agrees.channel.senders_are;
          receivers_are = agrees.channel.receivers_are;
          queue_is = agrees.channel.queue_is;
          blocked_are = agrees.channel.blocked_are;
          receives_are = agrees.channel.receives_are;
        };
        calls_are = λ u. at u (t == u) refl;
        threads_apart = All-push (IsOwn equal events calls) c.calls (new_call place)
            (All-weaker (IsOwn equal events c.calls) (IsOwn equal events calls)
            (λ x own. (own.0, own.1, call_by-kept events own.0 c.calls (new_call place ∷ []) x own.2))
            c.calls agrees.threads_apart) (
              t,
              thread,
              call_by-new events t c.calls (new_call place) no_call (ap (is_thread t) thread
                  ∙ eq-eqb t t refl),
            );
        parked = parked_same events agrees.tickets agrees.state.next_ticket c calls (parked_at-begun c.calls place) agrees.parked;
      })
    where
      calls : List OpenCall
      calls = c.calls ++ new_call place ∷ []

      same : event ≡ Begins t call
      same = let k = sym there ∙ begins in let e : event ≡ Begins t call = cc in e

      none : open_call past t ≡ None
      none = subst (λ e. Fits equal past (Happens e)) same fits

      no_call : call_by events t c.calls ≡ None
      no_call = by (call_by events t c.calls) refl
          (subst (IsOpenAs equal events agrees.tickets (first_answer t (drop place events)) (call_by events t c.calls)) none
          (agrees.calls_are t))
        where
          by : (x : Option OpenCall) → call_by events t c.calls ≡ x
              → IsOpenAs equal events agrees.tickets (first_answer t (drop place events)) x None → call_by events t c.calls ≡ None
          by None is h = is
          by (Some one) is h = absurd h

      thread : thread_at events place ≡ Some t
      thread = ap (option_map thread_of) begins

      first : (u : ℕ) → first_answer u (drop place events) ≡ first_answer u (drop (place + 1) events)
      first u = ap (first_answer u) (events_from events place (Begins t call) begins)

      at : (u : ℕ) (b : Bool) → (t == u) ≡ b
          → IsOpenAs equal events agrees.tickets (first_answer u (drop (place + 1) events)) (call_by events u calls)
          (if t == u then Some (call, stage.Begun) else open_call past u)
      at u true is =
          subst (λ b. IsOpenAs equal events agrees.tickets (first_answer u (drop (place + 1) events)) (call_by events u calls)
          (if b then Some (call, stage.Begun) else open_call past u)) (sym is)
          (subst (λ x. IsOpenAs equal events agrees.tickets (first_answer u (drop (place + 1) events)) x (Some (call, stage.Begun)))
          (sym (call_by-new events u c.calls (new_call place) (subst (λ v. call_by events v c.calls ≡ None) (eqb-true t u is) no_call)
          (ap (is_thread u) thread ∙ is))) (ap (option_and_then call_of) begins, tt))
      at u false is =
          subst (λ b. IsOpenAs equal events agrees.tickets (first_answer u (drop (place + 1) events)) (call_by events u calls)
          (if b then Some (call, stage.Begun) else open_call past u)) (sym is)
          (subst (λ x. IsOpenAs equal events agrees.tickets (first_answer u (drop (place + 1) events)) x (open_call past u))
          (sym (call_by-other events u c.calls (new_call place) (ap (is_thread u) thread ∙ is)))
          (subst (λ f. IsOpenAs equal events agrees.tickets f (call_by events u c.calls) (open_call past u)) (first u)
          (agrees.calls_are u)))

  -- a call that may return isn't parked
  not_parked : (call : Call T) (recorded : Option (Answer T A)) (ticket : ℕ) (recorded_answer : Answer T A) (progress : Progress)
      (current : Stage T A)
      → IsProgress equal events call recorded ticket progress current → may_return equal call current recorded_answer ≡ true
      → is_parked progress ≡ false
  not_parked call recorded ticket recorded_answer Begun current h may = refl
  not_parked call recorded ticket recorded_answer Tried current h may = refl
  not_parked call recorded ticket recorded_answer Done current h may = refl
  not_parked call recorded ticket recorded_answer Parked (stage.Parked n) h may = absurd (false≢true may)
  not_parked call recorded ticket recorded_answer Refused (stage.Refused n) h may = absurd (false≢true may)
  not_parked call recorded ticket recorded_answer Parked _ h may = absurd h
  not_parked call recorded ticket recorded_answer Refused _ h may = absurd h

  -- no other open call is of the thread, or has the same place
  module _ (c : State) (t : ℕ) (one : OpenCall) (own : call_by events t c.calls ≡ Some one) where
    -- its thread
    its_thread : thread_at events one.place ≡ Some t
    its_thread = (call_by-found events t c.calls one own).1

    -- an open call of the thread is this one
    only_one : (x : OpenCall) → IsOwn equal events c.calls x → thread_at events x.place ≡ Some t → x ≡ one
    only_one x h of =
        let same : h.0 ≡ t = (let k = sym h.1 ∙ of in let e : h.0 ≡ t = cc in e) in
        let found : Some x ≡ Some one = sym h.2 ∙ ap (λ u. call_by events u c.calls) same ∙ own in
        let e : x ≡ one = cc in e

    -- so it stands at its place
    stands_at : (x : OpenCall) → IsOwn equal events c.calls x → StandsAt events t one.place x
    stands_at x h of = ap (λ (y : OpenCall). y.place) (only_one x h (is_thread_true t (thread_at events x.place) of))

    -- and isn't parked if this one isn't
    idle : is_parked one.progress ≡ false → (x : OpenCall) → IsOwn equal events c.calls x → IsIdle one.place x
    idle free x h at = ap (λ (y : OpenCall). is_parked y.progress) (only_one x h (ap (thread_at events) at ∙ its_thread)) ∙ free

    -- it isn't of another thread
    off_thread : (u : ℕ) → (t == u) ≡ false → is_thread u (thread_at events one.place) ≡ false
    off_thread u off = ap (is_thread u) its_thread ∙ off

    -- who is left has the thread of its own
    still_own : (x : OpenCall) → IsOwn equal events c.calls x → not (x.place == one.place) ≡ true
        → IsOwn equal events (without one.place c.calls) x
    still_own x h kept = (h.0, h.1, by (t == h.0) refl)
      where
        by : (b : Bool) → (t == h.0) ≡ b → call_by events h.0 (without one.place c.calls) ≡ Some x
        by true is =
            let same = stands_at x h (ap (is_thread t) h.1 ∙ eq-eqb h.0 t (sym (eqb-true t h.0 is))) in
            absurd (false≢true (ap not (sym (eq-eqb x.place one.place same)) ∙ kept))
        by false is = call_by-without_other events h.0 one.place c.calls (off_thread h.0 is) ∙ h.2

    -- all who are left have
    all_still_own : All (IsOwn equal events c.calls) c.calls
        → All (IsOwn equal events (without one.place c.calls)) (without one.place c.calls)
    all_still_own all k d within = still_own (get_or (without one.place c.calls) k d)
        (All-filter (λ (x : OpenCall). not (x.place == one.place)) (IsOwn equal events c.calls) c.calls all k d within)
        (filter_passes (λ (x : OpenCall). not (x.place == one.place)) c.calls k d within)

  -- the open call of a thread returns
  pub returns_leads : (place : ℕ) (c : State) (t : ℕ) (recorded_answer : Answer T A) (one : OpenCall)
      → event_at events place ≡ Some (Returns t recorded_answer)
      → call_by events t c.calls ≡ Some one → EventLeads equal events place c (without_call one.place c)
  returns_leads place c t recorded_answer one returns_it own o past event agrees there fits =
      subst (λ e. Agrees equal events o (Happens e ∷ past) (drop (place + 1) events) (without_call one.place c)) (sym same) (record {
        state = agrees.state;
        represents = agrees.represents;
        tickets = agrees.tickets;
        channel = record {
          capacity_is = agrees.channel.capacity_is;
          senders_are = agrees.channel.senders_are;
          receivers_are = agrees.channel.receivers_are;
          queue_is = agrees.channel.queue_is;
          blocked_are = agrees.channel.blocked_are;
          receives_are = agrees.channel.receives_are;
        };
        calls_are = λ u. at u (t == u) refl;
        threads_apart = all_still_own c t one own agrees.threads_apart;
        parked = parked_same events agrees.tickets agrees.state.next_ticket c calls (λ p. parked_at-without one.place c.calls p
            (All-weaker (IsOwn equal events c.calls) (IsIdle one.place) (idle c t one own free) c.calls agrees.threads_apart))
            agrees.parked;
      })
    where
      calls : List OpenCall
      calls = without one.place c.calls

      same : event ≡ Returns t recorded_answer
      same = let k = sym there ∙ returns_it in let e : event ≡ Returns t recorded_answer = cc in e

      free : is_parked one.progress ≡ false
      free = by (open_call past t) (subst (λ e. Fits equal past (Happens e)) same fits)
          (subst (λ x. IsOpenAs equal events agrees.tickets (first_answer t (drop place events)) x (open_call past t)) own
          (agrees.calls_are t))
        where
          by : (current : Option (Call T × Stage T A)) → IsTrue (returns equal current recorded_answer)
              → IsOpenAs equal events agrees.tickets (first_answer t (drop place events)) (Some one) current
              → is_parked one.progress ≡ false
          by None may h = absurd h
          by (Some current) may h = not_parked current.0 (first_answer t (drop place events))
              (agrees.tickets one.place) recorded_answer one.progress current.1 h.1 may

      rest_is : drop place events ≡ Returns t recorded_answer ∷ drop (place + 1) events
      rest_is = events_from events place (Returns t recorded_answer) returns_it

      at : (u : ℕ) (b : Bool) → (t == u) ≡ b
          → IsOpenAs equal events agrees.tickets (first_answer u (drop (place + 1) events)) (call_by events u calls)
          (if t == u then None else open_call past u)
      at u true is =
          subst (λ b. IsOpenAs equal events agrees.tickets (first_answer u (drop (place + 1) events)) (call_by events u calls)
          (if b then None else open_call past u)) (sym is)
          (subst (λ x. IsOpenAs equal events agrees.tickets (first_answer u (drop (place + 1) events)) x None)
          (sym (subst (λ v. call_by events v calls ≡ None) (eqb-true t u is) (call_by-without_own events t one.place c.calls
          (All-weaker (IsOwn equal events c.calls) (StandsAt events t one.place) (stands_at c t one own) c.calls agrees.threads_apart))))
          tt)
      at u false is =
          subst (λ b. IsOpenAs equal events agrees.tickets (first_answer u (drop (place + 1) events)) (call_by events u calls)
          (if b then None else open_call past u)) (sym is)
          (subst (λ x. IsOpenAs equal events agrees.tickets (first_answer u (drop (place + 1) events)) x (open_call past u))
          (sym (call_by-without_other events u one.place c.calls (off_thread c t one own u is)))
          (subst (λ f. IsOpenAs equal events agrees.tickets f (call_by events u c.calls) (open_call past u))
          (ap (first_answer u) rest_is ∙ ap (λ b. if b then Some recorded_answer else first_answer u (drop (place + 1) events)) is)
          (agrees.calls_are u)))
