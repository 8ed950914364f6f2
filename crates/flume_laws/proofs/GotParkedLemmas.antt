-- What each turn of a party hands out, also of one that is parked.
use Rattle.std.proofs.Common.{◌≡◌, ℕ, ◌≤◌, Bool, true, false, List, [], ◌∷◌, Option, Some}
use Rattle.std.proofs.Common.{None, refl, ap, sym, subst, ◌∙◌, arith, if◌then◌else◌, eq-eqb}
use Rattle.std.proofs.lemmas.List.{append-nil}
use Rattle.std.proofs.lemmas.Grind.{common_steps}
use Rattle.flume_model.specs.declared.step.Step.{Step}
use Rattle.flume_model.specs.declared.step.Step.TheVariants.{Recv, Poll, Withdraw}
use Rattle.flume_model.specs.declared.step.Reply.{Reply}
use Rattle.flume_model.specs.declared.step.Reply.TheVariants.{NoMemory, NoTicket, Waiting, Got, Ended, Gone}
use Rattle.flume_model.specs.declared.step.Reply.TheVariants.{Parked}
use Rattle.flume_model.specs.Log.{Log, Opening, Takes}
use Rattle.flume_model.specs.Log.{Collects, Leaves as LeavesUnder, change, was_filled, filled_by}
use Rattle.flume_model.specs.Fills.{shows_to}
use Rattle.flume_model.specs.Entries.{entry_of}
use Rattle.flume_model.specs.Asking.{IsPollReply, IsWithdrawReply}
use Rattle.flume_model.specs.Channel.{Channel, channel}
use Rattle.flume_model.specs.Parked.{LogEntry, entries}
use Rattle.flume_model.specs.Replies.{IsRun}
use Rattle.flume_model.proofs.EntryShapeLemmas.{entered, filled_if_named, fits_run}
use Rattle.flume_laws.proofs.TurnLemmas.{Stand, parked_of, Turn, Acts, Parks, Asks, Ends, Leaves}
use Rattle.flume_laws.proofs.TurnLemmas.{Blocks, Waits, Hears, Withdraws, answered, stays_parked, is_last}
use Rattle.flume_laws.proofs.GotMemberLemmas.{here}
use Rattle.flume_laws.proofs.GotEntryLemmas.{stands}
use Rattle.flume_laws.proofs.GotEffectLemmas.{in_hand, Effect, unparked}

module _ {T : Type 0} where
  -- a parked receiver gets a message: it collects it if it was filled, and else takes the front
  parked_got : (shown : ℕ → Option T) (was : ℕ → Bool) (t : ℕ) (m : T) → shown t ≡ Some m
      → Effect shown was (if was t then Collects t else Takes m (Some t)) None (Some t) None
      (m ∷ [])
  parked_got shown was t m same = by_case (was t) refl
    where
      by_case : (b : Bool) → was t ≡ b
          → Effect shown was (if b then Collects t else Takes m (Some t)) None (Some t) None (m ∷ [])
      by_case true is =
          record { own = []; moves = λ u. omega arith; shows = rw (is, same) refl; hands = refl }
      by_case false is =
          record { own = m ∷ []; moves = λ u. omega arith; shows = rw is refl; hands = refl }

  -- or leaves without one
  parked_left : (shown : ℕ → Option T) (was : ℕ → Bool) (t : ℕ) (filled : Option ℕ) → was t ≡ false
      → Effect shown was (LeavesUnder t filled) filled (Some t) None []
  parked_left shown was t filled is =
      record { own = []; moves = λ u. omega arith; shows = rw is refl; hands = refl }

  -- one that is parked doesn't hear that it isn't
  poll_known : (A : Type 0) (c : Channel T) (e : LogEntry T)
      → IsPollReply {A = A} c (Some e) NoTicket → ⊥
  poll_known A c e h = grind (arith, common_steps)

  withdraw_known : (A : Type 0) (c : Channel T) (t : ℕ) (e : LogEntry T)
      → IsWithdrawReply {A = A} c t (Some e) NoTicket → ⊥
  withdraw_known A c t e h = grind (arith, common_steps)

  -- the entry of a ticket that stands
  found_of : (t : ℕ) (es : List (LogEntry T)) → here t (Some t) ≤ stands t es
      → (e : LogEntry T) × (entry_of t es ≡ Some e)
  found_of t es le = by_found (entry_of t es) refl
    where
      by_found : (found : Option (LogEntry T)) → entry_of t es ≡ found
          → (e : LogEntry T) × (entry_of t es ≡ Some e)
      by_found (Some e) is = (e, is)
      by_found None is = absurd (grind (arith, le, is, eq-eqb t t refl))

module _ {T A : Type 0} where
  -- a receiver asks and stays parked
  asks : (past : Log T A) (shown : ℕ → Option T) (t : ℕ) (reply : Reply T A)
      → stays_parked reply ≡ true
      → Effect shown (was_filled past) (change past (Poll t) reply) (filled_by reply) (Some t)
      (Some t) []
  asks past shown t Waiting is = record {
    own = [];
    moves = λ u. refl;
    shows = sym (append-nil (in_hand shown (was_filled past) (Some t)));
    hands = refl;
  }
  asks past shown t (NoMemory back) is = record {
    own = [];
    moves = λ u. refl;
    shows = sym (append-nil (in_hand shown (was_filled past) (Some t)));
    hands = refl;
  }
  asks past shown t _ is = absurd (let none : ⊥ = cc in none)

  -- it asks and is parked no more
  ends : (o : Opening) (past : Log T A) (shown : ℕ → Option T) (t : ℕ) (reply : Reply T A)
      (e : LogEntry T) → IsRun o ((Poll t, reply) ∷ past) → entry_of t (entries o past) ≡ Some e
      → ((m : T) → shows_to t (Poll t) reply ≡ Some m → shown t ≡ Some m)
      → is_last (Poll t) reply ≡ true
      → Effect shown (was_filled past) (change past (Poll t) reply) (filled_by reply) (Some t) None
      (answered reply)
  ends o past shown t (Got m) e run found same last =
      parked_got shown (was_filled past) t m
      (same m (ap (λ b. if b then Some m else None) (eq-eqb t t refl)))
  ends o past shown t Ended e run found same last =
      let u = (fits_run o past (Poll t, Ended) run).0 in
      parked_left shown (was_filled past) t None
      (filled_if_named o past run.1 t u.entry u.found ∙ u.empty)
  ends o past shown t NoTicket e run found same last =
      absurd (poll_known A (channel o past) e
      (subst (λ f. IsPollReply {A = A} (channel o past) f NoTicket) found run.0))
  ends o past shown t _ e run found same last = absurd cc

  -- it withdraws
  leaves : (o : Opening) (past : Log T A) (shown : ℕ → Option T) (t : ℕ) (reply : Reply T A)
      (e : LogEntry T) → IsRun o ((Withdraw t, reply) ∷ past) → entry_of t (entries o past) ≡ Some e
      → ((m : T) → shows_to t (Withdraw t) reply ≡ Some m → shown t ≡ Some m)
      → is_last (Withdraw t) reply ≡ true
      → Effect shown (was_filled past) (change past (Withdraw t) reply) (filled_by reply) (Some t)
      None (answered reply)
  leaves o past shown t (Got m) e run found same last =
      parked_got shown (was_filled past) t m
      (same m (ap (λ b. if b then Some m else None) (eq-eqb t t refl)))
  leaves o past shown t (Gone closed filled) e run found same last =
      let u = (fits_run o past (Withdraw t, Gone closed filled) run).0 in
      parked_left shown (was_filled past) t filled
      (filled_if_named o past run.1 t u.entry u.found ∙ u.empty)
  leaves o past shown t NoTicket e run found same last =
      absurd (withdraw_known A (channel o past) t e
      (subst (λ f. IsWithdrawReply {A = A} (channel o past) t f NoTicket) found run.0))
  leaves o past shown t _ e run found same last = absurd cc

  -- each turn of a party
  pub effect : (o : Opening) (past : Log T A) (shown : ℕ → Option T) (step : Step T)
      (reply : Reply T A) (before after : Stand T) (sent got : List T)
      → Turn before step reply after sent got → IsRun o ((step, reply) ∷ past)
      → ((t : ℕ) → here t (parked_of before) ≤ stands t (entries o past))
      → ((t : ℕ) (m : T) → shows_to t step reply ≡ Some m → shown t ≡ Some m)
      → Effect shown (was_filled past) (change past step reply) (filled_by reply) (parked_of before)
      (parked_of after) got
  effect o past shown step reply _ _ _ _ (Acts is blocked sent got) run stood same =
      subst (Effect shown (was_filled past) (change past step reply) (filled_by reply) None None)
      got (unparked o past shown step reply run.0 is)
  effect o past shown _ _ _ _ _ _ (Parks {kind = kind} {ticket = t}) run stood same =
      let fit = fits_run o past (Recv kind, Parked t) run in
      let unfilled = (entered o past run.1).unfilled t (omega (arith, fit.3)) in
      record {
        own = [];
        moves = λ u. omega arith;
        shows = rw unfilled refl;
        hands = refl;
      }
  effect o past shown _ reply _ _ _ _ (Asks {ticket = t} is) run stood same =
      asks past shown t reply is
  effect o past shown _ reply _ _ _ _ (Ends {ticket = t} is got) run stood same =
      let found = found_of t (entries o past) (stood t) in
      subst (Effect shown (was_filled past) (change past (Poll t) reply) (filled_by reply) (Some t) None)
      got (ends o past shown t reply found.0 run found.1 (same t) is)
  effect o past shown _ reply _ _ _ _ (Leaves {ticket = t} is got) run stood same =
      let found = found_of t (entries o past) (stood t) in
      subst (Effect shown (was_filled past) (change past (Withdraw t) reply) (filled_by reply) (Some t)
      None) got (leaves o past shown t reply found.0 run found.1 (same t) is)
  effect o past shown step reply _ _ _ _ Blocks run stood same =
      unparked o past shown step reply run.0 refl
  effect o past shown step reply _ _ _ _ Waits run stood same =
      unparked o past shown step reply run.0 refl
  effect o past shown step reply _ _ _ _ (Hears is gone) run stood same =
      unparked o past shown step reply run.0 refl
  effect o past shown step reply _ _ _ _ (Withdraws is gone) run stood same =
      unparked o past shown step reply run.0 refl
