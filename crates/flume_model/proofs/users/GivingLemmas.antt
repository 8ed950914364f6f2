-- What a lawful reply gives out is what its change gives out.
use Rattle.flume_model.proofs.Common.{◌≡◌, ℕ, true, false, if◌then◌else◌, List, [], ◌∷◌, Some, refl, ◌∙◌, ap, Channel, IsBlocked, channel}
use Rattle.flume_model.proofs.Common.{gives, is_filled, entry_of, Log, Opening, Change, Withdraws, Takes, Drains, Collects, was_filled}
use Rattle.flume_model.proofs.Common.{change, LogEntry, entries, IsReply, FilledIfNamed, Filled, Reply, Sent, Pending, Accepted, Returned}
use Rattle.flume_model.proofs.Common.{Got}
use Rattle.flume_model.proofs.Common.{Parked, Drained, Step, TrySend, Send, PollSend, WithdrawSend, TryRecv, Recv, Poll, Withdraw, Drain}
use Rattle.flume_model.proofs.AskingCaseLemmas.{Unfilled, polled_cases, gone_cases}

module _ {T : Type 0} where
  -- what a change of a channel gives out
  abbrev pub GivesOut : Channel T → Change T → List T → Type 0
  GivesOut c (Withdraws t) given = (m : T) × IsBlocked c t m × (given ≡ m ∷ [])
  GivesOut c (Takes m receiver) given = given ≡ m ∷ []
  GivesOut c (Drains list) given = given ≡ list
  GivesOut c (Collects t) given =
      (e : LogEntry T) × (held : T) × (entry_of t c.entries ≡ Some e) × (e.mark ≡ Filled held) × (given ≡ held ∷ [])
  GivesOut c _ given = given ≡ []

module _ {T A : Type 0} where
  -- a receiver that was filled gets what it holds
  collected_gives : (o : Opening) (past : Log T A) (t : ℕ) (e : LogEntry T) (held : T) → FilledIfNamed o past
      → entry_of t (entries o past) ≡ Some e → e.mark ≡ Filled held
      → GivesOut (channel o past) (if was_filled past t then Collects t else Takes held (Some t)) (held ∷ [])
  collected_gives o past t e held named found is =
      let was : was_filled past t ≡ true = named t e found ∙ ap is_filled is in
      rw was (e, held, found, is, refl)

  -- a receiver that wasn't filled takes the front
  taken_gives : (o : Opening) (past : Log T A) (t : ℕ) (u : Unfilled (channel o past) t) (m : T) → FilledIfNamed o past
      → GivesOut (channel o past) (if was_filled past t then Collects t else Takes m (Some t)) (m ∷ [])
  taken_gives o past t u m named =
      let was : was_filled past t ≡ false = named t u.entry u.found ∙ u.empty in
      rw was refl

  -- what a lawful reply gives out
  pub gives_out : (o : Opening) (past : Log T A) (step : Step T) (reply : Reply T A) → FilledIfNamed o past
      → IsReply (channel o past) step reply → GivesOut (channel o past) (change past step reply) (gives reply)
  gives_out o past (TrySend m) (Sent filled) named h = refl
  gives_out o past (Send m) (Sent filled) named h = refl
  gives_out o past (Send m) (Pending t) named h = refl
  gives_out o past (PollSend t) Accepted named h = refl
  gives_out o past (PollSend t) (Returned m closed) named h = (m, h.0, refl)
  gives_out o past (WithdrawSend t) Accepted named h = refl
  gives_out o past (WithdrawSend t) (Returned m closed) named h = (m, h.0, refl)
  gives_out o past TryRecv (Got m) named h = refl
  gives_out o past (Recv kind) (Got m) named h = refl
  gives_out o past (Recv kind) (Parked t) named h = refl
  gives_out o past (Poll t) reply named h =
      polled_cases (channel o past) t (λ r. GivesOut (channel o past) (change past (Poll t) r) (gives r)) reply h (record {
        unknown = refl;
        collects = λ e held found is. collected_gives o past t e held named found is;
        takes = λ u m front. taken_gives o past t u m named;
        waits_on = λ u woken. refl;
        ends = λ u empty. refl;
        refused = λ back. refl;
      })
  gives_out o past (Withdraw t) reply named h =
      gone_cases (channel o past) t (λ r. GivesOut (channel o past) (change past (Withdraw t) r) (gives r)) reply h (record {
        unknown = refl;
        collects = λ e held found is. collected_gives o past t e held named found is;
        takes = λ u m front. taken_gives o past t u m named;
        fills_none = λ u closed empty. refl;
        passes_on = λ u closed. refl;
      })
  gives_out o past Drain (Drained list) named h = refl
  gives_out o past _ (Got m) named h = absurd h
  gives_out o past _ (Returned m closed) named h = absurd h
  gives_out o past _ (Drained list) named h = absurd h
  gives_out o past _ _ named h = refl
