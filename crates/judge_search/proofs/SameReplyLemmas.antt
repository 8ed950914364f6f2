-- A state that stands for a log stands for the one whose last reply is the same: a drained list counts by its messages.
use Rattle.std.proofs.Common.{◌≡◌, ℕ, Bool, not, if◌then◌else◌, max, List, [], ◌∷◌, Option, Some, None, refl, sym, ◌∙◌, ap, ap₂, subst}
use Rattle.flume_model.specs.declared.step.Step.{Step}
use Rattle.flume_model.specs.declared.step.Reply.{Reply}
use Rattle.flume_model.specs.declared.step.Reply.TheVariants.{Drained}
use Rattle.flume_model.specs.Log.{Log, Opening}
use Rattle.flume_model.specs.Line.{greatest, greater}
use Rattle.flume_model.specs.Entries.{waiting_count}
use Rattle.flume_model.specs.Parked.{peak}
use Rattle.flume_model.specs.Channel.{Channel, channel, has_ticket}
use Rattle.flume_model.specs.Replies.{IsReply, SameReply}
use Rattle.flume_state.specs.State.{State}
use Rattle.flume_core.specs.Represents.{Represents}
use Rattle.flume_history.specs.SameRuns.{SameLog}
use Rattle.flume_history.proofs.SameLogLemmas.{channel_same}

module _ {T : Type 0} where
  -- how a send ticket stands in a channel
  abbrev status_in : Channel T → ℕ → Option Bool
  status_in c t = if c.is_live t then Some (not (has_ticket t c.blocked)) else None

module _ {T A : Type 0} where
  -- a reply is the same as itself
  pub same_self : (reply : Reply T A) → SameReply reply reply
  same_self (Drained list) = refl
  same_self _ = refl

  -- a log is the same as itself
  pub log_self : (log : Log T A) → SameLog log log
  log_self [] = tt
  log_self (p ∷ past) = (refl, same_self p.1, log_self past)

  pub stands_same : {S : Type 0} (o : Opening) (past : Log T A) (step : Step T) (reply other : Reply T A) (s : State T S)
      → SameReply reply other → IsReply (channel o past) step other → Represents o ((step, reply) ∷ past) s
      → Represents o ((step, other) ∷ past) s
  stands_same o past step reply other s same lawful h =
      let e : channel o ((step, reply) ∷ past) ≡ channel o ((step, other) ∷ past) =
      channel_same o ((step, reply) ∷ past) ((step, other) ∷ past) (refl, same, log_self past) in
      record {
        run = (lawful, h.run.1);
        capacity_is = h.capacity_is ∙ ap (λ c. c.capacity) e;
        greatest_is = h.greatest_is ∙ ap (λ c. greater (greatest o past) c.capacity) e;
        queue_is = h.queue_is ∙ ap (λ c. c.queue) e;
        blocked_are = h.blocked_are ∙ ap (λ c. c.blocked) e;
        sends_are = λ t. h.sends_are t ∙ ap (λ (c : Channel T). status_in c t) e;
        entries_are = h.entries_are ∙ ap (λ c. c.entries) e;
        peak_is = h.peak_is ∙ ap (λ c. max (peak o past) (waiting_count c.entries)) e;
        next_is = h.next_is ∙ ap (λ c. c.next_ticket) e;
        senders_are = h.senders_are ∙ ap (λ c. c.senders) e;
        receivers_are = h.receivers_are ∙ ap (λ c. c.receivers) e;
      }
