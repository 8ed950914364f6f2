-- Two logs after which a channel is the same, whatever comes next.
use Rattle.flume_model.proofs.Common.{◌≡◌, ◌+◌, Bool, not, ◌&&◌, ◌||◌, if◌then◌else◌, eqb, List, [], ◌∷◌, ◌++◌, refl}
use Rattle.flume_model.proofs.Common.{◌∙◌, drop, take, length, filter, Log, Opening, Offer, HandOut, channel}
use Rattle.flume_model.proofs.Common.{senders, receivers, senders_after, receivers_after, is_over, offers}
use Rattle.flume_model.proofs.Common.{offers_made, withdrawn, withdraws}
use Rattle.flume_model.proofs.Common.{hands_out, handed_out, was_filled, is_ticket, filled_by, capacity}
use Rattle.flume_model.proofs.Common.{capacity_after, queue_len, queue_len_after}
use Rattle.flume_model.proofs.Common.{line, messages, next_ticket, tickets_issued, issues, spends, is_live, is_closed, entries}
use Rattle.flume_model.proofs.Common.{entries_after, change, Takes, Collects, Some}
use Rattle.flume_model.specs.declared.step.Step.{Step}
use Rattle.flume_model.specs.declared.step.Step.TheVariants.{Poll, Withdraw}
use Rattle.flume_model.specs.declared.step.Reply.{Reply}
use Rattle.flume_model.specs.declared.step.Reply.TheVariants.{Got}

module _ {T : Type 0} where
  -- the line, of what it is made of
  abbrev line_of : Bool → List (HandOut T) → (Offer T → Bool) → List (Offer T) → List (Offer T)
  line_of over handed_ gone all = if over then [] else drop (length handed_) (filter (λ offer. not (gone offer)) all)

module _ {T A : Type 0} where
  -- after the two logs a channel is the same, also once the same steps follow
  pub record Alike (o : Opening) (log no_idle : Log T A) : Type 0 where
    pub senders_are : senders log ≡ senders no_idle
    pub receivers_are : receivers log ≡ receivers no_idle
    pub offers_are : offers log ≡ offers no_idle
    pub withdrawn_are : withdrawn log ≡ withdrawn no_idle
    pub handed_are : handed_out log ≡ handed_out no_idle
    pub filled_are : was_filled log ≡ was_filled no_idle
    pub capacity_is : capacity o log ≡ capacity o no_idle
    pub queue_len_is : queue_len o log ≡ queue_len o no_idle
    pub entries_are : entries o log ≡ entries o no_idle
    pub live_are : is_live log ≡ is_live no_idle
    pub next_is : next_ticket o log ≡ next_ticket o no_idle

  -- each log is like itself
  pub alike_self : (o : Opening) (log : Log T A) → Alike o log log
  alike_self o log = record {
    senders_are = refl;
    receivers_are = refl;
    offers_are = refl;
    withdrawn_are = refl;
    handed_are = refl;
    filled_are = refl;
    capacity_is = refl;
    queue_len_is = refl;
    entries_are = refl;
    live_are = refl;
    next_is = refl;
  }

  -- what is like a log that is like another one is like that one
  pub alike_through : (o : Opening) (log mid no_idle : Log T A) → Alike o log mid → Alike o mid no_idle → Alike o log no_idle
  alike_through o log mid no_idle h k = record {
    senders_are = h.senders_are ∙ k.senders_are;
    receivers_are = h.receivers_are ∙ k.receivers_are;
    offers_are = h.offers_are ∙ k.offers_are;
    withdrawn_are = h.withdrawn_are ∙ k.withdrawn_are;
    handed_are = h.handed_are ∙ k.handed_are;
    filled_are = h.filled_are ∙ k.filled_are;
    capacity_is = h.capacity_is ∙ k.capacity_is;
    queue_len_is = h.queue_len_is ∙ k.queue_len_is;
    entries_are = h.entries_are ∙ k.entries_are;
    live_are = h.live_are ∙ k.live_are;
    next_is = h.next_is ∙ k.next_is;
  }

  -- the line is the same
  line_is : (o : Opening) (log no_idle : Log T A) → Alike o log no_idle → line log ≡ line no_idle
  line_is o log no_idle h = λ i.
      line_of (eqb (h.senders_are i + h.receivers_are i) 0) (h.handed_are i) (h.withdrawn_are i) (h.offers_are i)

  -- the channel is the same
  pub channel_is : (o : Opening) (log no_idle : Log T A) → Alike o log no_idle → channel o log ≡ channel o no_idle
  channel_is o log no_idle h =
      let same = line_is o log no_idle h in
      λ i. record {
        capacity = h.capacity_is i;
        line = messages (same i);
        queue_len = h.queue_len_is i;
        queue = messages (take (h.queue_len_is i) (same i));
        blocked = drop (h.queue_len_is i) (same i);
        entries = h.entries_are i;
        is_live = h.live_are i;
        next_ticket = h.next_is i;
        senders = h.senders_are i;
        receivers = h.receivers_are i;
      }

  -- a change looks at the log only through which receivers were filled
  change_is : (log no_idle : Log T A) (step : Step T) (reply : Reply T A) → was_filled log ≡ was_filled no_idle
      → change log step reply ≡ change no_idle step reply
  change_is log no_idle (Poll t) (Got m) h = λ i. if h i t then Collects t else Takes m (Some t)
  change_is log no_idle (Withdraw t) (Got m) h = λ i. if h i t then Collects t else Takes m (Some t)
  change_is log no_idle _ _ h = refl

  -- logs that are alike stay so by the same step and reply
  pub alike_step : (o : Opening) (log no_idle : Log T A) (p : Step T × Reply T A) → Alike o log no_idle → Alike o (p ∷ log) (p ∷ no_idle)
  alike_step o log no_idle p h =
      let e : change log p.0 p.1 ≡ change no_idle p.0 p.1 = change_is log no_idle p.0 p.1 h.filled_are in
      let before = line_is o log no_idle h in
      let n : senders (p ∷ log) ≡ senders (p ∷ no_idle) = λ i. senders_after (h.senders_are i) (e i) in
      let r : receivers (p ∷ log) ≡ receivers (p ∷ no_idle) = λ i. receivers_after (h.receivers_are i) (e i) in
      let over : is_over (p ∷ log) ≡ is_over (p ∷ no_idle) = λ i. eqb (n i + r i) 0 in
      let all : offers (p ∷ log) ≡ offers (p ∷ no_idle) = λ i. h.offers_are i ++ offers_made (e i) in
      let gone : withdrawn (p ∷ log) ≡ withdrawn (p ∷ no_idle) = λ i offer. withdraws (e i) offer || h.withdrawn_are i offer in
      let out : handed_out (p ∷ log) ≡ handed_out (p ∷ no_idle) = λ i. h.handed_are i ++ hands_out (e i) in
      let line_ : line (p ∷ log) ≡ line (p ∷ no_idle) = λ i. line_of (over i) (out i) (gone i) (all i) in
      let cap : capacity o (p ∷ log) ≡ capacity o (p ∷ no_idle) = λ i. capacity_after (h.capacity_is i) (e i) in
      record {
        senders_are = n;
        receivers_are = r;
        offers_are = all;
        withdrawn_are = gone;
        handed_are = out;
        filled_are = λ i t. is_ticket t (filled_by p.1) || h.filled_are i t;
        capacity_is = cap;
        queue_len_is = λ i. if over i then 0 else queue_len_after (cap i) (length (line_ i)) (h.queue_len_is i) (e i);
        entries_are = λ i.
            if over i then []
            else entries_after (messages (take (h.queue_len_is i) (before i)))
            (not (is_closed (h.senders_are i) (h.receivers_are i)) && is_closed (n i) (r i)) (h.entries_are i) (e i);
        live_are = λ i t.
            not (over i) && (issues (e i) t || (h.live_are i t && not (spends (e i) t)));
        next_is = λ i. h.next_is i + tickets_issued (e i);
      }
