-- What a step leaves of a book and of a seat.
use Rattle.std.proofs.Common.{◌≡◌, ℕ, ◌+◌, ◌≤◌, List, [], ◌∷◌, ◌++◌, length, refl, sym, ◌∙◌, ap, subst, arith}
use Rattle.std.specs.Prelude.{reverse, Vec}
use Rattle.std.proofs.lemmas.List.{reverse-append}
use Rattle.std.proofs.lemmas.List.Sums.{sum_by_push}
use Rattle.flume_model.specs.declared.step.Step.{Step}
use Rattle.flume_model.specs.declared.step.Step.TheVariants.{Drain}
use Rattle.flume_model.specs.declared.step.Reply.{Reply}
use Rattle.flume_model.specs.declared.step.Reply.TheVariants.{Drained}
use Rattle.flume_model.specs.Log.{Log, Opening}
use Rattle.flume_state.specs.State.{State}
use Rattle.flume_core.specs.Represents.{Represents, Extends}
use Rattle.flume_core.specs.PossibleReply.{PossibleReply}
use Rattle.flume_core.proofs.ViewLemmas.{queue_at_log}
use Rattle.flume_audit.specs.declared.receipt.Receipt.{Receipt}
use Rattle.flume_audit.specs.Recorded.{History}
use Rattle.flume_model.specs.Replies.{SameReply}
use Rattle.flume_audit.specs.Weights.{GoesByMessages, DrainedWithin, history_weight, receipts_weight}

-- what a list grew to after it had got more room
pub pushed : {X : Type 0} {old roomy new : List X} (x : X) → roomy ≡ old → new ≡ roomy ++ x ∷ []
    → new ≡ old ++ x ∷ []
pushed x kept grows = grows ∙ ap (λ items. items ++ x ∷ []) kept

module _ {T A : Type 0} where
  -- only a drain is answered by a list
  drain_alone : (step : Step T) (list : Vec T A) → PossibleReply step (Drained list) → step ≡ Drain
  drain_alone Drain list possible_reply = refl
  drain_alone _ list possible_reply = absurd possible_reply

  -- the list of a drain is what was queued
  drained_is_queue : (opening : Opening) (log : Log T A) (old new : State T (Unit {0}))
      → (list : Vec T A) → Represents opening log old
      → Represents opening ((Drain, Drained list) ∷ log) new → list.items ≡ old.queue
  drained_is_queue opening log old new list before after = after.run.0 ∙ queue_at_log before

  -- room for what is queued, if the step is a drain, is enough for a copy of its reply
  pub room_serves : (opening : Opening) (log : Log T A) (old new : State T (Unit {0}))
      → (step : Step T) (reply : Reply T A) (drained room : ℕ)
      → Represents opening log old → Extends old step reply new → PossibleReply step reply
      → (step ≡ Drain → drained ≡ length old.queue) → drained ≤ room → DrainedWithin room reply
  room_serves opening log old new step (Drained list) drained room before extends possible_reply by within =
      let drains : step ≡ Drain = drain_alone step list possible_reply in
      let after : Represents opening ((Drain, Drained list) ∷ log) new =
      subst (λ s. Represents opening ((s, Drained list) ∷ log) new) drains
      (extends opening log before) in
      let queue = ap length (drained_is_queue opening log old new list before after) in
      let size = by drains in
      omega arith
  room_serves opening log old new step _ drained room before extends possible_reply by within = tt

  -- what represents the log of a history with an entry more
  pub written : (opening : Opening) (old new : History T A) (entry : Step T × Reply T A)
      → (s : State T (Unit {0})) → new ≡ old ++ entry ∷ []
      → Represents opening (entry ∷ reverse old) s → Represents opening (reverse new) s
  written opening old new entry s grows represents =
      subst (λ log. Represents opening log s)
      (sym (ap reverse grows ∙ reverse-append old (entry ∷ []))) represents

  module _ (weight : Step T → Reply T A → ℕ) where
    -- a history with an entry more weighs more by what the entry weighs
    pub entry_weighs : (old new : History T A) (step : Step T) (reply : Reply T A)
        → (total after : ℕ)
        → new ≡ old ++ (step, reply) ∷ [] → total ≡ history_weight weight old
        → after ≡ total + weight step reply → after ≡ history_weight weight new
    entry_weighs old new step reply total after grows was is =
        let all = ap (history_weight weight) grows in
        let push = sum_by_push (λ entry. weight entry.0 entry.1) old (step, reply) in
        omega arith

    -- receipts with one more weigh more by what its step and reply weigh, or the same reply
    pub receipt_weighs : (old new : List (Receipt T A)) (number : ℕ) (step : Step T)
        → (reply receipt_reply : Reply T A) (amount after : ℕ) → GoesByMessages weight
        → SameReply reply receipt_reply
        → new ≡ old ++ record { number = number; step = step; reply = receipt_reply } ∷ []
        → amount ≡ receipts_weight weight old → after ≡ amount + weight step reply
        → after ≡ receipts_weight weight new
    receipt_weighs old new number step reply receipt_reply amount after by same grows was is =
        let all = ap (receipts_weight weight) grows in
        let push = sum_by_push (λ receipt. weight receipt.step receipt.reply) old
        (record { number = number; step = step; reply = receipt_reply }) in
        let alike = by step reply receipt_reply same in
        omega arith
