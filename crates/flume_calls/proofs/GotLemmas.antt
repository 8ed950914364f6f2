-- A receive that got a message.
use Rattle.std.proofs.Common.{◌≡◌, Ok, ap}
use Rattle.flume_model.specs.declared.step.Reply.{Reply}
use Rattle.flume_model.specs.declared.step.Reply.TheVariants.{Got}
use Rattle.flume_calls.specs.declared.calls.receive.RecvNext.{RecvNext}
use Rattle.flume_calls.specs.declared.calls.receive.RecvNext.TheVariants.{Done}

module _ {T A : Type 0} where
  -- a reply hands out one message
  same_message : (m n : T) (r : Reply T A) → r ≡ Got m → r ≡ Got n → m ≡ n
  same_message m n r e f = cc

  -- so a receive that answers with the one that its step got answers with the one that is known
  pub same_got : {P : Type 0} (m n : T) (r : Reply T A) → r ≡ Got m → (r ≡ Got n) × P
      → (let next : RecvNext T = Done (Ok m) in next ≡ Done (Ok n)) × P
  same_got m n r e (f, p) = (ap (λ m. Done (Ok m)) (same_message m n r e f), p)
