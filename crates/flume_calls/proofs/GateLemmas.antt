-- A call through a gate, as one through what is seen of the gate.
use Rattle.std.proofs.Common.{◌≡◌, ℕ, Bool, true, false, Result, Err, refl, sym, ap, ◌∙◌, subst}
use Rattle.flume_core.specs.declared.error.SendTimeoutError.{SendTimeoutError}
use Rattle.flume_core.specs.declared.error.RecvTimeoutError.{RecvTimeoutError}
use Rattle.flume_calls.specs.declared.calls.send.SendNext.{SendNext}
use Rattle.flume_calls.specs.declared.calls.receive.RecvNext.{RecvNext}
use Rattle.flume_calls.specs.SendGates as send
use Rattle.flume_calls.specs.ReceiveGates as receive

module _ {G H T : Type 0} (seen : G → H)
    {parked : G → ℕ → Bool → G → SendNext T → Type 0} {waits : G → G → Bool → Type 0}
    {parked' : H → ℕ → Bool → H → SendNext T → Type 0} {waits' : H → H → Bool → Type 0}
    (q : (old : G) (t : ℕ) (last : Bool) (new : G) (next : SendNext T)
    → parked old t last new next → parked' (seen old) t last (seen new) next)
    (w : (old new : G) (expired : Bool) → waits old new expired
    → waits' (seen old) (seen new) expired) where
  -- a parked send
  seen_parked_send : {old new : G} {t : ℕ} {result : Result (Unit {0}) (SendTimeoutError T)}
      → send.ParkedSend parked waits old t new result
      → send.ParkedSend parked' waits' (seen old) t (seen new) result
  seen_parked_send (send.Asked ends) = send.Asked (q _ _ _ _ _ ends)
  seen_parked_send (send.Expired asks late ends) =
      send.Expired (q _ _ _ _ _ asks) (w _ _ _ late) (q _ _ _ _ _ ends)
  seen_parked_send (send.Waited asks waited rest) =
      send.Waited (q _ _ _ _ _ asks) (w _ _ _ waited) (seen_parked_send rest)

  module _ {first : G → T → G → SendNext T → Type 0} {makes : G → G → Bool → Type 0}
      {parking : G → T → G → SendNext T → Type 0} {first' : H → T → H → SendNext T → Type 0}
      {makes' : H → H → Bool → Type 0} {parking' : H → T → H → SendNext T → Type 0}
      (f : (old : G) (m : T) (new : G) (next : SendNext T) → first old m new next
      → first' (seen old) m (seen new) next)
      (a : (old new : G) (made : Bool) → makes old new made → makes' (seen old) (seen new) made)
      (p : (old : G) (m : T) (new : G) (next : SendNext T) → parking old m new next
      → parking' (seen old) m (seen new) next) where
    -- a whole send
    pub seen_send : {old new : G} {m : T} {result : Result (Unit {0}) (SendTimeoutError T)}
        → send.WholeSend first makes parking parked waits old m new result
        → send.WholeSend first' makes' parking' parked' waits' (seen old) m (seen new) result
    seen_send (send.AtFirst ends) = send.AtFirst (f _ _ _ _ ends)
    seen_send (send.NoWaiter full none is) = send.NoWaiter (f _ _ _ _ full) (a _ _ _ none) is
    seen_send (send.AtPark full made ends) =
        send.AtPark (f _ _ _ _ full) (a _ _ _ made) (p _ _ _ _ ends)
    seen_send (send.Parked full made parks rest) =
        send.Parked (f _ _ _ _ full) (a _ _ _ made) (p _ _ _ _ parks) (seen_parked_send rest)

module _ {G H T : Type 0} (seen : G → H)
    {parked : G → ℕ → Bool → G → RecvNext T → Type 0} {waits : G → G → Bool → Type 0}
    {parked' : H → ℕ → Bool → H → RecvNext T → Type 0} {waits' : H → H → Bool → Type 0}
    (q : (old : G) (t : ℕ) (last : Bool) (new : G) (next : RecvNext T)
    → parked old t last new next → parked' (seen old) t last (seen new) next)
    (w : (old new : G) (expired : Bool) → waits old new expired
    → waits' (seen old) (seen new) expired) where
  -- a parked receive
  seen_parked_receive : {old new : G} {t : ℕ} {result : Result T RecvTimeoutError}
      → receive.ParkedReceive parked waits old t new result
      → receive.ParkedReceive parked' waits' (seen old) t (seen new) result
  seen_parked_receive (receive.Asked ends) = receive.Asked (q _ _ _ _ _ ends)
  seen_parked_receive (receive.Withdrawn asks ends is) =
      receive.Withdrawn (q _ _ _ _ _ asks) (q _ _ _ _ _ ends) is
  seen_parked_receive (receive.Expired asks late ends) =
      receive.Expired (q _ _ _ _ _ asks) (w _ _ _ late) (q _ _ _ _ _ ends)
  seen_parked_receive (receive.Waited asks waited rest) =
      receive.Waited (q _ _ _ _ _ asks) (w _ _ _ waited) (seen_parked_receive rest)

  module _ {first : G → G → RecvNext T → Type 0} {makes : G → G → Bool → Type 0}
      {parking : G → G → RecvNext T → Type 0} {first' : H → H → RecvNext T → Type 0}
      {makes' : H → H → Bool → Type 0} {parking' : H → H → RecvNext T → Type 0}
      (f : (old new : G) (next : RecvNext T) → first old new next
      → first' (seen old) (seen new) next)
      (a : (old new : G) (made : Bool) → makes old new made → makes' (seen old) (seen new) made)
      (p : (old new : G) (next : RecvNext T) → parking old new next
      → parking' (seen old) (seen new) next) where
    -- a whole receive
    pub seen_receive : {old new : G} {result : Result T RecvTimeoutError}
        → receive.WholeReceive first makes parking parked waits old new result
        → receive.WholeReceive first' makes' parking' parked' waits' (seen old) (seen new) result
    seen_receive (receive.AtFirst ends) = receive.AtFirst (f _ _ _ ends)
    seen_receive (receive.NoWaiter none unmade is) =
        receive.NoWaiter (f _ _ _ none) (a _ _ _ unmade) is
    seen_receive (receive.AtPark none made ends) =
        receive.AtPark (f _ _ _ none) (a _ _ _ made) (p _ _ _ ends)
    seen_receive (receive.Parked none made parks rest) =
        receive.Parked (f _ _ _ none) (a _ _ _ made) (p _ _ _ parks) (seen_parked_receive rest)

module _ {H T : Type 0} where
  -- what no turn of a parked send changes
  same_parked_send : {old new : H} {t : ℕ} {result : Result (Unit {0}) (SendTimeoutError T)}
      → send.ParkedSend (λ old t last new next. new ≡ old) (λ old new expired. new ≡ old) old t new
      result → new ≡ old
  same_parked_send (send.Asked ends) = ends
  same_parked_send (send.Expired asks late ends) = ends ∙ (late ∙ asks)
  same_parked_send (send.Waited asks waited rest) = same_parked_send rest ∙ (waited ∙ asks)

  -- what no turn of a send changes
  pub same_send : {old new : H} {m : T} {result : Result (Unit {0}) (SendTimeoutError T)}
      → send.WholeSend (λ old m new next. new ≡ old) (λ old new made. new ≡ old)
      (λ old m new next. new ≡ old) (λ old t last new next. new ≡ old)
      (λ old new expired. new ≡ old) old m new result → new ≡ old
  same_send (send.AtFirst ends) = ends
  same_send (send.NoWaiter full none is) = none ∙ full
  same_send (send.AtPark full made ends) = ends ∙ (made ∙ full)
  same_send (send.Parked full made parks rest) = same_parked_send rest ∙ (parks ∙ (made ∙ full))

  -- what no turn of a parked receive changes
  same_parked_receive : {old new : H} {t : ℕ} {result : Result T RecvTimeoutError}
      → receive.ParkedReceive (λ old t last new next. new ≡ old) (λ old new expired. new ≡ old) old
      t new result → new ≡ old
  same_parked_receive (receive.Asked ends) = ends
  same_parked_receive (receive.Withdrawn asks ends is) = ends ∙ asks
  same_parked_receive (receive.Expired asks late ends) = ends ∙ (late ∙ asks)
  same_parked_receive (receive.Waited asks waited rest) = same_parked_receive rest ∙ (waited ∙ asks)

  -- what no turn of a receive changes
  pub same_receive : {old new : H} {result : Result T RecvTimeoutError}
      → receive.WholeReceive (λ old new next. new ≡ old) (λ old new made. new ≡ old)
      (λ old new next. new ≡ old) (λ old t last new next. new ≡ old)
      (λ old new expired. new ≡ old) old new result → new ≡ old
  same_receive (receive.AtFirst ends) = ends
  same_receive (receive.NoWaiter none unmade is) = unmade ∙ none
  same_receive (receive.AtPark none made ends) = ends ∙ (made ∙ none)
  same_receive (receive.Parked none made parks rest) =
      same_parked_receive rest ∙ (parks ∙ (made ∙ none))
