-- The live sends' map if messages move in, and if the channel is closed.
use Rattle.std.proofs.Common.{◌≡◌, ◌≢◌, ℕ, Bool, true, false, ◌||◌, ◌⊎◌, inl, inr, ⊎_elim, if◌then◌else◌, eqb, eqb-true, List, [], ◌∷◌}
use Rattle.std.proofs.Common.{Option, Some, None, refl, sym, ◌∙◌, ap}
use Rattle.std.proofs.lemmas.Bool.{cases_eq, eqb-false}
use Rattle.std.specs.Option.{option_map}
use Rattle.std.specs.FinMap.{get}
use Rattle.flume_model.specs.Channel.{has_ticket}
use Rattle.flume_state.specs.declared.sends.LiveSend.{LiveSend}
use Rattle.flume_state.specs.Messages.{Blocked}
use Rattle.flume_state.specs.Notices.{due_now}
use Rattle.flume_state.specs.Sends.{SendMap, with_send_changed, accepted_now, with_send_notice, with_notice}
use Rattle.flume_state.specs.State.{offers_of}
use Rattle.flume_state.specs.Effects.{with_all_due}
use Rattle.flume_state.specs.Due.{SendDue}
use Rattle.flume_state.proofs.SendMapLemmas.{get-changed_same, get-changed_other}
use Rattle.flume_core.proofs.dues.OneTicketLemmas.{send_kept, send_accepted}

module _ {S : Type 0} where
  -- this ticket's send is blocked
  abbrev pub IsBlocked : SendMap S → ℕ → Type 0
  IsBlocked m t = option_map (λ send. send.accepted) (get m t) ≡ Some false

  -- some sends that were blocked are accepted, and all others are as they were
  abbrev pub Accepts : SendMap S → SendMap S → Type 0
  Accepts m n = (t : ℕ) → (get n t ≡ get m t) ⊎ (IsBlocked m t × (get n t ≡ option_map accepted_now (get m t)))

  -- to accept a send twice is to accept it
  accepted_twice : (x : Option (LiveSend S)) → option_map accepted_now (option_map accepted_now x) ≡ option_map accepted_now x
  accepted_twice None = refl
  accepted_twice (Some send) = refl

  -- one more that was blocked is accepted
  pub accepts_more : (m n : SendMap S) (k : ℕ) → Accepts m n → IsBlocked m k → Accepts m (with_send_changed n k accepted_now)
  accepts_more m n k moved blocked_ t = ⊎_elim here there (cases_eq t k)
    where
      Claim : Type 0
      Claim = (get (with_send_changed n k accepted_now) t ≡ get m t)
          ⊎ (IsBlocked m t × (get (with_send_changed n k accepted_now) t ≡ option_map accepted_now (get m t)))

      here : t ≡ k → Claim
      here e =
          let now : get (with_send_changed n k accepted_now) t ≡ option_map accepted_now (get n t) =
          rw e (get-changed_same n k accepted_now) in
          inr (
            rw e blocked_,
            now ∙ ⊎_elim (λ same. ap (option_map accepted_now) same)
                (λ both. ap (option_map accepted_now) both.1 ∙ accepted_twice (get m t)) (moved t),
          )

      there : t ≢ k → Claim
      there ne =
          let kept = get-changed_other n k accepted_now t ne in
          ⊎_elim (λ same. inl (kept ∙ same)) (λ both. inr (both.0, kept ∙ both.1)) (moved t)

  -- which tickets are due then
  pub accepts_due : (m n : SendMap S) → Accepts m n → (t : ℕ) → SendDue false (get m t) (get n t)
  accepts_due m n moved t =
      ⊎_elim (λ same. rw same (send_kept (get m t))) (λ both. rw both.1 (send_accepted false (get m t) both.0)) (moved t)

  -- to make a send due twice is to make it due
  marked_bits : (a b : Bool) (x : Option (LiveSend S)) → (
      let f = option_map (with_notice due_now) in
      (if b then f (if a then f x else x) else (if a then f x else x)) ≡ (if a || b then f x else x)
      )
  marked_bits true true None = refl
  marked_bits true true (Some send) = refl
  marked_bits true false x = refl
  marked_bits false b x = refl

  -- one send as another one's notice is changed
  noticed_at : (m : SendMap S) (k t : ℕ)
      → get (with_send_notice due_now k m) t ≡ (if eqb k t then option_map (with_notice due_now) (get m t) else get m t)
  noticed_at m k t = by_case (eqb k t) refl
    where
      by_case : (b : Bool) → eqb k t ≡ b
          → get (with_send_notice due_now k m) t ≡ (if b then option_map (with_notice due_now) (get m t) else get m t)
      by_case true e =
          rw (sym (eqb-true k t e)) (get-changed_same m k (with_notice due_now))
      by_case false e = get-changed_other m k (with_notice due_now) t (λ same. eqb-false k t e (sym same))

module _ {T S : Type 0} where
  -- the sends of these blocked messages are due, and all others as they were
  pub all_due_at : (some : List (Blocked T)) (m : SendMap S) (t : ℕ)
      → get (with_all_due some m) t ≡ (if has_ticket t (offers_of some) then option_map (with_notice due_now) (get m t) else get m t)
  all_due_at [] m t = refl
  all_due_at (b ∷ some) m t =
      all_due_at some (with_send_notice due_now b.ticket m) t
      ∙ ap (λ x. if has_ticket t (offers_of some) then option_map (with_notice due_now) x else x) (noticed_at m b.ticket t)
      ∙ marked_bits (eqb b.ticket t) (has_ticket t (offers_of some)) (get m t)
