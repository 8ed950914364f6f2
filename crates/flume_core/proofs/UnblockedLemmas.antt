-- What a take leaves if nobody is blocked.
use Rattle.std.proofs.Common.{◌≡◌, Bool, true, false, if◌then◌else◌, List, [], ◌∷◌, length, Option, Some, None, refl, sym, ◌∙◌, ap, arith}
use Rattle.std.specs.Prelude.{IfSome}
use Rattle.flume_state.specs.Messages.{Messages}
use Rattle.flume_state.specs.State.{State}
use Rattle.flume_core.proofs.ViewLemmas.{nil_by}
use Rattle.flume_state.specs.Effects.{after_admission, after_admission_of, after_admission_if_room, with_front, with_front_of, after_take}

-- one value, whichever way it is chosen
either : {X : Type 0} (b : Bool) (x y : X) → x ≡ y → (if b then x else y) ≡ y
either true x y same = same
either false x y same = refl

module _ {T S : Type 0} where
  -- no message joins the queue
  admits_none : (s : State T S) → s.blocked ≡ [] → after_admission s ≡ s
  admits_none s none = ap (λ b. after_admission_of b s) none

  -- the front is that of the queue
  pub fronted_alone : (s : State T S) → s.blocked ≡ [] → with_front s ≡ s
  fronted_alone s none = go s.queue
    where
      go : (q : List T) → with_front_of q s ≡ s
      go [] = admits_none s none
      go (m ∷ rest) = refl

  -- a take leaves the rest of the queue
  pub taken_alone : (rest : List T) (s : State T S) → s.blocked ≡ [] → after_take rest s ≡ record s { queue = rest }
  taken_alone rest s none =
      ap (λ f. after_admission_if_room (record f { queue = rest })) (fronted_alone s none)
      ∙ either _ _ _ (admits_none (record s { queue = rest }) none)

  -- the front of the queue goes out, and leaves what a take leaves
  pub takes_alone : (s : State T S) (l : Messages T S) (r : Option T) → length s.blocked ≡ 0
      → IfSome r (λ m. record { queued = s.queue; blocked = s.blocked; space = s.space; sends = s.sends } ≡ record l {
        queued =
            m ∷ l.queued;
      })
      → IfSome r (λ m. (rest : List T) × ((with_front s).queue ≡ m ∷ rest)
      × (record s { queue = l.queued; blocked = l.blocked; space = l.space; sends = l.sends } ≡ after_take rest s))
  takes_alone s l None none h = tt
  takes_alone s l (Some m) none h =
      let empty_ = nil_by s.blocked (λ more. omega arith) in
      let same_blocked = ap (λ k. k.blocked) h in
      let same_space = ap (λ k. k.space) h in
      let same_sends = ap (λ k. k.sends) h in (
        l.queued,
        ap (λ f. f.queue) (fronted_alone s empty_) ∙ ap (λ k. k.queued) h,
        rw (← same_blocked, ← same_space, ← same_sends) (sym (taken_alone l.queued s empty_)),
      )
