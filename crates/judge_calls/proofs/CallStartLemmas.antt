-- Calls that began among items: how a call is known to have begun there.
use Rattle.std.proofs.Common.{◌≡◌, ℕ, Bool, true, false, eqb, if◌then◌else◌, List, [], ◌∷◌, Option, Some, None, ◌⊎◌, inl}
use Rattle.std.proofs.Common.{inr, refl}
use Rattle.std.proofs.Common.{ap, arith, eqb-true}
use Rattle.std.proofs.lemmas.List.Elements.{Contains-append_cases, Contains-append_right, Contains-push_cases}
use Rattle.std.specs.List.{Contains}
use Rattle.judge_calls.specs.declared.call.Call.{Call}
use Rattle.judge_calls.specs.declared.event.Event.TheVariants.{Begins, Returns}
use Rattle.judge_calls.specs.declared.event.Item.{Item}
use Rattle.judge_calls.specs.declared.event.Item.TheVariants.{Happens, Makes}
use Rattle.judge_calls.specs.declared.stage.Stage.{Stage}
use Rattle.judge_calls.specs.declared.stage.Stage.TheVariants.{Begun}
use Rattle.judge_calls.specs.Explanations.{after_reply, open_call}

module _ {T A : Type 0} where
  -- the thread began a call among these items
  abbrev pub BegunIn : List (Item T A) → ℕ → Type 0
  BegunIn newer t = (call : Call T) × Contains newer (Happens (Begins t call))

  -- a call that began among items began by the newest one or among those before it
  pub begun_before : (item : Item T A) (newer : List (Item T A)) (t : ℕ) → BegunIn (item ∷ newer) t
      → ((call : Call T) × (item ≡ Happens (Begins t call))) ⊎ BegunIn newer t
  begun_before item newer t h = by_place (Contains-append_cases (item ∷ []) newer (Happens (Begins t h.0)) h.1)
    where
      by_last : Contains {X = Item T A} [] (Happens (Begins t h.0)) ⊎ (item ≡ Happens (Begins t h.0))
          → ((call : Call T) × (item ≡ Happens (Begins t call))) ⊎ BegunIn newer t
      by_last (inl none) = absurd (let lt = none.1 in omega arith)
      by_last (inr is) = inl (h.0, is)

      by_place : Contains (item ∷ []) (Happens (Begins t h.0)) ⊎ Contains newer (Happens (Begins t h.0))
          → ((call : Call T) × (item ≡ Happens (Begins t call))) ⊎ BegunIn newer t
      by_place (inl last) = by_last (Contains-push_cases [] item (Happens (Begins t h.0)) last)
      by_place (inr before) = inr (h.0, before)

  -- a call that began among the earlier items began among all
  begun_more : (item : Item T A) (newer : List (Item T A)) (t : ℕ) → BegunIn newer t → BegunIn (item ∷ newer) t
  begun_more item newer t h = (h.0, Contains-append_right (item ∷ []) newer (Happens (Begins t h.0)) h.1)

  -- a call begins by the newest item
  begun_now : (newer : List (Item T A)) (u t : ℕ) (call : Call T) → eqb u t ≡ true → BegunIn (Happens (Begins u call) ∷ newer) t
  begun_now newer u t call is = (call, (0, omega arith, ap (λ v. Happens (Begins v call)) (eqb-true u t is)))

  -- a call is open
  abbrev pub IsThere : Option (Call T × Stage T A) → Type 0
  IsThere None = ⊥
  IsThere (Some current) = Unit {0}

  -- a thread that has a call open began one
  pub open_begun : (items : List (Item T A)) (t : ℕ) → IsThere (open_call items t) → BegunIn items t
  open_begun [] t h = absurd h
  open_begun (Happens (Begins u c) ∷ items) t h = by_thread (eqb u t) refl (open_begun items t) h
    where
      by_thread : (b : Bool) → eqb u t ≡ b → (IsThere (open_call items t) → BegunIn items t)
          → IsThere (if b then Some (c, Begun) else open_call items t) → BegunIn (Happens (Begins u c) ∷ items) t
      by_thread true is before h = begun_now items u t c is
      by_thread false is before h = begun_more (Happens (Begins u c)) items t (before h)
  open_begun (Happens (Returns u recorded) ∷ items) t h = by_thread (eqb u t) (open_begun items t) h
    where
      by_thread : (b : Bool) → (IsThere (open_call items t) → BegunIn items t) → IsThere (if b then None else open_call items t)
          → BegunIn (Happens (Returns u recorded) ∷ items) t
      by_thread true before h = absurd h
      by_thread false before h = begun_more (Happens (Returns u recorded)) items t (before h)
  open_begun (Makes u step r ∷ items) t h =
      begun_more (Makes u step r) items t (open_begun items t (by_thread (eqb u t) (open_call items t) h))
    where
      by_thread : (b : Bool) (current : Option (Call T × Stage T A)) → IsThere (if b then after_reply r current else current)
          → IsThere current
      by_thread true None h = h
      by_thread true (Some current) h = tt
      by_thread false current h = h
