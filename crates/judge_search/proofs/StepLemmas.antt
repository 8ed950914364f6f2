-- The steps of an open call, among the choices.
use Rattle.std.proofs.Common.{◌≡◌, ◌<◌, ◌⊎◌, inl, inr, ℕ, ◌+◌, Bool, true, false, List, [], ◌∷◌, ◌++◌, refl, sym, subst, take, length}
use Rattle.std.proofs.Common.{get_or, arith}
use Rattle.std.specs.List.{Contains}
use Rattle.std.proofs.lemmas.List.{take_more}
use Rattle.std.proofs.lemmas.List.Elements.{Contains-append_left, Contains-append_right, Contains-push_cases}
use Rattle.judge_search.specs.declared.choice.Choice.{Choice}
use Rattle.judge_search.specs.declared.choice.Choice.TheVariants.{MakeStep}
use Rattle.judge_search.specs.declared.configuration.OpenCall.{OpenCall}
use Rattle.judge_search.specs.Dead.{AreSteps}

-- the choices have each step of each of these open calls but this one
abbrev pub AreStepsBut : OpenCall → List Choice → List OpenCall → Type 0
AreStepsBut own choices calls = (call : OpenCall) (other refused : Bool) → Contains calls call
    → Contains choices (MakeStep call other refused) ⊎ (call ≡ own)

-- the steps of a call, the last to be tried first
abbrev pub steps_of : OpenCall → List Choice
steps_of call = MakeStep call true true ∷ MakeStep call false true ∷ MakeStep call true false ∷ MakeStep call false false ∷ []

-- each step of the call is one of them
step_of_call : (call : OpenCall) (other refused : Bool) → Contains (steps_of call) (MakeStep call other refused)
step_of_call call true true = (0, omega arith, refl)
step_of_call call true false = (2, omega arith, refl)
step_of_call call false true = (1, omega arith, refl)
step_of_call call false false = (3, omega arith, refl)

-- so it is one of the choices, once they are added
pub steps_added : (before after : List Choice) (call : OpenCall) → after ≡ before ++ steps_of call
    → (other refused : Bool) → Contains after (MakeStep call other refused)
steps_added before after call is other refused = subst (λ l. Contains l (MakeStep call other refused)) (sym is)
    (Contains-append_right before (steps_of call) (MakeStep call other refused) (step_of_call call other refused))

-- one call more has its steps, or is the own one
pub steps_more : (own : OpenCall) (before after : List Choice) (calls : List OpenCall) (i : ℕ) (d : OpenCall)
    → i < length calls → AreStepsBut own before (take i calls)
    → ((choice : Choice) → Contains before choice → Contains after choice)
    → ((other refused : Bool) → Contains after (MakeStep (get_or calls i d) other refused) ⊎ (get_or calls i d ≡ own))
    → AreStepsBut own after (take (i + 1) calls)
steps_more own before after calls i d within so_far kept steps one other refused has =
    by (Contains-push_cases (take i calls) (get_or calls i d) one (subst (λ l. Contains l one) (take_more calls i d within) has))
  where
    by : Contains (take i calls) one ⊎ (get_or calls i d ≡ one) → Contains after (MakeStep one other refused) ⊎ (one ≡ own)
    by (inl among) = still (so_far one other refused among)
      where
        still : Contains before (MakeStep one other refused) ⊎ (one ≡ own) → Contains after (MakeStep one other refused) ⊎ (one ≡ own)
        still (inl has) = inl (kept (MakeStep one other refused) has)
        still (inr same) = inr same
    by (inr same) = subst (λ x. Contains after (MakeStep x other refused) ⊎ (x ≡ own)) same (steps other refused)

-- with the own call's steps, all have theirs
pub steps_all : (own : OpenCall) (before middle after : List Choice) (calls : List OpenCall) (last : Choice) → AreStepsBut own before calls
    → middle ≡ before ++ steps_of own → after ≡ middle ++ last ∷ [] → AreSteps after calls
steps_all own before middle after calls last others is ends one other refused among =
    subst (λ l. Contains l (MakeStep one other refused)) (sym ends)
    (Contains-append_left middle (last ∷ []) (MakeStep one other refused) (by (others one other refused among)))
  where
    by : Contains before (MakeStep one other refused) ⊎ (one ≡ own) → Contains middle (MakeStep one other refused)
    by (inl has) = subst (λ l. Contains l (MakeStep one other refused)) (sym is)
        (Contains-append_left before (steps_of own) (MakeStep one other refused) has)
    by (inr same) = subst (λ x. Contains middle (MakeStep x other refused)) (sym same) (steps_added before middle own is other refused)
