-- Lists of open calls: the one of a thread, and who is parked, once one of them goes on.
use Rattle.std.proofs.Common.{◌≡◌, ◌≢◌, ℕ, ◌==◌, Bool, true, false, ◌&&◌, ◌||◌, eqb, if◌then◌else◌, List, [], ◌∷◌, Option, Some, None, refl}
use Rattle.std.proofs.Common.{sym, ◌∙◌, ap, ap₂, subst, eqb-true, ne_eqb, eq-eqb}
use Rattle.std.specs.List.{All, list_any}
use Rattle.std.specs.Option.{option_map}
use Rattle.std.proofs.lemmas.List.Elements.{All-map, All-weaker, All-head, All-tail}
use Rattle.judge_calls.specs.declared.event.Event.{Event}
use Rattle.judge_search.specs.declared.configuration.OpenCall.{OpenCall}
use Rattle.judge_search.specs.declared.configuration.Progress.{Progress}
use Rattle.judge_search.specs.Configurations.{State, call_with_progress, calls_with_progress, is_parked, is_thread, thread_at, call_by}
use Rattle.judge_search.specs.Agreement.{IsOwn, parked_at}

-- two equal numbers pass the test
pub not_equal : (t u : ℕ) → t ≡ u → eqb t u ≡ false → ⊥
not_equal t u e differs = let yes = eq-eqb t u e in let none : ⊥ = cc in none

-- numbers that fail the test aren't equal
pub differ : (t u : ℕ) → eqb t u ≡ false → t ≢ u
differ t u differs e = not_equal t u e differs

-- a call keeps its place
pub place_once : (place : ℕ) (q : Progress) (call : OpenCall) → (call_with_progress place q call).place ≡ call.place
place_once place q call =
    elim (eqb call.place place) as (λ b. (if b then record { place = call.place; progress = q } else call).place ≡ call.place)
    [ true ↦ refl | false ↦ refl ]

-- the call at another place stays as it is
pub once_other : (place : ℕ) (q : Progress) (call : OpenCall) → call.place ≢ place → call_with_progress place q call ≡ call
once_other place q call other =
    let no : eqb call.place place ≡ false = ne_eqb call.place place other in
    ap (λ b. if b then record { place = call.place; progress = q } else call) no

-- the call at its own place is so far now
pub once_self : (q : Progress) (call : OpenCall) → call_with_progress call.place q call ≡ record { place = call.place; progress = q }
once_self q call =
    let yes : eqb call.place call.place ≡ true = eq-eqb call.place call.place refl in
    ap (λ b. if b then record { place = call.place; progress = q } else call) yes

-- the test finds the thread itself
thread_is : (t : ℕ) (o : Option ℕ) → is_thread t o ≡ true → o ≡ Some t
thread_is t None e = absurd (let no : ⊥ = cc in no)
thread_is t (Some u) e = ap (λ v. Some v) (eqb-true u t e)

-- whether a call is parked at a place
abbrev is_there : ℕ → OpenCall → Bool
is_there p call = call.place == p && is_parked call.progress

-- who is parked at another place stays so
pub parked_other : (place : ℕ) (q : Progress) (p : ℕ) (calls : List OpenCall) → p ≢ place
    → parked_at (calls_with_progress place q calls) p ≡ parked_at calls p
parked_other place q p [] other = refl
parked_other place q p (call ∷ calls) other =
    ap₂ (λ a b. a || b) (by_case (eqb call.place place) refl) (parked_other place q p calls other)
  where
    by_case : (b : Bool) → eqb call.place place ≡ b
        → is_there p (if b then record { place = call.place; progress = q } else call) ≡ is_there p call
    by_case true is =
        let no : eqb call.place p ≡ false = ne_eqb call.place p (λ e. other (sym e ∙ eqb-true call.place place is)) in
        ap (λ b. b && is_parked q) no ∙ sym (ap (λ b. b && is_parked call.progress) no)
    by_case false is = refl

-- if the call isn't parked that goes on, nobody is parked at its place
pub parked_none : (place : ℕ) (q : Progress) (calls : List OpenCall) → is_parked q ≡ false
    → parked_at (calls_with_progress place q calls) place ≡ false
parked_none place q [] still = refl
parked_none place q (call ∷ calls) still =
    ap₂ (λ a b. a || b) (by_case (eqb call.place place) refl) (parked_none place q calls still)
  where
    by_case : (b : Bool) → eqb call.place place ≡ b
        → is_there place (if b then record { place = call.place; progress = q } else call) ≡ false
    by_case true is = ap₂ (λ a b. a && b) is still
    by_case false is = ap (λ b. b && is_parked call.progress) is

-- a parked call is one of the calls
pub parked_call : (P : OpenCall → Type 0) (p : ℕ) (calls : List OpenCall) → All P calls → parked_at calls p ≡ true
    → (call : OpenCall) × P call × (call.place ≡ p) × (is_parked call.progress ≡ true)
parked_call P p [] all e = absurd (let no : ⊥ = cc in no)
parked_call P p (call ∷ calls) all e =
    by_case (eqb call.place p) (is_parked call.progress) refl refl e (parked_call P p calls (All-tail P call calls all))
  where
    by_case : (a b : Bool) → eqb call.place p ≡ a → is_parked call.progress ≡ b → ((a && b) || parked_at calls p) ≡ true
        → (parked_at calls p ≡ true → (call : OpenCall) × P call × (call.place ≡ p) × (is_parked call.progress ≡ true))
        → (call : OpenCall) × P call × (call.place ≡ p) × (is_parked call.progress ≡ true)
    by_case true true is parked_ e on = (call, All-head P call calls all, eqb-true call.place p is, parked_)
    by_case true false is parked_ e on = on e
    by_case false b is parked_ e on = on e

module _ {T A : Type 0} (events : List (Event T A)) where
  -- the open call of a thread once one of them goes on
  pub call_by_once : (t place : ℕ) (q : Progress) (calls : List OpenCall)
      → call_by events t (calls_with_progress place q calls) ≡ option_map (call_with_progress place q) (call_by events t calls)
  call_by_once t place q [] = refl
  call_by_once t place q (call ∷ calls) =
      ap (λ p. if is_thread t (thread_at events p) then Some (call_with_progress place q call) else call_by events t
      (calls_with_progress place q calls))
      (place_once place q call)
      ∙ elim (is_thread t (thread_at events call.place))
      as (λ b. (if b then Some (call_with_progress place q call) else call_by events t (calls_with_progress place q calls))
      ≡ option_map (call_with_progress place q) (if b then Some call else call_by events t calls))
      [ true ↦ refl | false ↦ call_by_once t place q calls ]

  -- the open call of a thread is the thread's
  pub call_by_thread : (t : ℕ) (calls : List OpenCall) (one : OpenCall) → call_by events t calls ≡ Some one
      → thread_at events one.place ≡ Some t
  call_by_thread t [] one e = absurd (let no : ⊥ = cc in no)
  call_by_thread t (call ∷ calls) one e = by_case (is_thread t (thread_at events call.place)) refl e (call_by_thread t calls one)
    where
      by_case : (b : Bool) → is_thread t (thread_at events call.place) ≡ b
          → (if b then Some call else call_by events t calls) ≡ Some one
          → (call_by events t calls ≡ Some one → thread_at events one.place ≡ Some t) → thread_at events one.place ≡ Some t
      by_case true is e on =
          let same : call ≡ one = cc in
          subst (λ (c : OpenCall). thread_at events c.place ≡ Some t) same (thread_is t (thread_at events call.place) is)
      by_case false is e on = on e

  -- and what holds of each open call holds of it
  pub call_by_all : (P : OpenCall → Type 0) (t : ℕ) (calls : List OpenCall) (one : OpenCall) → All P calls
      → call_by events t calls ≡ Some one → P one
  call_by_all P t [] one all e = absurd (let no : ⊥ = cc in no)
  call_by_all P t (call ∷ calls) one all e =
      by_case (is_thread t (thread_at events call.place)) e (call_by_all P t calls one (All-tail P call calls all))
    where
      by_case : (b : Bool) → (if b then Some call else call_by events t calls) ≡ Some one
          → (call_by events t calls ≡ Some one → P one) → P one
      by_case true e on = let same : call ≡ one = cc in subst P same (All-head P call calls all)
      by_case false e on = on e

  -- once it goes on
  pub own_once : (t : ℕ) (q : Progress) (calls : List OpenCall) (one : OpenCall) → call_by events t calls ≡ Some one
      → call_by events t (calls_with_progress one.place q calls) ≡ Some (record { place = one.place; progress = q })
  own_once t q calls one own =
      call_by_once t one.place q calls ∙ ap (option_map (call_with_progress one.place q)) own ∙ ap (λ c. Some c) (once_self q one)

  -- a call that is parked is parked at its place
  pub parked_there : (t : ℕ) (calls : List OpenCall) (one : OpenCall) → call_by events t calls ≡ Some one
      → is_parked one.progress ≡ true → parked_at calls one.place ≡ true
  parked_there t [] one e parked_ = absurd (let no : ⊥ = cc in no)
  parked_there t (call ∷ calls) one e parked_ =
      by_case (is_thread t (thread_at events call.place)) e (λ k. parked_there t calls one k parked_)
    where
      first : call ≡ one → (is_there one.place call || parked_at calls one.place) ≡ true
      first same =
          subst (λ (c : OpenCall). (is_there one.place c || parked_at calls one.place) ≡ true) (sym same)
          (ap₂ (λ a b. (a && b) || parked_at calls one.place) (eq-eqb one.place one.place refl) parked_)

      more : (b : Bool) → (b || true) ≡ true
      more true = refl
      more false = refl

      by_case : (b : Bool) → (if b then Some call else call_by events t calls) ≡ Some one
          → (call_by events t calls ≡ Some one → parked_at calls one.place ≡ true)
          → (is_there one.place call || parked_at calls one.place) ≡ true
      by_case true e on = first (let same : call ≡ one = cc in same)
      by_case false e on = ap (λ b. is_there one.place call || b) (on e) ∙ more (is_there one.place call)

  -- if it is parked that goes on, it is parked at its place
  pub parked_now : (t : ℕ) (q : Progress) (calls : List OpenCall) (one : OpenCall) → call_by events t calls ≡ Some one
      → is_parked q ≡ true → parked_at (calls_with_progress one.place q calls) one.place ≡ true
  parked_now t q calls one own =
      parked_there t (calls_with_progress one.place q calls) (record { place = one.place; progress = q }) (own_once t q calls one own)

module _ {T A : Type 0} (equal : T → T → Bool) (events : List (Event T A)) where
  -- each open call is its thread's, still
  own_still : (place : ℕ) (q : Progress) (calls : List OpenCall) (call : OpenCall) → IsOwn equal events calls call
      → IsOwn equal events (calls_with_progress place q calls) (call_with_progress place q call)
  own_still place q calls call own = (
    own.0,
    ap (thread_at events) (place_once place q call) ∙ own.1,
    call_by_once events own.0 place q calls ∙ ap (option_map (call_with_progress place q)) own.2,
  )

  pub threads_still : (place : ℕ) (q : Progress) (calls : List OpenCall) → All (IsOwn equal events calls) calls
      → All (IsOwn equal events (calls_with_progress place q calls)) (calls_with_progress place q calls)
  threads_still place q calls h =
      All-map (IsOwn equal events (calls_with_progress place q calls)) (call_with_progress place q) calls
      (All-weaker (IsOwn equal events calls) (λ call. IsOwn equal events (calls_with_progress place q calls)
      (call_with_progress place q call))
      (λ call own. own_still place q calls call own) calls h)

  -- whose place is parked is parked, as each thread has one open call
  pub parked_self : (t : ℕ) (calls : List OpenCall) (one : OpenCall) → All (IsOwn equal events calls) calls
      → call_by events t calls ≡ Some one → parked_at calls one.place ≡ true → is_parked one.progress ≡ true
  parked_self t calls one apart own parked_ =
      let found = parked_call (IsOwn equal events calls) one.place calls apart parked_ in
      let a : thread_at events found.0.place ≡ Some found.1.0 = found.1.1 in
      let b : thread_at events one.place ≡ Some t = call_by_thread events t calls one own in
      let threads : Some found.1.0 ≡ Some t = sym a ∙ ap (thread_at events) found.2 ∙ b in
      let same : found.1.0 ≡ t = cc in
      let both : Some found.0 ≡ Some one = sym found.1.2 ∙ ap (λ u. call_by events u calls) same ∙ own in
      let it : found.0 ≡ one = cc in
      ap (λ (c : OpenCall). is_parked c.progress) (sym it) ∙ found.3

  -- the call of a place is one, as each thread has one open call
  pub one_there : (t : ℕ) (calls : List OpenCall) (one call : OpenCall) → call_by events t calls ≡ Some one → IsOwn equal events calls call
      → call.place ≡ one.place → call ≡ one
  one_there t calls one call own mine same =
      let b : thread_at events one.place ≡ Some t = call_by_thread events t calls one own in
      let threads : Some mine.0 ≡ Some t = sym mine.1 ∙ ap (thread_at events) same ∙ b in
      let u : mine.0 ≡ t = cc in
      let both : Some call ≡ Some one = sym mine.2 ∙ ap (λ u. call_by events u calls) u ∙ own in
      let it : call ≡ one = cc in
      it

  -- so a call that is as far as before leaves the calls as they are
  pub progressed_same : (t : ℕ) (calls : List OpenCall) (one : OpenCall) → All (IsOwn equal events calls) calls
      → call_by events t calls ≡ Some one → calls_with_progress one.place one.progress calls ≡ calls
  progressed_same t calls one apart own = each calls apart
    where
      once_same : (call : OpenCall) → IsOwn equal events calls call → (b : Bool) → eqb call.place one.place ≡ b
          → (if b then record { place = call.place; progress = one.progress } else call) ≡ call
      once_same call mine true is =
          let it : call ≡ one = one_there t calls one call own mine (eqb-true call.place one.place is) in
          ap (λ (x : OpenCall). let outcome : OpenCall = record { place = call.place; progress = x.progress } in outcome) (sym it)
      once_same call mine false is = refl

      each : (some : List OpenCall) → All (IsOwn equal events calls) some → calls_with_progress one.place one.progress some ≡ some
      each [] h = refl
      each (call ∷ some) h =
          ap₂ (λ a l. a ∷ l) (once_same call (All-head (IsOwn equal events calls) call some h) (eqb call.place one.place) refl)
          (each some (All-tail (IsOwn equal events calls) call some h))
