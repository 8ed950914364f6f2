-- The open call of a thread, when a call begins and when one returns.
use Rattle.std.proofs.Common.{◌≡◌, ℕ, ◌==◌, Bool, true, false, not, List, [], ◌∷◌, ◌++◌, Option, Some, None, refl, sym, ap, ◌∙◌, subst}
use Rattle.std.proofs.Common.{arith, if◌then◌else◌, eq-eqb, ◌&&◌, ◌||◌}
use Rattle.std.proofs.lemmas.Bool.{eqb-true, false≢true}
use Rattle.std.proofs.lemmas.List.Elements.{All-head, All-tail, Contains-append_right}
use Rattle.std.proofs.lemmas.List.Folds.{list_any-append}
use Rattle.std.specs.List.{All, Contains, filter}
use Rattle.std.specs.Option.{option_or}
use Rattle.judge_calls.specs.declared.event.Event.{Event}
use Rattle.judge_search.specs.declared.configuration.OpenCall.{OpenCall}
use Rattle.judge_search.specs.Configurations.{thread_at, call_by, is_thread, is_parked}
use Rattle.judge_search.specs.Agreement.{parked_at}
use Rattle.judge_search.specs.Happens.{new_call}

-- without the calls at a place
abbrev pub without : ℕ → List OpenCall → List OpenCall
without place calls = filter (λ call. not (call.place == place)) calls

-- the thread, if the test says so
pub is_thread_true : (t : ℕ) (u : Option ℕ) → is_thread t u ≡ true → u ≡ Some t
is_thread_true t None is = absurd (false≢true is)
is_thread_true t (Some u) is = ap Some (eqb-true u t is)

module _ {T A : Type 0} (events : List (Event T A)) where
  -- the open call of a thread among these and others
  call_by-append : (t : ℕ) (calls more : List OpenCall) → call_by events t (calls ++ more) ≡ option_or (call_by events t calls)
      (call_by events t more)
  call_by-append t [] more = refl
  call_by-append t (one ∷ calls) more = by (is_thread t (thread_at events one.place)) (call_by-append t calls more)
    where
      by : (b : Bool) → call_by events t (calls ++ more) ≡ option_or (call_by events t calls) (call_by events t more)
          → (if b then Some one else call_by events t (calls ++ more)) ≡ option_or (if b then Some one else call_by events t calls)
          (call_by events t more)
      by true on = refl
      by false on = on

  -- a call of another thread changes nothing for this one
  pub call_by-other : (t : ℕ) (calls : List OpenCall) (one : OpenCall) → is_thread t (thread_at events one.place) ≡ false
      → call_by events t (calls ++ one ∷ []) ≡ call_by events t calls
  call_by-other t calls one off = call_by-append t calls (one ∷ [])
      ∙ ap (λ b. option_or (call_by events t calls) (if b then Some one else None)) off ∙ by (call_by events t calls)
    where
      by : (x : Option OpenCall) → option_or x None ≡ x
      by None = refl
      by (Some x) = refl

  -- a call of a thread that has none is its own
  pub call_by-new : (t : ℕ) (calls : List OpenCall) (one : OpenCall) → call_by events t calls ≡ None
      → is_thread t (thread_at events one.place) ≡ true
      → call_by events t (calls ++ one ∷ []) ≡ Some one
  call_by-new t calls one none own = call_by-append t calls (one ∷ [])
      ∙ ap (λ x. option_or x (call_by events t (one ∷ []))) none ∙ ap (λ b. if b then Some one else None) own

  -- a thread that has one keeps it
  pub call_by-kept : (t : ℕ) (calls more : List OpenCall) (one : OpenCall) → call_by events t calls ≡ Some one
      → call_by events t (calls ++ more) ≡ Some one
  call_by-kept t calls more one own = call_by-append t calls more ∙ ap (λ x. option_or x (call_by events t more)) own

  -- the open call of a thread is one of the open calls, and of that thread
  abbrev IsFound : ℕ → List OpenCall → OpenCall → Type 0
  IsFound t calls one = Contains calls one × (thread_at events one.place ≡ Some t)

  -- the open call that is found
  pub call_by-found : (t : ℕ) (calls : List OpenCall) (one : OpenCall) → call_by events t calls ≡ Some one → IsFound t calls one
  call_by-found t [] one is = absurd (let gone : ⊥ = cc in gone)
  call_by-found t (first ∷ calls) one is = by (is_thread t (thread_at events first.place)) refl is (call_by-found t calls one)
    where
      by : (b : Bool) → is_thread t (thread_at events first.place) ≡ b → (if b then Some first else call_by events t calls) ≡ Some one
          → (call_by events t calls ≡ Some one → IsFound t calls one) → IsFound t (first ∷ calls) one
      by true own is on =
          let same : first ≡ one = cc in (
            (0, omega arith, same),
            is_thread_true t (thread_at events one.place)
                (subst (λ x. is_thread t (thread_at events x.place) ≡ true) same own),
          )
      by false own is on = let k = on is in (Contains-append_right (first ∷ []) calls one k.0, k.1)

  -- without the calls at a place of another thread, the thread has the same
  pub call_by-without_other : (t place : ℕ) (calls : List OpenCall) → is_thread t (thread_at events place) ≡ false
      → call_by events t (without place calls) ≡ call_by events t calls
  call_by-without_other t place [] off = refl
  call_by-without_other t place (one ∷ calls) off = by (one.place == place) refl (call_by-without_other t place calls off)
    where
      kept : (b : Bool) → call_by events t (without place calls) ≡ call_by events t calls
          → (if b then Some one else call_by events t (without place calls)) ≡ (if b then Some one else call_by events t calls)
      kept true on = refl
      kept false on = on

      by : (b : Bool) → (one.place == place) ≡ b → call_by events t (without place calls) ≡ call_by events t calls
          → call_by events t (if not b then one ∷ without place calls else without place calls) ≡ call_by events t (one ∷ calls)
      by true is on = on ∙ sym (ap (λ b. if b then Some one else call_by events t calls)
          (ap (λ p. is_thread t (thread_at events p)) (eqb-true one.place place is) ∙ off))
      by false is on = kept (is_thread t (thread_at events one.place)) on

  -- without its calls, which stand at one place, it has none
  abbrev pub StandsAt : ℕ → ℕ → OpenCall → Type 0
  StandsAt t place call = is_thread t (thread_at events call.place) ≡ true → call.place ≡ place

  -- so it has none
  pub call_by-without_own : (t place : ℕ) (calls : List OpenCall) → All (StandsAt t place) calls
      → call_by events t (without place calls) ≡ None
  call_by-without_own t place [] only = refl
  call_by-without_own t place (one ∷ calls) only =
      by (one.place == place) refl (call_by-without_own t place calls (All-tail (StandsAt t place) one calls only))
    where
      kept : (one.place == place) ≡ false → (b : Bool) → is_thread t (thread_at events one.place) ≡ b
          → call_by events t (without place calls) ≡ None
          → (if b then Some one else call_by events t (without place calls)) ≡ None
      kept off true own on = absurd (false≢true (sym off ∙ eq-eqb one.place place (All-head (StandsAt t place) one calls only own)))
      kept off false own on = on

      by : (b : Bool) → (one.place == place) ≡ b → call_by events t (without place calls) ≡ None
          → call_by events t (if not b then one ∷ without place calls else without place calls) ≡ None
      by true is on = on
      by false is on = kept is (is_thread t (thread_at events one.place)) refl on

-- a call that begins isn't parked
pub parked_at-begun : (calls : List OpenCall) (place p : ℕ) → parked_at (calls ++ new_call place ∷ []) p ≡ parked_at calls p
parked_at-begun calls place p =
    list_any-append (λ (call : OpenCall). call.place == p && is_parked call.progress) calls (new_call place ∷ [])
    ∙ by (parked_at calls p) (place == p)
  where
    by : (a b : Bool) → (a || ((b && false) || false)) ≡ a
    by true true = refl
    by true false = refl
    by false true = refl
    by false false = refl

-- calls that aren't parked may go
abbrev pub IsIdle : ℕ → OpenCall → Type 0
IsIdle place call = call.place ≡ place → is_parked call.progress ≡ false

-- without calls that aren't parked, the same are
pub parked_at-without : (place : ℕ) (calls : List OpenCall) (p : ℕ) → All (IsIdle place) calls
    → parked_at (without place calls) p ≡ parked_at calls p
parked_at-without place [] p idle = refl
parked_at-without place (one ∷ calls) p idle =
    by (one.place == place) refl (parked_at-without place calls p (All-tail (IsIdle place) one calls idle))
  where
    none : (a b c : Bool) → b ≡ false → ((a && b) || c) ≡ c
    none true true c is = absurd (false≢true (sym is))
    none true false c is = refl
    none false b c is = refl

    by : (b : Bool) → (one.place == place) ≡ b → parked_at (without place calls) p ≡ parked_at calls p
        → parked_at (if not b then one ∷ without place calls else without place calls) p ≡ parked_at (one ∷ calls) p
    by true is on = on ∙ sym (none (one.place == p) (is_parked one.progress) (parked_at calls p)
        (All-head (IsIdle place) one calls idle (eqb-true one.place place is)))
    by false is on = ap (λ x. (one.place == p && is_parked one.progress) || x) on
