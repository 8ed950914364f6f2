-- A level is dead if the next one is, once each of its configurations was expanded.
use Rattle.std.proofs.Common.{◌≡◌, ◌≤◌, ◌<◌, ◌⊎◌, inl, inr, ℕ, zero, suc, ◌+◌, Bool, List, [], ◌∷◌, ◌++◌, sym, ap, ◌∙◌, subst}
use Rattle.std.proofs.Common.{drop, length, length-drop, take, append_assoc, arith, Contains, Option, Some, None, IfSome, refl, get_or}
use Rattle.std.proofs.Math.Seq.{take-length, take-suc}
use Rattle.std.proofs.lemmas.List.{append-nil, take-append-le, take_all}
use Rattle.std.proofs.lemmas.List.Elements.{Contains-append_left, Contains-push_cases}
use Rattle.flume_model.specs.Log.{Opening}
use Rattle.judge_calls.specs.declared.event.Event.{Event}
use Rattle.judge_calls.specs.declared.event.Item.{Item}
use Rattle.judge_search.specs.declared.choice.Choice.{Choice}
use Rattle.judge_search.specs.declared.choice.Choice.TheVariants.{TakeEvent}
use Rattle.judge_search.specs.declared.table.ConfigurationAt.{ConfigurationAt}
use Rattle.judge_search.specs.Configurations.{State}
use Rattle.judge_search.specs.Agreement.{Agrees}
use Rattle.judge_search.specs.Dead.{Completes, CoverNext, AreSteps, IsDeadEnd, IsDeadEndWithin, IsItemOf, IsSpent, LeadsOnly}
use Rattle.judge_search.specs.Levels.{Grows, AreDeadWithin, AreDead, IsFollowed, IsExpanded, AreExpanded}
use Rattle.judge_search.specs.Search.{configuration_at}
use Rattle.judge_search.proofs.CoverLemmas.{each_step}
use Rattle.judge_search.proofs.ThreadCallLemmas.{call_by-found}

module _ {X : Type 0} where
  -- lists that grow
  pub grows_not : (xs : List X) → Grows xs xs
  grows_not xs = ([], sym (append-nil xs))

  pub grows_on : (xs ys zs : List X) → Grows xs ys → Grows ys zs → Grows xs zs
  grows_on xs ys zs one other =
      (one.0 ++ other.0, other.1 ∙ ap (λ l. l ++ other.0) one.1 ∙ append_assoc xs one.0 other.0)

  pub keeps : (xs ys : List X) (x : X) → Grows xs ys → Contains xs x → Contains ys x
  keeps xs ys x grows has = subst (λ l. Contains l x) (sym grows.1) (Contains-append_left xs grows.0 x has)

  pub same_beginning : (n : ℕ) (xs ys : List X) → Grows xs ys → n ≤ length xs → take n ys ≡ take n xs
  same_beginning n xs ys grows within = ap (take n) grows.1 ∙ take-append-le n xs grows.0 within

module _ {T A : Type 0} (equal : T → T → Bool) (events : List (Event T A)) where
  -- events are left from a place within them
  some_left : (place : ℕ) → place < length events → drop place events ≡ [] → ⊥
  some_left place within is = omega (arith, length-drop place events, ap length is)

  -- what is expanded stays so as levels grow
  pub stays : (level next level' next' : List (ConfigurationAt A)) → Grows level level' → Grows next next' → (d : ConfigurationAt A)
      → IsExpanded equal events level next d → IsExpanded equal events level' next' d
  stays level next level' next' grows grows_next d expanded = record {
    is_within = expanded.is_within;
    leads = λ n gone all none.
        expanded.leads n gone (λ e has. all e (keeps level level' e grows has)) (λ e has. none e (keeps next next' e grows_next has));
  }

  -- what may come next is among these choices, if nothing comes of the levels
  abbrev pub AreLeft : (level next : List (ConfigurationAt A)) → ℕ → State → List Choice → Type 0
  AreLeft level next place c choices = (n : ℕ) → IsDeadEndWithin equal events n place c → AreDeadWithin equal events n level
      → AreDead equal events next → (o : Opening) (past : List (Item T A)) (item : Item T A) (items : List (Item T A))
      → length items ≤ n → Agrees equal events o past (drop place events) c
      → Completes equal events o past place (item ∷ items)
      → (choice : Choice) × Contains choices choice × IsItemOf equal events c past choice item

  pub all_left : (level next : List (ConfigurationAt A)) (place : ℕ) (c : State) (choices : List Choice) → CoverNext equal events place c choices
      → AreLeft level next place c choices
  all_left level next place c choices cover n gone all none o past item items few agrees on =
      cover o past item items agrees (λ p q l short. gone p q l (omega (arith, few, short))) on

  pub one_less : (level next level' next' : List (ConfigurationAt A)) (place : ℕ) (c : State) (choices : List Choice) (last : Choice)
      → AreLeft level next place c (choices ++ last ∷ []) → Grows level level' → Grows next next'
      → IsFollowed equal events level' next' place c last → AreLeft level' next' place c choices
  one_less level next level' next' place c choices last left grows grows_next followed n gone all none o past item items few agrees on =
      let chosen = left n gone (λ e has. all e (keeps level level' e grows has)) (λ e has. none e (keeps next next' e grows_next has))
      o past item items few agrees on in
      other chosen.0 chosen.2 (Contains-push_cases choices last chosen.0 chosen.1)
    where
      other : (choice : Choice) → IsItemOf equal events c past choice item → Contains choices choice ⊎ (last ≡ choice)
          → (choice : Choice) × Contains choices choice × IsItemOf equal events c past choice item
      other choice of (inl among) = (choice, among, of)
      other choice of (inr is) = absurd (followed n gone all none o past item items few agrees on
          (subst (λ x. IsItemOf equal events c past x item) (sym is) of))

  pub none_left : (level next : List (ConfigurationAt A)) (place : ℕ) (c : State) → place < length events → AreLeft level next place c []
      → IsExpanded equal events level next (configuration_at place c)
  none_left level next place c within left = record { is_within = within; leads = by }
    where
      by : (n : ℕ) → IsDeadEndWithin equal events n place c → AreDeadWithin equal events n level → AreDead equal events next
          → IsDeadEndWithin equal events (n + 1) place c
      by n gone all none o past [] short agrees on = some_left place within (sym on.events_are)
      by n gone all none o past (item ∷ items) short agrees on =
          let chosen = left n gone all none o past item items (omega (arith, short)) agrees on in
          let none = chosen.1.1 in absurd (omega (arith, none))

  -- the choices of a configuration, if there was memory for them
  pub some_cover : {V : Type 0} (of : V → List Choice) (found : Option V) (place : ℕ) (c : State)
      → IfSome found (λ v. Contains (of v) TakeEvent) → IfSome found (λ v. AreSteps (of v) c.calls)
      → IfSome found (λ v. CoverNext equal events place c (of v))
  some_cover of None place c has steps = tt
  some_cover of (Some v) place c has steps =
      each_step equal events place c (of v) has steps (λ t one own. call_by-found events t c.calls one own)

  pub only_cover : {V : Type 0} (of : V → List Choice) (found : Option V) (place : ℕ) (c : State)
      → IfSome found (λ v. of v ≡ TakeEvent ∷ []) → CoverNext equal events place c (TakeEvent ∷ [])
      → IfSome found (λ v. CoverNext equal events place c (of v))
  only_cover of None place c is cover = tt
  only_cover of (Some v) place c is cover = subst (CoverNext equal events place c) (sym is) cover

  -- a choice is followed if it leads into a level, or nowhere
  pub into_level : (level next : List (ConfigurationAt A)) (place : ℕ) (c : State) (choice : Choice) (at : ℕ) (new : State)
      → LeadsOnly equal events place c choice at new → Contains level (configuration_at at new)
      → IsFollowed equal events level next place c choice
  into_level level next place c choice at new leads has n gone all none o past item items few agrees on of =
      leads o past item items agrees (λ p q l short. all (configuration_at at new) has p q l (omega (arith, few, short))) on of

  pub into_next : (level next : List (ConfigurationAt A)) (place : ℕ) (c : State) (choice : Choice) (at : ℕ) (new : State)
      → LeadsOnly equal events place c choice at new → Contains next (configuration_at at new)
      → IsFollowed equal events level next place c choice
  into_next level next place c choice at new leads has n gone all none o past item items few agrees on of =
      leads o past item items agrees (λ p q l short. none (configuration_at at new) has p q l) on of

  pub nowhere : (level next : List (ConfigurationAt A)) (place : ℕ) (c : State) (choice : Choice) → IsSpent equal events place c choice
      → IsFollowed equal events level next place c choice
  nowhere level next place c choice spent n gone all none o past item items few agrees on of =
      spent o past item items agrees (λ p q l short. gone p q l (omega (arith, few, short))) on of

  pub into_dead : (level next : List (ConfigurationAt A)) (place : ℕ) (c : State) (choice : Choice) (at : ℕ) (new : State)
      → LeadsOnly equal events place c choice at new → IsDeadEnd equal events at new
      → IsFollowed equal events level next place c choice
  into_dead level next place c choice at new leads dead n gone all none o past item items few agrees on of =
      leads o past item items agrees (λ p q l short. dead p q l) on of

  -- one more of a level is expanded
  pub one_more : (index : ℕ) (level next level' next' : List (ConfigurationAt A)) (d : ConfigurationAt A)
      → take (index + 1) level ≡ take index level ++ d ∷ [] → index < length level
      → Grows level level' → Grows next next' → IsExpanded equal events level' next' d → AreExpanded equal events index level next
      → AreExpanded equal events (index + 1) level' next'
  one_more index level next level' next' d is within grows grows_next expanded before e has =
      by (Contains-push_cases (take index level) d e
      (subst (λ l. Contains l e) (same_beginning (index + 1) level level' grows (omega arith) ∙ is) has))
    where
      by : Contains (take index level) e ⊎ (d ≡ e) → IsExpanded equal events level' next' e
      by (inl among) = stays level next level' next' grows grows_next e (before e among)
      by (inr same) = subst (IsExpanded equal events level' next') same expanded

  -- with all of them expanded, the level is dead if the next one is
  within : (level next : List (ConfigurationAt A)) → AreExpanded equal events (length level) level next → AreDead equal events next
      → (n : ℕ) → AreDeadWithin equal events n level
  within level next expanded none zero d has o past [] short agrees on =
      some_left d.place (expanded d (subst (λ l. Contains l d) (sym (take-length level)) has)).is_within (sym on.events_are)
  within level next expanded none zero d has o past (item ∷ items) short agrees on = absurd (omega (arith, short))
  within level next expanded none (suc n) d has o past items short agrees on =
      (expanded d (subst (λ l. Contains l d) (sym (take-length level)) has)).leads n (within level next expanded none n d has)
      (within level next expanded none n) none o past items (omega (arith, short)) agrees on

  pub all_dead : (level next : List (ConfigurationAt A)) → AreExpanded equal events (length level) level next → AreDead equal events next
      → AreDead equal events level
  all_dead level next expanded none d has o past items agrees on =
      within level next expanded none (length items) d has o past items (omega arith) agrees on

  -- as long as the level may have grown
  pub level_dead : (index : ℕ) (old level next : List (ConfigurationAt A)) → Grows old level → length level ≤ index
      → AreExpanded equal events index level next → AreDead equal events next → AreDead equal events old
  level_dead index old level next grows past expanded none d has =
      all_dead level next (λ e among. expanded e (subst (λ l. Contains l e) (take-length level ∙ sym (take_all index level past)) among))
      none d (keeps old level d grows has)

  -- before any of them is
  pub none_yet : (level next : List (ConfigurationAt A)) → AreExpanded equal events 0 level next
  none_yet level next d has = let none = has.1 in absurd (omega (arith, none))

  -- the level of the start alone, and one with none
  pub only_start : (level : List (ConfigurationAt A)) (c : State) → level ≡ [] ++ configuration_at 0 c ∷ [] → AreDead equal events level
      → IsDeadEnd equal events 0 c
  only_start level c is all =
      all (configuration_at 0 c) (subst (λ l. Contains l (configuration_at 0 c)) (sym is) (0, omega arith, refl))

  pub no_more : (level : List (ConfigurationAt A)) → length level ≡ 0 → AreDead equal events level
  no_more level none d has = let some = has.1 in absurd (omega (arith, none, some))

  -- what was read of a level, as a list that ends with it
  pub up_to : (level : List (ConfigurationAt A)) (index : ℕ) (d : ConfigurationAt A) → index < length level → d ≡ get_or level index d
      → take (index + 1) level ≡ take index level ++ d ∷ []
  up_to level index d within is =
      ap (λ n. take n level) (let more : index + 1 ≡ suc index = omega arith in more) ∙ take-suc level index d within
      ∙ ap (λ e. take index level ++ e ∷ []) (sym is)
