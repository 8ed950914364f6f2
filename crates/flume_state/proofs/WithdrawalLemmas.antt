-- The blocked message at a place, what is left of the messages without it, and which places blocked ones have.
use Rattle.std.proofs.Common.{◌≡◌, ◌≢◌, ℕ, ◌-◌, ◌==◌, ◌≤◌, ◌+◌, List, [], ◌∷◌, ◌++◌, map, length, Option}
use Rattle.std.proofs.Common.{Some, None, refl, sym, ap, subst, ◌∙◌, inl, inr, arith, length-append}
use Rattle.std.proofs.Common.{if◌then◌else◌, All, option_and_then}
use Rattle.std.proofs.lemmas.Bool.{cases_Bool, eqb-true}
use Rattle.flume_state.proofs.Chains.{once, times, ChainItem, places, found, without_place, once_same, once_back, item, Split, found_some}
use Rattle.flume_state.specs.layout.MessageLayout.{Message, BlockedAt, MessageList, TakesOut, blocked_ahead}
use Rattle.flume_state.specs.layout.MessageLayout.{blocked_of, messages_of, MessageLayout}
use Rattle.flume_state.proofs.EntryPartLemmas.{DistinctTickets}
use Rattle.flume_state.proofs.PlacedLemmas.{found_here}
use Rattle.flume_state.proofs.MessageLemmas.{unblocked}
use Rattle.flume_state.proofs.PairLemmas.{elsewhere}
use Rattle.flume_state.proofs.MessageStepLemmas.{send_place_at, occupied, leaves, FirstWithout}

module _ {T : Type 0} where
  -- no more blocked messages than elements are at a place
  ahead_fewer : (k p : ℕ) (o : Option ℕ) (m : T) (bs : List (BlockedAt T)) (n : ℕ) → times k (map (λ b. b.place) bs) ≤ n
      → times k (map (λ b. b.place) (blocked_ahead p o m bs)) ≤ once p k + n
  ahead_fewer k p None m bs n rest = omega arith
  ahead_fewer k p (Some t) m bs n rest = omega arith

  fewer : (k : ℕ) (xs : List (ChainItem (Message T))) → times k (map (λ b. b.place) (blocked_of xs)) ≤ times k (places xs)
  fewer k [] = omega arith
  fewer k (x ∷ xs) = ahead_fewer k x.place x.element.label x.element.value (blocked_of xs) _ (fewer k xs)

  -- if the element at a place has no owner, no blocked message is there
  not_blocked : (k : ℕ) (xs : List (ChainItem (Message T))) → times k (places xs) ≤ 1 → None ≡ send_place_at xs k
      → times k (map (λ b. b.place) (blocked_of xs)) ≡ 0
  not_blocked k [] apart none = refl
  not_blocked k (x ∷ xs) apart none = elim (cases_Bool (k == x.place)) [
    | inl here ↦ (
        let queued : None ≡ x.element.label = none
        ∙ ap (λ b. option_and_then (λ e. e.label) (if b then Some x.element else found xs k)) here in
        let one : once x.place k ≡ 1 = ap (λ p. once p k) (sym (eqb-true k x.place here)) ∙ once_same k in
        let less = fewer k xs in
        ap (λ o. times k (map (λ b. b.place) (blocked_ahead x.place o x.element.value (blocked_of xs)))) (sym queued) ∙ omega arith
        )
    | inr other ↦ (
        let rest = not_blocked k xs (omega arith) (none
        ∙ ap (λ b. option_and_then (λ e. e.label) (if b then Some x.element else found xs k)) other) in
        let less = ahead_fewer k x.place x.element.label x.element.value (blocked_of xs) 0 (omega arith) in
        let none_here = once_back k x.place (ap (λ b. if b then 1 else 0) other) in
        omega arith
        )
  ]

  pub absent : (items : List (ChainItem (Message T))) (space place : ℕ) (list : MessageList T) → messages_of items space ≡ list
      → DistinctTickets items
      → None ≡ send_place_at items place → All (λ b. b.place ≢ place) list.blocked
  absent items space place list view apart none =
      subst (λ (l : MessageList T). All (λ b. b.place ≢ place) l.blocked) view
      (elsewhere place _ (not_blocked place items (apart place) none))

  -- so no two are at the same one
  pub blocked_apart : (items : List (ChainItem (Message T))) (space : ℕ) (list : MessageList T) → messages_of items space ≡ list
      → DistinctTickets items
      → (k : ℕ) → times k (map (λ b. b.place) list.blocked) ≤ 1
  blocked_apart items space list view apart k =
      let less = fewer k items in
      let one = apart k in
      let same = ap (λ (l : MessageList T). times k (map (λ b. b.place) l.blocked)) view in
      omega arith

  -- the element with an owner at a place, among others
  abbrev pub StandsAt : List (ChainItem (Message T)) → ℕ → Type 0
  StandsAt xs place = (e : Message T) × Split xs place e

  stands_at : (xs : List (ChainItem (Message T))) (place send_place : ℕ) → Some send_place ≡ send_place_at xs place → StandsAt xs place
  stands_at xs place send_place has = elim (found xs place) as (λ o. found xs place ≡ o
      → Some send_place ≡ option_and_then (λ e. e.label) o → StandsAt xs place) [
        | None ↦ λ is none. absurd cc
        | Some e ↦ λ is some. (e, found_some xs place e is)
      ] refl has

  -- no queued message has an owner
  owner_behind : (k send_place : ℕ) (xs ys : List (ChainItem (Message T))) → blocked_of xs ≡ []
      → Some send_place ≡ send_place_at (xs ++ ys) k → Some send_place ≡ send_place_at ys k
  owner_behind k send_place [] ys none has = has
  owner_behind k send_place (x ∷ xs) ys none has =
      let first = unblocked x.place x.element.label x.element.value [] (blocked_of xs) none in
      elim (cases_Bool (k == x.place)) [
        | inl here ↦ (
            let both : Some send_place ≡ None =
            has ∙ ap (λ b. option_and_then (λ e. e.label) (if b then Some x.element else found (xs ++ ys) k)) here ∙ first.0 in
            absurd (let no : ⊥ = cc in no)
            )
        | inr other ↦ owner_behind k send_place xs ys first.1
            (has ∙ ap (λ b. option_and_then (λ e. e.label) (if b then Some x.element else found (xs ++ ys) k)) other)
      ]

  -- the message with an owner at a place is a blocked one
  pub holds : (items : List (ChainItem (Message T))) (first : Option ℕ) (count place send_place : ℕ) (w : MessageLayout items first count)
      → Some send_place ≡ send_place_at items place → StandsAt w.back place
  holds items first count place send_place w has =
      stands_at w.back place send_place (owner_behind place send_place w.front w.back w.none_blocked (has
      ∙ ap (λ l. send_place_at l place) w.is))

  -- so one is blocked
  pub some_holds : (items : List (ChainItem (Message T))) (first : Option ℕ) (count place send_place : ℕ) → MessageLayout items first count
      → Some send_place ≡ send_place_at items place → 1 ≤ count
  some_holds items first count place send_place w has =
      let h = holds items first count place send_place w has in
      omega (arith, w.counted, ap length h.1.is, length-append h.1.before (item place h.0 ∷ h.1.after))

  -- the blocked message at a place leaves
  pub record Withdrawn (items new : List (ChainItem (Message T))) (next : Option ℕ) (left space place : ℕ)
      (list : MessageList T) : Type 0 where
    pub element : Message T
    pub is : found items place ≡ Some element
    pub layout : MessageLayout new next left
    pub takes : TakesOut list (messages_of new space) place element.value

  pub withdraws : (items new : List (ChainItem (Message T))) (first next : Option ℕ) (count space place send_place : ℕ)
      (list : MessageList T)
      → MessageLayout items first count → messages_of items space ≡ list → DistinctTickets items
      → Some send_place ≡ send_place_at items place
      → FirstWithout items first next place → new ≡ without_place items place → Withdrawn items new next (count - 1) space place list
  withdraws items new first next count space place send_place list w view apart has firsts is =
      let h = holds items first count place send_place w has in
      let x = item place h.0 in
      let s = occupied items h.1.before h.1.after first count space x list w view h.1.is in
      let l = leaves items new h.1.before h.1.after first next count space x list w s view h.1.is apart firsts is in
      record {
        element = h.0;
        is = ap (λ k. found k place) s.among ∙ found_here (w.front ++ h.1.before) h.1.after x (subst DistinctTickets s.among apart);
        layout = l.layout;
        takes = record {
          send_place = s.send_place;
          before = blocked_of h.1.before;
          after = blocked_of h.1.after;
          found = s.all;
          rest = ap (λ (m : MessageList T). m.blocked) l.view;
          same = ap (λ (m : MessageList T). m.queued) l.view;
          same_space = ap (λ (m : MessageList T). m.space) view;
        };
      }
