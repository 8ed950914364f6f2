-- The chain of the live sends seen without the places of their messages, and the link of each place, under each edit.
use Rattle.std.proofs.Common.{◌≡◌, ◌≢◌, ℕ, ◌≤◌, ◌==◌, Bool, true, false, if◌then◌else◌, List, [], ◌∷◌, ◌++◌}
use Rattle.std.proofs.Common.{Option, Some, None, ◌↔◌, refl, sym, ap, ap₂, subst, ◌∙◌, inl, inr, arith}
use Rattle.std.proofs.Common.{IsSome, IfSome, IfNone, option_map, is_some}
use Rattle.std.proofs.lemmas.Bool.{cases_Bool, eqb-true}
use Rattle.std.proofs.lemmas.List.{map-append}
use Rattle.std.proofs.lemmas.Iterator.Adapters.{option_map_id}
use Rattle.std.specs.FinMap.{empty, get, remove}
use Rattle.flume_state.proofs.Chains.{ChainItem, times, places, found, without_place, put_before, first_place}
use Rattle.flume_state.proofs.Chains.{place_after, with_new_value, with_value_at, times-append, with_same}
use Rattle.flume_state.proofs.Chains.{item, found_none, found_put, none_placed, places-append}
use Rattle.flume_state.proofs.Chains.{without_missing, places-changed_at, found-changed_at}
use Rattle.flume_state.proofs.Chains.{put_before_or_last}
use Rattle.flume_state.specs.declared.sends.LiveSend.{LiveSend}
use Rattle.flume_state.specs.declared.sends.PlacedSend.{PlacedSend}
use Rattle.flume_state.specs.layout.WithTicket.{WithTicket, place_of, tickets}
use Rattle.flume_state.specs.Sends.{with_send_changed}
use Rattle.flume_state.specs.layout.SendLayout.{Element, SendLayout, by_ticket}
use Rattle.flume_state.specs.layout.Pairing.{SendList, Link, send_in, sends_in, live_sends, link_of, link_at}
use Rattle.flume_state.proofs.TicketLemmas.{Amid, put_amid, without_amid, without_fresh, ticket_place}
use Rattle.flume_state.proofs.ByTicketLemmas.{under, held, Occupied, occupied, stands_value}
use Rattle.flume_state.proofs.EntryPartLemmas.{DistinctTickets, passes}
use Rattle.flume_state.proofs.SendStepLemmas.{get_none, written_view, spent_view}
use Rattle.flume_state.proofs.FirstDueLemmas.{FirstDue, first_due, due_stands}

module _ {S : Type 0} where
  -- an element without the place of its message
  abbrev pub bare : WithTicket (PlacedSend S) → WithTicket (LiveSend S)
  bare e = record { label = e.label; value = e.value.send }

  pub found_sends : (xs : SendList S) (k : ℕ) → found (sends_in xs) k ≡ option_map bare (found xs k)
  found_sends [] k = refl
  found_sends (x ∷ xs) k =
      ap (λ o. if k == x.place then Some (bare x.element) else o) (found_sends xs k)
      ∙ sym (passes (option_map bare) (k == x.place) (Some x.element) (found xs k))

  pub places_sends : (xs : SendList S) → places (sends_in xs) ≡ places xs
  places_sends [] = refl
  places_sends (x ∷ xs) = ap (λ (l : List ℕ). x.place ∷ l) (places_sends xs)

  pub apart_sends : (xs : SendList S) → DistinctTickets xs → (k : ℕ) → times k (places (sends_in xs)) ≤ 1
  apart_sends xs apart k = rw (places_sends xs) (apart k)

  tickets_sends : (xs : SendList S) → tickets (sends_in xs) ≡ tickets xs
  tickets_sends [] = refl
  tickets_sends (x ∷ xs) = ap (λ (l : List ℕ). x.element.label ∷ l) (tickets_sends xs)

  pub single_sends : (xs : SendList S) → ((t : ℕ) → times t (tickets xs) ≤ 1) → (t : ℕ) → times t (tickets (sends_in xs)) ≤ 1
  single_sends xs single t = rw (tickets_sends xs) (single t)

  pub place_sends : (t : ℕ) (xs : SendList S) → place_of t (sends_in xs) ≡ place_of t xs
  place_sends t [] = refl
  place_sends t (x ∷ xs) = ap (λ o. if x.element.label == t then Some x.place else o) (place_sends t xs)

  put_before_sends : (xs : SendList S) (k : ℕ) (x : ChainItem (WithTicket (PlacedSend S)))
      → sends_in (put_before xs k x) ≡ put_before (sends_in xs) k (send_in x)
  put_before_sends [] k x = refl
  put_before_sends (y ∷ xs) k x =
      passes sends_in (k == y.place) (x ∷ y ∷ xs) (y ∷ put_before xs k x)
      ∙ ap (λ (l : List (Element S)). if k == y.place then send_in x ∷ send_in y ∷ sends_in xs else send_in y ∷ l) (put_before_sends xs k x)

  pub put_sends : (xs : SendList S) (d : Option ℕ) (x : ChainItem (WithTicket (PlacedSend S)))
      → sends_in (put_before_or_last xs d x) ≡ put_before_or_last (sends_in xs) d (send_in x)
  put_sends xs None x = map-append send_in xs (x ∷ [])
  put_sends xs (Some k) x = put_before_sends xs k x

  pub without_sends : (xs : SendList S) (k : ℕ) → sends_in (without_place xs k) ≡ without_place (sends_in xs) k
  without_sends [] k = refl
  without_sends (x ∷ xs) k =
      passes sends_in (x.place == k) (without_place xs k) (x ∷ without_place xs k)
      ∙ ap (λ (l : List (Element S)). if x.place == k then l else send_in x ∷ l) (without_sends xs k)

  pub written_sends : (xs : SendList S) (k : ℕ) (w : PlacedSend S) → sends_in (with_value_at k xs w) ≡ with_value_at k (sends_in xs) w.send
  written_sends [] k w = refl
  written_sends (x ∷ xs) k w =
      ap₂ (λ (y : Element S) (ys : List (Element S)). y ∷ ys)
      (passes send_in (k == x.place) (item x.place (with_new_value w x.element)) x)
      (written_sends xs k w)

  first_sends : (xs : SendList S) → first_place (sends_in xs) ≡ first_place xs
  first_sends [] = refl
  first_sends (x ∷ xs) = refl

  pub after_sends : (xs : SendList S) (k : ℕ) → place_after (sends_in xs) k ≡ place_after xs k
  after_sends [] k = refl
  after_sends (x ∷ xs) k = ap₂ (λ (n o : Option ℕ). if k == x.place then n else o) (first_sends xs) (after_sends xs k)

  pub after_written : (xs : SendList S) (k : ℕ) (w : PlacedSend S)
      → place_after (with_value_at k xs w) k ≡ place_after (with_value_at k (sends_in xs) w.send) k
  after_written xs k w =
      sym (after_sends (with_value_at k xs w) k) ∙ ap (λ (l : List (Element S)). place_after l k) (written_sends xs k w)

  -- a send among others, if it is found by its place: with its ticket
  pub record Seat (xs : SendList S) (p t : ℕ) (o : PlacedSend S) : Type 0 where
    pub is : found xs p ≡ Some (under t o)
    pub occupied : Occupied t p o.send (sends_in xs)

  -- it is so if it is found
  pub seat_of : (xs : SendList S) (p t : ℕ) (o : PlacedSend S) → DistinctTickets xs → ((u : ℕ) → times u (tickets xs) ≤ 1)
      → found xs p ≡ Some (under t o) → Seat xs p t o
  seat_of xs p t o apart single is = record {
    is = is;
    occupied = occupied t p o.send (sends_in xs) (apart_sends xs apart) (single_sends xs single) (found_sends xs p
        ∙ ap (option_map bare) is);
  }

  -- and if its ticket does
  pub seat_at : (xs : SendList S) (p t : ℕ) (o : PlacedSend S) → DistinctTickets xs → ((u : ℕ) → times u (tickets xs) ≤ 1)
      → place_of t xs ≡ Some p → Some o ≡ option_map (λ e. e.value) (found xs p) → Seat xs p t o
  seat_at xs p t o apart single place value =
      let r = held t p xs apart place in
      let both : Some o ≡ Some r.0 = value ∙ ap (option_map (λ (e : WithTicket (PlacedSend S)). e.value)) r.1 in
      let one : r.0 ≡ o = cc in
      seat_of xs p t o apart single (r.1 ∙ ap (λ (w : PlacedSend S). Some (under t w)) one)

  -- a send that is read at a place is there
  pub seat : (xs : SendList S) (p : ℕ) (o : PlacedSend S) → DistinctTickets xs → ((u : ℕ) → times u (tickets xs) ≤ 1)
      → Some o ≡ option_map (λ e. e.value) (found xs p) → (t : ℕ) × Seat xs p t o
  seat xs p o apart single value =
      elim (found xs p) as (λ (x : Option (WithTicket (PlacedSend S))). found xs p ≡ x → Some o ≡ option_map (λ e. e.value) x
      → (t : ℕ) × Seat xs p t o) [
        | None ↦ λ is v. absurd (let no : ⊥ = cc in no)
        | Some e ↦ λ is v. (
            let one : e.value ≡ o = cc in
            (e.label, seat_of xs p e.label o apart single (is ∙ ap (λ (w : PlacedSend S). Some (under e.label w)) one))
            )
      ] refl value

  -- the place of a ticket is that of its link
  pub link_place : (xs : SendList S) (k : ℕ) (l : Link) → DistinctTickets xs → ((u : ℕ) → times u (tickets xs) ≤ 1)
      → link_at xs k ≡ Some l → place_of l.ticket xs ≡ Some k
  link_place xs k l apart single is =
      elim (found xs k) as (λ (x : Option (WithTicket (PlacedSend S))). found xs k ≡ x → option_map link_of x ≡ Some l
      → place_of l.ticket xs ≡ Some k) [
        | None ↦ λ at none. absurd (let no : ⊥ = cc in no)
        | Some e ↦ λ at some. (
            let ticket : e.label ≡ l.ticket = ap (λ (q : Link). q.ticket) (let both : link_of e ≡ l = cc in both) in
            subst (λ u. place_of u xs ≡ Some k) ticket (ticket_place xs k e apart single at)
            )
      ] refl is

  -- the first that is due
  pub first_sent : (xs : SendList S) (d : Option ℕ) (t p : ℕ) (o : PlacedSend S) → SendLayout (sends_in xs) d → d ≡ Some p
      → DistinctTickets xs → ((u : ℕ) → times u (tickets xs) ≤ 1)
      → Some t ≡ option_map (λ e. e.label) (found xs p) → Some o ≡ option_map (λ e. e.value) (found xs p)
      → FirstDue (sends_in xs) t p o.send
  first_sent xs d t p o l is apart single ticket value =
      let s = seat xs p o apart single value in
      let both : Some t ≡ Some s.0 = ticket ∙ ap (option_map (λ (e : WithTicket (PlacedSend S)). e.label)) s.1.is in
      let one : s.0 ≡ t = cc in
      first_due (sends_in xs) d t p o.send l is (apart_sends xs apart) (single_sends xs single)
      (found_sends xs p ∙ ap (option_map bare) (s.1.is ∙ ap (λ u. Some (under u o)) one))

  none_found : {X : Type 0} (f : WithTicket (PlacedSend S) → X) (x : Option (WithTicket (PlacedSend S))) → None ≡ option_map f x → x ≡ None
  none_found f None is = refl
  none_found f (Some e) is = absurd (let no : ⊥ = cc in no)

  -- and whatever is read of it is there
  pub due_found : {X : Type 0} (f : WithTicket (PlacedSend S) → X) (xs : SendList S) (d : Option ℕ) (p : ℕ) → SendLayout (sends_in xs) d
      → d ≡ Some p
      → DistinctTickets xs → None ≡ option_map f (found xs p) → ⊥
  due_found f xs d p l is apart none =
      due_stands (sends_in xs) d p l is (apart_sends xs apart) (found_sends xs p ∙ ap (option_map bare) (none_found f (found xs p) none))

  -- the links if one element more is among others
  link_amid : (all rest : SendList S) (p : ℕ) (e : WithTicket (PlacedSend S)) → Amid all rest (item p e) → times p (places rest) ≡ 0
      → (k : ℕ) → link_at all k ≡ (if k == p then Some (link_of e) else link_at rest k)
  link_amid all rest p e at none k =
      let both = ap (times p) (ap places at.others ∙ places-append at.before at.after) in
      let sum = times-append p (places at.before) (places at.after) in
      ap (λ l. link_at l k) at.whole
      ∙ ap (option_map link_of) (found_put at.before at.after p e k (omega arith)
      ∙ ap (λ l. if k == p then Some e else found l k) (sym at.others))
      ∙ passes (option_map link_of) (k == p) (Some e) (found rest k)

  pub link_put : (xs : SendList S) (d : Option ℕ) (p t : ℕ) (o : PlacedSend S) → found xs p ≡ None
      → (k : ℕ) → link_at (put_before_or_last xs d (item p (under t o))) k ≡ (if k == p then Some (link_of (under t o)) else link_at xs k)
  link_put xs d p t o fresh k =
      link_amid _ xs p (under t o) (put_amid xs d (item p (under t o))) (none_placed xs p fresh) k

  pub link_moved : (xs : SendList S) (p : ℕ) (e : WithTicket (PlacedSend S)) → DistinctTickets xs → found xs p ≡ Some e
      → (k : ℕ) → link_at (without_place xs p ++ item p e ∷ []) k ≡ link_at xs k
  link_moved xs p e apart is k =
      let at = without_amid xs p e apart is in
      let none = without_fresh xs (without_place xs p) (item p e) at (apart p) in
      link_amid _ (without_place xs p) p e (put_amid (without_place xs p) None (item p e)) none k
      ∙ sym (link_amid xs (without_place xs p) p e at none k)

  pub link_without : (xs : SendList S) (p : ℕ) (e : WithTicket (PlacedSend S)) → DistinctTickets xs → found xs p ≡ Some e
      → (k : ℕ) → link_at (without_place xs p) k ≡ (if k == p then None else link_at xs k)
  link_without xs p e apart is k =
      let at = without_amid xs p e apart is in
      let none = without_fresh xs (without_place xs p) (item p e) at (apart p) in
      elim (cases_Bool (k == p)) [
        | inl h ↦
            ap (link_at (without_place xs p)) (eqb-true k p h) ∙ ap (option_map link_of) (found_none (without_place xs p) p none)
            ∙ sym (ap (λ b. if b then None else link_at xs k) h)
        | inr h ↦
            sym (link_amid xs (without_place xs p) p e at none k
            ∙ ap (λ b. if b then Some (link_of e) else link_at (without_place xs p) k) h)
            ∙ sym (ap (λ b. if b then None else link_at xs k) h)
      ]

  -- the links if a value is written
  pub link_written : (xs : SendList S) (p t : ℕ) (f : Link → Link) (o w : PlacedSend S) → link_of (under t w) ≡ f (link_of (under t o))
      → found xs p ≡ Some (under t o)
      → (k : ℕ) → link_at (with_value_at p xs w) k ≡ (if k == p then option_map f (link_at xs k) else link_at xs k)
  link_written xs p t f o w same is k =
      ap (option_map link_of) (found-changed_at (with_new_value w) xs p k)
      ∙ elim (cases_Bool (k == p)) [
        | inl h ↦
            ap (λ b. option_map link_of (if b then option_map (with_new_value w) (found xs p) else found xs k)) h
            ∙ ap (λ x. option_map link_of (option_map (with_new_value w) x)) is ∙ ap Some same
            ∙ sym (ap (λ q. option_map f (link_at xs q)) (eqb-true k p h) ∙ ap (λ x. option_map f (option_map link_of x)) is)
            ∙ sym (ap (λ b. if b then option_map f (link_at xs k) else link_at xs k) h)
        | inr h ↦
            ap (λ b. option_map link_of (if b then option_map (with_new_value w) (found xs p) else found xs k)) h
            ∙ sym (ap (λ b. if b then option_map f (link_at xs k) else link_at xs k) h)
      ]

  -- and if the written one has the same link
  pub link_kept : (xs : SendList S) (p t : ℕ) (o w : PlacedSend S) → link_of (under t w) ≡ link_of (under t o)
      → found xs p ≡ Some (under t o)
      → (k : ℕ) → link_at (with_value_at p xs w) k ≡ link_at xs k
  link_kept xs p t o w same is k = link_written xs p t (λ l. l) o w same is k ∙ inner (k == p) (link_at xs k)
    where
      inner : (b : Bool) (x : Option Link) → (if b then option_map (λ l. l) x else x) ≡ x
      inner true x = option_map_id x
      inner false x = refl

  -- what a send that is written leaves
  pub live_written : (xs : SendList S) (p t : ℕ) (o w : PlacedSend S) (f : LiveSend S → LiveSend S) → w.send ≡ f o.send
      → Occupied t p o.send (sends_in xs)
      → live_sends (with_value_at p xs w) ≡ with_send_changed (live_sends xs) t f
  live_written xs p t o w f same s =
      ap by_ticket (written_sends xs p w ∙ ap (with_value_at p (sends_in xs)) same) ∙ written_view (sends_in xs) t p o.send f s

  -- what one leaves that is written, and then goes behind all others
  pub record Moved (xs new : SendList S) (p t : ℕ) (w : PlacedSend S) : Type 0 where
    pub sends : sends_in new ≡ without_place (with_value_at p (sends_in xs) w.send) p ++ item p (under t w.send) ∷ []
    pub links : (k : ℕ) → link_at new k ≡ link_at (with_value_at p xs w) k

  pub moved : (xs new : SendList S) (p t : ℕ) (o w : PlacedSend S) (r : Bool) → DistinctTickets xs → Seat xs p t o
      → (r ≡ true ↔ IsSome (found (with_value_at p xs w) p))
      → (r ≡ true → (e : WithTicket (PlacedSend S)) → found (with_value_at p xs w) p ≡ Some e
      → new ≡ without_place (with_value_at p xs w) p ++ item p e ∷ [])
      → Moved xs new p t w
  moved xs new p t o w r apart s stood back =
      let at = found-changed_at (with_new_value w) xs p p ∙ with_same (found xs) p (option_map (with_new_value w) (found xs p))
      ∙ ap (option_map (with_new_value w)) s.is in
      let is = back (stood.1 (ap is_some at)) (under t w) at in
      record {
        sends =
            ap sends_in is
            ∙ map-append send_in (without_place (with_value_at p xs w) p) (item p (under t w) ∷ [])
            ∙ ap (λ (l : List (Element S)). l ++ item p (under t w.send) ∷ [])
            (without_sends (with_value_at p xs w) p ∙ ap (λ (l : List (Element S)). without_place l p) (written_sends xs p w));
        links = λ k.
            ap (λ l. link_at l k) is
            ∙ link_moved (with_value_at p xs w) p (under t w) (λ j. rw (places-changed_at (with_new_value w) xs p) (apart j)) at k;
      }

  pub record Spent (xs new : SendList S) (p : ℕ) : Type 0 where
    pub live : IfSome (link_at xs p) (λ l. live_sends new ≡ remove (live_sends xs) l.ticket)
    pub link : (k : ℕ) → link_at new k ≡ (if k == p then None else link_at xs k)
    pub none : IfNone (link_at xs p) (new ≡ xs)

  pub spent : (xs new : SendList S) (p : ℕ) → DistinctTickets xs → ((u : ℕ) → times u (tickets xs) ≤ 1)
      → new ≡ without_place xs p → Spent xs new p
  spent xs new p apart single taken =
      elim (found xs p) as (λ (x : Option (WithTicket (PlacedSend S))). found xs p ≡ x → Spent xs new p) [
        | None ↦ λ is. (
            let same = taken ∙ without_missing xs p is in
            record {
              live = rw is tt;
              link = λ k. ap (λ y. link_at y k) same ∙ elim (cases_Bool (k == p)) [
                | inl h ↦ ap (link_at xs) (eqb-true k p h) ∙ ap (option_map link_of) is ∙ sym (ap (λ b. if b then None else link_at xs k) h)
                | inr h ↦ sym (ap (λ b. if b then None else link_at xs k) h)
              ];
              none = rw is same;
            }
            )
        | Some e ↦ λ is. (
            let r = seat xs p e.value apart single (sym (ap (option_map (λ (x : WithTicket (PlacedSend S)). x.value)) is)) in
            record {
              live = rw r.1.is (ap by_ticket (ap sends_in taken ∙ without_sends xs p)
                  ∙ spent_view (sends_in xs) r.0 p e.value.send r.1.occupied);
              link = λ k. ap (λ y. link_at y k) taken ∙ link_without xs p e apart is k;
              none = rw r.1.is tt;
            }
            )
      ] refl

  -- what is said of the place that a ticket may have
  pub named : (xs : SendList S) (t : ℕ) (r : Option ℕ) → DistinctTickets xs → ((u : ℕ) → times u (tickets xs) ≤ 1) → r ≡ place_of t xs
      → IfSome r (λ p. option_map (λ l. l.ticket) (link_at xs p) ≡ Some t)
      × IfSome r (λ p. option_map (λ l. l.accepted) (link_at xs p) ≡ option_map (λ s. s.accepted) (get (live_sends xs) t))
      × IfNone r (get (live_sends xs) t ≡ None)
  named xs t None apart single is = (tt, tt, get_none (sends_in xs) t (place_sends t xs ∙ sym is))
  named xs t (Some p) apart single is =
      let r = held t p xs apart (sym is) in
      let s = seat_of xs p t r.0 apart single r.1 in (
        ap (λ x. option_map (λ l. l.ticket) (option_map link_of x)) s.is,
        ap (λ x. option_map (λ l. l.accepted) (option_map link_of x)) s.is
            ∙ sym (ap (option_map (λ s. s.accepted)) (stands_value t p r.0.send (sends_in xs) s.occupied)),
        tt,
      )

  -- if a ticket is nowhere no link has it
  pub link_nowhere : (xs : SendList S) (t k : ℕ) (l : Link) → DistinctTickets xs → ((u : ℕ) → times u (tickets xs) ≤ 1)
      → place_of t xs ≡ None → link_at xs k ≡ Some l → l.ticket ≢ t
  link_nowhere xs t k l apart single none is = λ same.
      let no : Some k ≡ None = sym (link_place xs k l apart single is) ∙ ap (λ u. place_of u xs) same ∙ none in
      let never : ⊥ = cc in never

  -- and if it is somewhere only the link there
  pub link_where : (xs : SendList S) (t k p : ℕ) (l : Link) → DistinctTickets xs → ((u : ℕ) → times u (tickets xs) ≤ 1)
      → place_of t xs ≡ Some p → link_at xs k ≡ Some l → l.ticket ≡ t → k ≡ p
  link_where xs t k p l apart single at is same =
      let both : Some k ≡ Some p = sym (link_place xs k l apart single is) ∙ ap (λ u. place_of u xs) same ∙ at in cc
