-- The blocked sends by places and by tickets: whether one is blocked, and what is left without it.
use Rattle.std.proofs.Common.{◌≡◌, ◌≢◌, inl, ◌==◌, ◌||◌, ℕ, Bool, true, false, eqb, List, [], ◌∷◌, ◌++◌, map, Option, Some}
use Rattle.std.proofs.Common.{refl, sym, ◌∙◌, ap, ap₂}
use Rattle.std.proofs.Common.{eqb-true, eq-eqb, ne_eqb}
use Rattle.std.specs.List.{All, Contains, list_any}
use Rattle.std.proofs.lemmas.Bool.{eqb-false, or_parts}
use Rattle.std.proofs.lemmas.List.{map-append}
use Rattle.std.proofs.lemmas.List.Elements.{All-head, All-tail, All-nil, All-cons, All-append, All-weaker, All-same}
use Rattle.std.proofs.lemmas.List.Elements.{All-contains_itself, Contains-append_left, Contains-append_right}
use Rattle.flume_model.specs.Log.{Offer}
use Rattle.flume_model.specs.Channel.{has_ticket}
use Rattle.flume_state.specs.Messages.{Blocked}
use Rattle.flume_state.specs.State.{offers_of}
use Rattle.judge_calls.specs.declared.event.Event.{Event}
use Rattle.judge_search.specs.declared.place_reply.PlaceReply.TheVariants as reply
use Rattle.judge_search.specs.declared.place_reply.PlaceReply.{PlaceReply}
use Rattle.judge_search.specs.ByPlaces.{without_send}
use Rattle.judge_search.specs.Mirrors.{some_offer, offer_for}
use Rattle.judge_search.proofs.MoveAnswers.{IsPlaceAfter}

module _ {T : Type 0} where
  -- offers have the tickets that they have when they are told by messages that may be there
  pub has_ticket_some : (t : ℕ) (xs : List (Offer T)) → has_ticket t (map some_offer xs) ≡ has_ticket t xs
  has_ticket_some t [] = refl
  has_ticket_some t (x ∷ xs) = rw (has_ticket_some t xs) refl

module _ {T A : Type 0} (events : List (Event T A)) (tickets : ℕ → ℕ) (place : ℕ) where
  -- a blocked send as an offer
  abbrev offer : ℕ → Offer (Option T)
  offer q = offer_for events tickets q

  -- no other place has the ticket of this one
  abbrev IsAlone : ℕ → Type 0
  IsAlone q = tickets q ≡ tickets place → q ≡ place

  -- a place is told as its ticket is
  same_place : (q : ℕ) → IsAlone q → eqb (tickets q) (tickets place) ≡ eqb q place
  same_place q alone = by_case (eqb q place) refl
    where
      by_case : (b : Bool) → eqb q place ≡ b → eqb (tickets q) (tickets place) ≡ b
      by_case true same = eq-eqb (tickets q) (tickets place) (ap tickets (eqb-true q place same))
      by_case false other = ne_eqb (tickets q) (tickets place) (λ e. eqb-false q place other (alone e))

  -- a place is among some if its ticket is among theirs
  pub placed_ticket : (xs : List ℕ) → All IsAlone xs → has_ticket (tickets place) (map offer xs) ≡ list_any (λ p. p == place) xs
  placed_ticket [] alone = refl
  placed_ticket (q ∷ xs) alone =
      ap₂ (λ a b. a || b) (same_place q (All-head IsAlone q xs alone)) (placed_ticket xs (All-tail IsAlone q xs alone))

  -- if its ticket isn't among theirs, none of them is the place
  pub none_placed : (xs : List ℕ) → has_ticket (tickets place) (map offer xs) ≡ false → All (λ q. q ≢ place) xs
  none_placed [] none = All-nil (λ q. q ≢ place)
  none_placed (q ∷ xs) none =
      let parts = or_parts _ _ none in
      All-cons (λ p. p ≢ place) q xs (λ e. eqb-false (tickets q) (tickets place) parts.0 (ap tickets e)) (none_placed xs parts.1)

  -- Of these blocked sends and these blocked messages, the send at the place and its message, with those before and behind it.
  pub record IsFound (xs : List ℕ) (blocked : List (Blocked T)) : Type 0 where
    pub earlier : List ℕ
    pub after : List ℕ
    pub before : List (Blocked T)
    pub later : List (Blocked T)
    pub message : T
    pub places_are : xs ≡ earlier ++ place ∷ after
    pub left_is : without_send place xs ≡ earlier ++ after
    pub found : blocked ≡ before ++ record { ticket = tickets place; message = message } ∷ later
    pub earlier_are : map offer earlier ≡ map some_offer (offers_of before)
    pub after_are : map offer after ≡ map some_offer (offers_of later)
    pub none_earlier : All (λ q. q ≢ place) earlier

  -- a send that is among them is found
  pub is_found : (xs : List ℕ) (blocked : List (Blocked T)) → map offer xs ≡ map some_offer (offers_of blocked)
      → list_any (λ p. p == place) xs ≡ true → IsFound xs blocked
  is_found [] blocked same among = absurd (let none : ⊥ = cc in none)
  is_found (q ∷ xs) [] same among = absurd (let none : ⊥ = cc in none)
  is_found (q ∷ xs) (b ∷ blocked) same among =
      by (λ rest more. is_found xs blocked rest more) (eqb q place) refl
      (let rest : map offer xs ≡ map some_offer (offers_of blocked) = cc in rest)
      (let first : offer q ≡ some_offer (record { message = b.message; ticket = Some b.ticket }) = cc in first)
    where
      by : (map offer xs ≡ map some_offer (offers_of blocked) → list_any (λ p. p == place) xs ≡ true → IsFound xs blocked)
          → (is : Bool) → eqb q place ≡ is → map offer xs ≡ map some_offer (offers_of blocked)
          → offer q ≡ some_offer (record { message = b.message; ticket = Some b.ticket }) → IsFound (q ∷ xs) (b ∷ blocked)
      by after_reply true is rest first =
          let here = eqb-true q place is in
          let own_tickets : Some (tickets q) ≡ Some b.ticket = ap (λ x. x.ticket) first in
          let own_ticket : tickets q ≡ b.ticket = cc in
          record {
            earlier = [];
            after = xs;
            before = [];
            later = blocked;
            message = b.message;
            places_are = ap (λ p. p ∷ xs) here;
            left_is = rw is refl;
            found = ap (λ t. record { ticket = t; message = b.message } ∷ blocked) (sym own_ticket ∙ ap tickets here);
            earlier_are = refl;
            after_are = rest;
            none_earlier = All-nil (λ p. p ≢ place);
          }
      by after_reply false is rest first =
          let more : list_any (λ p. p == place) xs ≡ true = cc in
          let found = after_reply rest more in
          record {
            earlier = q ∷ found.earlier;
            after = found.after;
            before = b ∷ found.before;
            later = found.later;
            message = found.message;
            places_are = ap (λ l. q ∷ l) found.places_are;
            left_is = rw is (ap (λ l. q ∷ l) found.left_is);
            found = ap (λ l. b ∷ l) found.found;
            earlier_are = ap₂ (λ x l. x ∷ l) first found.earlier_are;
            after_are = found.after_are;
            none_earlier = All-cons (λ p. p ≢ place) q found.earlier (eqb-false q place is) found.none_earlier;
          }

  -- without the send at the place they are those blocked messages without its message
  pub left_offers : (xs : List ℕ) (blocked : List (Blocked T)) (at : IsFound xs blocked)
      → map offer (without_send place xs) ≡ map some_offer (offers_of (at.before ++ at.later))
  left_offers xs blocked at =
      ap (map offer) at.left_is ∙ map-append offer at.earlier at.after ∙ ap₂ (λ l r. l ++ r) at.earlier_are at.after_are
      ∙ sym (map-append some_offer (offers_of at.before) (offers_of at.later)) ∙ sym (ap (map some_offer) (map-append _ at.before at.later))

  -- those that are left were there before, and none of them is the place, if no later message has its ticket
  pub left_without : (answer : PlaceReply) (xs : List ℕ) (blocked : List (Blocked T)) (at : IsFound xs blocked)
      → has_ticket (tickets place) (offers_of at.later) ≡ false → All (IsPlaceAfter reply.Pending answer place xs) (without_send place xs)
  left_without answer xs blocked at alone =
      All-same (IsPlaceAfter reply.Pending answer place xs) _ _ at.left_is (λ k d lt. inl (among k d lt, inl (none k d lt)))
    where
      none_after : All (λ q. q ≢ place) at.after
      none_after =
          none_placed at.after
          (ap (has_ticket (tickets place)) at.after_are ∙ has_ticket_some (tickets place) (offers_of at.later) ∙ alone)

      none : All (λ q. q ≢ place) (at.earlier ++ at.after)
      none = All-append (λ q. q ≢ place) at.earlier at.after at.none_earlier none_after

      in_earlier : All (Contains (at.earlier ++ place ∷ at.after)) at.earlier
      in_earlier =
          All-weaker _ _ (λ q among. Contains-append_left at.earlier (place ∷ at.after) q among) at.earlier (All-contains_itself at.earlier)

      in_after : All (Contains (at.earlier ++ place ∷ at.after)) at.after
      in_after =
          All-weaker _ _ (λ q among. Contains-append_right at.earlier (place ∷ at.after) q among) at.after
          (All-tail (Contains (place ∷ at.after)) place at.after (All-contains_itself (place ∷ at.after)))

      among : All (Contains xs) (at.earlier ++ at.after)
      among =
          rw at.places_are (All-append (Contains (at.earlier ++ place ∷ at.after)) at.earlier at.after in_earlier in_after)
