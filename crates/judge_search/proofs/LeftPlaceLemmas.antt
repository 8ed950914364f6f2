-- Who is left blocked or parked by a move, by places; and the tickets of places, once one has a new ticket.
use Rattle.std.proofs.Common.{◌≡◌, ◌≢◌, ◌⊎◌, inl, inr, ◌==◌, ℕ, true, List, [], ◌∷◌, ◌++◌, map, Some, refl, ap, ap₂}
use Rattle.std.proofs.Common.{eq-eqb, ne_eqb}
use Rattle.std.proofs.lemmas.Bool.{cases_eq, cond-true, cond-false}
use Rattle.std.specs.List.{All, Contains}
use Rattle.std.proofs.lemmas.List.Elements.{All-head, All-tail, All-map, All-push, All-weaker, All-contains_itself}
use Rattle.judge_calls.specs.declared.event.Event.{Event}
use Rattle.judge_search.specs.declared.configuration.ParkedReceive.{ParkedReceive}
use Rattle.judge_search.specs.declared.configuration.Status.{Status}
use Rattle.judge_search.specs.declared.configuration.Status.TheVariants.{Waiting, Woken, Filled}
use Rattle.judge_search.specs.declared.place_reply.PlaceReply.{PlaceReply}
use Rattle.flume_model.specs.declared.step.Kind.{Kind}
use Rattle.flume_model.specs.declared.step.Kind.TheVariants.{Block, Plain, Stream, Arm}
use Rattle.judge_search.specs.Configurations.{message_at}
use Rattle.judge_search.specs.Receives.{round_of}
use Rattle.judge_search.specs.ByPlaces.{round_with}
use Rattle.judge_search.specs.Mirrors.{entry_for, offer_for, mark_of}
use Rattle.judge_search.proofs.MoveAnswers.{IsPlaceAfter, stays_parked, with_ticket}

-- equal at each element, equal on the list
pub map_same : {X Y : Type 0} (f g : X → Y) (xs : List X) → All (λ x. f x ≡ g x) xs → map f xs ≡ map g xs
map_same f g [] same = refl
map_same f g (x ∷ xs) same =
    ap₂ (λ y ys. y ∷ ys) (All-head (λ y. f y ≡ g y) x xs same) (map_same f g xs (All-tail (λ y. f y ≡ g y) x xs same))

-- those that are left are those before, none of which is the place
pub all_left : {joins : PlaceReply} (reply_by_place : PlaceReply) (place : ℕ) (xs : List ℕ) → All (λ q. q ≢ place) xs
    → All (IsPlaceAfter joins reply_by_place place xs) xs
all_left reply_by_place place xs none k d lt = inl (All-contains_itself xs k d lt, inl (none k d lt))

-- they are, if the call is parked after as before
pub all_stay : {joins : PlaceReply} (reply_by_place : PlaceReply) (place : ℕ) (xs : List ℕ) → stays_parked reply_by_place ≡ true
    → All (IsPlaceAfter joins reply_by_place place xs) xs
all_stay reply_by_place place xs parked k d lt = inl (All-contains_itself xs k d lt, inr parked)

-- one more is left, which is the place, by the reply by which one joins
pub one_joins : (reply_by_place : PlaceReply) (place : ℕ) (xs : List ℕ) → All (λ q. q ≢ place) xs
    → All (IsPlaceAfter reply_by_place reply_by_place place xs) (xs ++ place ∷ [])
one_joins reply_by_place place xs none = All-push (IsPlaceAfter reply_by_place reply_by_place place xs) xs place
    (all_left reply_by_place place xs none) (inr (refl, refl))

-- the places of parked receives, of which none is this one
pub none_of : (place : ℕ) (rs : List ParkedReceive) → All (λ r. r.place ≢ place) rs → All (λ q. q ≢ place) (map (λ r. r.place) rs)
none_of place rs none = All-map (λ q. q ≢ place) (λ r. r.place) rs none

-- a parked receive by its fields
abbrev parked : ℕ → Kind → Status → ParkedReceive
parked p k s = record { place = p; kind = k; status = s }

-- a wake round leaves the places of parked receives
pub round_places : (front : ℕ) (rs : List ParkedReceive) → map (λ r. r.place) (round_of front rs) ≡ map (λ r. r.place) rs
round_places front [] = refl
round_places front (r ∷ rs) = step r.status r.kind r.place (round_places front rs)
  where
    step : (s : Status) (k : Kind) (p : ℕ) → map (λ r. r.place) (round_of front rs) ≡ map (λ r. r.place) rs
        → map (λ r. r.place) (round_of front (parked p k s ∷ rs)) ≡ p ∷ map (λ r. r.place) rs
    step Waiting Stream p rest = ap (λ l. p ∷ l) rest
    step Waiting Block p rest = refl
    step Waiting Plain p rest = refl
    step Waiting Arm p rest = refl
    step Woken k p rest = ap (λ l. p ∷ l) rest
    step (Filled q) k p rest = ap (λ l. p ∷ l) rest

-- so does one if this is the queue
pub round_with_places : (queue : List ℕ) (rs : List ParkedReceive) → map (λ r. r.place) (round_with queue rs) ≡ map (λ r. r.place) rs
round_with_places [] rs = refl
round_with_places (front ∷ queue) rs = round_places front rs

-- the ticket of the place itself
pub ticketed_itself : (place ticket : ℕ) (tickets : ℕ → ℕ) → with_ticket place ticket tickets place ≡ ticket
ticketed_itself place ticket tickets = cond-true (place == place) _ _ (eq-eqb place place refl)

-- the ticket of another place is what it was
pub ticketed_other : (place ticket : ℕ) (tickets : ℕ → ℕ) (q : ℕ) → q ≢ place → with_ticket place ticket tickets q ≡ tickets q
ticketed_other place ticket tickets q other = cond-false (q == place) _ _ (ne_eqb q place other)

module _ {T A : Type 0} (events : List (Event T A)) (place ticket : ℕ) (tickets : ℕ → ℕ) where
  -- a blocked send that isn't the place, as an offer
  offer_kept : (q : ℕ) → q ≢ place → offer_for events (with_ticket place ticket tickets) q ≡ offer_for events tickets q
  offer_kept q other = ap (λ t. record { message = message_at events q; ticket = Some t }) (ticketed_other place ticket tickets q other)

  -- the blocked sends, of which none is the place, as offers
  pub offers_kept : (xs : List ℕ) → All (λ q. q ≢ place) xs
      → map (offer_for events (with_ticket place ticket tickets)) xs ≡ map (offer_for events tickets) xs
  offers_kept xs none = map_same _ _ xs (All-weaker _ _ offer_kept xs none)

  -- a parked receive that isn't at the place, as an entry
  entry_kept : (r : ParkedReceive) → r.place ≢ place → entry_for events (with_ticket place ticket tickets) r ≡ entry_for events tickets r
  entry_kept r other =
      ap (λ t. record { ticket = t; kind = r.kind; mark = mark_of events r.status; notice = tt })
      (ticketed_other place ticket tickets r.place other)

  -- the parked receives, of which none is at the place, as entries
  pub entries_kept : (rs : List ParkedReceive) → All (λ r. r.place ≢ place) rs
      → map (entry_for events (with_ticket place ticket tickets)) rs ≡ map (entry_for events tickets) rs
  entries_kept rs none = map_same _ _ rs (All-weaker _ _ entry_kept rs none)
