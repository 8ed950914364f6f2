-- What is done to parked receives by their places is done to entries by their tickets, if no two places
-- share a ticket.
use Rattle.std.proofs.Common.{◌≡◌, ◌==◌, ℕ, Bool, true, false, if◌then◌else◌, eqb, List, [], ◌∷◌, ◌++◌, map, Option, Some, None, refl, sym}
use Rattle.std.proofs.Common.{◌∙◌, ap}
use Rattle.std.specs.List.{All}
use Rattle.std.proofs.lemmas.List.Elements.{All-head, All-tail}
use Rattle.std.specs.Option.{option_map}
use Rattle.std.proofs.Common.{eqb-true, eq-eqb, ne_eqb}
use Rattle.flume_model.specs.declared.step.Kind.{Kind}
use Rattle.flume_model.specs.declared.step.Kind.TheVariants.{Block, Plain, Stream, Arm}
use Rattle.flume_model.specs.Entries.{round, entry_of, without_ticket}
use Rattle.flume_model.specs.Parked.{LogEntry, same_notice}
use Rattle.judge_calls.specs.declared.event.Event.{Event}
use Rattle.judge_search.specs.declared.configuration.ParkedReceive.{ParkedReceive}
use Rattle.judge_search.specs.declared.configuration.Status.{Status}
use Rattle.judge_search.specs.declared.configuration.Status.TheVariants.{Waiting, Woken, Filled}
use Rattle.judge_search.specs.Configurations.{message_at}
use Rattle.judge_search.specs.Mirrors.{entry_for}
use Rattle.judge_search.specs.Receives.{round_of, receive_at, without_place}

module _ {T A : Type 0} (events : List (Event T A)) (tickets : ℕ → ℕ) where
  -- a receive that is parked at a place
  abbrev parked : ℕ → Kind → Status → ParkedReceive
  parked p k s = record { place = p; kind = k; status = s }

  -- what a log has of a receive, with its ticket and the message that it holds
  abbrev placed : ParkedReceive → LogEntry (Option T)
  placed r = entry_for events tickets r

  -- a wake round
  pub placed_round : (front : ℕ) (rs : List ParkedReceive)
      → map placed (round_of front rs) ≡ round same_notice (message_at events front) (map placed rs)
  placed_round front [] = refl
  placed_round front (r ∷ rs) = step r.status r.kind r.place (placed_round front rs)
    where
      step : (s : Status) (k : Kind) (p : ℕ) → map placed (round_of front rs) ≡ round same_notice (message_at events front) (map placed rs)
          → map placed (round_of front (parked p k s ∷ rs)) ≡ round same_notice (message_at events front) (map placed (parked p k s ∷ rs))
      step Waiting Stream p rest = ap (λ l. placed (parked p Stream Woken) ∷ l) rest
      step Waiting Block p rest = refl
      step Waiting Plain p rest = refl
      step Waiting Arm p rest = refl
      step Woken k p rest = ap (λ l. placed (parked p k Woken) ∷ l) rest
      step (Filled q) k p rest = ap (λ l. placed (parked p k (Filled q)) ∷ l) rest

  -- no other place has the ticket of this one
  abbrev pub IsAlone : ℕ → ParkedReceive → Type 0
  IsAlone p r = tickets r.place ≡ tickets p → r.place ≡ p

  -- a place is told as its ticket is
  eqb_by_ticket : (p : ℕ) (r : ParkedReceive) → IsAlone p r → eqb (tickets r.place) (tickets p) ≡ eqb r.place p
  eqb_by_ticket p r alone = by_case (eqb r.place p) refl
    where
      by_case : (b : Bool) → eqb r.place p ≡ b → eqb (tickets r.place) (tickets p) ≡ b
      by_case true same = eq-eqb (tickets r.place) (tickets p) (ap tickets (eqb-true r.place p same))
      by_case false other = ne_eqb (tickets r.place) (tickets p) (λ e. let same = eq-eqb r.place p (alone e) in cc)

  -- the entry of a place
  pub placed_entry : (p : ℕ) (rs : List ParkedReceive) → All (IsAlone p) rs
      → entry_of (tickets p) (map placed rs) ≡ option_map placed (receive_at p rs)
  placed_entry p [] alone = refl
  placed_entry p (r ∷ rs) alone = by_case (eqb r.place p) refl (placed_entry p rs (All-tail (IsAlone p) r rs alone))
    where
      by_case : (b : Bool) → eqb r.place p ≡ b → entry_of (tickets p) (map placed rs) ≡ option_map placed (receive_at p rs)
          → entry_of (tickets p) (map placed (r ∷ rs)) ≡ option_map placed (receive_at p (r ∷ rs))
      by_case true same rest = let ticket = eqb_by_ticket p r (All-head (IsAlone p) r rs alone) ∙ same in simp (ticket, same) refl
      by_case false other rest = let ticket = eqb_by_ticket p r (All-head (IsAlone p) r rs alone) ∙ other in simp (ticket, other) rest

  -- the others
  pub placed_without : (p : ℕ) (rs : List ParkedReceive) → All (IsAlone p) rs
      → map placed (without_place p rs) ≡ without_ticket (tickets p) (map placed rs)
  placed_without p [] alone = refl
  placed_without p (r ∷ rs) alone = by_case (eqb r.place p) refl (placed_without p rs (All-tail (IsAlone p) r rs alone))
    where
      by_case : (b : Bool) → eqb r.place p ≡ b → map placed (without_place p rs) ≡ without_ticket (tickets p) (map placed rs)
          → map placed (without_place p (r ∷ rs)) ≡ without_ticket (tickets p) (map placed (r ∷ rs))
      by_case true same rest = let ticket = eqb_by_ticket p r (All-head (IsAlone p) r rs alone) ∙ same in simp (ticket, same) refl
      by_case false other rest = let ticket = eqb_by_ticket p r (All-head (IsAlone p) r rs alone)
          ∙ other in simp (ticket, other) (ap (λ l. placed r ∷ l) rest)
