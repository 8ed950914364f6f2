-- What the front of the line, handed out, leaves of a configuration mirrors what it leaves of a state.
use Rattle.std.proofs.Common.{◌≡◌, ℕ, Bool, true, false, List, [], ◌∷◌, ◌++◌, map, length, Some, refl, sym}
use Rattle.std.proofs.Common.{◌∙◌, ap, ap₂}
use Rattle.std.proofs.lemmas.List.{map_push}
use Rattle.flume_model.specs.Limits.{is_full}
use Rattle.flume_state.specs.Messages.{Blocked}
use Rattle.flume_state.specs.State.{State as Channel, offers_of}
use Rattle.flume_state.specs.Effects.{after_admission, after_admission_of, after_admission_if_room, with_front}
use Rattle.flume_state.specs.Effects.{with_front_of, after_take}
use Rattle.judge_calls.specs.declared.event.Event.{Event}
use Rattle.judge_search.specs.Configurations.{State, message_at}
use Rattle.judge_search.specs.ByPlaces.{admit, admit_of, admit_if_room, full_now, front_of, take_leaving}
use Rattle.judge_search.specs.ByPlaces.{with_front as with_front_here}
use Rattle.judge_search.specs.Mirrors.{Mirrors, some_offer, offer_for}
use Rattle.judge_search.proofs.MirrorViewLemmas.{full_same}

module _ {T A : Type 0} (events : List (Event T A)) where
  -- the sends whose messages these are, the first of them apart
  pub first_message : (p : ℕ) (ps : List ℕ) (ms : List T) → map (message_at events) (p ∷ ps) ≡ map Some ms
      → (m : T) × (rest : List T) × (ms ≡ m ∷ rest) × (message_at events p ≡ Some m) × (map (message_at events) ps ≡ map Some rest)
  first_message p ps [] e = absurd (let none : ⊥ = cc in none)
  first_message p ps (m ∷ rest) e =
      let first : message_at events p ≡ Some m = cc in
      let others : map (message_at events) ps ≡ map Some rest = cc in
      (m, rest, refl, first, others)

  -- if there are no sends, there are no messages
  pub no_message : (ms : List T) → map (message_at events) [] ≡ map Some ms → ms ≡ []
  no_message [] e = refl
  no_message (m ∷ rest) e = absurd (let none : ⊥ = cc in none)

  module _ (tickets : ℕ → ℕ) where
    -- other messages are queued, in both
    pub mirror_queue : (s : Channel T (Unit {0})) (c : State) (ms : List T) (ps : List ℕ) → Mirrors events tickets s c
        → map (message_at events) ps ≡ map Some ms → Mirrors events tickets (record s { queue = ms }) (record c { queue = ps })
    mirror_queue s c ms ps h e = record {
      capacity_is = h.capacity_is;
      senders_are = h.senders_are;
      receivers_are = h.receivers_are;
      queue_is = e;
      blocked_are = h.blocked_are;
      receives_are = h.receives_are;
    }

    -- the first blocked send, if one is blocked, joins the queue
    mirror_admit_of : (s : Channel T (Unit {0})) (c : State) (bs : List (Blocked T)) (ps : List ℕ) → Mirrors events tickets s c
        → map (offer_for events tickets) ps ≡ map some_offer (offers_of bs)
        → Mirrors events tickets (after_admission_of bs s) (admit_of ps c)
    mirror_admit_of s c [] [] h e = h
    mirror_admit_of s c [] (p ∷ ps) h e = absurd (let none : ⊥ = cc in none)
    mirror_admit_of s c (b ∷ bs) [] h e = absurd (let none : ⊥ = cc in none)
    mirror_admit_of s c (b ∷ bs) (p ∷ ps) h e =
        let first : offer_for events tickets p ≡ some_offer (record { message = b.message; ticket = Some b.ticket }) = cc in
        let later : map (offer_for events tickets) ps ≡ map some_offer (offers_of bs) = cc in
        record {
          capacity_is = h.capacity_is;
          senders_are = h.senders_are;
          receivers_are = h.receivers_are;
          queue_is = map_push (message_at events) c.queue p
              ∙ ap₂ (λ l m. l ++ m ∷ []) h.queue_is (ap (λ o. o.message) first)
              ∙ sym (map_push (λ m. Some m) s.queue b.message);
          blocked_are = later;
          receives_are = h.receives_are;
        }

    pub mirror_admit : (s : Channel T (Unit {0})) (c : State) → Mirrors events tickets s c
        → Mirrors events tickets (after_admission s) (admit c)
    mirror_admit s c h = mirror_admit_of s c s.blocked c.blocked h h.blocked_are

    -- it does if the queue has room
    pub mirror_admit_if_room : (s : Channel T (Unit {0})) (c : State) → Mirrors events tickets s c
        → Mirrors events tickets (after_admission_if_room s) (admit_if_room c)
    mirror_admit_if_room s c h = by_case (full_now c) refl (sym (full_same events tickets s c h))
      where
        by_case : (b : Bool) → full_now c ≡ b → is_full s.capacity (length s.queue) ≡ full_now c
            → Mirrors events tickets (after_admission_if_room s) (admit_if_room c)
        by_case true full same = rw (same ∙ full, full) h
        by_case false room same = rw (same ∙ room, room) (mirror_admit s c h)

    -- it does if no message is queued
    pub mirror_front : (s : Channel T (Unit {0})) (c : State) → Mirrors events tickets s c
        → Mirrors events tickets (with_front s) (with_front_here c)
    mirror_front s c h = go s.queue c.queue h.queue_is
      where
        go : (ms : List T) (ps : List ℕ) → map (message_at events) ps ≡ map Some ms
            → Mirrors events tickets (with_front_of ms s) (front_of ps c)
        go [] [] e = mirror_admit s c h
        go [] (p ∷ ps) e = absurd (let none : ⊥ = cc in none)
        go (m ∷ ms) [] e = absurd (let none : ⊥ = cc in none)
        go (m ∷ ms) (p ∷ ps) e = h

    -- the front of the line is handed out
    pub mirror_take : (s : Channel T (Unit {0})) (c : State) (p : ℕ) (later : List ℕ) → Mirrors events tickets s c
        → (with_front_here c).queue ≡ p ∷ later
        → (m : T) × (rest : List T) × ((with_front s).queue ≡ m ∷ rest) × (message_at events p ≡ Some m)
        × Mirrors events tickets (after_take rest s) (take_leaving later c)
    mirror_take s c p later h front =
        let fronted = mirror_front s c h in
        let got = first_message p later (with_front s).queue (sym (ap (map (message_at events)) front) ∙ fronted.queue_is) in
        (got.0, got.1, got.2, got.3, mirror_admit_if_room _ _ (mirror_queue (with_front s) (with_front_here c) got.1 later fronted got.4))

    -- no message comes to the front
    pub mirror_empty : (s : Channel T (Unit {0})) (c : State) → Mirrors events tickets s c → (with_front_here c).queue ≡ []
        → (with_front s).queue ≡ []
    mirror_empty s c h none =
        no_message (with_front s).queue (sym (ap (map (message_at events)) none) ∙ (mirror_front s c h).queue_is)
