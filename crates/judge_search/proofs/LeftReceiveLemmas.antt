-- Who is left blocked or parked once the front was handed out, or a receive left or asked again, by places.
use Rattle.std.proofs.Common.{◌≡◌, ◌≢◌, inl, inr, ℕ, Bool, true, false, eqb, List, [], ◌∷◌, ◌++◌, map, Option}
use Rattle.std.proofs.Common.{Some, None, refl, sym, ◌∙◌, subst, eqb-true}
use Rattle.std.specs.List.{All, Contains}
use Rattle.std.proofs.Common.{eq-eqb}
use Rattle.std.proofs.lemmas.List.Elements.{All-head, All-tail, All-nil, All-cons, All-push, All-map}
use Rattle.std.proofs.lemmas.List.Elements.{All-contains_itself}
use Rattle.judge_search.specs.declared.configuration.ParkedReceive.{ParkedReceive}
use Rattle.judge_search.specs.declared.configuration.Status.TheVariants.{Waiting}
use Rattle.judge_search.specs.declared.place_reply.PlaceReply.{PlaceReply}
use Rattle.judge_search.specs.Configurations.{State}
use Rattle.judge_search.specs.ByPlaces.{admit_of, full_now, front_of, with_front, take_leaving, admit_if_room}
use Rattle.judge_search.specs.ByPlaces.{again_as}
use Rattle.judge_search.specs.Receives.{receive_at, without_place, is_awake, with_status}
use Rattle.judge_search.proofs.MoveAnswers.{IsPlaceAfter, stays_parked}

-- the places of parked receives
abbrev pub places : List ParkedReceive → List ℕ
places rs = map (λ r. r.place) rs

-- what holds of each place holds of each receive's
pub all_of_places : (P : ℕ → Type 0) (rs : List ParkedReceive) → All P (places rs) → All (λ r. P r.place) rs
all_of_places P [] h = All-nil (λ r. P r.place)
all_of_places P (r ∷ rs) h =
    All-cons (λ r. P r.place) r rs (All-head P r.place (places rs) h)
    (all_of_places P rs (All-tail P r.place (places rs) h))

module _ (reply_by_place : PlaceReply) (place : ℕ) where
  -- places of those before, none of which is the one that moved
  pub left_others : {joins : PlaceReply} (before after : List ℕ) → All (Contains before) after → All (λ q. q ≢ place) after
      → All (IsPlaceAfter joins reply_by_place place before) after
  left_others before after among others k d lt = inl (among k d lt, inl (others k d lt))

  -- places of those before, if the call that moved is parked
  pub left_parked : {joins : PlaceReply} (before after : List ℕ) → stays_parked reply_by_place ≡ true → All (Contains before) after
      → All (IsPlaceAfter joins reply_by_place place before) after
  left_parked before after stays among k d lt = inl (among k d lt, inr stays)

-- what holds of all blocked sends holds of all that a take leaves blocked
module _ (P : ℕ → Type 0) where
  admitted_blocked : (c : State) (ps : List ℕ) → All P ps → c.blocked ≡ ps → All P (admit_of ps c).blocked
  admitted_blocked c [] h is = subst (All P) (sym is) h
  admitted_blocked c (p ∷ ps) h is = All-tail P p ps h

  let_in_blocked : (c : State) → All P c.blocked → All P (admit_if_room c).blocked
  let_in_blocked c h = by_case (full_now c) refl
    where
      by_case : (b : Bool) → full_now c ≡ b → All P (admit_if_room c).blocked
      by_case true full = rw full h
      by_case false room = rw room (admitted_blocked c c.blocked h refl)

  fronted_blocked : (c : State) → All P c.blocked → All P (with_front c).blocked
  fronted_blocked c h = go c.queue
    where
      go : (queue : List ℕ) → All P (front_of queue c).blocked
      go [] = admitted_blocked c c.blocked h refl
      go (p ∷ queue) = h

  pub taken_blocked : (rest : List ℕ) (c : State) → All P c.blocked → All P (take_leaving rest c).blocked
  taken_blocked rest c h = let_in_blocked (record (with_front c) { queue = rest }) (fronted_blocked c h)

-- a take leaves the receives as they are
admitted_receives : (c : State) (ps : List ℕ) → (admit_of ps c).receives ≡ c.receives
admitted_receives c [] = refl
admitted_receives c (p ∷ ps) = refl

-- so does admitting sends into the room that there is
let_in_receives : (c : State) → (admit_if_room c).receives ≡ c.receives
let_in_receives c = by_case (full_now c) refl
  where
    by_case : (b : Bool) → full_now c ≡ b → (admit_if_room c).receives ≡ c.receives
    by_case true full = rw full refl
    by_case false room = rw room (admitted_receives c c.blocked)

-- so does admitting the first send to an empty queue
fronted_receives : (c : State) → (with_front c).receives ≡ c.receives
fronted_receives c = go c.queue
  where
    go : (queue : List ℕ) → (front_of queue c).receives ≡ c.receives
    go [] = admitted_receives c c.blocked
    go (p ∷ queue) = refl

-- so does the whole take
pub taken_receives : (rest : List ℕ) (c : State) → (take_leaving rest c).receives ≡ c.receives
taken_receives rest c = let_in_receives (record (with_front c) { queue = rest }) ∙ fronted_receives c

-- no receive is at a place if none is found there
pub absent : (p : ℕ) (rs : List ParkedReceive) → receive_at p rs ≡ None → All (λ q. q ≢ p) (places rs)
absent p [] none = All-nil (λ q. q ≢ p)
absent p (r ∷ rs) none = by_case (eqb r.place p) refl (absent p rs)
  where
    by_case : (b : Bool) → eqb r.place p ≡ b → (receive_at p rs ≡ None → All (λ q. q ≢ p) (places rs))
        → All (λ q. q ≢ p) (places (r ∷ rs))
    by_case true same rest = absurd (let found = simp same at none in let no : ⊥ = cc in no)
    by_case false other rest =
        All-cons (λ q. q ≢ p) r.place (places rs) (λ e. let same = eq-eqb r.place p e in let no : ⊥ = cc in no)
        (rest (simp other at none))

-- what holds of all receives holds of the one at a place, and of the others
module _ (P : ParkedReceive → Type 0) (p : ℕ) where
  pub found_all : (rs : List ParkedReceive) (r : ParkedReceive) → All P rs → receive_at p rs ≡ Some r → P r
  found_all [] r h found = absurd (let none : ⊥ = cc in none)
  found_all (x ∷ rs) r h found = by_case (eqb x.place p) refl (found_all rs r (All-tail P x rs h))
    where
      by_case : (b : Bool) → eqb x.place p ≡ b → (receive_at p rs ≡ Some r → P r) → P r
      by_case true same rest =
          let at : Some x ≡ Some r = simp same at found in
          let is : x ≡ r = cc in
          subst P is (All-head P x rs h)
      by_case false other rest = rest (simp other at found)

  pub without_all : (rs : List ParkedReceive) → All P rs → All P (without_place p rs)
  without_all [] h = h
  without_all (r ∷ rs) h = by_case (eqb r.place p) refl (without_all rs (All-tail P r rs h))
    where
      by_case : (b : Bool) → eqb r.place p ≡ b → All P (without_place p rs) → All P (without_place p (r ∷ rs))
      by_case true same rest = simp same (All-tail P r rs h)
      by_case false other rest = simp other (All-cons P r (without_place p rs) (All-head P r rs h) rest)

-- the others are at places of those before
pub without_among : (p : ℕ) (rs : List ParkedReceive) → All (Contains (places rs)) (places (without_place p rs))
without_among p rs =
    All-map (Contains (places rs)) (λ r. r.place) (without_place p rs)
    (without_all (λ r. Contains (places rs) r.place) p rs
    (all_of_places (Contains (places rs)) rs (All-contains_itself (places rs))))

-- and so are all that are parked once one asks again
pub again_among : (p : ℕ) (rs : List ParkedReceive) → All (Contains (places rs)) (places (again_as p (receive_at p rs) rs))
again_among p rs = go (receive_at p rs) refl
  where
    go : (found : Option ParkedReceive) → receive_at p rs ≡ found → All (Contains (places rs)) (places (again_as p found rs))
    go None at = All-contains_itself (places rs)
    go (Some r) at = by_case (is_awake r.status) refl
      where
        by_case : (b : Bool) → is_awake r.status ≡ b → All (Contains (places rs)) (places (again_as p (Some r) rs))
        by_case true awake =
            simp awake (All-map (Contains (places rs)) (λ r. r.place) (without_place p rs ++ with_status Waiting r ∷ [])
            (All-push (λ r. Contains (places rs) r.place) (without_place p rs) (with_status Waiting r)
            (without_all (λ r. Contains (places rs) r.place) p rs
            (all_of_places (Contains (places rs)) rs (All-contains_itself (places rs))))
            (found_all (λ r. Contains (places rs) r.place) p rs r
            (all_of_places (Contains (places rs)) rs (All-contains_itself (places rs))) at)))
        by_case false other = simp other (All-contains_itself (places rs))
