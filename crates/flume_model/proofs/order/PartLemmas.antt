-- The parts of the kept offers, the shape of a log, and what they say of the line.
use Rattle.flume_model.proofs.Common.{◌≡◌, ℕ, ◌+◌, ◌≤◌, true, false, cond, List, [], ◌∷◌, ◌++◌, length, drop, take, Option, Some, refl, sym}
use Rattle.flume_model.proofs.Common.{◌∙◌, ap, arith, length-append, length-take-le, drop_at, take-nil, append_assoc, take-append-drop}
use Rattle.flume_model.proofs.Common.{AllZip-long, AllZip, IsBlocked, channel, is_over, some_wait, leave_fills, Rising}
use Rattle.flume_model.proofs.Common.{◌<◌, IsAtCapacity, capacity, offers, line, queue_len, queue, messages}
use Rattle.flume_model.proofs.Common.{next_ticket, fill_count, Log, Opening, Offer}
use Rattle.flume_model.proofs.Common.{HandOut, Shown, FilledIn, withdrawn, kept, handed_out, entries, common_steps}
use Rattle.flume_model.proofs.LawfulReplyLemmas.{fills_none}
use Rattle.flume_model.proofs.order.KeptLemmas.{open_line, line_is_open}

-- the hand-out is of this message if its reply shows one; of a fill nothing is said here
abbrev pub ShownIs : {T : Type 0} → HandOut T → T → Type 0
ShownIs (Shown given) message = given ≡ message
ShownIs (FilledIn ticket) message = Unit {0}

-- the kept offers are those that were handed out, whose messages these are, and the rest
pub record Parts {T : Type 0} (all : List (Offer T)) (given : List (HandOut T)) : Type 0 where
  pub gone : List (Offer T)
  pub rest : List (Offer T)
  pub kept_are : all ≡ gone ++ rest
  pub given_are : AllZip (λ hand_out offer. ShownIs hand_out offer.message) given gone

-- what holds of each run
pub record Shape {T A : Type 0} (o : Opening) (log : Log T A) : Type 0 where
  pub parts : Parts (kept log) (handed_out log)
  pub within : queue_len o log ≤ length (line log)
  pub rising : Rising (next_ticket o log) (offers log)
  pub full : queue_len o log < length (line log) → IsAtCapacity (capacity o log) (queue_len o log)
  -- while a receiver waits the queue is the whole line
  pub waits : some_wait (entries o log) ≡ true → queue_len o log ≡ length (line log)
  pub unissued : (t : ℕ) (m : T) → next_ticket o log ≤ t → withdrawn log (record { message = m; ticket = Some t }) ≡ false

-- an offer to be withdrawn is behind these, which are at least what is queued, and before those
pub record Withdrawal {T A : Type 0} (o : Opening) (past : Log T A) (t : ℕ) (m : T) (rest : List (Offer T)) : Type 0 where
  pub front : List (Offer T)
  pub later : List (Offer T)
  pub rest_are : rest ≡ front ++ record { message = m; ticket = Some t } ∷ later
  pub queued : queue_len o past ≤ length front

-- at most one receiver is filled
pub at_most : (filled : Option ℕ) → fill_count filled ≤ 1
at_most filled = grind (arith, common_steps)

module _ {T : Type 0} where
  -- no more messages were handed out than offers kept
  pub given_within : (all : List (Offer T)) (given : List (HandOut T)) → Parts all given → length given ≤ length all
  given_within all given parts =
      let long : length parts.gone ≡ length given = AllZip-long _ given parts.gone parts.given_are in
      let sum : length all ≡ length parts.gone + length parts.rest = ap length parts.kept_are ∙ length-append parts.gone parts.rest in
      omega arith

  -- as many offers have been dropped as messages were handed out
  pub rest_is : (all : List (Offer T)) (given : List (HandOut T)) (parts : Parts all given) → drop (length given) all ≡ parts.rest
  rest_is all given parts =
      let long : length parts.gone ≡ length given = AllZip-long _ given parts.gone parts.given_are in
      ap (drop (length given)) parts.kept_are ∙ drop_at parts.gone parts.rest (length given) long

module _ {T A : Type 0} where
  -- if the line isn't empty, the channel isn't over
  pub open_at : (log : Log T A) (xs ys : List (Offer T)) (x : Offer T) → line log ≡ xs ++ x ∷ ys → is_over log ≡ false
  open_at log xs ys x e =
      elim (is_over log) as (λ b. cond b [] (open_line log) ≡ xs ++ x ∷ ys → b ≡ false)
      [ true ↦ λ e. absurd (omega (arith, ap length e, length-append xs (x ∷ ys))) | false ↦ λ e. refl ] e

module _ {T : Type 0} where
  -- if these have a message in front, the first offer has that
  pub front_at : (some : List (Offer T)) (m : T) (later : List T) → messages some ≡ m ∷ later
      → (x : Offer T) × (rest : List (Offer T)) × (some ≡ x ∷ rest) × (x.message ≡ m)
  front_at [] m later e = absurd (let none : ⊥ = cc in none)
  front_at (x ∷ rest) m later e = (x, rest, refl, cc)

module _ {T A : Type 0} where
  -- if a blocked send is in the line
  pub blocked_at : (o : Opening) (log : Log T A) (t : ℕ) (m : T) → queue_len o log ≤ length (line log) → IsBlocked (channel o log) t m
      → (front : List (Offer T)) × (later : List (Offer T)) × (line log ≡ front ++ record { message = m; ticket = Some t } ∷ later)
      × (queue_len o log ≤ length front)
  blocked_at o log t m within h =
      let long = length-take-le (queue_len o log) (line log) within in
      let front = take (queue_len o log) (line log) in (
        front ++ h.1,
        h.2,
        sym (take-append-drop (queue_len o log) (line log)) ∙ ap (λ l. front ++ l) h.3 ∙ sym (append_assoc front h.1 _),
        omega (arith, long, length-append front h.1),
      )

  -- the line is the rest, while the channel isn't over
  pub line_is_rest : (log : Log T A) (parts : Parts (kept log) (handed_out log)) → is_over log ≡ false → line log ≡ parts.rest
  line_is_rest log parts open_ = line_is_open log open_ ∙ rest_is (kept log) (handed_out log) parts

  -- if the offer that is withdrawn is in the rest
  pub withdrawn_at : (o : Opening) (past : Log T A) (t : ℕ) (m : T) (shape : Shape o past) → IsBlocked (channel o past) t m
      → Withdrawal o past t m shape.parts.rest
  withdrawn_at o past t m shape h =
      let place = blocked_at o past t m shape.within h in
      let open_ = open_at past place.0 place.1 _ place.2 in
      record { front = place.0; later = place.1; rest_are = sym (line_is_rest past shape.parts open_) ∙ place.2; queued = place.3 }

  -- if one that leaves fills another, the line isn't empty
  pub leave_within : (o : Opening) (past : Log T A) (t : ℕ) → fill_count (leave_fills t (queue o past) (entries o past)) ≤ length
      (line past)
  leave_within o past t = by_case (line past) refl
    where
      by_case : (some : List (Offer T)) → line past ≡ some → fill_count (leave_fills t (queue o past) (entries o past)) ≤ length (line past)
      by_case [] e =
          let none : queue o past ≡ [] = ap (λ l. messages (take (queue_len o past) l)) e ∙ ap messages (take-nil (queue_len o past)) in
          let nobody = ap fill_count (fills_none t (queue o past) (entries o past) none) in
          omega arith
      by_case (x ∷ rest) e = omega (arith, ap length e, at_most (leave_fills t (queue o past) (entries o past)))
