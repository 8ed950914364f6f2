-- What the replies of a run show to parked receivers: none while its entry is there, and the
-- message that it holds as it leaves.
use Rattle.flume_model.proofs.Common.{◌≡◌, ℕ, ◌≤◌, Bool, true, false, not, ◌&&◌, if◌then◌else◌, eqb, [], ◌∷◌, Option, Some, None, refl, sym}
use Rattle.flume_model.proofs.Common.{◌∙◌, ap, arith, inl, inr, ◌⊎◌, eqb-true, eq-eqb, subst, cond-false, IsPollReplyByMark, IsPollReply}
use Rattle.flume_model.proofs.Common.{IsWithdrawReplyByMark, IsWithdrawReply, Channel, channel, is_over, entry_of, without_ticket}
use Rattle.flume_model.proofs.Common.{held_in, held_by, option_or, shows_to}
use Rattle.flume_model.proofs.Common.{shown, next_ticket, queue, Log, Opening, Change, Takes, Parks, Collects, was_filled, change, LogEntry}
use Rattle.flume_model.proofs.Common.{entries_after, entries, is_closed_after, IsReply, IsRun, Mark, Kind, Reply, Got, Step, Poll, Withdraw}
use Rattle.flume_model.proofs.Common.{common_steps}
use Rattle.flume_model.proofs.EntryMarkLemmas.{none_past, left_out}
use Rattle.flume_model.proofs.EntryChangeLemmas.{parks_under, none_by}
use Rattle.flume_model.proofs.EntryShapeLemmas.{entries_apart, fits_run}
use Rattle.flume_model.proofs.LawfulReplyLemmas.{Fits}
use Rattle.flume_model.proofs.waits.WaitingStepLemmas.{nobody_once_over}

module _ {T : Type 0} where
  -- the ticket and the message of one that got a message, if it was shown to this ticket
  got_is : (u t : ℕ) (m x : T) → (if eqb u t then Some m else None) ≡ Some x → (u ≡ t) × (m ≡ x)
  got_is u t m x e = grind (arith, common_steps)

  -- one that got a message leaves with what it held, or with the front
  got_leaves : (was : Bool) (u t : ℕ) (m x : T) → (u ≡ t) × (m ≡ x)
      → ((if was then Collects u else Takes m (Some u)) ≡ Collects t) ⊎ ((if was then Collects u else Takes m (Some u)) ≡ Takes x (Some t))
  got_leaves was u t m x is = grind (arith, common_steps)

  -- one that leaves with what it held is shown its message
  got_shows : (was : Bool) (u t : ℕ) (m : T) → (if was then Collects u else Takes m (Some u)) ≡ Collects t
      → (x : T) × ((if eqb u t then Some m else None) ≡ Some x)
  got_shows true u t m e = (let whose : u ≡ t = cc in let same = eq-eqb u t whose in (m, rw same refl))
  got_shows false u t m e = absurd (let none : ⊥ = cc in none)

  -- a filled receiver that asks gets what its entry holds, by its mark
  asked_held : (A : Type 0) (c : Channel T) (k : Kind) (mark : Mark T) (y m : T) → IsPollReplyByMark {A = A} c k mark (Got y)
      → held_in mark ≡ Some m → y ≡ m
  asked_held A c k mark y m h holds = grind (arith, common_steps)

  -- a filled receiver that asks gets what its entry holds
  polled_held : (A : Type 0) (c : Channel T) (found : Option (LogEntry T)) (y m : T) → IsPollReply {A = A} c found (Got y)
      → held_by found ≡ Some m → y ≡ m
  polled_held A c None y m h holds = absurd h
  polled_held A c (Some e) y m h holds = asked_held A c e.kind e.mark y m h holds

  -- a filled receiver that withdraws gets what its entry holds, by its mark
  withdraw_held : (A : Type 0) (c : Channel T) (t : ℕ) (k : Kind) (mark : Mark T) (y m : T)
      → IsWithdrawReplyByMark {A = A} c t k mark (Got y)
      → held_in mark ≡ Some m → y ≡ m
  withdraw_held A c t k mark y m h holds = grind (arith, common_steps)

  -- a filled receiver that withdraws gets what its entry holds
  gone_held : (A : Type 0) (c : Channel T) (t : ℕ) (found : Option (LogEntry T)) (y m : T) → IsWithdrawReply {A = A} c t found (Got y)
      → held_by found ≡ Some m → y ≡ m
  gone_held A c t None y m h holds = absurd h
  gone_held A c t (Some e) y m h holds = withdraw_held A c t e.kind e.mark y m h holds

  -- of two messages, if the first isn't there nor the second, there is none
  pub neither : (first second : Option T) → ((x : T) → first ≡ Some x → ⊥) → second ≡ None → option_or first second ≡ None
  neither first second none e = grind (arith, common_steps)

  -- a receiver parks under the next ticket
  parks_next : (c : Channel T) (done : Change T) (t : ℕ) → Fits c done → parks_under done t ≡ true → c.next_ticket ≤ t
  parks_next c (Parks u kind) t h e = let same : u ≡ c.next_ticket = h.3 in let is_it = eqb-true u t e in omega arith
  parks_next c _ t h e = absurd (let none : ⊥ = cc in none)

module _ {T A : Type 0} where
  -- a receiver that is shown a message leaves with it
  pub shows_leaves : (past : Log T A) (step : Step T) (reply : Reply T A) (t : ℕ) (x : T) → shows_to t step reply ≡ Some x
      → (change past step reply ≡ Collects t) ⊎ (change past step reply ≡ Takes x (Some t))
  shows_leaves past (Poll u) (Got m) t x e = got_leaves (was_filled past u) u t m x (got_is u t m x e)
  shows_leaves past (Withdraw u) (Got m) t x e = got_leaves (was_filled past u) u t m x (got_is u t m x e)
  shows_leaves past _ _ t x e = absurd (let none : ⊥ = cc in none)

  -- one that leaves with what it held is shown it
  pub collects_shows : (past : Log T A) (step : Step T) (reply : Reply T A) (t : ℕ) → change past step reply ≡ Collects t
      → (x : T) × (shows_to t step reply ≡ Some x)
  collects_shows past (Poll u) (Got m) t e = got_shows (was_filled past u) u t m e
  collects_shows past (Withdraw u) (Got m) t e = got_shows (was_filled past u) u t m e
  collects_shows past _ (Got m) t e = absurd (let none : ⊥ = cc in none)
  collects_shows past _ _ t e = absurd (let none : ⊥ = cc in none)

  -- a filled receiver is shown what its entry holds
  pub shows_held : (c : Channel T) (step : Step T) (reply : Reply T A) (t : ℕ) (x m : T) → IsReply c step reply
      → shows_to t step reply ≡ Some x → held_by (entry_of t c.entries) ≡ Some m → x ≡ m
  shows_held c (Poll u) (Got y) t x m h shows held =
      let is = got_is u t y x shows in
      sym is.1 ∙ polled_held A c (entry_of u c.entries) y m h (ap (λ v. held_by (entry_of v c.entries)) is.0 ∙ held)
  shows_held c (Withdraw u) (Got y) t x m h shows held =
      let is = got_is u t y x shows in
      sym is.1 ∙ gone_held A c u (entry_of u c.entries) y m h (ap (λ v. held_by (entry_of v c.entries)) is.0 ∙ held)
  shows_held c _ _ t x m h shows held = absurd (let none : ⊥ = cc in none)

  -- the entry of one that is shown a message was before
  pub shows_stood : (o : Opening) (past : Log T A) (p : Step T × Reply T A) (t : ℕ) (x : T) → IsRun o (p ∷ past)
      → shows_to t p.0 p.1 ≡ Some x → (e : LogEntry T) × (entry_of t (entries o past) ≡ Some e)
  shows_stood o past p t x run shows = by_change (shows_leaves past p.0 p.1 t x shows)
    where
      by_change : (change past p.0 p.1 ≡ Collects t) ⊎ (change past p.0 p.1 ≡ Takes x (Some t))
          → (e : LogEntry T) × (entry_of t (entries o past) ≡ Some e)
      by_change (inl is) = let fit = subst (Fits (channel o past)) is (fits_run o past p run) in (fit.0, fit.2)
      by_change (inr is) = let fit = subst (Fits (channel o past)) is (fits_run o past p run) in (fit.1.entry, fit.1.found)

  -- the entry of one that is shown a message has been dropped after
  shows_goes : (o : Opening) (past : Log T A) (p : Step T × Reply T A) (t : ℕ) (x : T) (closes : Bool) → IsRun o (p ∷ past)
      → shows_to t p.0 p.1 ≡ Some x → entry_of t (entries_after (queue o past) closes (entries o past) (change past p.0 p.1)) ≡ None
  shows_goes o past p t x closes run shows = by_change (shows_leaves past p.0 p.1 t x shows)
    where
      gone : entry_of t (without_ticket t (entries o past)) ≡ None
      gone = left_out (next_ticket o past) t (entries o past) (entries_apart o past run.1)

      by_change : (change past p.0 p.1 ≡ Collects t) ⊎ (change past p.0 p.1 ≡ Takes x (Some t))
          → entry_of t (entries_after (queue o past) closes (entries o past) (change past p.0 p.1)) ≡ None
      by_change (inl is) = ap (λ d. entry_of t (entries_after (queue o past) closes (entries o past) d)) is ∙ gone
      by_change (inr is) = ap (λ d. entry_of t (entries_after (queue o past) closes (entries o past) d)) is ∙ gone

  -- nothing was shown to receivers that are parked, nor under tickets that weren't issued
  pub record Unshown (o : Opening) (log : Log T A) : Type 0 where
    pub parked : (t : ℕ) (e : LogEntry T) → entry_of t (entries o log) ≡ Some e → shown log t ≡ None
    pub unissued : (t : ℕ) → next_ticket o log ≤ t → shown log t ≡ None

  -- after one more pair of a run nothing was shown to receivers that are parked
  unshown_more : (o : Opening) (past : Log T A) (p : Step T × Reply T A) → IsRun o (p ∷ past) → Unshown o past → Unshown o (p ∷ past)
  unshown_more o past p run before = record { parked = parked_now; unissued = unissued_now }
    where
      unissued_now : (t : ℕ) → next_ticket o (p ∷ past) ≤ t → shown (p ∷ past) t ≡ None
      unissued_now t le =
          neither (shows_to t p.0 p.1) (shown past t)
          (λ x shows. (let stood = (shows_stood o past p t x run shows).1 in
          let missing = none_past (next_ticket o past) t (entries o past) (omega arith) (entries_apart o past run.1) in
          let none : ⊥ = cc in none))
          (before.unissued t (omega arith))

      closes : Bool
      closes = not (is_closed_after past) && is_closed_after (p ∷ past)

      parked_then : (t : ℕ) (found : Option (LogEntry T)) → entry_of t (entries o past) ≡ found → (e : LogEntry T)
          → entry_of t (entries_after (queue o past) closes (entries o past) (change past p.0 p.1)) ≡ Some e → shown past t ≡ None
      parked_then t (Some e) stood now at_now = before.parked t e stood
      parked_then t None missing now at_now = by_parks (parks_under (change past p.0 p.1) t) refl
        where
          by_parks : (b : Bool) → parks_under (change past p.0 p.1) t ≡ b → shown past t ≡ None
          by_parks true is = before.unissued t (parks_next (channel o past) (change past p.0 p.1) t (fits_run o past p run) is)
          by_parks false is =
              let still = none_by (channel o past) closes (change past p.0 p.1) t is missing in
              absurd (let none : ⊥ = cc in none)

      parked_now : (t : ℕ) (e : LogEntry T) → entry_of t (entries o (p ∷ past)) ≡ Some e → shown (p ∷ past) t ≡ None
      parked_now t e found = by_case (is_over (p ∷ past)) refl
        where
          by_case : (b : Bool) → is_over (p ∷ past) ≡ b → shown (p ∷ past) t ≡ None
          by_case true over =
              let missing : entry_of t (entries o (p ∷ past)) ≡ None = ap (entry_of t) (nobody_once_over o (p ∷ past) over) in
              absurd (let none : ⊥ = cc in none)
          by_case false open_ =
              let after : entries o (p ∷ past) ≡ entries_after (queue o past) closes (entries o past) (change past p.0 p.1) =
              cond-false (is_over (p ∷ past)) [] _ open_ in
              let at_now = sym (ap (entry_of t) after) ∙ found in
              neither (shows_to t p.0 p.1) (shown past t)
              (λ x shows. (let goes = shows_goes o past p t x closes run shows in let none : ⊥ = cc in none))
              (parked_then t (entry_of t (entries o past)) refl e at_now)

  -- in each run nothing was shown to receivers that are parked
  pub unshown : (o : Opening) (log : Log T A) → IsRun o log → Unshown o log
  unshown o [] run = record { parked = λ t e found. refl; unissued = λ t le. refl }
  unshown o (p ∷ past) run = unshown_more o past p run (unshown o past run.1)
