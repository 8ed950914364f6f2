-- A wake round over the list of parked receivers, as steps: each wakes the first that waits.
use Rattle.std.proofs.Common.{◌≡◌, ℕ, ◌+◌, ◌<◌, Bool, true, false, if◌then◌else◌, List, [], ◌∷◌, Option, Some}
use Rattle.std.proofs.Common.{None, option_map, refl, sym, ap, ◌∙◌, arith, inl, inr}
use Rattle.std.proofs.lemmas.Bool.{cases_Bool}
use Rattle.flume_model.specs.declared.entry.Entry.{Entry}
use Rattle.flume_model.specs.declared.entry.Mark.{Mark}
use Rattle.flume_model.specs.declared.entry.Mark.TheVariants.{Woken}
use Rattle.flume_model.specs.declared.step.Kind.{Kind}
use Rattle.flume_model.specs.declared.step.Kind.TheVariants.{Stream}
use Rattle.flume_model.specs.Entries.{is_waiting, waiting_count, marked, round_from, filled_at, round, round_fills, all_woken}
use Rattle.flume_state.specs.layout.EntryLayout.{first_waiting, with_first_marked}

-- if a sum is 0, so is what is added, and the bit that adds 1 is false
sum_zero : (b : Bool) (n : ℕ) → (if b then 1 else 0) + n ≡ 0 → (b ≡ false) × (n ≡ 0)
sum_zero true n e = absurd (omega (arith, e))
sum_zero false n e = (refl, omega (arith, e))

module _ {T N : Type 0} where
  -- the ticket and the kind of an entry that may be there
  abbrev pub ticket_and_kind : Option (Entry T N) → Option (ℕ × Kind)
  ticket_and_kind o = option_map (λ e. (e.ticket, e.kind)) o

  -- the entry that is named is the front, if that waits
  front_named : (x : Entry T N) (o : Option (Entry T N)) (p : ℕ × Kind) → is_waiting x.mark ≡ true
      → ticket_and_kind (if is_waiting x.mark then Some x else o) ≡ Some p → (x.ticket ≡ p.0) × (x.kind ≡ p.1)
  front_named x o p waits is =
      let front : ℕ × Kind = (x.ticket, x.kind) in
      let it : Some front ≡ Some p = sym (ap (λ b. ticket_and_kind (if b then Some x else o)) waits) ∙ is in
      let both : front ≡ p = cc in
      (ap (λ q. q.0) both, ap (λ q. q.1) both)

  -- the entry that is named is behind the front, if that doesn't wait
  behind_named : (x : Entry T N) (o : Option (Entry T N)) (p : Option (ℕ × Kind)) → is_waiting x.mark ≡ false
      → ticket_and_kind (if is_waiting x.mark then Some x else o) ≡ p → ticket_and_kind o ≡ p
  behind_named x o p awake is = sym (ap (λ b. ticket_and_kind (if b then Some x else o)) awake) ∙ is

  -- behind a stream the round goes on
  pub round_on : (tell : N → N) (front : T) (es : List (Entry T N)) (t : ℕ) → ticket_and_kind (first_waiting es) ≡ Some (t, Stream)
      → round tell front (with_first_marked tell Woken es) ≡ round tell front es
  round_on tell front [] t is = absurd (let none : ⊥ = cc in none)
  round_on tell front (x ∷ es) t is = elim (cases_Bool (is_waiting x.mark)) [
    | inl w ↦ rw w (rw (front_named x (first_waiting es) _ w is).1 refl)
    | inr w ↦ rw w (rw w (ap (λ l. x ∷ l) (round_on tell front es t (behind_named x (first_waiting es) _ w is))))
  ]

  -- behind a stream the round fills whom it would fill
  pub fills_on : (tell : N → N) (es : List (Entry T N)) (t : ℕ) → ticket_and_kind (first_waiting es) ≡ Some (t, Stream)
      → round_fills (with_first_marked tell Woken es) ≡ round_fills es
  fills_on tell [] t is = absurd (let none : ⊥ = cc in none)
  fills_on tell (x ∷ es) t is = elim (cases_Bool (is_waiting x.mark)) [
    | inl w ↦ rw w (rw (front_named x (first_waiting es) _ w is).1 refl)
    | inr w ↦ rw w (rw w (fills_on tell es t (behind_named x (first_waiting es) _ w is)))
  ]

  -- the round ends at the first that waits, if its kind makes it so
  pub round_ends : (tell : N → N) (front : T) (mark : Mark T) (es : List (Entry T N)) (t : ℕ) (k : Kind)
      → ticket_and_kind (first_waiting es) ≡ Some (t, k)
      → ((e : Entry T N) (as_are goes_on : List (Entry T N)) → round_from tell k front e as_are goes_on ≡ marked tell mark e ∷ as_are)
      → with_first_marked tell mark es ≡ round tell front es
  round_ends tell front mark [] t k is ends = absurd (let none : ⊥ = cc in none)
  round_ends tell front mark (x ∷ es) t k is ends = elim (cases_Bool (is_waiting x.mark)) [
    | inl w ↦
        let goes_on = round tell front es in
        rw w (sym (ends x es goes_on) ∙ ap (λ y. round_from tell y front x es goes_on) (sym (front_named x (first_waiting es) _ w is).1))
    | inr w ↦
        rw w (ap (λ l. x ∷ l) (round_ends tell front mark es t k (behind_named x (first_waiting es) _ w is) ends))
  ]

  -- whom the round fills at the first that waits, if its kind makes it so
  pub fills_end : (es : List (Entry T N)) (t : ℕ) (k : Kind) (filled : Option ℕ) → ticket_and_kind (first_waiting es) ≡ Some (t, k)
      → ((on : Option ℕ) → filled_at k t on ≡ filled) → round_fills es ≡ filled
  fills_end [] t k filled is ends = absurd (let none : ⊥ = cc in none)
  fills_end (x ∷ es) t k filled is ends = elim (cases_Bool (is_waiting x.mark)) [
    | inl w ↦ let both = front_named x (first_waiting es) _ w is in rw w (rw (both.0, both.1) (ends (round_fills es)))
    | inr w ↦ rw w (fills_end es t k filled (behind_named x (first_waiting es) _ w is) ends)
  ]

  -- nobody waits if nobody is named
  pub none_wait : (es : List (Entry T N)) → ticket_and_kind (first_waiting es) ≡ None → waiting_count es ≡ 0
  none_wait [] is = refl
  none_wait (x ∷ es) is = elim (cases_Bool (is_waiting x.mark)) [
    | inl w ↦
        let front : ℕ × Kind = (x.ticket, x.kind) in
        let it : Some front ≡ None = sym (ap (λ b. ticket_and_kind (if b then Some x else first_waiting es)) w) ∙ is in
        absurd (let none : ⊥ = cc in none)
    | inr w ↦ rw w (omega (arith, none_wait es (behind_named x (first_waiting es) _ w is)))
  ]

  -- one fewer waits once the first is woken
  pub fewer_wait : (tell : N → N) (es : List (Entry T N)) (p : ℕ × Kind) → ticket_and_kind (first_waiting es) ≡ Some p
      → waiting_count (with_first_marked tell Woken es) < waiting_count es
  fewer_wait tell [] p is = absurd (let none : ⊥ = cc in none)
  fewer_wait tell (x ∷ es) p is = elim (cases_Bool (is_waiting x.mark)) [
    | inl w ↦ rw w (omega (arith))
    | inr w ↦ rw w (rw w (omega (arith, fewer_wait tell es p (behind_named x (first_waiting es) _ w is))))
  ]

  -- one fewer waits once the first is woken, if some wait
  pub fewer_of : (tell : N → N) (es : List (Entry T N)) → 0 < waiting_count es
      → waiting_count (with_first_marked tell Woken es) < waiting_count es
  fewer_of tell es some = elim (ticket_and_kind (first_waiting es)) as
      (λ o. ticket_and_kind (first_waiting es) ≡ o → waiting_count (with_first_marked tell Woken es) < waiting_count es) [
        | None ↦ λ is. absurd (omega (arith, none_wait es is, some))
        | Some p ↦ λ is. fewer_wait tell es p is
      ] refl

  -- if nobody waits a round changes nothing
  pub round_idle : (tell : N → N) (front : T) (es : List (Entry T N)) → waiting_count es ≡ 0 → round tell front es ≡ es
  round_idle tell front [] zero = refl
  round_idle tell front (x ∷ es) zero =
      let both = sum_zero (is_waiting x.mark) (waiting_count es) zero in
      rw both.0 (ap (λ l. x ∷ l) (round_idle tell front es both.1))

  -- if nobody waits a round fills nobody
  pub fills_idle : (es : List (Entry T N)) → waiting_count es ≡ 0 → round_fills es ≡ None
  fills_idle [] zero = refl
  fills_idle (x ∷ es) zero =
      let both = sum_zero (is_waiting x.mark) (waiting_count es) zero in rw both.0 (fills_idle es both.1)

  -- once the first is woken, to wake all leaves the same
  pub all_on : (tell : N → N) (es : List (Entry T N)) → all_woken tell (with_first_marked tell Woken es) ≡ all_woken tell es
  all_on tell [] = refl
  all_on tell (x ∷ es) = elim (cases_Bool (is_waiting x.mark)) [
    | inl w ↦ rw w refl
    | inr w ↦ rw w (rw w (ap (λ l. x ∷ l) (all_on tell es)))
  ]

  -- if nobody waits, to wake all changes nothing
  pub all_idle : (tell : N → N) (es : List (Entry T N)) → waiting_count es ≡ 0 → all_woken tell es ≡ es
  all_idle tell [] zero = refl
  all_idle tell (x ∷ es) zero =
      let both = sum_zero (is_waiting x.mark) (waiting_count es) zero in
      rw both.0 (ap (λ l. x ∷ l) (all_idle tell es both.1))
