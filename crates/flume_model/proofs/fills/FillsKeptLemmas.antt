-- A filled receiver's entry holds its message through every change but its own leaving, and a wake round fills with the front.
use Rattle.flume_model.proofs.Common.{◌≡◌, ℕ, Bool, true, false, if◌then◌else◌, eqb, List, [], ◌∷◌, ◌++◌, Option, Some, None, refl, sym}
use Rattle.flume_model.proofs.Common.{◌∙◌, ap, eq-eqb, ne_eqb, Channel, is_filled, is_woken, round, round_fills, round_for, all_woken}
use Rattle.flume_model.proofs.Common.{entry_of, without_ticket, held_in, held_by, Change, Queues, Takes, Parks, Asks, Collects, Leaves}
use Rattle.flume_model.proofs.Common.{SenderLeaves, ReceiverLeaves, is_ticket, LogEntry, same_notice}
use Rattle.flume_model.proofs.Common.{entries_after, DistinctTickets, Entry, Mark, Waiting}
use Rattle.flume_model.proofs.Common.{Woken, Filled, Kind, Block, Plain, Stream, Arm, arith, common_steps}
use Rattle.flume_model.proofs.EntryListLemmas.{fills_none_else, round_for_push, again_cases, leave_cases}
use Rattle.flume_model.proofs.EntryMarkLemmas.{apart_without}
use Rattle.flume_model.proofs.EntryChangeLemmas.{fills, fills_none}
use Rattle.flume_model.proofs.LawfulReplyLemmas.{Fits}

module _ {T N : Type 0} where
  -- the entry under this ticket holds the message
  abbrev pub IsHeld : ℕ → T → List (Entry T N) → Type 0
  IsHeld t m es = held_by (entry_of t es) ≡ Some m

  -- an entry still holds the message after a change of the first entry and of the others, if it does in each of the two
  same_first : (t : ℕ) (m : T) (x y : Entry T N) (es fs : List (Entry T N)) → x.ticket ≡ y.ticket
      → (held_in x.mark ≡ Some m → held_in y.mark ≡ Some m) → (IsHeld t m es → IsHeld t m fs) → IsHeld t m (x ∷ es) → IsHeld t m (y ∷ fs)
  same_first t m x y es fs ticket first others h = grind (arith, common_steps)

  -- a wake round takes no message from an entry
  pub held_round : (notify : N → N) (front : T) (t : ℕ) (m : T) (es : List (Entry T N)) → IsHeld t m es → IsHeld t m (round notify front es)
  held_round notify front t m [] h = h
  held_round notify front t m (x ∷ es) h = grind (arith, common_steps, held_round notify front t m es)

  -- the wake of all takes no message from an entry
  pub held_woken : (notify : N → N) (t : ℕ) (m : T) (es : List (Entry T N)) → IsHeld t m es → IsHeld t m (all_woken notify es)
  held_woken notify t m [] h = h
  held_woken notify t m (x ∷ es) h = grind (arith, common_steps, held_woken notify t m es)

  -- the leaving of another takes no message from an entry
  pub held_without : (u t : ℕ) (m : T) (es : List (Entry T N)) → eqb u t ≡ false → IsHeld t m es → IsHeld t m (without_ticket u es)
  held_without u t m [] other h = h
  held_without u t m (x ∷ es) other h = grind (arith, common_steps, held_without u t m es)

  -- one more entry takes no message from another
  pub held_push : (t : ℕ) (m : T) (es : List (Entry T N)) (x : Entry T N) → IsHeld t m es → IsHeld t m (es ++ x ∷ [])
  held_push t m [] x h = absurd (let none : ⊥ = cc in none)
  held_push t m (y ∷ es) x h = same_first t m y y es (es ++ x ∷ []) refl (λ e. e) (held_push t m es x) h

  -- the ticket of an entry that holds nothing is another
  pub unlike : (u t : ℕ) (m : T) (e : Entry T N) (es : List (Entry T N)) → entry_of u es ≡ Some e → held_in e.mark ≡ None → IsHeld t m es
      → eqb u t ≡ false
  unlike u t m e es found nothing h = grind (arith, common_steps, ne_eqb u t)

module _ {T : Type 0} where
  -- an entry that isn't filled holds nothing
  empty_holds : (mark : Mark T) → is_filled mark ≡ false → held_in mark ≡ None
  empty_holds mark e = grind (arith, common_steps)

  -- an entry that is woken holds nothing
  woken_holds : (mark : Mark T) → is_woken mark ≡ true → held_in mark ≡ None
  woken_holds mark e = grind (arith, common_steps)

  -- if an end leaves, a filled entry keeps its message
  held_close : (closes : Bool) (t : ℕ) (m : T) (es : List (LogEntry T)) → IsHeld t m es
      → IsHeld t m (if closes then all_woken same_notice es else es)
  held_close closes t m es h = grind (arith, common_steps, held_woken same_notice t m es)

  -- through a change that fits, but its own leaving, a filled entry keeps its message
  pub held_by_change : (c : Channel T) (closes : Bool) (done : Change T) (t : ℕ) (m : T) → Fits c done
      → (done ≡ Collects t → ⊥) → IsHeld t m c.entries → IsHeld t m (entries_after c.queue closes c.entries done)
  held_by_change c closes (Queues x filled) t m h stays held =
      round_for_push (IsHeld t m) same_notice c.queue x c.entries (λ front. held_round same_notice front t m c.entries held)
  held_by_change c closes (Takes x (Some u)) t m h stays held =
      let nothing = empty_holds h.1.entry.mark h.1.empty in
      held_without u t m c.entries (unlike u t m h.1.entry c.entries h.1.found nothing held) held
  held_by_change c closes (Parks u kind) t m h stays held = held_push t m c.entries _ held
  held_by_change c closes (Asks u) t m h stays held =
      again_cases (IsHeld t m) u c.entries held (λ e found woken. held_push t m (without_ticket u c.entries) _
      (held_without u t m c.entries (unlike u t m e c.entries found (woken_holds e.mark woken) held) held))
  held_by_change c closes (Collects u) t m h stays held =
      held_without u t m c.entries (ne_eqb u t (λ same.
      (let whose : Path (Change T) (Collects u) (Collects t) = ap (λ v. Collects v) same in stays whose))) held
  held_by_change c closes (Leaves u filled) t m h stays held =
      let nothing = empty_holds h.0.entry.mark h.0.empty in
      let others = held_without u t m c.entries (unlike u t m h.0.entry c.entries h.0.found nothing held) held in
      leave_cases (λ es f. IsHeld t m es) same_notice u c.queue c.entries (λ none. others)
      (λ passes front rest e. held_round same_notice front t m (without_ticket u c.entries) others)
  held_by_change c closes SenderLeaves t m h stays held = held_close closes t m c.entries held
  held_by_change c closes ReceiverLeaves t m h stays held = held_close closes t m c.entries held
  held_by_change c closes _ t m h stays held = held

  -- the entry that a round fills holds the front after it
  round_holds : (front : T) (n t : ℕ) (es : List (LogEntry T)) → DistinctTickets n es → round_fills es ≡ Some t
      → IsHeld t front (round same_notice front es)
  round_holds front n t [] apart is = absurd (let none : ⊥ = cc in none)
  round_holds front n t (x ∷ es) apart is = by_mark x.kind x.mark is (round_holds front n t es apart.2)
    where
      as_marked : Kind → Mark T → LogEntry T
      as_marked k mark = record x { kind = k; mark = mark }

      other : round_fills es ≡ Some t → eqb x.ticket t ≡ false
      other fills_t =
          let another : eqb t x.ticket ≡ false = sym (ap (is_ticket x.ticket) fills_t) ∙ fills_none_else x.ticket es apart.1 in
          ne_eqb x.ticket t (λ same. (let is_it = eq-eqb t x.ticket (sym same) in let none : ⊥ = cc in none))

      by_mark : (k : Kind) (mark : Mark T) → round_fills (as_marked k mark ∷ es) ≡ Some t
          → (round_fills es ≡ Some t → IsHeld t front (round same_notice front es))
          → IsHeld t front (round same_notice front (as_marked k mark ∷ es))
      by_mark Block Waiting is rest =
          let same : x.ticket ≡ t = cc in
          let found = eq-eqb x.ticket t same in
          rw found refl
      by_mark Plain Waiting is rest = absurd (let none : ⊥ = cc in none)
      by_mark Stream Waiting is rest = let another = other is in simp another (rest is)
      by_mark Arm Waiting is rest = absurd (let none : ⊥ = cc in none)
      by_mark k Woken is rest = let another = other is in simp another (rest is)
      by_mark k (Filled held) is rest = let another = other is in simp another (rest is)

  -- the messages of which a change hands the first to the receiver that it fills
  abbrev pub first_up : Channel T → Change T → List T
  first_up c (Queues m filled) = c.queue ++ m ∷ []
  first_up c _ = c.queue

  -- after a change that fits, the entry that it fills holds the first of them
  pub filled_holds : (c : Channel T) (closes : Bool) (done : Change T) (t : ℕ) → Fits c done → DistinctTickets c.next_ticket c.entries
      → fills done ≡ Some t
      → (front : T) × (rest : List T) × (first_up c done ≡ front ∷ rest) × IsHeld t front (entries_after c.queue closes c.entries done)
  filled_holds c closes (Queues m filled) t h apart is = by_queue c.queue
    where
      by_queue : (waiting : List T) → (front : T) × (rest : List T) × (waiting ++ m ∷ [] ≡ front ∷ rest)
          × IsHeld t front (round_for same_notice (waiting ++ m ∷ []) c.entries)
      by_queue [] = (m, [], refl, round_holds m c.next_ticket t c.entries apart (sym h.1 ∙ is))
      by_queue (x ∷ waiting) = (x, waiting ++ m ∷ [], refl, round_holds x c.next_ticket t c.entries apart (sym h.1 ∙ is))
  filled_holds c closes (Leaves u filled) t h apart is =
      leave_cases (λ es f. f ≡ Some t → (front : T) × (rest : List T) × (c.queue ≡ front ∷ rest) × IsHeld t front es) same_notice u c.queue
      c.entries (λ none by. absurd (let none : ⊥ = cc in none)) (λ passes front rest e by. (
        front,
        rest,
        e,
        round_holds front c.next_ticket t (without_ticket u c.entries) (apart_without c.next_ticket u c.entries apart) by,
      )) (sym h.1 ∙ is)
  filled_holds c closes _ t h apart is = absurd (let none : ⊥ = cc in none)

  -- the entry that a change fills was before it
  pub filled_stood : (c : Channel T) (done : Change T) (t : ℕ) → Fits c done → fills done ≡ Some t
      → (e : LogEntry T) × (entry_of t c.entries ≡ Some e)
  filled_stood c done t h is = by_found (entry_of t c.entries) refl
    where
      by_found : (found : Option (LogEntry T)) → entry_of t c.entries ≡ found → (e : LogEntry T) × (entry_of t c.entries ≡ Some e)
      by_found None none =
          let other = fills_none c done t h none in
          let same_ticket : is_ticket t (fills done) ≡ eqb t t = ap (is_ticket t) is in
          let same = eq-eqb t t refl in
          absurd (let none : ⊥ = cc in none)
      by_found (Some e) found = (e, found)
