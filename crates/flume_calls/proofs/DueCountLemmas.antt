-- How many are due, and that naming one of them leaves one less.
use Rattle.std.proofs.Common.{◌≡◌, ℕ, ◌+◌, ◌≤◌, ◌<◌, Bool, true, false, cond, eqb, List, [], ◌∷◌, ◌++◌, Option, Some, None}
use Rattle.std.proofs.Common.{refl, sym, ap, ◌∙◌, arith, eqb-true}
use Rattle.std.proofs.lemmas.Bool.{eqb-false}
use Rattle.std.specs.Cmp.{unsigned_tied}
use Rattle.std.specs.FinMap.{get, keys, contains_key-keys}
use Rattle.std.specs.List.{list_any}
use Rattle.std.specs.Option.{is_some, option_map}
use Rattle.std.specs.Ordering.{nat_cmp, eq_by_cmp}
use Rattle.flume_state.specs.declared.sends.LiveSend.{LiveSend}
use Rattle.flume_state.specs.Notices.{no_longer_due}
use Rattle.flume_state.specs.Sends.{SendMap, with_send_notice, send_due_in, is_due_send}
use Rattle.flume_state.specs.Receivers.{EntryList, NamesReceiver}
use Rattle.flume_state.proofs.SendMapLemmas.{get-changed_same, get-changed_other}
use Rattle.flume_state.specs.State.{State}
use Rattle.flume_calls.specs.Rings.{send_not_due}
use Rattle.flume_state.specs.Signals.{NamesDueTicket, Send, Receive}

-- what counts if a test holds counts no more if another does that it follows from
weight_le : (a b : Bool) → (a ≡ true → b ≡ true) → cond a 1 0 ≤ cond b 1 0
weight_le true b follows = rw (follows refl) (omega arith)
weight_le false b follows = omega arith

module _ {S : Type 0} where
  -- of these tickets, how many are of sends that are due
  abbrev pub due_sends : SendMap S → List ℕ → ℕ
  due_sends m [] = 0
  due_sends m (t ∷ tickets) = cond (is_due_send m t) 1 0 + due_sends m tickets

  -- each that is due in one map is due in the other
  abbrev pub DueIn : SendMap S → SendMap S → Type 0
  DueIn n m = (t : ℕ) → is_due_send n t ≡ true → is_due_send m t ≡ true

  -- one that was named isn't due
  is_not_due : (o : Option (LiveSend S)) → send_due_in (option_map send_not_due o) ≡ false
  is_not_due None = refl
  is_not_due (Some send) = refl

  -- a ticket that was named isn't due in the map
  named_not_due : (m : SendMap S) (k : ℕ) → is_due_send (with_send_notice no_longer_due k m) k ≡ false
  named_not_due m k = ap send_due_in (get-changed_same m k send_not_due) ∙ is_not_due (get m k)

  -- if one was named, no other became due
  pub none_became_due : (m : SendMap S) (k : ℕ) → DueIn (with_send_notice no_longer_due k m) m
  none_became_due m k t due = go (eqb t k) refl
    where
      go : (b : Bool) → eqb t k ≡ b → is_due_send m t ≡ true
      go true e =
          let same : t ≡ k = eqb-true t k e in
          let over : is_due_send (with_send_notice no_longer_due k m) t ≡ false = rw same (named_not_due m k) in
          absurd (let none : ⊥ = cc in none)
      go false e = rw (← get-changed_other m k send_not_due t (eqb-false t k e)) due

  -- if none became due, no more are
  due_sends_le : (m n : SendMap S) (tickets : List ℕ) → DueIn n m → due_sends n tickets ≤ due_sends m tickets
  due_sends_le m n [] fewer = omega arith
  due_sends_le m n (t ∷ tickets) fewer =
      omega (arith, weight_le (is_due_send n t) (is_due_send m t) (fewer t), due_sends_le m n tickets fewer)

  -- if none became due and one isn't due any more, fewer are
  due_sends_less : (m n : SendMap S) (k : ℕ) (tickets : List ℕ) → DueIn n m → is_due_send m k ≡ true → is_due_send n k ≡ false
      → list_any (eq_by_cmp nat_cmp k) tickets ≡ true → due_sends n tickets < due_sends m tickets
  due_sends_less m n k [] fewer was is listed = absurd (let none : ⊥ = cc in none)
  due_sends_less m n k (t ∷ tickets) fewer was is listed =
      go (eq_by_cmp nat_cmp k t) refl (λ later. due_sends_less m n k tickets fewer was is later)
    where
      go : (b : Bool) → eq_by_cmp nat_cmp k t ≡ b
          → (list_any (eq_by_cmp nat_cmp k) tickets ≡ true → due_sends n tickets < due_sends m tickets)
          → due_sends n (t ∷ tickets) < due_sends m (t ∷ tickets)
      go true e less =
          let same : k ≡ t = eqb-true k t (sym (unsigned_tied k t) ∙ e) in
          let rest = due_sends_le m n tickets fewer in
          rw (← same, was, is) (omega (arith, rest))
      go false e less =
          let later : list_any (eq_by_cmp nat_cmp k) tickets ≡ true = rw e at listed in
          omega (arith, weight_le (is_due_send n t) (is_due_send m t) (fewer t), less later)

  -- one that is due is there
  due_some : (o : Option (LiveSend S)) → send_due_in o ≡ true → is_some o ≡ true
  due_some None due = due
  due_some (Some send) due = refl

  -- the ticket of one that is due is a key
  due_listed : (m : SendMap S) (k : ℕ) → is_due_send m k ≡ true → list_any (eq_by_cmp nat_cmp k) (keys m) ≡ true
  due_listed m k due = sym (contains_key-keys m k) ∙ due_some (get m k) due

module _ {T S : Type 0} where
  -- how many parked receivers are due
  abbrev pub due_entries : EntryList T S → ℕ
  due_entries [] = 0
  due_entries (e ∷ entries) = cond e.notice.due 1 0 + due_entries entries

  -- as many are due in two lists as in the one and in the other
  due_entries-append : (some others : EntryList T S) → due_entries (some ++ others) ≡ due_entries some + due_entries others
  due_entries-append [] others = omega arith
  due_entries-append (e ∷ some) others = omega (arith, due_entries-append some others)

  -- if one is named, one less is due
  due_entries_less : (old new : EntryList T S) (t : ℕ) → NamesReceiver old new t → due_entries new < due_entries old
  due_entries_less old new t tells =
      let e = tells.entry in
      let before = due_entries-append tells.before (e ∷ tells.later) in
      let after = due_entries-append tells.before (record e { notice = no_longer_due e.notice } ∷ tells.later) in
      rw (tells.found, tells.named, before, after, tells.was_due) (omega arith)

  -- if one is named, one less is due of all that were due at first
  pub fewer_due : (first old new : State T S) (t : ℕ) → NamesDueTicket old new t → DueIn old.sends first.sends
      → due_sends new.sends (keys first.sends) + due_entries new.entries < due_sends old.sends (keys first.sends) + due_entries old.entries
  fewer_due first old new t (Send due is) before =
      let less = due_sends_less old.sends (with_send_notice no_longer_due t old.sends) t (keys first.sends)
      (none_became_due old.sends t) due
      (named_not_due old.sends t) (due_listed first.sends t (before t due)) in
      rw is (omega (arith, less))
  fewer_due first old new t (Receive tells is) before =
      let less = due_entries_less old.entries new.entries t tells in
      let same : new.sends ≡ old.sends = ap (λ s. s.sends) is in
      rw same (omega (arith, less))

  -- and none of them became due
  pub still_due_before : (first old new : State T S) (t : ℕ) → NamesDueTicket old new t → DueIn old.sends first.sends
      → DueIn new.sends first.sends
  still_due_before first old new t (Send due is) before k now =
      let same : new.sends ≡ with_send_notice no_longer_due t old.sends = ap (λ s. s.sends) is in
      before k (none_became_due old.sends t k (rw same at now))
  still_due_before first old new t (Receive tells is) before k now =
      let same : new.sends ≡ old.sends = ap (λ s. s.sends) is in before k (rw same at now)
