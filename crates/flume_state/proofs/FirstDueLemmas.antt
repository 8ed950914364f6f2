-- The first of the live sends that is due, and what its telling leaves of the chain.
use Rattle.std.proofs.Common.{◌≡◌, ℕ, ◌≤◌, true, false, List, [], ◌∷◌, ◌++◌, Option, Some, None, sym, ap, subst, ◌∙◌, append_assoc, ◌≢◌}
use Rattle.flume_state.proofs.Chains.{times, found, place_after, item, after_at, with_value_at}
use Rattle.flume_state.specs.declared.sends.LiveSend.{LiveSend}
use Rattle.flume_state.specs.layout.WithTicket.{WithTicket, tickets}
use Rattle.flume_state.specs.Sends.{send_due_in, is_due_send}
use Rattle.flume_state.specs.layout.SendLayout.{Element, by_ticket, EachDueIs, SendLayout}
use Rattle.flume_state.proofs.ByTicketLemmas.{under, Occupied, stands_amid, stands_value, stands_written}
use Rattle.flume_state.proofs.EntryPartLemmas.{DistinctTickets, alone, front_at, seat_found}
use Rattle.flume_state.proofs.SendLineLemmas.{lined_append}

module _ {S : Type 0} where
  -- the first send that is due, by its ticket and its value
  pub record FirstDue (items : List (Element S)) (t p : ℕ) (v : LiveSend S) : Type 0 where
    pub occupied : Occupied t p v items
    pub none_due : EachDueIs false occupied.before
    pub all_due : EachDueIs true occupied.after
    pub due : v.notice.due ≡ true

  -- the first of those that are due, at its place
  record DueAt (items not_due : List (Element S)) (p : ℕ) : Type 0 where
    pub element : WithTicket (LiveSend S)
    pub tail : List (Element S)
    pub is : items ≡ not_due ++ item p element ∷ tail
    pub at : found items p ≡ Some element
    pub all_due : EachDueIs true (item p element ∷ tail)

  due_at : (items : List (Element S)) (d : Option ℕ) (p : ℕ) (l : SendLayout items d) → d ≡ Some p → DistinctTickets items
      → DueAt items l.not_due p
  due_at items d p l is apart =
      let h = front_at l.dues p (sym is ∙ l.first) in
      let parts = l.parts ∙ ap (λ (xs : List (Element S)). l.not_due ++ xs) h.is in
      record {
        element = h.element;
        tail = h.rest;
        is = parts;
        at = ap (λ xs. found xs p) parts
            ∙ seat_found l.not_due h.rest p h.element (alone l.not_due h.rest p h.element (subst DistinctTickets parts apart)).0;
        all_due = subst (EachDueIs true) h.is l.all_due;
      }

  pub first_due : (items : List (Element S)) (d : Option ℕ) (t p : ℕ) (v : LiveSend S) → SendLayout items d → d ≡ Some p
      → DistinctTickets items → ((u : ℕ) → times u (tickets items) ≤ 1)
      → found items p ≡ Some (under t v) → FirstDue items t p v
  first_due items d t p v l is apart single at =
      let h = due_at items d p l is apart in
      let both : Some h.element ≡ Some (under t v) = sym h.at ∙ at in
      let same : h.element ≡ under t v = cc in
      let whole = h.is ∙ ap (λ (e : WithTicket (LiveSend S)). l.not_due ++ item p e ∷ h.tail) same in
      record {
        occupied = stands_amid t p v items l.not_due h.tail apart single whole;
        none_due = l.none_due;
        all_due = h.all_due.1;
        due = sym (ap (λ (e : WithTicket (LiveSend S)). e.value.notice.due) same) ∙ h.all_due.0;
      }

  -- it is named: the next is the first that is due
  pub told_kept : (items : List (Element S)) (t p : ℕ) (v w : LiveSend S) → FirstDue items t p v → w.notice.due ≡ false
      → SendLayout (with_value_at p items w) (place_after (with_value_at p items w) p)
  told_kept items t p v w f e =
      let s = f.occupied in
      let is = stands_written t p v w items s in
      record {
        not_due = s.before ++ item p (under t w) ∷ [];
        dues = s.after;
        parts = is ∙ sym (append_assoc s.before (item p (under t w) ∷ []) s.after);
        none_due = lined_append false s.before (item p (under t w) ∷ []) f.none_due (e, tt);
        all_due = f.all_due;
        first = ap (λ (xs : List (Element S)). place_after xs p) is ∙ after_at s.before s.after p (under t w) s.ahead;
      }

  -- it was due
  pub told_due : (items : List (Element S)) (t p : ℕ) (v : LiveSend S) → FirstDue items t p v → is_due_send (by_ticket items) t ≡ true
  told_due items t p v f = ap send_due_in (stands_value t p v items f.occupied) ∙ f.due

  -- the first that is due is there
  pub due_stands : (items : List (Element S)) (d : Option ℕ) (p : ℕ) → SendLayout items d → d ≡ Some p → DistinctTickets items
      → found items p ≢ None
  due_stands items d p l is apart = λ none.
      let h = due_at items d p l is apart in
      let no : Some h.element ≡ None = sym h.at ∙ none in
      let never : ⊥ = cc in never
