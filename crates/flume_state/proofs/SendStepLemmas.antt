-- What each method of the live sends leaves of their chain, and of the map that it is seen as.
use Rattle.std.proofs.Common.{◌≡◌, ◌==◌, ℕ, true, false, List, [], ◌∷◌, ◌++◌, Option, Some, None, refl, sym}
use Rattle.std.proofs.Common.{if◌then◌else◌, ap, ap₂, subst, ◌∙◌, arith, append-nil, nat_eq}
use Rattle.std.specs.FinMap.{get, insert, remove}
use Rattle.std.specs.Option.{option_or, option_eq}
use Rattle.flume_state.proofs.Chains.{times, without_place, place_after, item, without_place-append, with_value_at, put_before_or_last}
use Rattle.flume_state.specs.declared.sends.LiveSend.{LiveSend}
use Rattle.flume_state.specs.Sends.{with_send_changed, send_due_in, NoDueSend}
use Rattle.flume_state.specs.layout.SendLayout.{Element, by_ticket, EachDueIs, SendLayout}
use Rattle.flume_state.specs.layout.WithTicket.{place_of, tickets}
use Rattle.flume_state.proofs.SendMapLemmas.{changed_none}
use Rattle.flume_state.proofs.TicketLemmas.{times_both, times_none}
use Rattle.flume_state.proofs.ByTicketLemmas.{under, value_of, get_by_ticket, value_none, by_ticket_insert}
use Rattle.flume_state.proofs.ByTicketLemmas.{by_ticket_changed, by_ticket_moved, by_ticket_removed, Occupied}
use Rattle.flume_state.proofs.ByTicketLemmas.{stands_without, stands_written, stands_again}
use Rattle.flume_state.specs.layout.EntryLayout.{start_without}
use Rattle.flume_state.proofs.EntryPartLemmas.{DistinctTickets, off_first, no_first}
use Rattle.flume_state.proofs.SendLineLemmas.{written_lined, moved_lined, lined_without, put_is}

module _ {S : Type 0} where
  -- if the ticket is nowhere the map has none
  pub get_none : (items : List (Element S)) (t : ℕ) → place_of t items ≡ None → get (by_ticket items) t ≡ None
  get_none items t is = get_by_ticket items t ∙ value_none t items (times_none t items is)

  -- and a change under it changes nothing
  pub none_changed : (items : List (Element S)) (t : ℕ) (f : LiveSend S → LiveSend S) → place_of t items ≡ None
      → by_ticket items ≡ with_send_changed (by_ticket items) t f
  none_changed items t f is = sym (changed_none (by_ticket items) t f (get_none items t is))

  -- a send that is written is a changed one
  pub written_view : (items : List (Element S)) (t p : ℕ) (v : LiveSend S) (f : LiveSend S → LiveSend S) → Occupied t p v items
      → by_ticket (with_value_at p items (f v)) ≡ with_send_changed (by_ticket items) t f
  written_view items t p v f s =
      ap by_ticket (stands_written t p v (f v) items s)
      ∙ by_ticket_changed t p v f s.before s.after s.none_ahead
      ∙ ap (λ n. with_send_changed (by_ticket n) t f) (sym s.is)

  -- a send that is written is due if it was
  pub written_kept : (items : List (Element S)) (d : Option ℕ) (t p : ℕ) (v w : LiveSend S) → w.notice.due ≡ v.notice.due
      → Occupied t p v items
      → SendLayout items d → SendLayout (with_value_at p items w) d
  written_kept items d t p v w same s l =
      subst (λ (xs : List (Element S)). SendLayout xs d) (sym (stands_written t p v w items s))
      (written_lined s.before s.after p t v w d same (subst (λ (xs : List (Element S)). SendLayout xs d) s.is l))

  -- a send that is written and goes behind all others
  moved_is : (items : List (Element S)) (t p : ℕ) (v w : LiveSend S) (s : Occupied t p v items)
      → without_place (with_value_at p items w) p ++ item p (under t w) ∷ [] ≡ (s.before ++ s.after) ++ item p (under t w) ∷ []
  moved_is items t p v w s =
      ap (λ (xs : List (Element S)). xs ++ item p (under t w) ∷ []) (stands_without t p w (with_value_at p items w)
      (stands_again t p v w items s))

  -- it is a changed one
  pub moved_view : (items : List (Element S)) (t p : ℕ) (v : LiveSend S) (f : LiveSend S → LiveSend S) → Occupied t p v items
      → by_ticket (without_place (with_value_at p items (f v)) p ++ item p (under t (f v)) ∷ []) ≡ with_send_changed (by_ticket items) t f
  moved_view items t p v f s =
      ap by_ticket (moved_is items t p v (f v) s)
      ∙ by_ticket_moved t p v f s.before s.after s.none_ahead s.none_behind
      ∙ ap (λ n. with_send_changed (by_ticket n) t f) (sym s.is)

  -- and is the last that became due
  pub moved_kept : (items : List (Element S)) (d : Option ℕ) (t p : ℕ) (v w : LiveSend S) → v.notice.due ≡ false → w.notice.due ≡ true
      → Occupied t p v items
      → SendLayout items d → SendLayout (without_place (with_value_at p items w) p ++ item p (under t w) ∷ []) (option_or d (Some p))
  moved_kept items d t p v w was is s l =
      subst (λ (xs : List (Element S)). SendLayout xs (option_or d (Some p))) (sym (moved_is items t p v w s))
      (moved_lined s.before s.after p t v w d was is (subst (λ (xs : List (Element S)). SendLayout xs d) s.is l))

  -- one that blocks is one more
  pub put_view : (items : List (Element S)) (d : Option ℕ) (t p : ℕ) (w : LiveSend S) → SendLayout items d
      → DistinctTickets items → place_of t items ≡ None
      → by_ticket (put_before_or_last items d (item p (under t w))) ≡ insert (by_ticket items) t w
  put_view items d t p w l apart none =
      let both = ap (λ xs. times t (tickets xs)) l.parts ∙ times_both (λ y. y.element.label) t l.not_due l.dues in
      let nowhere = times_none t items none in
      ap by_ticket (put_is items d (item p (under t w)) l apart)
      ∙ by_ticket_insert t p w l.not_due l.dues (value_none t l.not_due (omega arith))
      ∙ ap (λ n. insert (by_ticket n) t w) (sym l.parts)

  -- one that is spent is one less
  pub spent_view : (items : List (Element S)) (t p : ℕ) (v : LiveSend S) → Occupied t p v items
      → by_ticket (without_place items p) ≡ remove (by_ticket items) t
  spent_view items t p v s =
      ap by_ticket (stands_without t p v items s)
      ∙ by_ticket_removed t p v s.before s.after s.none_ahead s.none_behind
      ∙ ap (λ n. remove (by_ticket n) t) (sym s.is)

  -- the chain without one: the first that is due is the next one, if it was that
  pub spent_kept : (items : List (Element S)) (d : Option ℕ) (p : ℕ) → DistinctTickets items → SendLayout items d
      → SendLayout (without_place items p) (start_without d p (place_after items p))
  spent_kept items d p apart l = record {
    not_due = without_place l.not_due p;
    dues = without_place l.dues p;
    parts = ap (λ (xs : List (Element S)). without_place xs p) l.parts ∙ without_place-append l.not_due l.dues p;
    none_due = lined_without false l.not_due p l.none_due;
    all_due = lined_without true l.dues p l.all_due;
    first =
        ap₂ (λ o (xs : List (Element S)). start_without o p (place_after xs p)) l.first l.parts
        ∙ sym (off_first l.not_due l.dues p (subst DistinctTickets l.parts apart));
  }

  not_due_value : (t : ℕ) (xs : List (Element S)) → EachDueIs false xs → send_due_in (value_of t xs) ≡ false
  not_due_value t [] h = refl
  not_due_value t (x ∷ xs) h =
      elim (x.element.label == t) as (λ b. send_due_in (if b then Some x.element.value else value_of t xs) ≡ false) [
        | true ↦ h.0
        | false ↦ not_due_value t xs h.1
      ]

  -- no send is due if there is no first one
  pub none_first : (items : List (Element S)) → SendLayout items None → NoDueSend (by_ticket items)
  none_first items l = λ t.
      ap send_due_in (get_by_ticket items t
      ∙ ap (value_of t) (l.parts ∙ ap (λ (xs : List (Element S)). l.not_due ++ xs) (no_first l.dues l.first) ∙ append-nil l.not_due))
      ∙ not_due_value t l.not_due l.none_due

-- the next one, if the place is the one that it is compared with
pub bounded_same : (d : Option ℕ) (p : ℕ) (next : Option ℕ) → option_eq nat_eq d (Some p) ≡ true → start_without d p next ≡ next
bounded_same None p next e = absurd (let no : ⊥ = cc in no)
bounded_same (Some k) p next e = ap (λ b. if b then next else Some k) e

-- and none else
pub bounded_other : (d : Option ℕ) (p : ℕ) (next : Option ℕ) → option_eq nat_eq d (Some p) ≡ false → start_without d p next ≡ d
bounded_other None p next e = refl
bounded_other (Some k) p next e = ap (λ b. if b then next else Some k) e
