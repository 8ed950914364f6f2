-- A chain with tickets if an element is taken out, moved or changed: its map goes with it.
use Rattle.std.proofs.Common.{◌≡◌, ℕ, List, Option, Some, None, refl, sym, ap, subst, ◌∙◌}
use Rattle.std.specs.FinMap.{remove}
use Rattle.flume_state.proofs.Chains.{ChainItem, found, without_place, moved_back, changed_at, with_value_at}
use Rattle.flume_state.proofs.Chains.{item, without_at, edited_missing, moved_back_missing, moved_back_some}
use Rattle.flume_state.proofs.Chains.{with_new_value}
use Rattle.flume_state.proofs.EntryPartLemmas.{DistinctTickets, seat, edited_at}
use Rattle.flume_state.specs.layout.WithTicket.{WithTicket, Agrees}
use Rattle.flume_state.specs.layout.Places.{PlaceMap}
use Rattle.flume_state.proofs.SendMapLemmas.{get-remove_same}
use Rattle.flume_state.proofs.MapLemmas.{insert-remove}
use Rattle.flume_state.proofs.TicketLemmas.{Amid, ticketed_out, ticketed_in, own, times_none, put_amid, without_amid, without_fresh}

module _ {E : Type 0} where
  -- the map stays if an element is taken out, and one with its place and its ticket is put in
  replaced : (items rest next : List (ChainItem (WithTicket E))) (m : PlaceMap) (k : ℕ) (e f : WithTicket E) → Amid items rest (item k e)
      → Amid next rest (item k f) → f.label ≡ e.label → Agrees items m → Agrees next m
  replaced items rest next m k e f at to same a =
      let fresh = without_fresh items rest (item k e) at (a.apart k) in
      let left = ticketed_out items rest (item k e) m at e.label refl a in
      let new = sym (left.found e.label) ∙ get-remove_same m e.label in
      let here = a.found e.label ∙ own items rest (item k e) m at e.label refl (times_none e.label rest new) in
      subst (λ n. Agrees next n) (insert-remove m e.label k here)
      (ticketed_in next rest (item k f) (remove m e.label) to e.label same new fresh left)

  -- the map stays if an element goes behind all others
  pub moved_agrees : (items : List (ChainItem (WithTicket E))) (m : PlaceMap) (k : ℕ) → Agrees items m → Agrees (moved_back items k) m
  moved_agrees items m k a = elim (found items k) as (λ (o : Option (WithTicket E)). found items k ≡ o → Agrees (moved_back items k) m) [
    | None ↦ λ none. subst (λ (l : List (ChainItem (WithTicket E))). Agrees l m) (sym (moved_back_missing items k none)) a
    | Some e ↦ λ is. subst (λ (l : List (ChainItem (WithTicket E))). Agrees l m) (sym (moved_back_some items k e is))
        (replaced items (without_place items k) _ m k e e (without_amid items k e a.apart is)
        (put_amid (without_place items k) None (item k e)) refl a)
  ] refl

  -- the elements with f of that at a place are all but that one, and f of it
  written_amid : (f : WithTicket E → WithTicket E) (items : List (ChainItem (WithTicket E))) (k : ℕ) (e : WithTicket E)
      → DistinctTickets items
      → found items k ≡ Some e → Amid (changed_at f k items) (without_place items k) (item k (f e))
  written_amid f items k e apart is =
      let s = seat items k e apart is in
      record {
        before = s.before;
        after = s.after;
        whole = ap (changed_at f k) s.is ∙ edited_at f k s.before s.after e s.ahead s.behind;
        others = ap (λ (l : List (ChainItem (WithTicket E))). without_place l k) s.is ∙ without_at s.before s.after k e s.ahead s.behind;
      }

  -- the map stays if a value is written at a place
  pub written_agrees : (v : E) (items : List (ChainItem (WithTicket E))) (m : PlaceMap) (k : ℕ) → Agrees items m
      → Agrees (with_value_at k items v) m
  written_agrees v items m k a = elim (found items k) as (λ (o : Option (WithTicket E)). found items k ≡ o
      → Agrees (with_value_at k items v) m) [
        | None ↦ λ none. subst (λ (l : List (ChainItem (WithTicket E))). Agrees l m)
            (sym (edited_missing (with_new_value v) items k none)) a
        | Some e ↦ λ is. replaced items (without_place items k) _ m k e (with_new_value v e) (without_amid items k e a.apart is)
            (written_amid (with_new_value v) items k e a.apart is) refl a
      ] refl
