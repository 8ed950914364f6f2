-- The walk along the blocked messages of a chain, which marks the send of each.
use Rattle.std.proofs.Common.{◌≡◌, ℕ, suc, ◌<◌, ◌==◌, List, [], ◌∷◌, ◌++◌, length, Option, Some, None, refl}
use Rattle.std.proofs.Common.{sym, ap, subst, ◌∙◌, arith, if◌then◌else◌, eq-eqb, IfSome, All, option_and_then}
use Rattle.std.proofs.Common.{append_assoc}
use Rattle.std.proofs.lemmas.List.Elements.{All-head, All-tail}
use Rattle.flume_state.proofs.Chains.{ChainItem, times, places, first_place, place_after, once_none, once_back, item, after_at}
use Rattle.flume_state.specs.Notices.{due_now}
use Rattle.flume_state.specs.Sends.{SendMap, with_send_notice}
use Rattle.flume_state.specs.Effects.{with_all_due}
use Rattle.flume_state.specs.layout.MessageLayout.{Message, BlockedAt, MessageList, blocked_ahead, blocked_of, messages_of, MessageLayout}
use Rattle.flume_state.specs.layout.Pairing.{HasLink, SendList, link_at, live_sends, under_tickets}
use Rattle.flume_state.proofs.EntryPartLemmas.{DistinctTickets, alone, front_at, no_first}
use Rattle.flume_state.proofs.PlacedLemmas.{found_here}
use Rattle.flume_state.proofs.MessageLemmas.{laid}
use Rattle.flume_state.proofs.MessageStepLemmas.{send_place_at}
use Rattle.flume_state.proofs.PairLemmas.{ticket_by}

module _ {E : Type 0} where
  -- how many elements there are from a place on
  abbrev pub left_from : List (ChainItem E) → Option ℕ → ℕ
  left_from items None = 0
  left_from [] (Some k) = 0
  left_from (x ∷ items) (Some k) =
      if k == x.place then suc (length items) else left_from items (Some k)

  -- from the place of one among others on, it and those behind it are left
  left_here : (xs ys : List (ChainItem E)) (x : ChainItem E) → times x.place (places xs) ≡ 0
      → left_from (xs ++ x ∷ ys) (Some x.place) ≡ suc (length ys)
  left_here [] ys x none = ap (λ b. if b then suc (length ys) else left_from ys (Some x.place)) (eq-eqb x.place x.place refl)
  left_here (y ∷ xs) ys x none =
      ap (λ b. if b then suc (length (xs ++ x ∷ ys)) else left_from (xs ++ x ∷ ys) (Some x.place))
      (once_none x.place y.place (once_back y.place x.place (omega arith)))
      ∙ left_here xs ys x (omega arith)

  -- and from the place behind it on, those behind it
  left_first : (xs ys : List (ChainItem E)) → DistinctTickets (xs ++ ys) → left_from (xs ++ ys) (first_place ys) ≡ length ys
  left_first xs [] apart = refl
  left_first xs (y ∷ ys) apart = left_here xs ys y (alone xs ys y.place y.element apart).0

-- the send at a place is marked, if there is one
abbrev pub Marks : {S : Type 0} → Option ℕ → SendList S → SendList S → Type 0
Marks None sends new = new ≡ sends
Marks (Some send_place) sends new =
    IfSome (link_at sends send_place) (λ l. live_sends new ≡ with_send_notice due_now l.ticket (live_sends sends))
    × ((k : ℕ) → link_at new k ≡ link_at sends k)

module _ {T S : Type 0} where
  -- these blocked ones have their sends, and with those marked, all that are to be are
  pub record ToMark (blocked : List (BlockedAt T)) (initial sends : SendList S) (done : SendMap S) : Type 0 where
    pub held : All (HasLink initial) blocked
    pub links : (k : ℕ) → link_at sends k ≡ link_at initial k
    pub marks : with_all_due (under_tickets initial blocked) (live_sends sends) ≡ done

  -- one ahead of others is marked before them
  one_marked : (place : ℕ) (o : Option ℕ) (m : T) (bs : List (BlockedAt T)) (initial sends new : SendList S) (done : SendMap S)
      → ToMark (blocked_ahead place o m bs) initial sends done → Marks o sends new → ToMark bs initial new done
  one_marked place None m bs initial sends new done w same = subst (λ s. ToMark bs initial s done) (sym same) w
  one_marked place (Some send_place) m bs initial sends new done w marked =
      let one = All-head (HasLink initial) _ bs w.held in
      let live : live_sends new ≡ with_send_notice due_now one.ticket (live_sends sends) =
      subst (λ o. IfSome o (λ l. live_sends new ≡ with_send_notice due_now l.ticket (live_sends sends))) (w.links send_place
      ∙ one.is) marked.0 in
      record {
        held = All-tail (HasLink initial) _ bs w.held;
        links = λ k. marked.1 k ∙ w.links k;
        marks = ap (with_all_due (under_tickets initial bs)) (live
            ∙ ap (λ n. with_send_notice due_now n (live_sends sends)) (sym (ticket_by initial send_place _ one.is))) ∙ w.marks;
      }

  -- the walk has come to a place, from which on those are left that are to be marked
  pub record Walks (items : List (ChainItem (Message T))) (at : Option ℕ) (initial sends : SendList S) (done : SendMap S) : Type 0 where
    pub before : List (ChainItem (Message T))
    pub rest : List (ChainItem (Message T))
    pub is : items ≡ before ++ rest
    pub here : at ≡ first_place rest
    pub left : ToMark (blocked_of rest) initial sends done

  -- it begins at the first blocked one
  pub walk_begins : (items : List (ChainItem (Message T))) (first : Option ℕ) (count space : ℕ) (list : MessageList T) (sends : SendList S)
      → MessageLayout items first count → messages_of items space ≡ list → All (HasLink sends) list.blocked
      → Walks items first sends sends (with_all_due (under_tickets sends list.blocked) (live_sends sends))
  walk_begins items first count space list sends w view held =
      let is : blocked_of w.back ≡ list.blocked = ap (λ (l : MessageList T). l.blocked) (sym (laid items first count space w) ∙ view) in
      record {
        before = w.front;
        rest = w.back;
        is = w.is;
        here = w.start;
        left = subst (λ bs. ToMark bs sends sends (with_all_due (under_tickets sends list.blocked) (live_sends sends))) (sym is)
            (record { held = held; links = λ k. refl; marks = refl });
      }

  -- it is over if no place is left
  pub walk_ends : (items : List (ChainItem (Message T))) (at : Option ℕ) (initial sends : SendList S) (done : SendMap S)
      → Walks items at initial sends done → at ≡ None → live_sends sends ≡ done
  walk_ends items at initial sends done w none =
      ap (λ r. with_all_due (under_tickets initial (blocked_of r)) (live_sends sends)) (sym (no_first w.rest (sym none ∙ w.here)))
      ∙ w.left.marks

  -- a step of the walk: fewer are left, and the one that it was at is marked
  pub record Stepped (items : List (ChainItem (Message T))) (place : ℕ) (initial sends : SendList S) (done : SendMap S) : Type 0 where
    pub on : (new : SendList S) → Marks (send_place_at items place) sends new → Walks items (place_after items place) initial new done
    pub fewer : left_from items (place_after items place) < left_from items (Some place)

  pub walk_steps : (items : List (ChainItem (Message T))) (at : Option ℕ) (place : ℕ) (initial sends : SendList S) (done : SendMap S)
      → DistinctTickets items
      → Walks items at initial sends done → at ≡ Some place → Stepped items place initial sends done
  walk_steps items at place initial sends done apart w some =
      let h = front_at w.rest place (sym some ∙ w.here) in
      let x = item place h.element in
      let split : items ≡ w.before ++ x ∷ h.rest = w.is ∙ ap (λ r. w.before ++ r) h.is in
      let one : DistinctTickets (w.before ++ x ∷ h.rest) = subst DistinctTickets split apart in
      let none = (alone w.before h.rest place h.element one).0 in
      let send_place : send_place_at items place ≡ h.element.label =
      ap (λ l. send_place_at l place) split ∙ ap (option_and_then (λ e. e.label)) (found_here w.before h.rest x one) in
      let after : place_after items place ≡ first_place h.rest = ap (λ l. place_after l place) split
      ∙ after_at w.before h.rest place h.element none in
      let moved : items ≡ (w.before ++ x ∷ []) ++ h.rest = split ∙ sym (append_assoc w.before (x ∷ []) h.rest) in
      let now : left_from items (Some place) ≡ suc (length h.rest) = ap (λ l. left_from l (Some place)) split
      ∙ left_here w.before h.rest x none in
      let behind : left_from items (place_after items place) ≡ length h.rest =
      ap (left_from items) after ∙ ap (λ l. left_from l (first_place h.rest)) moved
      ∙ left_first (w.before ++ x ∷ []) h.rest (subst DistinctTickets moved apart) in
      record {
        on = λ new marked. record {
          before = w.before ++ x ∷ [];
          rest = h.rest;
          is = moved;
          here = after;
          left = one_marked place h.element.label h.element.value (blocked_of h.rest) initial sends new done
              (subst (λ r. ToMark (blocked_of r) initial sends done) h.is w.left) (subst (λ o. Marks o sends new) send_place marked);
        };
        fewer = omega arith;
      }
