-- What each method leaves of messages that are laid out, and what its callers see of that.
use Rattle.std.proofs.Common.{◌≡◌, ◌≢◌, ℕ, ◌-◌, List, [], ◌∷◌, ◌++◌, length, Option, Some, None, refl, sym}
use Rattle.std.proofs.Common.{ap, ap₂, subst, ◌∙◌, arith, length-append, append_assoc}
use Rattle.std.specs.Option.{option_or, option_and_then}
use Rattle.flume_state.proofs.Chains.{ChainItem, first_place, found, without_place, behind_first}
use Rattle.flume_state.proofs.Chains.{first_element, place_after, with_label_at, with_new_label, item}
use Rattle.flume_state.proofs.Chains.{after_at, put_before_or_last}
use Rattle.flume_state.specs.layout.MessageLayout.{Message, BlockedAt, MessageList, AdmitsSend, blocked_ahead}
use Rattle.flume_state.specs.layout.MessageLayout.{queued_of, blocked_of, messages_of, MessageLayout}
use Rattle.flume_state.proofs.EntryPartLemmas.{DistinctTickets, alone, first-push, front_at}
use Rattle.flume_state.proofs.PlacedLemmas.{found_here, without_here, edited_here, put_ahead_between, first_left}
use Rattle.flume_state.proofs.MessageLemmas.{queued_append, blocked_append, none_queued_append, unqueued, unblocked, laid, counts}

-- elements laid out so, which are these messages
pub record Lays {T : Type 0} (items : List (ChainItem (Message T))) (first : Option ℕ) (count : ℕ) (list : MessageList T) : Type 0 where
  pub layout : MessageLayout items first count
  pub view : messages_of items list.space ≡ list

module _ {T : Type 0} where
  -- the owner of the message at a place
  abbrev pub send_place_at : List (ChainItem (Message T)) → ℕ → Option ℕ
  send_place_at items place = option_and_then (λ e. e.label) (found items place)

  -- a message without an owner, at its place
  abbrev pub queued_at : ℕ → T → ChainItem (Message T)
  queued_at place m = record { place = place; element = record { label = None; value = m } }

  -- a message with an owner, at its place
  abbrev pub blocked_at : ℕ → ℕ → T → ChainItem (Message T)
  blocked_at place t m = record { place = place; element = record { label = Some t; value = m } }

  -- a message that joins the queue is between both parts
  pub queues : (items new : List (ChainItem (Message T))) (first label : Option ℕ) (count place space more : ℕ) (m : T)
      (list : MessageList T)
      → MessageLayout items first count → messages_of items space ≡ list → DistinctTickets items
      → new ≡ put_before_or_last items first (record { place = place; element = record { label = label; value = m } }) → label ≡ None
      → Lays new first count (record list { queued = list.queued ++ m ∷ []; space = more })
  queues items new first label count place space more m list w view apart is none =
      let x = queued_at place m in
      let joined : new ≡ w.front ++ x ∷ [] ++ w.back =
      is ∙ ap (λ o. put_before_or_last items first (record { place = place; element = record { label = o; value = m } })) none
      ∙ ap₂ (λ (l : List (ChainItem (Message T))) (o : Option ℕ). put_before_or_last l o x) w.is w.start
      ∙ put_ahead_between w.front w.back x (subst DistinctTickets w.is apart) ∙ sym (append_assoc w.front (x ∷ []) w.back) in
      let made : MessageLayout new first count = record {
        front = w.front ++ x ∷ [];
        back = w.back;
        is = joined;
        none_blocked = blocked_append w.front (x ∷ []) ∙ ap (λ (l : List (BlockedAt T)). l ++ []) w.none_blocked;
        none_queued = w.none_queued;
        start = w.start;
        counted = w.counted;
      } in
      record {
        layout = made;
        view = laid new first count more made
            ∙ ap (λ (q : List T). let l : MessageList T = record { queued = q; blocked = blocked_of w.back; space = more } in l)
            (queued_append w.front (x ∷ []))
            ∙ ap (λ (l : MessageList T). record l { queued = l.queued ++ m ∷ []; space = more }) (sym (laid items first count space w)
            ∙ view);
      }

  -- a message that blocks is behind all others
  pub blocks : (items new : List (ChainItem (Message T))) (first label : Option ℕ) (count place space more t queued all : ℕ) (m : T)
      (list : MessageList T)
      → MessageLayout items first count → messages_of items space ≡ list
      → new ≡ items ++ record { place = place; element = record { label = label; value = m } } ∷ [] → label ≡ Some t
      → queued ≡ length list.queued → all ≡ length new
      → Lays new (option_or first (Some place)) (all - queued)
      (record list { blocked = list.blocked ++ record { place = place; send_place = t; message = m } ∷ []; space = more })
  blocks items new first label count place space more t queued all m list w view is has are total =
      let x = blocked_at place t m in
      let joined : new ≡ w.front ++ (w.back ++ x ∷ []) =
      is ∙ ap (λ l. items ++ record { place = place; element = record { label = l; value = m } } ∷ []) has
      ∙ ap (λ (l : List (ChainItem (Message T))). l ++ x ∷ []) w.is ∙ append_assoc w.front w.back (x ∷ []) in
      let made : MessageLayout new (option_or first (Some place)) (all - queued) = record {
        front = w.front;
        back = w.back ++ x ∷ [];
        is = joined;
        none_blocked = w.none_blocked;
        none_queued = queued_append w.back (x ∷ []) ∙ ap (λ (l : List T). l ++ []) w.none_queued;
        start = ap (λ o. option_or o (Some place)) w.start ∙ sym (first-push w.back x);
        counted =
            let known = (counts items first count space list w view).0 in
            let before = ap length w.is ∙ length-append w.front w.back in
            let after = ap length joined ∙ length-append w.front (w.back ++ x ∷ []) in
            let more = length-append w.back (x ∷ []) in
            let counted = w.counted in
            omega arith;
      } in
      record {
        layout = made;
        view = laid new _ _ more made
            ∙ ap (λ (b : List (BlockedAt T)). let l : MessageList T = record { queued = queued_of w.front; blocked = b; space = more } in
            l) (blocked_append w.back (x ∷ []))
            ∙ ap (λ (l : MessageList T). record l {
              blocked = l.blocked ++ record {
                place = place;
                send_place = t;
                message =
                    m;
              } ∷ [];
              space = more;
            })
            (sym (laid items first count space w) ∙ view);
      }

  -- the front message leaves the queue
  pub record Takes (items new : List (ChainItem (Message T))) (first : Option ℕ) (count space : ℕ) (list : MessageList T) : Type 0 where
    pub element : Message T
    pub is_first : first_element items ≡ Some element
    pub layout : MessageLayout new first count
    pub view : list ≡ record (messages_of new space) { queued = element.value ∷ queued_of new }

  pub takes : (items new : List (ChainItem (Message T))) (first : Option ℕ) (count space : ℕ) (list : MessageList T)
      → MessageLayout items first count → messages_of items space ≡ list → length list.queued ≢ 0 → new ≡ behind_first items
      → Takes items new first count space list
  takes items new first count space list w view some rest = elim w.front as (λ l. w.front ≡ l → Takes items new first count space list) [
    | [] ↦ λ is. absurd (some (ap (λ (m : MessageList T). length m.queued) (sym view ∙ laid items first count space w)
        ∙ ap (λ l. length (queued_of l)) is))
    | x ∷ front ↦ λ is. (
        let head = unblocked x.place x.element.label x.element.value (queued_of front) (blocked_of front) (sym (ap blocked_of is)
        ∙ w.none_blocked) in
        let split : items ≡ x ∷ (front ++ w.back) = w.is ∙ ap (λ l. l ++ w.back) is in
        let made : MessageLayout new first count = record {
          front = front;
          back = w.back;
          is = rest ∙ ap behind_first split;
          none_blocked = head.1;
          none_queued = w.none_queued;
          start = w.start;
          counted = w.counted;
        } in
        record {
          element = x.element;
          is_first = ap first_element split;
          layout = made;
          view = sym view ∙ laid items first count space w
              ∙ ap (λ (q : List T). let l : MessageList T = record { queued = q; blocked = blocked_of w.back; space = space } in l)
              (ap queued_of is ∙ head.2)
              ∙ ap (λ (l : MessageList T). record l { queued = x.element.value ∷ l.queued }) (sym (laid new first count space made));
        }
        )
  ] refl

  -- one of the blocked messages, with its owner, among all others
  pub record Occupied (items : List (ChainItem (Message T))) (list : MessageList T) (front before after : List (ChainItem (Message T)))
      (x : ChainItem (Message T)) : Type 0 where
    pub among : items ≡ front ++ before ++ x ∷ after
    pub send_place : ℕ
    pub has : x.element.label ≡ Some send_place
    pub all : list.blocked ≡ blocked_of before ++ record { place = x.place; send_place = send_place; message = x.element.value }
        ∷ blocked_of after
    pub others : queued_of (before ++ after) ≡ []

  pub occupied : (items before after : List (ChainItem (Message T))) (first : Option ℕ) (count space : ℕ) (x : ChainItem (Message T))
      (list : MessageList T)
      → (w : MessageLayout items first count) → messages_of items space ≡ list → w.back ≡ before ++ x ∷ after
      → Occupied items list w.front before after x
  occupied items before after first count space x list w view split =
      let none = none_queued_append before (x ∷ after) (ap queued_of (sym split) ∙ w.none_queued) in
      let own = unqueued x.element.label x.element.value (queued_of after) none.1 in
      record {
        among = w.is ∙ ap (λ (l : List (ChainItem (Message T))). w.front ++ l) split ∙ sym (append_assoc w.front before (x ∷ after));
        send_place = own.0;
        has = own.1;
        all = ap (λ (l : MessageList T). l.blocked) (sym view ∙ laid items first count space w)
            ∙ ap blocked_of split ∙ blocked_append before (x ∷ after)
            ∙ ap (λ o. blocked_of before ++ blocked_ahead x.place o x.element.value (blocked_of after)) own.1;
        others = queued_append before after ∙ ap₂ (λ (l m : List T). l ++ m) none.0 own.2;
      }

  -- the place of the first blocked one, once that at a place has left
  abbrev pub FirstWithout : List (ChainItem (Message T)) → Option ℕ → Option ℕ → ℕ → Type 0
  FirstWithout items first next place =
      (first ≡ Some place → next ≡ place_after items place) × (first ≢ Some place → next ≡ first)

  -- one of the blocked messages leaves
  pub leaves : (items new before after : List (ChainItem (Message T))) (first next : Option ℕ) (count space : ℕ) (x : ChainItem (Message T))
      (list : MessageList T) (w : MessageLayout items first count) → Occupied items list w.front before after x
      → messages_of items space ≡ list
      → w.back ≡ before ++ x ∷ after → DistinctTickets items → FirstWithout items first next x.place → new ≡ without_place items x.place
      → Lays new next (count - 1) (record list { blocked = blocked_of before ++ blocked_of after })
  leaves items new before after first next count space x list w s view split apart firsts is =
      let made : MessageLayout new next (count - 1) = record {
        front = w.front;
        back = before ++ after;
        is = is ∙ ap (λ (l : List (ChainItem (Message T))). without_place l x.place) s.among
            ∙ without_here (w.front ++ before) after x (subst DistinctTickets s.among apart) ∙ append_assoc w.front before after;
        none_blocked = w.none_blocked;
        none_queued = s.others;
        start = first_left items w.front before after x first next apart s.among (w.start ∙ ap first_place split) firsts.0 firsts.1;
        counted =
            let all = w.counted in
            let n = ap length split ∙ length-append before (x ∷ after) in
            let m = length-append before after in
            omega arith;
      } in
      record {
        layout = made;
        view = laid new next (count - 1) list.space made
            ∙ ap (λ (b : List (BlockedAt T)). let l : MessageList T = record {
              queued = queued_of w.front;
              blocked = b;
              space =
                  list.space;
            } in l) (blocked_append before after)
            ∙ ap (λ (l : MessageList T). record l { blocked = blocked_of before ++ blocked_of after; space = list.space })
            (sym (laid items first count space w) ∙ view);
      }

  -- the first blocked message joins the queue
  pub record Admitted (items new : List (ChainItem (Message T))) (next : Option ℕ) (left space place : ℕ)
      (list : MessageList T) : Type 0 where
    pub send_place : ℕ
    pub is_first : send_place_at items place ≡ Some send_place
    pub layout : MessageLayout new next left
    pub admits : AdmitsSend list (messages_of new space) send_place

  pub admitted : (items new : List (ChainItem (Message T))) (first next : Option ℕ) (count space place : ℕ) (list : MessageList T)
      → MessageLayout items first count → messages_of items space ≡ list → DistinctTickets items → first ≡ Some place
      → new ≡ with_label_at place items None
      → next ≡ place_after new place → Admitted items new next (count - 1) space place list
  admitted items new first next count space place list w view apart some is behind =
      let h = front_at w.back place (sym some ∙ w.start) in
      let x = item place h.element in
      let s = occupied items [] h.rest first count space x list w view h.is in
      let among : items ≡ w.front ++ x ∷ h.rest = w.is ∙ ap (λ (l : List (ChainItem (Message T))). w.front ++ l) h.is in
      let one = subst DistinctTickets among apart in
      let y = queued_at place h.element.value in
      let joined : new ≡ w.front ++ y ∷ h.rest =
      is ∙ ap (λ (l : List (ChainItem (Message T))). with_label_at place l None) among
      ∙ edited_here (with_new_label None) w.front h.rest x one in
      let made : MessageLayout new next (count - 1) = record {
        front = w.front ++ y ∷ [];
        back = h.rest;
        is = joined ∙ sym (append_assoc w.front (y ∷ []) h.rest);
        none_blocked = blocked_append w.front (y ∷ []) ∙ ap (λ (l : List (BlockedAt T)). l ++ []) w.none_blocked;
        none_queued = s.others;
        start = behind ∙ ap (λ (l : List (ChainItem (Message T))). place_after l place) joined
            ∙ after_at w.front h.rest place y.element (alone w.front h.rest place h.element one).0;
        counted = let all = w.counted in let n = ap length h.is in omega arith;
      } in
      record {
        send_place = s.send_place;
        is_first = ap (λ (l : List (ChainItem (Message T))). send_place_at l place) among
            ∙ ap (option_and_then (λ e. e.label)) (found_here w.front h.rest x one) ∙ s.has;
        layout = made;
        admits = record {
          place = place;
          message = h.element.value;
          leaves = s.all
              ∙ ap (λ (l : MessageList T). record { place = place; send_place = s.send_place; message = h.element.value } ∷ l.blocked)
              (sym (laid new next (count - 1) space made));
          joins = ap (λ (l : MessageList T). l.queued) (laid new next (count - 1) space made) ∙ queued_append w.front (y ∷ [])
              ∙ ap (λ (l : MessageList T). l.queued ++ h.element.value ∷ []) (sym (laid items first count space w) ∙ view);
          same_space = ap (λ (l : MessageList T). l.space) view;
        };
      }
