-- Blocked messages and their sends, which name each other's places, under the methods of a line.
use Rattle.std.proofs.Common.{◌≡◌, ◌≢◌, ℕ, ◌≤◌, ◌==◌, Bool, true, false, List, [], ◌∷◌, ◌++◌, Option, Some}
use Rattle.std.proofs.Common.{None, refl, sym, ap, ap₂, subst, ◌∙◌, inl, inr, arith, if◌then◌else◌, map, All}
use Rattle.std.proofs.Common.{option_map, IfSome}
use Rattle.std.specs.FinMap.{remove}
use Rattle.std.specs.Option.{option_map_or}
use Rattle.flume_chain.specs.ChainState.{found}
use Rattle.std.proofs.lemmas.Bool.{cases_eq, eq-eqb, ne_eqb, eqb-false}
use Rattle.std.proofs.lemmas.List.{map-append}
use Rattle.std.proofs.lemmas.List.Elements.{All-nil, All-cons, All-head, All-tail, All-append, All-push, All-map}
use Rattle.flume_state.proofs.Chains.{times, times-append, once_same, once_none}
use Rattle.flume_state.specs.Messages.{Blocked, Messages, Admits, TakesBack}
use Rattle.flume_state.specs.Sends.{SendMap, with_send_changed, accepted_now}
use Rattle.flume_state.specs.layout.MessageLayout.{BlockedAt, MessageList, AdmitsSend, TakesOut}
use Rattle.flume_state.specs.layout.Pairing.{SendList, Link, link_of, link_at, at_message, accepting}
use Rattle.flume_state.specs.layout.Pairing.{send_place_at, ticket_at, under_ticket, under_tickets}
use Rattle.flume_state.specs.layout.Pairing.{live_sends, HasLink, Pairing}

-- the places of blocked messages
abbrev pub places_of : {T : Type 0} → List (BlockedAt T) → List ℕ
places_of blocked = map (λ b. b.place) blocked

-- none of these blocked messages has a place
abbrev pub Elsewhere : {T : Type 0} → ℕ → List (BlockedAt T) → Type 0
Elsewhere k blocked = All (λ b. b.place ≢ k) blocked

-- none of these blocked messages has an owner
abbrev pub OfOthers : {T : Type 0} → ℕ → List (BlockedAt T) → Type 0
OfOthers o blocked = All (λ b. b.send_place ≢ o) blocked

module _ {T : Type 0} where
  -- a place that is counted nowhere is that of none
  pub elsewhere : (k : ℕ) (bs : List (BlockedAt T)) → times k (places_of bs) ≡ 0 → Elsewhere k bs
  elsewhere k [] none = All-nil _
  elsewhere k (b ∷ bs) none =
      All-cons (λ (c : BlockedAt T). c.place ≢ k) b bs (eqb-false b.place k (once_none b.place k (omega (arith, none))))
      (elsewhere k bs (omega (arith, none)))

  -- if no two have one place, none but one has its place
  pub around : (before after : List (BlockedAt T)) (b : BlockedAt T) → ((k : ℕ) → times k (places_of (before ++ b ∷ after)) ≤ 1)
      → Elsewhere b.place before × Elsewhere b.place after
  around before after b apart =
      let all = ap (times b.place) (map-append (λ (c : BlockedAt T). c.place) before (b ∷ after))
      ∙ times-append b.place (places_of before) (places_of (b ∷ after)) in
      let most = apart b.place in
      let here = once_same b.place in
      (elsewhere b.place before (omega (arith, all, most, here)), elsewhere b.place after (omega (arith, all, most, here)))

  -- no owner is found at a place that none has
  pub owner_none : (k : ℕ) (bs : List (BlockedAt T)) → Elsewhere k bs → send_place_at bs k ≡ None
  owner_none k [] none = refl
  owner_none k (b ∷ bs) none =
      ap (λ c. if c then Some b.send_place else send_place_at bs k)
      (ne_eqb b.place k (All-head (λ (c : BlockedAt T). c.place ≢ k) b bs none))
      ∙ owner_none k bs (All-tail (λ (c : BlockedAt T). c.place ≢ k) b bs none)

  -- the owner of one that has its place for itself
  pub owner_here : (before after : List (BlockedAt T)) (b : BlockedAt T) → Elsewhere b.place before
      → send_place_at (before ++ b ∷ after) b.place ≡ Some b.send_place
  owner_here [] after b none = ap (λ c. if c then Some b.send_place else send_place_at after b.place) (eq-eqb b.place b.place refl)
  owner_here (c ∷ before) after b none =
      ap (λ d. if d then Some c.send_place else send_place_at (before ++ b ∷ after) b.place)
      (ne_eqb c.place b.place (All-head (λ (d : BlockedAt T). d.place ≢ b.place) c before none))
      ∙ owner_here before after b (All-tail (λ (d : BlockedAt T). d.place ≢ b.place) c before none)

  -- the owners at other places are found without one
  pub owner_without : (before after : List (BlockedAt T)) (b : BlockedAt T) (k : ℕ) → b.place ≢ k
      → send_place_at (before ++ b ∷ after) k ≡ send_place_at (before ++ after) k
  owner_without [] after b k ne = ap (λ c. if c then Some b.send_place else send_place_at after k) (ne_eqb b.place k ne)
  owner_without (c ∷ before) after b k ne = ap (λ o. if c.place == k then Some c.send_place else o) (owner_without before after b k ne)

  -- an owner that is found is found with more behind
  pub owner_more : (bs more : List (BlockedAt T)) (k o : ℕ) → send_place_at bs k ≡ Some o → send_place_at (bs ++ more) k ≡ Some o
  owner_more [] more k o is = absurd (let no : ⊥ = cc in no)
  owner_more (b ∷ bs) more k o is =
      elim (b.place == k) as (λ c. (if c then Some b.send_place else send_place_at bs k) ≡ Some o
      → (if c then Some b.send_place else send_place_at (bs ++ more) k) ≡ Some o) [
        | true ↦ λ e. e
        | false ↦ λ e. owner_more bs more k o e
      ] is

-- the place of the message in a link
abbrev message_in : Option Link → ℕ
message_in None = 0
message_in (Some l) = l.message

-- whether the message of a link was accepted
abbrev accepted_in : Option Link → Bool
accepted_in None = false
accepted_in (Some l) = l.accepted

module _ {S : Type 0} where
  -- the links are those of old, but for one place, which has this one
  abbrev pub LinksBut : (new old : SendList S) (o : ℕ) → (ℕ → Option Link) → Type 0
  LinksBut new old o made = (k : ℕ) → link_at new k ≡ if k == o then made k else link_at old k

  -- so those at other places are as they were
  pub but_one : (new old : SendList S) (o : ℕ) (made : ℕ → Option Link) → LinksBut new old o made → (k : ℕ) → k ≢ o
      → link_at new k ≡ link_at old k
  but_one new old o made links k ne = links k ∙ ap (λ b. if b then made k else link_at old k) (ne_eqb k o ne)

  -- and that place has the one that was made
  pub at_one : (new old : SendList S) (o : ℕ) (made : ℕ → Option Link) → LinksBut new old o made → link_at new o ≡ made o
  at_one new old o made links = links o ∙ ap (λ b. if b then made o else link_at old o) (eq-eqb o o refl)

  -- a send that was put at a fresh place, and left again, changed no link
  pub undone : (new mid old : SendList S) (o : ℕ) (made : ℕ → Option Link) → LinksBut mid old o made → LinksBut new mid o (λ _. None)
      → link_at old o ≡ None → (k : ℕ) → link_at new k ≡ link_at old k
  undone new mid old o made first second fresh k = elim (cases_eq k o) [
    | inl e ↦ ap (link_at new) e ∙ at_one new mid o _ second ∙ sym (ap (link_at old) e ∙ fresh)
    | inr ne ↦ but_one new mid o _ second k ne ∙ but_one mid old o made first k ne
  ]

  -- the ticket in a link is removed
  pub removed_at : (i : Option Link) (t : ℕ) (new old : SendMap S) → option_map (λ l. l.ticket) i ≡ Some t
      → IfSome i (λ l. new ≡ remove old l.ticket) → new ≡ remove old t
  removed_at None t new old none live = absurd (let no : ⊥ = cc in no)
  removed_at (Some l) t new old is live = live ∙ ap (remove old) (let same : l.ticket ≡ t = cc in same)

-- the ticket in a link, or 0 if there is none
abbrev ticket_or_zero : Option Link → ℕ
ticket_or_zero None = 0
ticket_or_zero (Some l) = l.ticket

module _ {S : Type 0} where
  -- the ticket of a send is that in its link
  ticket_is : (sends : SendList S) (k : ℕ) → ticket_at sends k ≡ ticket_or_zero (link_at sends k)
  ticket_is sends k =
      elim (found sends k) as (λ o. option_map_or (λ e. e.label) o 0 ≡ ticket_or_zero (option_map link_of o))
      [ None ↦ refl | Some e ↦ refl ]

  pub ticket_by : (sends : SendList S) (k : ℕ) (l : Link) → link_at sends k ≡ Some l → ticket_at sends k ≡ l.ticket
  ticket_by sends k l is = ticket_is sends k ∙ ap ticket_or_zero is

  ticket_kept : (new old : SendList S) (k : ℕ) → link_at new k ≡ link_at old k → ticket_at new k ≡ ticket_at old k
  ticket_kept new old k same = ticket_is new k ∙ ap ticket_or_zero same ∙ sym (ticket_is old k)

module _ {T S : Type 0} where
  -- what a contract sees of these messages and these sends
  abbrev pub line_of : MessageList T → SendList S → Messages T S
  line_of list sends = record {
    queued = list.queued;
    blocked = under_tickets sends list.blocked;
    space = list.space;
    sends = live_sends sends;
  }

  -- the owners of these blocked messages have the links that they had
  abbrev pub SameLinks : (new old : SendList S) → List (BlockedAt T) → Type 0
  SameLinks new old bs = All (λ b. link_at new b.send_place ≡ link_at old b.send_place) bs

  -- so each is under its ticket as before
  pub named_kept : (new old : SendList S) (bs : List (BlockedAt T)) → SameLinks new old bs → under_tickets new bs ≡ under_tickets old bs
  named_kept new old [] same = refl
  named_kept new old (b ∷ bs) same =
      ap₂ (λ (n : ℕ) (rest : List (Blocked T)). let c : Blocked T = record { ticket = n; message = b.message } in c ∷ rest)
      (ticket_kept new old b.send_place (All-head (λ (c : BlockedAt T). link_at new c.send_place ≡ link_at old c.send_place) b bs same))
      (named_kept new old bs (All-tail (λ (c : BlockedAt T). link_at new c.send_place ≡ link_at old c.send_place) b bs same))

  -- and has its send as before
  pub held_kept : (new old : SendList S) (bs : List (BlockedAt T)) → SameLinks new old bs → All (HasLink old) bs → All (HasLink new) bs
  held_kept new old bs same held k d lt = record { ticket = (held k d lt).ticket; is = same k d lt ∙ (held k d lt).is }

  -- a change at one place alone leaves the links of other owners
  pub same_but : (new old : SendList S) (o : ℕ) (made : ℕ → Option Link) (bs : List (BlockedAt T)) → LinksBut new old o made
      → OfOthers o bs → SameLinks new old bs
  same_but new old o made bs links others k d lt = but_one new old o made links _ (others k d lt)

  -- a place without a live send, or with one that was accepted, is the owner of none
  pub not_owner : (sends : SendList S) (o : ℕ) (bs : List (BlockedAt T)) → ((l : Link) → link_at sends o ≡ Some l → l.accepted ≡ true)
      → All (HasLink sends) bs → OfOthers o bs
  not_owner sends o bs known held k d lt same =
      let h = held k d lt in
      let no : false ≡ true = known _ (ap (link_at sends) (sym same) ∙ h.is) in
      absurd (let none : ⊥ = cc in none)

  -- the owner of one message is that of no other
  pub others : (sends : SendList S) (b : BlockedAt T) (bs : List (BlockedAt T)) → HasLink sends b → All (HasLink sends) bs
      → Elsewhere b.place bs → OfOthers b.send_place bs
  others sends b bs own held apart k d lt same =
      let h = held k d lt in
      absurd (apart k d lt (ap message_in (sym h.is ∙ ap (link_at sends) same ∙ own.is)))

  -- if no link changed, all are paired as before
  pub record Kept (new old : SendList S) (bs : List (BlockedAt T)) : Type 0 where
    pub paired : Pairing bs new
    pub names : under_tickets new bs ≡ under_tickets old bs

  pub keeps : (new old : SendList S) (bs : List (BlockedAt T)) → ((k : ℕ) → link_at new k ≡ link_at old k) → Pairing bs old
      → Kept new old bs
  keeps new old bs links p =
      let same : SameLinks new old bs = λ k d lt. links _ in
      record {
        paired = record { held = held_kept new old bs same p.held; owns = λ k l is held_back. p.owns k l (sym (links k) ∙ is) held_back };
        names = named_kept new old bs same;
      }

  -- and so if a send left whose message was accepted
  pub spends : (new old : SendList S) (bs : List (BlockedAt T)) (o : ℕ) → LinksBut new old o (λ _. None)
      → ((l : Link) → link_at old o ≡ Some l → l.accepted ≡ true) → Pairing bs old → Kept new old bs
  spends new old bs o links known p =
      let same = same_but new old o _ bs links (not_owner old o bs known p.held) in
      record {
        paired = record {
          held = held_kept new old bs same p.held;
          owns = λ k l is held_back. p.owns k l (sym (but_one new old o _ links k (λ e.
              let no : None ≡ Some l = sym (at_one new old o _ links) ∙ ap (link_at new) (sym e)
              ∙ is in absurd (let none : ⊥ = cc in none))) ∙ is) held_back;
        };
        names = named_kept new old bs same;
      }

  -- a line whose messages and sends are paired
  pub record Pairs (list : MessageList T) (sends : SendList S) (P : Messages T S → Type 0) : Type 0 where
    pub paired : Pairing list.blocked sends
    pub holds : P (line_of list sends)

  -- the first blocked message joins the queue, and its send is accepted
  pub admits : (new old : SendList S) (l m : MessageList T) (o : ℕ) → Pairing l.blocked old → ((k : ℕ) → times k (places_of l.blocked) ≤ 1)
      → AdmitsSend l m o → LinksBut new old o (λ k. option_map (accepting true) (link_at old k))
      → IfSome (link_at old o) (λ i. live_sends new ≡ with_send_changed (live_sends old) i.ticket accepted_now)
      → Pairs m new (λ line. Admits (line_of l old) line)
  admits new old l m o paired apart a links live =
      let b : BlockedAt T = record { place = a.place; send_place = o; message = a.message } in
      let p = subst (λ bs. Pairing bs old) a.leaves paired in
      let own = All-head (HasLink old) b m.blocked p.held in
      let rest = All-tail (HasLink old) b m.blocked p.held in
      let alone = (around [] m.blocked b (subst (λ bs. (k : ℕ) → times k (places_of bs) ≤ 1) a.leaves apart)).1 in
      let same = same_but new old o _ m.blocked links (others old b m.blocked own rest alone) in
      let becomes = subst (λ i. IfSome i (λ i. live_sends new ≡ with_send_changed (live_sends old) i.ticket accepted_now)) own.is live in
      record {
        paired = record {
          held = held_kept new old m.blocked same rest;
          owns = λ k i is held_back.
              let ne : k ≢ o = λ e.
              let no : false ≡ true = sym held_back ∙ ap accepted_in (sym is ∙ ap (link_at new) e ∙ at_one new old o _ links
              ∙ ap (option_map (accepting true)) own.is) in
              absurd (let none : ⊥ = cc in none) in
              let found = p.owns k i (sym (but_one new old o _ links k ne) ∙ is) held_back in
              elim (cases_eq a.place i.message) [
                | inl e ↦ (
                    let both : Some o ≡ Some k = sym (ap (λ c. if c then Some o else send_place_at m.blocked i.message)
                    (eq-eqb a.place i.message e)) ∙ found in
                    absurd (ne (let name : k ≡ o = cc in name))
                    )
                | inr other ↦ sym (owner_without [] m.blocked b i.message other) ∙ found
              ];
        };
        holds = record {
          first = record { ticket = own.ticket; message = a.message };
          leaves = ap (under_tickets old) a.leaves
              ∙ ap₂ (λ (n : ℕ) (bs : List (Blocked T)). let c : Blocked T = record { ticket = n; message = a.message } in c ∷ bs)
              (ticket_by old _ _ own.is) (sym (named_kept new old m.blocked same));
          becomes = λ i. record { queued = a.joins i; blocked = under_tickets new m.blocked; space = a.same_space i; sends = becomes i };
        };
      }

  -- one more message blocks, and one more send
  pub blocks : (new mid old : SendList S) (l m : MessageList T) (o place ticket : ℕ) (message : T) → Pairing l.blocked old
      → link_at old o ≡ None
      → LinksBut mid old o (λ _. Some (record { ticket = ticket; message = 0; accepted = false }))
      → LinksBut new mid o (λ k. option_map (at_message place) (link_at mid k))
      → m.blocked ≡ l.blocked ++ record { place = place; send_place = o; message = message } ∷ [] → Elsewhere place l.blocked
      → Pairs m new (λ line. line.blocked ≡ under_tickets old l.blocked ++ record { ticket = ticket; message = message } ∷ [])
  blocks new mid old l m o place ticket message p fresh first second is apart =
      let b : BlockedAt T = record { place = place; send_place = o; message = message } in
      let but : (k : ℕ) → k ≢ o → link_at new k ≡ link_at old k = λ k ne. but_one new mid o _ second k ne
      ∙ but_one mid old o _ first k ne in
      let made = at_one new mid o _ second ∙ ap (option_map (at_message place)) (at_one mid old o _ first) in
      let other = not_owner old o l.blocked (λ i h. let no : None ≡ Some i = sym fresh ∙ h in absurd (let none : ⊥ = cc in none)) p.held in
      let same : SameLinks new old l.blocked = λ k d lt. but _ (other k d lt) in
      record {
        paired = subst (λ bs. Pairing bs new) (sym is) (record {
          held = All-push (HasLink new) l.blocked b (held_kept new old l.blocked same p.held) (record { ticket = ticket; is = made });
          owns = λ k i h held_back. elim (cases_eq k o) [
            | inl e ↦ (
                let at : i.message ≡ place = ap message_in (sym h ∙ ap (link_at new) e ∙ made) in
                ap (send_place_at (l.blocked ++ b ∷ [])) at ∙ owner_here l.blocked [] b apart ∙ ap Some (sym e)
                )
            | inr ne ↦ owner_more l.blocked (b ∷ []) i.message k (p.owns k i (sym (but k ne) ∙ h) held_back)
          ];
        });
        holds = ap (under_tickets new) is ∙ map-append (under_ticket new) l.blocked (b ∷ [])
            ∙ ap₂ (λ (bs : List (Blocked T)) (n : ℕ). let c : Blocked T = record { ticket = n; message = message } in bs ++ c ∷ [])
            (named_kept new old l.blocked same) (ticket_by new o _ made);
      }

  -- if the sends with a ticket were accepted, no blocked message is under it
  pub none_under : (sends : SendList S) (t : ℕ) (bs : List (BlockedAt T)) → ((k : ℕ) (l : Link) → link_at sends k ≡ Some l → l.ticket ≡ t
      → l.accepted ≡ true)
      → All (HasLink sends) bs → All (λ b. b.ticket ≢ t) (under_tickets sends bs)
  none_under sends t bs known held =
      All-map (λ b. b.ticket ≢ t) (under_ticket sends) bs (λ k d lt e.
      let h = held k d lt in
      let no : false ≡ true = known _ _ h.is (sym (ticket_by sends _ _ h.is) ∙ e) in
      absurd (let none : ⊥ = cc in none))

  -- if one send alone has a ticket, no message of another is under it
  pub others_under : (sends : SendList S) (t o : ℕ) (bs : List (BlockedAt T)) → ((k : ℕ) (l : Link) → link_at sends k ≡ Some l
      → l.ticket ≡ t → k ≡ o)
      → OfOthers o bs → All (HasLink sends) bs → All (λ b. b.ticket ≢ t) (under_tickets sends bs)
  others_under sends t o bs only other held =
      All-map (λ b. b.ticket ≢ t) (under_ticket sends) bs (λ k d lt e.
      let h = held k d lt in other k d lt (only _ _ h.is (sym (ticket_by sends _ _ h.is) ∙ e)))

  -- the message of a send that isn't accepted is blocked
  pub is_blocked : (sends : SendList S) (bs : List (BlockedAt T)) (o ticket place : ℕ) → Pairing bs sends
      → link_at sends o ≡ Some (record { ticket = ticket; message = place; accepted = false }) → Elsewhere place bs → ⊥
  is_blocked sends bs o ticket place p is none =
      let both : None ≡ Some o = sym (owner_none place bs none) ∙ p.owns o _ is refl in let no : ⊥ = cc in no

  -- of blocked messages around one, each has its send
  record Parts (sends : SendList S) (before after : List (BlockedAt T)) (b : BlockedAt T) : Type 0 where
    pub own : HasLink sends b
    pub ahead : All (HasLink sends) before
    pub behind : All (HasLink sends) after

  parts_of : (sends : SendList S) (before after : List (BlockedAt T)) (b : BlockedAt T) → All (HasLink sends) (before ++ b ∷ after)
      → Parts sends before after b
  parts_of sends [] after b held = record {
    own = All-head (HasLink sends) b after held;
    ahead = All-nil (HasLink sends);
    behind =
        All-tail (HasLink sends) b after held;
  }
  parts_of sends (c ∷ before) after b held =
      let rest = parts_of sends before after b (All-tail (HasLink sends) c (before ++ b ∷ after) held) in
      record {
        own = rest.own;
        ahead =
            All-cons (HasLink sends) c before (All-head (HasLink sends) c (before ++ b ∷ after) held) rest.ahead;
        behind = rest.behind;
      }

  -- a blocked message leaves, and its send
  pub withdraws : (new old : SendList S) (l m : MessageList T) (o place ticket : ℕ) (message : T) → Pairing l.blocked old
      → ((k : ℕ) → times k (places_of l.blocked) ≤ 1)
      → link_at old o ≡ Some (record { ticket = ticket; message = place; accepted = false })
      → ((k : ℕ) (i : Link) → link_at old k ≡ Some i → i.ticket ≡ ticket → k ≡ o)
      → TakesOut l m place message → LinksBut new old o (λ _. None)
      → IfSome (link_at old o) (λ i. live_sends new ≡ remove (live_sends old) i.ticket)
      → Pairs m new (λ line. TakesBack (line_of l old) line ticket message)
  withdraws new old l m o place ticket message paired apart is only t links live =
      let b : BlockedAt T = record { place = place; send_place = t.send_place; message = message } in
      let p = subst (λ bs. Pairing bs old) t.found paired in
      let alone = around t.before t.after b (subst (λ bs. (k : ℕ) → times k (places_of bs) ≤ 1) t.found apart) in
      let both : Some t.send_place ≡ Some o = sym (owner_here t.before t.after b alone.0) ∙ p.owns o _ is refl in
      let name : t.send_place ≡ o = cc in
      let parts = parts_of old t.before t.after b p.held in
      let ahead = subst (λ k. OfOthers k t.before) name (others old b t.before parts.own parts.ahead alone.0) in
      let behind = subst (λ k. OfOthers k t.after) name (others old b t.after parts.own parts.behind alone.1) in
      let same = same_but new old o _ (t.before ++ t.after) links
      (All-append (λ (c : BlockedAt T). c.send_place ≢ o) t.before t.after ahead behind) in
      let names : under_tickets new (t.before ++ t.after) ≡ under_tickets old t.before ++ under_tickets old t.after =
      named_kept new old (t.before ++ t.after) same ∙ map-append (under_ticket old) t.before t.after in
      let becomes = subst (λ i. IfSome i (λ i. live_sends new ≡ remove (live_sends old) i.ticket)) is live in
      record {
        paired = subst (λ bs. Pairing bs new) (sym t.rest) (record {
          held = held_kept new old (t.before ++ t.after) same (All-append (HasLink old) t.before t.after parts.ahead parts.behind);
          owns = λ k i h held_back.
              let ne : k ≢ o = λ e.
              let no : None ≡ Some i = sym (at_one new old o _ links) ∙ ap (link_at new) (sym e)
              ∙ h in absurd (let none : ⊥ = cc in none) in
              let found = p.owns k i (sym (but_one new old o _ links k ne) ∙ h) held_back in
              let other : place ≢ i.message = λ e.
              let one : Some k ≡ Some t.send_place = sym found ∙ ap (send_place_at (t.before ++ b ∷ t.after)) (sym e)
              ∙ owner_here t.before t.after b alone.0 in
              ne (let same_name : k ≡ o = cc in same_name) in
              sym (owner_without t.before t.after b i.message other) ∙ found;
        });
        holds = record {
          before = under_tickets old t.before;
          after = under_tickets old t.after;
          found = ap (under_tickets old) t.found ∙ map-append (under_ticket old) t.before (b ∷ t.after)
              ∙ ap (λ (n : ℕ). let c : Blocked T = record { ticket = n; message = message } in
              under_tickets old t.before ++ c ∷ under_tickets old t.after)
              (ap (ticket_at old) name ∙ ticket_by old o _ is);
          first = others_under old ticket o t.before only ahead parts.ahead;
          becomes = λ i. record {
            queued = t.same i;
            blocked = (ap (under_tickets new) t.rest ∙ names) i;
            space = t.same_space i;
            sends =
                becomes i;
          };
        };
      }
