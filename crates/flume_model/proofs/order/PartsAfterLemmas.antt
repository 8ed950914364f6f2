-- Each change that fits leaves the parts of the kept offers so.
use Rattle.flume_model.proofs.Common.{◌≡◌, ℕ, ◌≤◌, Bool, true, false, List, [], ◌∷◌, ◌++◌, length, drop, take, map, Option, Some, None}
use Rattle.flume_model.proofs.Common.{refl, sym, ◌∙◌, ap, arith, take-nil, cond-true, append_assoc, append-nil, take-append-drop}
use Rattle.flume_model.proofs.Common.{length_push, all_zipped_more, AllZip, IsFront, channel, is_over, leave_fills, line, queue_len, queue}
use Rattle.flume_model.proofs.Common.{messages, next_ticket, fill_count, Log, Opening, Offer, HandOut, Shown, FilledIn, Change, Queues}
use Rattle.flume_model.proofs.Common.{Blocks, Withdraws, Takes, Drains, Leaves, fill, kept, handed_out, entries, common_steps}
use Rattle.flume_model.proofs.LawfulReplyLemmas.{Fits}
use Rattle.flume_model.proofs.order.KeptLemmas.{kept_by, handed_by, open_line, not_withdrawn, kept_more, kept_less, kept_same}
use Rattle.flume_model.proofs.order.PartLemmas.{ShownIs, Parts, Shape, at_most, front_at, open_at, line_is_rest, withdrawn_at, leave_within}

module _ {T : Type 0} where
  -- one more offer is among the rest
  offer_more : (all : List (Offer T)) (given : List (HandOut T)) (x : Offer T) → Parts all given → Parts (all ++ x ∷ []) given
  offer_more all given x parts = record {
    gone = parts.gone;
    rest = parts.rest ++ x ∷ [];
    kept_are = rw parts.kept_are (append_assoc parts.gone parts.rest _);
    given_are = parts.given_are;
  }

  -- the rest begins with this offer, and a hand-out fits it
  hand_more : (all : List (Offer T)) (given : List (HandOut T)) (hand_out : HandOut T) (gone rest : List (Offer T)) (x : Offer T)
      → all ≡ gone ++ x ∷ rest → AllZip (λ hand_out offer. ShownIs hand_out offer.message) given gone
      → ShownIs hand_out x.message → Parts all (given ++ hand_out ∷ [])
  hand_more all given hand_out gone rest x e zip of = record {
    gone = gone ++ x ∷ [];
    rest = rest;
    kept_are = e ∙ sym (append_assoc gone (x ∷ []) rest);
    given_are = all_zipped_more _ given gone hand_out x zip of;
  }

  -- if a receiver is filled, the rest isn't empty, and its first offer goes
  fill_more : (all : List (Offer T)) (given : List (HandOut T)) (filled : Option ℕ) (gone rest : List (Offer T)) → all ≡ gone ++ rest
      → AllZip (λ hand_out offer. ShownIs hand_out offer.message) given gone → fill_count filled ≤ length rest
      → Parts all (given ++ fill filled)
  fill_more all given None gone rest e zip long =
      rw (append-nil given) (record { gone = gone; rest = rest; kept_are = e; given_are = zip })
  fill_more all given (Some u) gone [] e zip long = absurd (omega arith)
  fill_more all given (Some u) gone (x ∷ rest) e zip long = hand_more all given (FilledIn u) gone rest x e zip tt

  -- the messages of some offers are theirs
  shown_are : (some : List (Offer T)) → AllZip (λ hand_out offer. ShownIs hand_out offer.message) (map (λ m. Shown m) (messages some)) some
  shown_are [] = tt
  shown_are (x ∷ some) = (refl, shown_are some)

  -- two pairs of lists that match, one behind the other
  zip_both : (given more : List (HandOut T)) (gone next : List (Offer T))
      → AllZip (λ hand_out offer. ShownIs hand_out offer.message) given gone
      → AllZip (λ hand_out offer. ShownIs hand_out offer.message) more next
      → AllZip (λ hand_out offer. ShownIs hand_out offer.message) (given ++ more) (gone ++ next)
  zip_both [] more [] next a b = b
  zip_both [] more (x ∷ gone) next a b = absurd a
  zip_both (h ∷ given) more [] next a b = absurd a
  zip_both (h ∷ given) more (x ∷ gone) next a b = (a.0, zip_both given more gone next a.1 b)

  -- the offers in front of the rest are handed out
  drain_more : (all : List (Offer T)) (given : List (HandOut T)) (list : List T) (gone front rest : List (Offer T))
      → all ≡ gone ++ (front ++ rest) → AllZip (λ hand_out offer. ShownIs hand_out offer.message) given gone
      → list ≡ messages front → Parts all (given ++ map (λ m. Shown m) list)
  drain_more all given list gone front rest e zip is = record {
    gone = gone ++ front;
    rest = rest;
    kept_are = e ∙ sym (append_assoc gone front rest);
    given_are = rw is (zip_both given (map (λ m. Shown m) (messages front)) gone front zip (shown_are front));
  }

module _ {T A : Type 0} where
  -- the rest is at least as long as the line
  line_within : (past : Log T A) (parts : Parts (kept past) (handed_out past)) → length (line past) ≤ length parts.rest
  line_within past parts = grind (arith, common_steps, line_is_rest past parts, cond-true)

  -- what is queued is in front of the rest
  queued_at : (o : Opening) (past : Log T A) (parts : Parts (kept past) (handed_out past))
      → (front : List (Offer T)) × (later : List (Offer T)) × (parts.rest ≡ front ++ later) × (queue o past ≡ messages front)
  queued_at o past parts = by_case (is_over past) refl
    where
      by_case : (b : Bool) → is_over past ≡ b
          → (front : List (Offer T)) × (later : List (Offer T)) × (parts.rest ≡ front ++ later) × (queue o past ≡ messages front)
      by_case true over =
          let none : line past ≡ [] = cond-true (is_over past) [] (open_line past) over in (
            [],
            parts.rest,
            refl,
            ap (λ l. messages (take (queue_len o past) l)) none ∙ ap messages (take-nil (queue_len o past)),
          )
      by_case false open_ = (
        take (queue_len o past) (line past),
        drop (queue_len o past) (line past),
        sym (line_is_rest past parts open_) ∙ sym (take-append-drop (queue_len o past) (line past)),
        refl,
      )

  -- the front of the line is handed out
  taken : (o : Opening) (past : Log T A) (m : T) (shape : Shape o past) → IsFront (channel o past) m
      → Parts (kept past) (handed_out past ++ Shown m ∷ [])
  taken o past m shape h =
      let front = front_at (line past) m h.0 h.1 in
      let open_ = open_at past [] front.1 front.0 front.2 in
      let rest : shape.parts.rest ≡ front.0 ∷ front.1 = sym (line_is_rest past shape.parts open_) ∙ front.2 in
      hand_more (kept past) (handed_out past) (Shown m) shape.parts.gone front.1 front.0
      (shape.parts.kept_are ∙ ap (λ l. shape.parts.gone ++ l) rest) shape.parts.given_are (sym front.3)

  -- the parts after a change that fits
  pub parts_after : (o : Opening) (past : Log T A) (done : Change T) → Shape o past → Fits (channel o past) done
      → Parts (kept_by past done) (handed_by past done)
  parts_after o past (Queues m filled) shape h =
      let x : Offer T = record { message = m; ticket = None } in
      let all = ap (λ l. l ++ x ∷ []) shape.parts.kept_are ∙ append_assoc shape.parts.gone shape.parts.rest (x ∷ []) in
      rw (kept_more past x (not_withdrawn past m))
      (fill_more (kept past ++ x ∷ []) (handed_out past) filled shape.parts.gone (shape.parts.rest ++ x ∷ []) all
      shape.parts.given_are (omega (arith, at_most filled, length_push shape.parts.rest x)))
  parts_after o past (Blocks m t) shape h =
      rw (append-nil (handed_out past), kept_more past (record { message = m; ticket = Some t }) (shape.unissued t m (omega arith)))
      (offer_more (kept past) (handed_out past) _ shape.parts)
  parts_after o past (Withdraws t) shape h =
      let at = withdrawn_at o past t h.0 shape h.1 in
      let rest = shape.parts.gone ++ at.front in
      let all : kept past ≡ rest ++ record { message = h.0; ticket = Some t } ∷ at.later =
      shape.parts.kept_are ∙ ap (λ l. shape.parts.gone ++ l) at.rest_are ∙ sym (append_assoc shape.parts.gone at.front _) in
      rw (append-nil (handed_out past)) (record {
        gone = shape.parts.gone;
        rest = at.front ++ at.later;
        kept_are = kept_less past (next_ticket o past) t h.0 rest at.later shape.rising all
            ∙ append_assoc shape.parts.gone at.front at.later;
        given_are = shape.parts.given_are;
      })
  parts_after o past (Takes m None) shape h = rw (kept_same past) (taken o past m shape h)
  parts_after o past (Takes m (Some t)) shape h = rw (kept_same past) (taken o past m shape h.0)
  parts_after o past (Drains list) shape h =
      let at = queued_at o past shape.parts in
      rw (kept_same past) (drain_more (kept past) (handed_out past) list shape.parts.gone at.0 at.1
      (shape.parts.kept_are ∙ ap (λ l. shape.parts.gone ++ l) at.2) shape.parts.given_are (h ∙ at.3))
  parts_after o past (Leaves t filled) shape h =
      let many : fill_count filled ≡ fill_count (leave_fills t (queue o past) (entries o past)) = ap fill_count h.1 in
      rw (kept_same past) (fill_more (kept past) (handed_out past) filled shape.parts.gone shape.parts.rest
      shape.parts.kept_are shape.parts.given_are (omega (arith, many, leave_within o past t, line_within past shape.parts)))
  parts_after o past _ shape h = rw (append-nil (handed_out past), kept_same past) shape.parts
