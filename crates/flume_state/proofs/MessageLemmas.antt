-- The messages of a chain under its methods.
use Rattle.std.proofs.Common.{◌≡◌, ℕ, suc, ◌-◌, List, [], ◌∷◌, ◌++◌, length, Option, Some, None, Result, Ok}
use Rattle.std.proofs.Common.{Err, refl, sym, ap, ◌∙◌, arith, length-append, OnErr, append-nil}
use Rattle.flume_chain.specs.ChainState.{ChainItem}
use Rattle.flume_state.specs.layout.MessageLayout.{Message, BlockedAt, MessageList, queued_ahead}
use Rattle.flume_state.specs.layout.MessageLayout.{blocked_ahead, queued_of, blocked_of, messages_of}
use Rattle.flume_state.specs.layout.MessageLayout.{MessageLayout}

module _ {T : Type 0} where
  -- if none is queued, the first isn't, and it has an owner
  pub unqueued : (o : Option ℕ) (m : T) (ms : List T) → queued_ahead o m ms ≡ [] → (t : ℕ) × (o ≡ Some t) × (ms ≡ [])
  unqueued None m ms h = absurd cc
  unqueued (Some t) m ms h = (t, refl, h)

  -- two rows of queued messages are joined
  queued_ahead_append : (o : Option ℕ) (m : T) (ls ms ns : List T) → ls ≡ ms ++ ns → queued_ahead o m ls ≡ queued_ahead o m ms ++ ns
  queued_ahead_append None m ls ms ns h = ap (λ (l : List T). m ∷ l) h
  queued_ahead_append (Some t) m ls ms ns h = h

  pub queued_append : (xs ys : List (ChainItem (Message T))) → queued_of (xs ++ ys) ≡ queued_of xs ++ queued_of ys
  queued_append [] ys = refl
  queued_append (x ∷ xs) ys = queued_ahead_append x.element.label x.element.value _ _ _ (queued_append xs ys)

  -- two rows of blocked messages are joined
  blocked_ahead_append : (k : ℕ) (o : Option ℕ) (m : T) (ls ms ns : List (BlockedAt T)) → ls ≡ ms ++ ns
      → blocked_ahead k o m ls ≡ blocked_ahead k o m ms ++ ns
  blocked_ahead_append k None m ls ms ns h = h
  blocked_ahead_append k (Some t) m ls ms ns h = ap (λ (l : List (BlockedAt T)). record { place = k; send_place = t; message = m } ∷ l) h

  pub blocked_append : (xs ys : List (ChainItem (Message T))) → blocked_of (xs ++ ys) ≡ blocked_of xs ++ blocked_of ys
  blocked_append [] ys = refl
  blocked_append (x ∷ xs) ys = blocked_ahead_append x.place x.element.label x.element.value _ _ _ (blocked_append xs ys)

  -- if none is blocked, the first isn't, and it is queued
  pub unblocked : (k : ℕ) (o : Option ℕ) (m : T) (ms : List T) (bs : List (BlockedAt T)) → blocked_ahead k o m bs ≡ []
      → (o ≡ None) × (bs ≡ []) × (queued_ahead o m ms ≡ m ∷ ms)
  unblocked k None m ms bs h = (refl, h, refl)
  unblocked k (Some t) m ms bs h = absurd cc

  -- if none is blocked, all are queued
  queued_count : (xs : List (ChainItem (Message T))) → blocked_of xs ≡ [] → length (queued_of xs) ≡ length xs
  queued_count [] h = refl
  queued_count (x ∷ xs) h =
      let first = unblocked x.place x.element.label x.element.value (queued_of xs) (blocked_of xs) h in
      ap length first.2 ∙ ap suc (queued_count xs first.1)

  -- if none is queued, all are blocked
  blocked_count : (xs : List (ChainItem (Message T))) → queued_of xs ≡ [] → length (blocked_of xs) ≡ length xs
  blocked_count [] h = refl
  blocked_count (x ∷ xs) h =
      let own = unqueued x.element.label x.element.value (queued_of xs) h in
      ap (λ o. length (blocked_ahead x.place o x.element.value (blocked_of xs))) own.1 ∙ ap suc (blocked_count xs own.2)

  -- what of two rows joined isn't queued isn't in either of them
  pub none_queued_append : (xs ys : List (ChainItem (Message T))) → queued_of (xs ++ ys) ≡ [] → (queued_of xs ≡ []) × (queued_of ys ≡ [])
  none_queued_append [] ys h = (refl, h)
  none_queued_append (x ∷ xs) ys h =
      let both : queued_ahead x.element.label x.element.value (queued_of xs) ++ queued_of ys ≡ [] = sym (queued_append (x ∷ xs) ys) ∙ h in
      nothing _ _ both
    where
      nothing : (ls ms : List T) → ls ++ ms ≡ [] → (ls ≡ []) × (ms ≡ [])
      nothing [] ms h = (refl, h)
      nothing (l ∷ ls) ms h = absurd cc

  -- the messages of queued elements and of blocked ones behind them
  messages_joined : (xs ys : List (ChainItem (Message T))) (space : ℕ) → blocked_of xs ≡ [] → queued_of ys ≡ []
      → messages_of (xs ++ ys) space ≡ record { queued = queued_of xs; blocked = blocked_of ys; space = space }
  messages_joined xs ys space none_blocked none_queued =
      let queued : queued_of (xs ++ ys) ≡ queued_of xs = queued_append xs ys ∙ ap (λ l. queued_of xs ++ l) none_queued
      ∙ append-nil (queued_of xs) in
      let blocked : blocked_of (xs ++ ys) ≡ blocked_of ys = blocked_append xs ys ∙ ap (λ l. l ++ blocked_of ys) none_blocked in
      λ i. record { queued = queued i; blocked = blocked i; space = space }

  -- the messages of elements that are laid out
  pub laid : (items : List (ChainItem (Message T))) (first : Option ℕ) (count space : ℕ) (w : MessageLayout items first count)
      → messages_of items space ≡ record { queued = queued_of w.front; blocked = blocked_of w.back; space = space }
  laid items first count space w = ap (λ l. messages_of l space) w.is ∙ messages_joined w.front w.back space w.none_blocked w.none_queued

  -- how many are queued, and how many blocked
  pub counts : (items : List (ChainItem (Message T))) (first : Option ℕ) (count space : ℕ) (list : MessageList T)
      → MessageLayout items first count
      → messages_of items space ≡ list → (length items - count ≡ length list.queued) × (count ≡ length list.blocked)
  counts items first count space list w view =
      let is = sym (laid items first count space w) ∙ view in
      let queued = sym (queued_count w.front w.none_blocked) ∙ ap (λ (m : MessageList T). length m.queued) is in
      let blocked = sym (blocked_count w.back w.none_queued) ∙ ap (λ (m : MessageList T). length m.blocked) is in
      let all = ap length w.is ∙ length-append w.front w.back in
      let known = w.counted in
      (omega arith, omega arith)

-- what holds anyway holds on an error
pub on_err : {X E : Type 0} (r : Result X E) (P : Type 0) → P → OnErr r P
on_err (Ok x) P holds = tt
on_err (Err e) P holds = holds

-- messages of which none is queued
pub none_left : {T : Type 0} (first list new : MessageList T) → new ≡ list → list.queued ≡ [] → list.blocked ≡ first.blocked
    → list.space ≡ first.space
    → new ≡ record first { queued = [] }
none_left {T} first list new same none blocked space =
    same ∙ (λ i. record { queued = none i; blocked = blocked i; space = space i })
